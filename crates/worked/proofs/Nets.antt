-- S10: the worked nets E1 to E11, together, and E19 and E20, with weights, as one table of the definitions: what every operation answers,
-- and what it gives.
-- Assumes nothing.
use mathlib.Core.Path.{◌≡◌, refl}
use mathlib.Core.List.{[], ◌∷◌, ◌++◌, map}
use Prim.Native.Nat.{ℕ}
use lib.IntN.{ℤ, pos, negsuc}
use Rattle.lent.specs.Told.{refused, given}
use Rattle.plane.specs.declared.Place.{Place}
use Rattle.plane.specs.Place.{place}
use Rattle.plane.specs.Distance.{distance}
use Rattle.joined.specs.Cost.{lengths}
use Rattle.net.specs.WorkedNets.{Lists, one_pin, no_pin, around_one, three_pins, shared_side, on_sides, overlapping, on_boundary, in_interior}
use Rattle.net.specs.WorkedNets.{twice_in_interior, no_width, four_pins, pin, block}
use Rattle.net.specs.Net.{weighing, plainly}
use Rattle.net.specs.Counts.{counted}
use Rattle.answers.proofs.Answered.{Answers, answers_by, Trees, trees_by}

abbrev answers : Lists → Answers
answers = answers_by plainly

abbrev trees : Lists → Trees
trees = trees_by plainly

-- every operation refuses with the same number
abbrev none : ℕ → Answers
none n = record { check = refused n; graph = refused n; terminal = refused n; refined = refused n; wires = refused n }

abbrev edge : ℤ → ℤ → ℤ → ℤ → Place × Place
edge a b c d = (place a b, place c d)

-- E25: a macro between the pins, whose corners on the far side no path uses
abbrev corner_beside : Lists
corner_beside = record {
  pins = pin (pos 4) (pos 0) ++ (pin (pos 4) (pos 7) ++ pin (pos 8) (pos 4));
  macros = block (pos 4) (pos 0) (pos 5) (pos 8);
}

pub record Table : Type 0 where
  -- E1: no edges, both totals 0; E2: refused 11
  pub one-pin : answers one_pin ≡ record {
    check = given (counted plainly 1 0);
    graph = given (1, 0);
    terminal = given (0, pos 0);
    refined = given (0, (pos 0, pos 0));
    wires = given 0;
  }
  pub no-pin : answers no_pin ≡ none 11
  -- E3: eight graph edges; one path, of length 14, below the macro; refined 14
  pub around-one : answers around_one ≡ record {
    check = given (counted plainly 2 1);
    graph = given (6, 8);
    terminal = given (1, pos 14);
    refined = given (3, (pos 14, pos 14));
    wires = given 5;
  }
  pub around-one-path : (trees around_one).paths ≡ (edge (pos 4) (negsuc 1) (pos 6) (negsuc 1), 14) ∷ []
  -- E4: terminal 9, refined 7
  pub three-pins : answers three_pins ≡ record {
    check = given (counted plainly 3 0);
    graph = given (3, 3);
    terminal = given (2, pos 9);
    refined = given (3, (pos 7, pos 7));
    wires = given 3;
  }
  pub three-pins-trees : trees three_pins ≡ record {
    paths = (edge (pos 0) (pos 0) (pos 4) (pos 0), 4) ∷ (edge (pos 0) (pos 0) (pos 2) (pos 3), 5) ∷ [];
    edges = edge (pos 0) (pos 0) (pos 2) (pos 0) ∷ edge (pos 2) (pos 0) (pos 2) (pos 3) ∷ edge (pos 2) (pos 0) (pos 4) (pos 0) ∷ [];
    wires = edge (pos 0) (pos 0) (pos 2) (pos 0) ∷ edge (pos 2) (pos 0) (pos 2) (pos 3) ∷ edge (pos 2) (pos 0) (pos 4) (pos 0) ∷ [];
  }
  -- E5: allowed; both totals 4, along the shared side
  pub shared-side : answers shared_side ≡ record {
    check = given (counted plainly 2 2);
    graph = given (8, 13);
    terminal = given (1, pos 4);
    refined = given (3, (pos 4, pos 4));
    wires = given 3;
  }
  -- E6: one path, below the macro; both totals 3
  pub on-sides : answers on_sides ≡ record {
    check = given (counted plainly 2 1);
    graph = given (6, 6);
    terminal = given (1, pos 3);
    refined = given (3, (pos 3, pos 3));
    wires = given 3;
  }
  pub on-sides-path : (trees on_sides).paths ≡ (edge (pos 0) (pos 0) (pos 1) (pos 0), 3) ∷ []
  -- E7: refused 16
  pub overlap : answers overlapping ≡ none 16
  -- E8: allowed; E9: refused 17; E10: refused 15
  pub on-boundary : (answers on_boundary).check ≡ given (counted plainly 1 1)
  pub in-interior : answers in_interior ≡ none 17
  pub twice : answers twice_in_interior ≡ none 15
  -- E11: refused 14
  pub no-width : answers no_width ≡ none 14
  -- E19: weights 1 and 3: terminal 12, refined 11, metal 7; each kept path is its bridge, and their plain length is 6
  pub weighted : answers_by (weighing (pos 1) (pos 3)) four_pins ≡ record {
    check = given (counted (weighing (pos 1) (pos 3)) 4 0);
    graph = given (4, 5);
    terminal = given (3, pos 12);
    refined = given (4, (pos 11, pos 7));
    wires = given 4;
  }
  pub weighted-paths : (trees_by (weighing (pos 1) (pos 3)) four_pins).paths
      ≡ (edge (pos 0) (pos 0) (pos 2) (pos 0), 2) ∷ (edge (pos 2) (pos 0) (pos 3) (pos 1), 4)
      ∷ (edge (pos 0) (pos 0) (pos 0) (pos 2), 6) ∷ []
  pub plain-length : lengths distance (map (λ k. k.0) (trees_by (weighing (pos 1) (pos 3)) four_pins).paths) ≡ 6
  -- E20: 16 and 17 before 18, and 18 of every operation
  pub overlap-first : answers_by (weighing (pos 9) (pos 9)) overlapping ≡ none 16
  pub inside-first : answers_by (weighing (pos 9) (pos 9)) in_interior ≡ none 17
  pub no-weight : answers_by (weighing (pos 0) (pos 1)) three_pins ≡ none 18
  pub below-weight : answers_by (weighing (negsuc 0) (pos 1)) three_pins ≡ none 18
  pub much-weight : answers_by (weighing (pos 1) (pos 9)) three_pins ≡ none 18
  -- E25: by a corner beside the tree; on the tree alone it would be 15
  pub corner-beside : (answers corner_beside).refined ≡ given (6, (pos 14, pos 14))
  pub corner-edges : (trees corner_beside).edges
      ≡ edge (pos 4) (pos 0) (pos 5) (pos 0) ∷ edge (pos 4) (pos 7) (pos 4) (pos 8) ∷ edge (pos 4) (pos 8) (pos 5) (pos 8)
      ∷ edge (pos 5) (pos 0) (pos 5) (pos 4) ∷ edge (pos 5) (pos 4) (pos 5) (pos 8) ∷ edge (pos 5) (pos 4) (pos 8) (pos 4) ∷ []

pub worked-nets : Table
unfolding trees_by
worked-nets = record {
  one-pin = refl;
  no-pin = refl;
  around-one = refl;
  around-one-path = refl;
  three-pins = refl;
  three-pins-trees = refl;
  shared-side = refl;
  on-sides = refl;
  on-sides-path = refl;
  overlap = refl;
  on-boundary = refl;
  in-interior = refl;
  twice = refl;
  no-width = refl;
  weighted = refl;
  weighted-paths = refl;
  plain-length = refl;
  overlap-first = refl;
  inside-first = refl;
  no-weight = refl;
  below-weight = refl;
  much-weight = refl;
  corner-beside = refl;
  corner-edges = refl;
}
