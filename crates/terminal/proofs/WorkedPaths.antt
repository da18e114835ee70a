-- The kept paths and the totals of the worked nets E1, E3 to E6 and E8, by computing the definitions.
-- Assumes nothing.
use mathlib.Core.Path.{◌≡◌, refl}
use mathlib.Core.List.{List, [], ◌∷◌}
use Prim.Native.Nat.{ℕ}
use lib.IntN.{ℤ, pos, negsuc}
use Rattle.lists.specs.Sorted.{position}
use Rattle.lent.specs.Over.{over}
use Rattle.plane.specs.declared.Place.{Place}
use Rattle.plane.specs.Place.{place}
use Rattle.plane.specs.Cost.{plain}
use Rattle.net.specs.Net.{net_with}
use Rattle.net.specs.WorkedNets.{Lists, one_pin, around_one, three_pins, shared_side, on_sides, on_boundary}
use Rattle.graph.proofs.WorkedGraphs.{graph_of as worked}
use Rattle.keeping.proofs.WorkedTrees.{tree}
use Rattle.terminal.specs.Number.{numbered, pin_numbers}
use Rattle.terminal.specs.Tree.{tree_of, total_of, paths_of}

pub record Paths : Type 0 where
  pub paths : List ((Place × Place) × ℕ)
  pub total : ℕ

-- the paths of a net and their total; to unfold this is to unfold all that it rests on
unfoldable pub tree_in : Lists → Paths
unfolding worked tree position over numbered pin_numbers tree_of paths_of
tree_in lists = record {
  paths = paths_of (net_with plain lists.pins lists.macros);
  total = total_of (net_with plain lists.pins lists.macros);
}

-- a path by its bridge's four numbers and its length
abbrev over-bridge : ℤ → ℤ → ℤ → ℤ → ℕ → (Place × Place) × ℕ
over-bridge a b c d n = ((place a b, place c d), n)

pub record Table : Type 0 where
  -- E1: no path, total 0
  pub one-pin : tree_in one_pin ≡ record { paths = []; total = 0 }
  -- E3: one path, of length 14, below the macro
  pub around-one : tree_in around_one ≡ record { paths = over-bridge (pos 4) (negsuc 1) (pos 6) (negsuc 1) 14 ∷ []; total = 14 }
  -- E4: total 9
  pub three-pins :
      tree_in three_pins
      ≡ record { paths = over-bridge (pos 0) (pos 0) (pos 4) (pos 0) 4 ∷ over-bridge (pos 0) (pos 0) (pos 2) (pos 3) 5 ∷ []; total = 9 }
  -- E5: total 4, along the shared side
  pub shared-side : tree_in shared_side ≡ record { paths = over-bridge (pos 2) (pos 0) (pos 2) (pos 2) 4 ∷ []; total = 4 }
  -- E6: one path, of length 3, below the macro
  pub on-sides : tree_in on_sides ≡ record { paths = over-bridge (pos 0) (pos 0) (pos 1) (pos 0) 3 ∷ []; total = 3 }
  -- E8: allowed, with one pin and so no path
  pub on-boundary : tree_in on_boundary ≡ record { paths = []; total = 0 }

pub worked-net-paths : Table
unfolding tree_in
worked-net-paths = record {
  one-pin = refl;
  around-one = refl;
  three-pins = refl;
  shared-side = refl;
  on-sides = refl;
  on-boundary = refl;
}
