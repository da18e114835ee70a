-- A move on tables: a bar's points are those with its label.
use Rattle.std.specs.Prelude.{◌≡◌, Bool, true, false, List, ℕ, ◌+◌, ◌*◌, ◌^◌, ◌<◌, eqb, ℤ, get_or}
use Rattle.std.proofs.lemmas.List.Edits.{sets}
use Rattle.std.specs.Int.{w32}
use Rattle.std.proofs.Common.{SFits}
use Rattle.lists.specs.Those.{those}
use Rattle.plane.specs.declared.Place.{Place}
use Rattle.plane.specs.Flat.{place_at}
use Rattle.graph.specs.Numbers.{edge_numbers}
use Rattle.slide.specs.declared.Side.{Side}
use Rattle.slide.specs.Side.{moved}
use Rattle.slide.specs.Bend.{Edge}
use Rattle.slide.specs.Slide.{proper}
use Rattle.straight.specs.Table.{first_end, second_end, run}
use Rattle.shifted.specs.declared.Shift.{Shift}

-- point i is one of the bar's
abbrev pub on_label : Shift → List ℕ → ℕ → Bool
on_label m lab i = eqb (get_or lab i 0) m.label

-- M13: a place that moves or stays
unfoldable pub placed : Shift → Bool → Place → Place
placed m t p = elim t [ true ↦ moved m.side m.distance p | false ↦ p ]

-- point i, the edge of a key and the first e edges after the move
abbrev pub shifted_at : Shift → List ℤ → List ℕ → ℕ → Place
shifted_at m pts lab i = placed m (on_label m lab i) (place_at pts i)

abbrev pub shifted_edge : Shift → List ℤ → List ℕ → ℕ → Edge
shifted_edge m pts lab k = (shifted_at m pts lab (first_end k), shifted_at m pts lab (second_end k))

abbrev pub shifted : Shift → List ℤ → List ℕ → List ℕ → ℕ → List Edge
shifted m pts lab ks e = those proper (run (λ i. shifted_edge m pts lab (get_or ks i 0)) 0 e)

-- x as the next of a list of edges, if so
abbrev pub PutIf : Bool → Edge → List ℤ → ℕ → List ℤ → ℕ → Type 0
PutIf true x out count new r = (new ≡ sets out (count * 4) (edge_numbers x)) × (r ≡ count + 1)
PutIf false x out count new r = (new ≡ out) × (r ≡ count)

-- a place moved has coordinates of 32 bits
pub record MoveFits (s : Side) (d : ℕ) (p : Place) : Type 0 where
  pub small : d < 2 ^ 31
  pub x : SFits w32 (moved s d p).x
  pub y : SFits w32 (moved s d p).y

-- point i has, if it moves; every point of a table has
pub record Fitting (m : Shift) (pts : List ℤ) (lab : List ℕ) (i : ℕ) : Type 0 where
  pub fits : on_label m lab i ≡ true → MoveFits m.side m.distance (place_at pts i)

pub record Movable (m : Shift) (pts : List ℤ) (n : ℕ) (lab : List ℕ) : Type 0 where
  pub each : (i : ℕ) → i < n → Fitting m pts lab i
