-- What a box meets and what overlaps, as inequalities with no `min` and no `max`, so that `omega` need not split: for two places whose
-- order on both axes is known, for two macros that are upright, and for a place and a macro.
-- Assumes nothing.
use mathlib.Core.Path.{◌≡◌, sym}
use mathlib.Core.Bool.{true}
use mathlib.Core.List.{List}
use lib.IntN.{ℤ}
use lib.Signed.{lt_z}
use Rattle.lists.specs.Member.{◌∈◌}
use Rattle.lists.proofs.TestLaws.{by, and_left, and_right, and_both}
use Rattle.lists.proofs.AnyLaws.{none_any}
use Rattle.signed.specs.Sides.{Lt, Le}
use Rattle.signed.specs.Order.{z_min, z_max}
use Rattle.signed.proofs.SideLaws.{z_lt-true, lt-z_lt, signed}
use Rattle.signed.proofs.OrderLaws.{min-sides, max-sides}
use Rattle.plane.specs.declared.Place.{Place}
use Rattle.plane.specs.declared.Macro.{Macro}
use Rattle.plane.specs.Macro.{inside, span_meets, meets, open_spans_meet, interiors_meet, clear}
use Rattle.plane.proofs.MacroLaws.{clear-is}

-- A box and a macro

-- the box from (x0, y0) up to (x1, y1) meets m's interior
pub record Hits (x0 y0 x1 y1 : ℤ) (m : Macro) : Type 0 where
  pub right : Lt x0 m.right
  pub left : Lt m.left x1
  pub top : Lt y0 m.top
  pub bottom : Lt m.bottom y1

span-parts : (a b from to : ℤ) → span_meets a b from to ≡ true → Lt (z_min a b) to × Lt from (z_max a b)
unfolding span_meets
span-parts a b from to h =
    (z_lt-true _ _ (and_left _ (lt_z from (z_max a b)) h), z_lt-true _ _ (and_right (lt_z (z_min a b) to) _ h))

span-up : (a b from to : ℤ) → Le a b → span_meets a b from to ≡ true → Lt a to × Lt from b
span-up a b from to l h =
    let p = span-parts a b from to h in
    (omega (signed, p.0, min-sides a b), omega (signed, p.1, max-sides a b))

span-down : (a b from to : ℤ) → Le b a → span_meets a b from to ≡ true → Lt b to × Lt from a
span-down a b from to l h =
    let p = span-parts a b from to h in
    (omega (signed, p.0, min-sides a b), omega (signed, p.1, max-sides a b))

span_of : (a b from to : ℤ) → Le a b → Lt a to → Lt from b → span_meets a b from to ≡ true
unfolding span_meets
span_of a b from to l h k =
    and_both _ _ (lt-z_lt (z_min a b) to (omega (signed, min-sides a b))) (lt-z_lt from (z_max a b) (omega (signed, max-sides a b)))

-- v to the right of u or at its x
module _ (u v : Place) (m : Macro) (across : Le u.x v.x) where
  meets-across : meets u v m ≡ true → Lt u.x m.right × Lt m.left v.x
  unfolding meets
  meets-across h = span-up _ _ _ _ across (and_left _ (span_meets u.y v.y m.bottom m.top) h)

  meets-along : meets u v m ≡ true → span_meets u.y v.y m.bottom m.top ≡ true
  unfolding meets
  meets-along h = and_right (span_meets u.x v.x m.left m.right) _ h

  -- and above it, or below it
  pub hits-up : Le u.y v.y → meets u v m ≡ true → Hits u.x u.y v.x v.y m
  hits-up along h =
      let p = meets-across h in
      let q = span-up _ _ _ _ along (meets-along h) in
      record { right = p.0; left = p.1; top = q.0; bottom = q.1 }

  pub hits-down : Le v.y u.y → meets u v m ≡ true → Hits u.x v.y v.x u.y m
  hits-down along h =
      let p = meets-across h in
      let q = span-down _ _ _ _ along (meets-along h) in
      record { right = p.0; left = p.1; top = q.0; bottom = q.1 }

  pub hits-meets : Le u.y v.y → Hits u.x u.y v.x v.y m → meets u v m ≡ true
  unfolding meets
  hits-meets along h = and_both _ _ (span_of _ _ _ _ across h.right h.left) (span_of _ _ _ _ along h.top h.bottom)

-- clear of each other: no macro meets the box
pub clear_of : (u v : Place) (ms : List Macro) → ((m : Macro) → m ∈ ms → meets u v m ≡ true → ⊥) → clear u v ms ≡ true
clear_of u v ms h =
    sym (clear-is u v ms (none_any (meets u v) ms (λ m i. by (meets u v m) (λ e. absurd (h m i e)) (λ e. e))))

-- Two macros

-- four of the eight inequalities; the others are the macros' own
pub record Overlap (m n : Macro) : Type 0 where
  pub left : Lt m.left n.right
  pub right : Lt n.left m.right
  pub bottom : Lt m.bottom n.top
  pub top : Lt n.bottom m.top

spans-overlap : (a b c d : ℤ) → Lt a b → Lt c d → Lt a d → Lt c b → open_spans_meet a b c d ≡ true
unfolding open_spans_meet
spans-overlap a b c d g h i j = lt-z_lt (z_max a c) (z_min b d) (omega (signed, max-sides a c, min-sides b d))

pub overlap-meets : (m n : Macro)
    → Lt m.left m.right → Lt m.bottom m.top → Lt n.left n.right → Lt n.bottom n.top
    → Overlap m n → interiors_meet m n ≡ true
unfolding interiors_meet
overlap-meets m n mx my nx ny o =
    and_both _ _ (spans-overlap _ _ _ _ mx nx o.left o.right) (spans-overlap _ _ _ _ my ny o.bottom o.top)

-- A place and a macro

-- p in the interior of m
pub record InInterior (p : Place) (m : Macro) : Type 0 where
  pub left : Lt m.left p.x
  pub right : Lt p.x m.right
  pub bottom : Lt m.bottom p.y
  pub top : Lt p.y m.top

pub interior-inside : (p : Place) (m : Macro) → InInterior p m → inside p m ≡ true
unfolding inside
interior-inside p m h =
    and_both _ _
    (and_both _ _ (lt-z_lt _ _ h.left) (lt-z_lt _ _ h.right))
    (and_both _ _ (lt-z_lt _ _ h.bottom) (lt-z_lt _ _ h.top))
