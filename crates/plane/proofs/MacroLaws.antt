-- Interiors and boxes: a place is in an interior exactly when the box of the place and itself meets it; nothing depends on which place,
-- macro or entry is named first.
-- Assumes nothing.
use mathlib.Core.Path.{◌≡◌, sym, ap, ap₂, ◌∙◌}
use mathlib.Core.Bool.{Bool, not, ◌&&◌, and_comm, not-not}
use mathlib.Core.List.{List, Perm}
use lib.IntN.{ℤ}
use lib.Signed.{lt_z}
use Rattle.lists.specs.Any.{any}
use Rattle.lists.proofs.AnyLaws.{any-agree}
use Rattle.lists.proofs.AnyOrder.{any-perm}
use Rattle.signed.proofs.OrderLaws.{min_self, max_self, min_comm, max_comm}
use Rattle.plane.specs.declared.Place.{Place}
use Rattle.plane.specs.declared.Macro.{Macro}
use Rattle.plane.specs.Macro.{inside, span_meets, meets, open_spans_meet, interiors_meet, clear}

-- `clear` by the value of the search that it negates
pub clear-is : (a b : Place) (ms : List Macro) {t : Bool} → any (meets a b) ms ≡ t → not t ≡ clear a b ms
unfolding clear
clear-is a b ms e = sym (ap not e)

span-of-one : (a from to : ℤ) → span_meets a a from to ≡ (lt_z from a && lt_z a to)
unfolding span_meets
span-of-one a from to = rw (min_self a, max_self a) (and_comm (lt_z a to) (lt_z from a))

pub inside-meets : (p : Place) (m : Macro) → meets p p m ≡ inside p m
unfolding meets inside
inside-meets p m =
    ap₂ ◌&&◌ (span-of-one p.x m.left m.right) (span-of-one p.y m.bottom m.top)

pub clear-of-itself : (p : Place) (ms : List Macro) → not (clear p p ms) ≡ any (inside p) ms
unfolding clear
clear-of-itself p ms = not-not (any (meets p p) ms) ∙ any-agree (meets p p) (inside p) (inside-meets p) ms

-- two interiors meet whichever is named first
pub interiors-comm : (m n : Macro) → interiors_meet m n ≡ interiors_meet n m
unfolding interiors_meet open_spans_meet
interiors-comm m n =
    ap₂ ◌&&◌
    (ap₂ lt_z (max_comm m.left n.left) (min_comm m.right n.right))
    (ap₂ lt_z (max_comm m.bottom n.bottom) (min_comm m.top n.top))

-- what is clear does not depend on the order of the macros, nor on which place is named first
pub clear-perm : (a b : Place) (ms ns : List Macro) → Perm ms ns → clear a b ms ≡ clear a b ns
unfolding clear
clear-perm a b ms ns p = ap not (any-perm (meets a b) ms ns p)

span-comm : (a b from to : ℤ) → span_meets a b from to ≡ span_meets b a from to
unfolding span_meets
span-comm a b from to = ap₂ (λ (l h : ℤ). lt_z l to && lt_z from h) (min_comm a b) (max_comm a b)

pub meets-comm : (a b : Place) (m : Macro) → meets a b m ≡ meets b a m
unfolding meets
meets-comm a b m = ap₂ ◌&&◌ (span-comm a.x b.x m.left m.right) (span-comm a.y b.y m.bottom m.top)

pub clear_comm : (a b : Place) (ms : List Macro) → clear a b ms ≡ clear b a ms
unfolding clear
clear_comm a b ms = ap not (any-agree (meets a b) (meets b a) (meets-comm a b) ms)
