-- Macros, their interiors, and what is clear of them.
use Rattle.std.specs.Prelude.{Bool, not, ◌&&◌, List, ℤ}
use Rattle.std.specs.Int.Signed.{lt_z}
use Rattle.lists.specs.Any.{any}
use Rattle.signed.specs.Order.{z_min, z_max}
use Rattle.plane.specs.declared.Place.{Place}
use Rattle.plane.specs.declared.Macro.{Macro}

-- N3: a macro by its four sides
abbrev pub macro : ℤ → ℤ → ℤ → ℤ → Macro
macro l b r t = record { left = l; bottom = b; right = r; top = t }

-- N8: a place is in the interior when it is strictly between the sides, both ways
unfoldable pub inside : Place → Macro → Bool
inside p m = (lt_z m.left p.x && lt_z p.x m.right) && (lt_z m.bottom p.y && lt_z p.y m.top)

-- the closed span of a and b meets the open one between from and to
unfoldable pub span_meets : ℤ → ℤ → ℤ → ℤ → Bool
span_meets a b from to = lt_z (z_min a b) to && lt_z from (z_max a b)

-- N9: a closed box meets an interior when, on both axes, it begins before the far side and ends after the near one, strictly.
-- The box is the one that a and b span.
unfoldable pub meets : Place → Place → Macro → Bool
meets a b m = span_meets a.x b.x m.left m.right && span_meets a.y b.y m.bottom m.top

-- the open span between a and b meets the one between c and d
unfoldable pub open_spans_meet : ℤ → ℤ → ℤ → ℤ → Bool
open_spans_meet a b c d = lt_z (z_max a c) (z_min b d)

-- N11: two interiors meet when, on both axes, the larger start is below the smaller end
unfoldable pub interiors_meet : Macro → Macro → Bool
interiors_meet m n =
    open_spans_meet m.left m.right n.left n.right && open_spans_meet m.bottom m.top n.bottom n.top

-- N19: two places are clear of each other when the box that they span meets no interior
unfoldable pub clear : Place → Place → List Macro → Bool
clear a b ms = not (any (meets a b) ms)
