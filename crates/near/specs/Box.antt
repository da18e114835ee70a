-- The closed upright box of two places by its sides, and what metal costs to it.
use Rattle.std.specs.Prelude.{true, false, ℕ, ◌+◌, ◌*◌, ◌≤◌, ℤ}
use Rattle.std.specs.Int.Signed.{lt_z}
use Rattle.signed.specs.Order.{z_min, z_max}
use Rattle.signed.specs.Sides.{Le}
use Rattle.plane.specs.declared.Place.{Place}
use Rattle.plane.specs.declared.Macro.{Macro}
use Rattle.plane.specs.declared.Weights.{Weights}
use Rattle.plane.specs.Distance.{apart}
use Rattle.plane.specs.Macro.{macro}

-- the box by its sides
unfoldable pub box_of : Place → Place → Macro
box_of a b = macro (z_min a.x b.x) (z_min a.y b.y) (z_max a.x b.x) (z_max a.y b.y)

-- how far z lies outside the closed span from low to high
unfoldable pub outside : ℤ → ℤ → ℤ → ℕ
outside low high z = elim (lt_z z low) [ true ↦ apart low z | false ↦ elim (lt_z high z) [ true ↦ apart high z | false ↦ 0 ] ]

-- what metal from u to the nearest place of a box costs; of the box of a and b that place is the middle of a, b and u
unfoldable pub box_cost : Weights → Macro → Place → ℕ
box_cost w m u = outside m.left m.right u.x * w.across + outside m.bottom m.top u.y * w.along

-- p is so far left of a box that metal to the box costs a limit from there and from all places that are no further right; and so far right
-- of one whose sides are in order
abbrev pub FarLeft : Weights → Macro → Place → ℕ → Type 0
FarLeft w m p limit = (q : Place) → Le q.x p.x → limit ≤ box_cost w m q

abbrev pub FarRight : Weights → Macro → Place → ℕ → Type 0
FarRight w m p limit = Le m.left m.right → (q : Place) → Le p.x q.x → limit ≤ box_cost w m q
