-- Places and their order.
use Rattle.std.specs.Prelude.{Bool, true, false, ◌&&◌, ℤ}
use Rattle.std.specs.Int.Signed.{lt_z}
use Rattle.signed.specs.Order.{z_eq}
use Rattle.plane.specs.declared.Place.{Place}

-- N2: a place by its x and y
abbrev pub place : ℤ → ℤ → Place
place a b = record { x = a; y = b }

-- N15: places go by x, then by y
unfoldable pub before : Place → Place → Bool
before a b =
    elim (lt_z a.x b.x) [ true ↦ true | false ↦ elim (lt_z b.x a.x) [ true ↦ false | false ↦ lt_z a.y b.y ] ]

unfoldable pub same_place : Place → Place → Bool
same_place a b = z_eq a.x b.x && z_eq a.y b.y
