-- A shift by a fixed amount in x and in y: of places, pins, macros and of a net. Loads and weights stay.
use Rattle.std.specs.Prelude.{map, ℤ, ◌+ℤ◌}
use Rattle.plane.specs.declared.Place.{Place}
use Rattle.plane.specs.declared.Macro.{Macro}
use Rattle.plane.specs.Place.{place}
use Rattle.plane.specs.Macro.{macro}
use Rattle.net.specs.Net.{Net}

module _ (dx dy : ℤ) where
  abbrev pub shift : Place → Place
  shift p = place (p.x +ℤ dx) (p.y +ℤ dy)

  -- a pin with its load, which stays
  abbrev pub shift_entry : Place × ℤ → Place × ℤ
  shift_entry e = (shift e.0, e.1)

  abbrev pub shift_macro : Macro → Macro
  shift_macro m = macro (m.left +ℤ dx) (m.bottom +ℤ dy) (m.right +ℤ dx) (m.top +ℤ dy)

  abbrev pub shift_net : Net → Net
  shift_net net = record { pins = map shift net.pins; macros = map shift_macro net.macros; weights = net.weights }
