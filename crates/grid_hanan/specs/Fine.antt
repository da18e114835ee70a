-- L18: the plane in steps of 1/d. A net is drawn d times as large, so that the place (x, y) of the large net is the point (x / d, y / d) of
-- the net's own plane, a unit step there is a step of 1/d, and what it costs counts in units of 1/d. All metal whose coordinates are
-- fractions is metal of the large net for some d.
use Rattle.std.specs.Prelude.{map, ℕ, ◌*◌, ◌≤◌, pos, ◌*ℤ◌}
use Rattle.plane.specs.declared.Place.{Place}
use Rattle.plane.specs.declared.Macro.{Macro}
use Rattle.plane.specs.Place.{place}
use Rattle.plane.specs.Macro.{macro}
use Rattle.net.specs.Net.{Net}
use Rattle.grid_hanan.specs.Metal.{LeastMetal}

module _ (d : ℕ) where
  abbrev pub fine_place : Place → Place
  fine_place p = place (p.x *ℤ pos d) (p.y *ℤ pos d)

  abbrev pub fine_macro : Macro → Macro
  fine_macro m = macro (m.left *ℤ pos d) (m.bottom *ℤ pos d) (m.right *ℤ pos d) (m.top *ℤ pos d)

  abbrev pub fine_net : Net → Net
  fine_net net = record { pins = map fine_place net.pins; macros = map fine_macro net.macros; weights = net.weights }

-- n is the least cost of all metal in steps of 1/d that joins the pins, whatever d: so many units are n times d of 1/d
abbrev pub LeastInFractions : Net → ℕ → Type 0
LeastInFractions net n = (d : ℕ) → 1 ≤ d → LeastMetal (fine_net d net) (n * d)
