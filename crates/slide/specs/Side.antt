-- The four ways in which a bar moves: rule M7. A bar lies along one axis and moves across it; what follows is said once, by `along` and
-- `across`.
use Rattle.std.specs.Prelude.{ℤ, pos, ◌+ℤ◌, ◌-ℤ◌, Bool, true, false, ℕ}
use Rattle.plane.specs.declared.Place.{Place}
use Rattle.plane.specs.Place.{place}
use Rattle.net.specs.Net.{Net}
use Rattle.slide.specs.declared.Side.{Side}
use Rattle.slide.specs.declared.Side.TheVariants.{Above, Below, Right, Left}

-- a bar that moves to this side is horizontal
unfoldable pub horizontal : Side → Bool
horizontal Above = true
horizontal Below = true
horizontal Right = false
horizontal Left = false

-- the number that is the same on a line at right angles to a bar
unfoldable pub along : Side → Place → ℤ
along Above p = p.x
along Below p = p.x
along Right p = p.y
along Left p = p.y

-- the number that is the same on a bar's line, and rises towards the side
unfoldable pub across : Side → Place → ℤ
across Above p = p.y
across Below p = pos 0 -ℤ p.y
across Right p = p.x
across Left p = pos 0 -ℤ p.x

-- M13: a place moved by d to the side
unfoldable pub moved : Side → ℕ → Place → Place
moved Above d p = place p.x (p.y +ℤ pos d)
moved Below d p = place p.x (p.y -ℤ pos d)
moved Right d p = place (p.x +ℤ pos d) p.y
moved Left d p = place (p.x -ℤ pos d) p.y

-- M11: what a unit costs of an edge at right angles to a bar, and of one along it
unfoldable pub weight : Net → Side → ℕ
weight net Above = net.weights.along
weight net Below = net.weights.along
weight net Right = net.weights.across
weight net Left = net.weights.across

unfoldable pub weight_along : Net → Side → ℕ
weight_along net Above = net.weights.across
weight_along net Below = net.weights.across
weight_along net Right = net.weights.along
weight_along net Left = net.weights.along
