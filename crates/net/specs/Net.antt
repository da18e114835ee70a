-- A net as the definitions above know it. One record and not a list of arguments, so that what a net comes to have besides its pins and
-- macros (weights now) is a field more here and no argument more anywhere else.
use Rattle.std.specs.Prelude.{List, ℕ, ℤ, pos}
use Rattle.signed.specs.Sides.{up}
use Rattle.plane.specs.declared.Place.{Place}
use Rattle.plane.specs.declared.Macro.{Macro}
use Rattle.plane.specs.declared.Weights.{Weights}
use Rattle.plane.specs.Flat.{macros_of}
use Rattle.plane.specs.Cost.{cost}
use Rattle.net.specs.declared.Weighing.{Weighing}
use Rattle.net.specs.Pins.{pin_places}

pub record Net : Type 0 where
  pub pins : List Place
  pub macros : List Macro
  pub weights : Weights

-- N25: two weights as a caller hands them over; and those with which every cost is a length
abbrev pub weighing : ℤ → ℤ → Weighing
weighing a b = record { first = a; second = b }

abbrev pub plainly : Weighing
plainly = weighing (pos 1) (pos 1)

-- the weights that they are, where the check finds both from 1 to 8; and the other way
abbrev pub weights_of : Weighing → Weights
weights_of w = record { across = up w.first; along = up w.second }

abbrev pub handed : Weights → Weighing
handed w = weighing (pos w.across) (pos w.along)

-- the net of two flat lists with these weights, known or as handed over
abbrev pub net_with : Weights → List ℤ → List ℤ → Net
net_with w pins macros = record { pins = pin_places pins; macros = macros_of macros; weights = w }

abbrev pub net_of : Weighing → List ℤ → List ℤ → Net
net_of w pins macros = net_with (weights_of w) pins macros

-- what metal between two places costs in a net
abbrev pub cost_in : Net → Place → Place → ℕ
cost_in net = cost net.weights
