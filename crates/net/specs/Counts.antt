-- What the check gives of a net that it allows, in the code's own struct.
use Rattle.std.specs.Prelude.{List, ℕ, ◌+◌, ◌*◌, ℤ}
use Rattle.net.specs.Pins.{pin_count, macro_count}
use Rattle.net.specs.Net.{weights_of}
use Rattle.net.specs.declared.Weighing.{Weighing}
use Rattle.net.specs.declared.Net.{Net as Counts}

-- N7: m and k, and the weights; and the points of the graph at most, n = m + 4k
abbrev pub counted : Weighing → ℕ → ℕ → Counts
counted w m k = record { pins = m; macros = k; weights = weights_of w }

abbrev pub counts_of : Weighing → List ℤ → List ℤ → Counts
counts_of w pins macros = counted w (pin_count pins) (macro_count macros)

abbrev pub point_count : Counts → ℕ
point_count net = net.pins + net.macros * 4
