-- What the check hands on to the rest of an operation.
use Rattle.std.specs.Prelude.{◌≡◌, List, ℤ}
use Rattle.net.specs.declared.Net.{Net as Counts}
use Rattle.net.specs.declared.Weighing.{Weighing}
use Rattle.net.specs.Net.{net_of}
use Rattle.net.specs.Counts.{counts_of}
use Rattle.net.specs.Allowed.{Whole, Allowed}

-- n is what was counted of the two lists, with the weights, their entries are whole with loads in range, and their net is allowed
pub record Counted (n : Counts) (w : Weighing) (pins macros : List ℤ) : Type 0 where
  pub counts : n ≡ counts_of w pins macros
  pub whole : Whole pins macros
  pub allowed : Allowed (net_of w pins macros)
