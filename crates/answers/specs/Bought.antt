-- The check of a bought-in tree among the operations: rule C79. What passes stands in `bought` (specs/Passes.antt).
use Rattle.std.specs.Prelude.{List, ℤ, pos}
use Rattle.lent.specs.Told.{Told, only_if}
use Rattle.joined.specs.Cost.{lengths}
use Rattle.plane.specs.Distance.{distance}
use Rattle.net.specs.declared.Weighing.{Weighing}
use Rattle.net.specs.Net.{net_of, cost_in}
use Rattle.checks.specs.Check.{checked}
use Rattle.bought.specs.Edges.{Edge}
use Rattle.bought.specs.Verdict.{bought}

-- C79: 11 to 18, then 33, 34 and 35; otherwise what the edges cost, and their metal
unfoldable pub checked_tree : Weighing → List ℤ → List ℤ → List ℤ → Told (ℤ × ℤ)
checked_tree w pins macros edges = only_if (checked w pins macros) (bought (net_of w pins macros) edges)

-- the cost and the metal of edges
abbrev pub sums_of : Weighing → List ℤ → List ℤ → List Edge → ℤ × ℤ
sums_of w pins macros T = (pos (lengths (cost_in (net_of w pins macros)) T), pos (lengths distance T))
