-- The best tree among the operations: what it comes to is no more than the refined tree, and fits.
-- Assumes nothing.
use mathlib.Core.List.{List}
use Prim.Native.Nat.{◌*◌, ◌≤◌}
use native.Mathlib.Omega.{arith}
use Rattle.joined.specs.Cost.{lengths}
use Rattle.plane.specs.Distance.{distance}
use Rattle.net.specs.Bounds.{pin_bound}
use Rattle.net.specs.Net.{Net, cost_in}
use Rattle.net.specs.Allowed.{Allowed}
use Rattle.net.proofs.AllowedLaws.{allowed-positive}
use Rattle.forest.specs.Bounds.{path_bound}
use Rattle.refined.proofs.MetalLaws.{metal-low}
use Rattle.lines.specs.Edges.{Edge}
use Rattle.rules.proofs.TreesOurs.{trees-ours}
use Rattle.best.specs.Tree.{IsBest}
use Rattle.best.proofs.RefinedLaws.{refined-not-cheaper}
use Rattle.answers.specs.Refined.{refined_of, edges_in, total_in}
use Rattle.results.proofs.RefinedLaws.{total-low}

module _ {net : Net} (a : Allowed net) (T : List Edge) (b : IsBest net T) where
  pub no-dearer : lengths (cost_in net) T ≤ total_in net
  unfolding total_in edges_in refined_of
  no-dearer = refined-not-cheaper a b (trees-ours a)

  -- the total fits 63 bits, and so does the metal
  pub best-low : lengths (cost_in net) T ≤ pin_bound * path_bound
  best-low = omega (arith, no-dearer, total-low a)

  pub best-metal-low : lengths distance T ≤ pin_bound * path_bound
  best-metal-low = omega (arith, metal-low net.weights (allowed-positive a) T, best-low)
