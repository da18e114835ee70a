-- The edges passed cost the sum, and no cost is above the limit.
use Rattle.std.proofs.Common.{◌≡◌, ◌*◌, ◌≤◌}
use Rattle.joined.specs.Cost.{lengths}
use Rattle.plane.specs.Cost.{cost, cost_limit}
use Rattle.laid.specs.Edges.{edges_of}
use Rattle.laid.proofs.total.Given as goal

abbrev pub invariant-loop-i : goal.invariant-loop-i
invariant-loop-i l = (l.sum ≤ l.i * cost_limit) × (l.sum ≡ lengths (cost l.w) (edges_of l.edges l.i))
