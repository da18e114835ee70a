-- The lengths of the marked ones of the first j segments, added up.
use Rattle.std.proofs.Common.{◌≡◌, ◌≤◌, ◌*◌}
use Rattle.joined.specs.Cost.{lengths}
use Rattle.plane.specs.Distance.{distance}
use Rattle.plane.specs.Cost.{cost_limit}
use Rattle.traced.specs.Routes.{marked_edges}
use Rattle.best.proofs.metal.Given as goal

abbrev pub invariant-loop-j : goal.invariant-loop-j
invariant-loop-j l = (l.sum ≤ l.j * cost_limit) × (l.sum ≡ lengths distance (marked_edges l.xs l.ys l.used l.j))
