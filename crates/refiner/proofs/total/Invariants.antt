-- The edges that are left decide, and each passed adds less than the bound.
use Rattle.std.proofs.Common.{◌≡◌, ◌≤◌, ◌-◌, ◌*◌}
use Rattle.lists.specs.Turns.{turns}
use Rattle.plane.specs.Cost.{cost_limit}
use Rattle.refiner.specs.Refined.{add_cost, total}
use Rattle.refiner.proofs.total.Given as goal

abbrev pub invariant-loop-k : goal.invariant-loop-k
invariant-loop-k l =
    (l.sum ≤ l.k * cost_limit) × (turns (add_cost l.w l.pts l.keys) l.k (l.e - l.k) l.sum ≡ total l.w l.pts l.keys l.e)
