-- The edges that are left decide, and no cost so far is above the greatest.
use Rattle.std.proofs.Common.{◌≡◌, ◌-◌}
use Rattle.lists.specs.Turns.{turns}
use Rattle.tree.specs.Table.{Low}
use Rattle.longest.specs.Longest.{measure}
use Rattle.longest.proofs.costs.Given as goal

abbrev pub invariant-loop-k : goal.invariant-loop-k
invariant-loop-k l =
    (turns (measure l.w l.pts l.keys) l.k (l.e - l.k) l.el ≡ turns (measure l.w l.pts l.keys) 0 l.e l.fn.el) × Low l.most l.el
