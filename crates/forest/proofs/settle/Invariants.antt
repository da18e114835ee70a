-- The passes that are left, from the present labels, give what all give.
use Rattle.std.proofs.Common.{◌-◌}
use Rattle.forest.specs.Edges.{graph, from}
use Rattle.forest.specs.Labels.{labels}
use Rattle.forest.proofs.LabelLaws.{Settling}
use Rattle.forest.proofs.settle.Given as goal

abbrev pub invariant-loop : goal.invariant-loop
invariant-loop l = Settling (graph l.ea l.eb l.el l.e) (from 0 l.e) (labels l.fn.far l.fn.root) l.n (labels l.far l.root) (l.n - l.counter)
