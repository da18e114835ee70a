-- The edges that are left, from the present labels, give what all give.
use Rattle.std.proofs.Common.{◌-◌}
use Rattle.forest.specs.Edges.{graph, from}
use Rattle.forest.specs.Labels.{labels}
use Rattle.forest.proofs.LabelLaws.{Passing}
use Rattle.forest.proofs.relax_all.Given as goal

abbrev pub invariant-loop-k : goal.invariant-loop-k
invariant-loop-k l =
    Passing (graph l.ea l.eb l.el l.e) (from 0 l.e) (labels l.fn.far l.fn.root) (from l.k (l.e - l.k)) (labels l.far l.root) l.moved
