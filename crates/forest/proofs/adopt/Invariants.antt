-- Over the edges that are left, from the step that the tables hold, each vertex's scan finds its parent.
use Rattle.forest.specs.Edges.{graph}
use Rattle.forest.specs.Labels.{labels}
use Rattle.forest.specs.Parents.{parents}
use Rattle.forest.proofs.ParentLaws.{Adopting}
use Rattle.forest.proofs.adopt.Given as goal

abbrev pub invariant-loop-k : goal.invariant-loop-k
invariant-loop-k l = Adopting (graph l.ea l.eb l.el l.e) l.n (labels l.far l.root) l.k (parents l.up l.via)
