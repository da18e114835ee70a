-- The picks of the vertices passed are reached.
use Rattle.std.proofs.Common.{◌≡◌, length}
use Rattle.net.specs.Bounds.{point_bound}
use Rattle.links.specs.Links.{Reached}
use Rattle.links.proofs.reach.Given as goal

abbrev pub invariant-loop-k : goal.invariant-loop-k
invariant-loop-k l = record { long : length l.last ≡ point_bound; reached : Reached l.picked l.last l.n l.k }
