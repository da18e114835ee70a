-- The marked ones of the vertices before v are written as points and ranked.
use Rattle.plane.specs.Flat.{place_at}
use Rattle.union.proofs.MarkLaws.{Placing}
use Rattle.union.proofs.put_points.Given as goal

abbrev pub invariant-loop-v : goal.invariant-loop-v
invariant-loop-v l = Placing (place_at l.vertices) l.at l.fn.pts l.v l.c l.pts l.rank
