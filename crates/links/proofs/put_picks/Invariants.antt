-- The table has the picks of the vertices passed.
use Rattle.std.proofs.Common.{◌≡◌, length}
use Rattle.plane.specs.Flat.{macros_of}
use Rattle.net.specs.Bounds.{edge_bound}
use Rattle.links.specs.Links.{PicksHeld}
use Rattle.links.proofs.put_picks.Given as goal

abbrev pub invariant-loop-k : goal.invariant-loop-k
invariant-loop-k l = record {
  long : length l.picked ≡ edge_bound;
  held : PicksHeld l.w (macros_of l.macros) l.vertices l.picked l.k;
}
