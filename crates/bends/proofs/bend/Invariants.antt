use Rattle.std.proofs.Common.{◌≡◌, ◌+◌, ◌*◌, ◌≤◌, length}
use Rattle.lent.specs.Entries.{entries}
use Rattle.plane.specs.Flat.{place_from}
use Rattle.settled.specs.Settled.{edges_of}
use Rattle.bends.proofs.BendingLaws.{Bending}
use Rattle.bends.proofs.bend.Given as goal

abbrev pub invariant-loop-i : goal.invariant-loop-i
invariant-loop-i l = record {
  points : l.at.points ≤ l.n + l.i;
  edges : l.at.edges ≤ l.i * 2;
  places : length l.pts ≡ length l.initial.pts;
  lines : length l.out ≡ length l.initial.out;
  bending :
      Bending (entries place_from 2 l.initial.pts l.n) (edges_of l.edges l.e) l.initial.pts l.initial.out l.pts l.out l.at.points
      l.at.edges l.i;
}
