use Rattle.std.proofs.Common.{◌≡◌, drop}
use Rattle.lists.specs.Any.{any}
use Rattle.lent.specs.Entries.{entries}
use Rattle.plane.specs.Place.{same_place}
use Rattle.plane.specs.Flat.{place_from}
use Rattle.slide.specs.Bend.{taken}
use Rattle.bends.proofs.is_taken.Given as goal

abbrev pub invariant-loop-i : goal.invariant-loop-i
invariant-loop-i l = taken (entries place_from 2 l.pts l.n) l.c ≡ any (same_place l.c) (drop l.i (entries place_from 2 l.pts l.n))
