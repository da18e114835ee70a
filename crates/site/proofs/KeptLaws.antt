-- A shift keeps what settles ties and what the trees start from.
-- Assumes nothing.
use mathlib.Core.Path.{sym}
use lib.IntN.{ℤ}
use Rattle.plane.specs.Place.{before}
use Rattle.graph.specs.Spanning.{vertices_of}
use Rattle.site.specs.Shift.{shift_net}
use Rattle.site.specs.Kept.{tie, table, Kept}
use Rattle.site.proofs.ShiftLaws.{before-there}
use Rattle.site.proofs.NetShift.{trees-shifted, stays_same}
use Rattle.site.proofs.TreeShift.{distance-there}

pub kept : (dx dy : ℤ) → Kept dx dy
unfolding tie table
kept dx dy = record {
  ties = before-there dx dy;
  lengths = distance-there dx dy;
  tables = λ net a b.
      sym (trees-shifted dx dy net.weights net.pins (shift_net dx dy net).pins net.macros (shift_net dx dy net).macros
      (stays_same dx dy net) a b).vertices;
}
