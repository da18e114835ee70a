-- The cap is no less than a height at one of the crossings, or stands for no way. The sum falls with each pass up but the last.
use Rattle.std.proofs.Common.{true}
use Rattle.lists.specs.Total.{total}
use Rattle.sweeps.proofs.TableLaws as laws
use Rattle.sweeps.proofs.settle.Given as goal

abbrev pub invariant-loop-n : goal.invariant-loop-n
invariant-loop-n l = laws.Settling l.left l.e l.q l.numbers l.n l.row l.cap true

abbrev pub decreases-loop-n : goal.decreases-loop-n
decreases-loop-n l = total l.row
