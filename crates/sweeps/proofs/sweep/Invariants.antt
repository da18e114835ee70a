-- What the raises of the crossings from i on come to.
use Rattle.std.proofs.Common.{◌≡◌, ◌+◌, ◌*◌, ◌≤◌, length}
use Rattle.sweeps.specs.Tables.{wide_crossings, far, ArcsFit}
use Rattle.sweeps.proofs.TableLaws as laws
use Rattle.sweeps.proofs.sweep.Given as goal

abbrev pub invariant-loop-i : goal.invariant-loop-i
invariant-loop-i l = record {
  low : l.sum + l.i * far ≤ l.m * far;
  fit : ArcsFit l.left;
  size : length l.row ≡ wide_crossings;
  raised : laws.Sweeping l.numbers l.e l.m l.initial.left l.left l.i l.sum;
}
