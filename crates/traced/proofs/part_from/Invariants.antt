-- None of the parts passed fits.
use Rattle.std.proofs.Common.{◌≡◌, false, ℕ, ◌≤◌, ◌<◌}
use Rattle.traced.specs.Routes.{meets}
use Rattle.traced.proofs.part_from.Given as goal

abbrev pub invariant-loop-p : goal.invariant-loop-p
invariant-loop-p l = (q : ℕ) → 1 ≤ q → q < l.p → meets l.m l.work l.s l.v q ≡ false
