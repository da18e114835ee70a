-- The two sums are those of the words passed.
use Rattle.std.proofs.Common.{◌≡◌, take}
use Rattle.blocks.specs.Sums.{plain_sum, sum_of_sums}
use Rattle.blocks.proofs.sums_of.Given as goal

abbrev pub invariant-loop-w : goal.invariant-loop-w
invariant-loop-w l = (l.plain ≡ plain_sum (take l.w-index l.w-items)) × (l.running ≡ sum_of_sums (take l.w-index l.w-items))
