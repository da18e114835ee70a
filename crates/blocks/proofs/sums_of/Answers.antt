-- `blocks::sums_of` meets its contract.
-- Assumes nothing.
use Rattle.std.proofs.Common.{◌≡◌, ℕ, ◌+◌, ◌%◌, get_or, take, refl, ap, ◌∙◌, ap₂, arith, take_all}
use Rattle.blocks.specs.Sizes.{summed_words}
use Rattle.blocks.specs.Sums.{total, running_sums, plain_sum, sum_of_sums}
use Rattle.blocks.proofs.SumLaws.{plain_more, sums-more, word_more}
use Rattle.blocks.proofs.sums_of.Goals as goal

pub loop-w-init : goal.loop-w-init
unfolding total running_sums plain_sum sum_of_sums
loop-w-init c = (refl, refl)

pub loop-w-preserved : goal.loop-w-preserved
loop-w-preserved c =
    let ws = take summed_words c.args.block.now in
    let i = c.loop-w.w-index in
    let m = word_more ws i (omega arith) in
    let p = ap (λ (s : ℕ). (s + get_or ws i 0) % 4294967296) c.loop-w.invariant.0 ∙ plain_more ws i _ m in
    (p, ap₂ (λ (s t : ℕ). (s + t) % 4294967296) c.loop-w.invariant.1 p ∙ sums-more ws i _ m)

pub returns : goal.returns
returns c =
    let ws = take summed_words c.args.block.now in
    let e : take c.loop-w.w-index ws ≡ ws = take_all c.loop-w.w-index ws (omega arith) in
    (rw e at c.loop-w.invariant.0, rw e at c.loop-w.invariant.1)
