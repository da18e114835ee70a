-- `blocks::list_block` meets its contract.
-- Assumes nothing.
use Rattle.std.proofs.Common.{refl, ◌≡◌, ℕ, ◌+◌, List, length, get_or, take, set, replicate, pos, ap, ◌∙◌, ap₂, div-le_self, arith, length-take, take_all, w32, SFits, rules}
use lib.ListN.{length-map}
use mir.ValLaws.{to_z-of_z}
use Rattle.lent.specs.Over.{over}
use Rattle.lent.proofs.OverLaws.{length_over}
use Rattle.blocks.specs.Sizes.{block_words, summed_words, first_entry}
use Rattle.blocks.specs.Words.{word_of}
use Rattle.blocks.specs.Sums.{sealed}
use Rattle.blocks.specs.Block.{block, list_block}
use Rattle.blocks.proofs.BlockLaws.{over-cut, entry_more}
use Rattle.blocks.proofs.list_block.Goals as goal

pub overflow_cast-t-2 : goal.overflow_cast-t-2
overflow_cast-t-2 c = omega (arith, div-le_self (length c.args.numbers.now) c.args.w)

pub loop-i-init : goal.loop-i-init
unfolding over
loop-i-init c = refl

pub loop-i-preserved : goal.loop-i-preserved
loop-i-preserved c =
    let s = c.args.numbers.now in
    let i = c.loop-i.i in
    let f : SFits w32 (get_or s i (pos 0)) = search rules in
    ap₂ (λ (t : List ℕ) (v : ℕ). set t (first_entry + i) v) c.loop-i.invariant (c.word_of.ensures ∙ ap word_of (to_z-of_z w32 _ f))
    ∙ entry_more _ _ _ 0 s i (omega arith) (omega arith)

pub seal-requires : goal.seal-requires
seal-requires c =
    let s = c.args.numbers.now in
    let h = length-map (take c.loop-i.i s) word_of in
    ap length c.loop-i.invariant ∙ length_over _ (replicate block_words 0) (omega (arith, h, length-take c.loop-i.i s))

pub returns : goal.returns
unfolding block list_block
returns c =
    let s = c.args.numbers.now in
    let e : take c.loop-i.i s ≡ s = take_all c.loop-i.i s (omega arith) in
    let h = length-map s word_of in
    c.seal.ensures
    ∙ ap (λ (t : List ℕ). sealed (take summed_words t)) (rw e at c.loop-i.invariant)
    ∙ ap sealed (over-cut _ summed_words block_words (omega (arith, h)) (omega arith))
