-- `decoded::any_wrong_sums` meets its contract.
-- Assumes nothing.
use Rattle.std.proofs.Common.{◌≡◌, ℕ, ◌-◌, ◌/◌, length, sym, ap, ◌∙◌, arith}
use Rattle.lists.specs.Any.{any}
use Rattle.lists.proofs.AnyLaws.{any-hit, any-miss, any-end}
use Rattle.blocks.specs.Sizes.{block_bytes}
use Rattle.blocks.specs.Words.{words_of}
use Rattle.blocks.specs.Sums.{wrong_sums}
use Rattle.decoded.specs.Held.{blocks_of, sums_wrong}
use Rattle.blocks.proofs.BytesLaws.{block-full}
use Rattle.decoded.proofs.ReadLaws.{blocks-next, blocks_end}
use Rattle.decoded.proofs.any_wrong_sums.Goals as goal

pub loop-b-init : goal.loop-b-init
loop-b-init c =
    let n = length c.args.bytes.now / block_bytes in
    let e : n ≡ n - 0 = omega arith in
    ap (λ (k : ℕ). any wrong_sums (blocks_of k (words_of c.args.bytes.now))) e

pub has_wrong_sums-requires : goal.has_wrong_sums-requires
has_wrong_sums-requires c = ap length c.block_at.ensures ∙ block-full c.args.bytes.now c.loop-b.b (omega arith)

pub returns-then-has_wrong_sums : goal.returns-then-has_wrong_sums
unfolding sums_wrong
returns-then-has_wrong_sums c =
    let s = c.args.bytes.now in
    let met = c.has_wrong_sums.ensures ∙ ap wrong_sums c.block_at.ensures in
    sym
    (c.loop-b.invariant
    ∙ any-hit wrong_sums _ _ _ (blocks-next (length s / block_bytes) c.loop-b.b (words_of s) (omega arith))
    (sym met ∙ c.if-has_wrong_sums.true))

pub loop-b-preserved : goal.loop-b-preserved
loop-b-preserved c =
    let s = c.args.bytes.now in
    let met = c.has_wrong_sums.ensures ∙ ap wrong_sums c.block_at.ensures in
    c.loop-b.invariant
    ∙ any-miss wrong_sums _ _ _ (blocks-next (length s / block_bytes) c.loop-b.b (words_of s) (omega arith))
    (sym met ∙ c.if-has_wrong_sums.false)

pub returns : goal.returns
unfolding sums_wrong
returns c =
    let s = c.args.bytes.now in
    sym (c.loop-b.invariant ∙ any-end wrong_sums _ (blocks_end (length s / block_bytes) c.loop-b.b (words_of s) (omega arith)))
