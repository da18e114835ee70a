-- `decoded::take_numbers` meets its contract.
-- Assumes nothing.
use Rattle.std.proofs.Common.{◌≡◌, List, set, ℤ, refl, ap₂, ◌∙◌, arith, w32, rules}
use mir.ValLaws.{to_z-of_z}
use Rattle.lent.specs.Over.{over}
use Rattle.decoded.specs.Held.{numbers_in}
use Rattle.blocks.proofs.SizeLaws.{block_within}
use Rattle.decoded.proofs.ReadLaws.{numbers_more}
use Rattle.decoded.proofs.take_numbers.Goals as goal

pub loop-j-init : goal.loop-j-init
unfolding over numbers_in
loop-j-init c = refl

pub number_in-requires : goal.number_in-requires
number_in-requires c = omega (arith, block_within c.args.n c.loop-j.j (omega arith))

pub loop-j-preserved : goal.loop-j-preserved
loop-j-preserved c =
    let a = c.args in
    let j = c.loop-j.j in
    ap₂ (λ (ns : List ℤ) (z : ℤ). set ns j z) c.loop-j.invariant (to_z-of_z w32 _ (search rules) ∙ c.number_in.ensures)
    ∙ numbers_more a.bytes.now a.b j a.numbers.now (omega arith)

pub returns : goal.returns
returns c = let e : c.loop-j.j ≡ c.args.n = omega arith in rw e at c.loop-j.invariant
