-- `text::Page::whole` meets its contract: the minus sign, where there is one, and the digits of what is left.
-- Assumes nothing.
use Rattle.std.proofs.Common.{◌≡◌, ℕ, ◌≤◌, ◌∷◌, length, ℤ, pos, nat_abs, sym, ap, ◌∙◌, arith, w64, SFits}
use mir.ValLaws.{to_z-of_z}
use Rattle.signed.proofs.Bits.{flag-lt}
use Rattle.text.specs.Text.{decimal}
use Rattle.text.proofs.TextLaws.{whole_below, whole_above, far-short}
use Rattle.text.proofs.PutLaws.{wrote_then, wrote_as}
use Rattle.text.proofs.Page.whole.Goals as goal
use Rattle.text.proofs.Page.whole.Goals.{then-z-lt0, else-z-lt0}

short : (z : ℤ) (n : ℕ) → SFits w64 z → n ≡ nat_abs z → length (decimal n) ≤ 19
short z n f e = rw e (far-short z f)

pub decimal-requires : goal.decimal-requires
decimal-requires c =
    let few = short c.args.z _ c.ranges.z (rw (to_z-of_z w64 _ c.ranges.z) at c.unsigned_abs.ensures.value) in
    elim c.if-z-lt0.branch [
      | then-z-lt0 w ↦ rw w.self-is (omega (arith, few, w.byte.ensures.put.moves, w.byte.ensures.long))
      | else-z-lt0 w ↦ rw w.self-is (omega (arith, few))
    ]

pub returns-clause-wrote : goal.returns-clause-wrote
returns-clause-wrote c =
    let z = c.args.z in
    let size : c.unsigned_abs.result ≡ nat_abs z = rw (to_z-of_z w64 _ c.ranges.z) at c.unsigned_abs.ensures.value in
    elim c.if-z-lt0.branch [
      | then-z-lt0 w ↦
          let below = whole_below z (flag-lt w64 _ (pos 0) c.ranges.z (record { sfits = omega arith }) w.if-z-lt0.true) in
          wrote_as (ap (λ (n : ℕ). 45 ∷ decimal n) size ∙ sym below) (wrote_then w.byte.ensures (rw w.self-is at c.decimal.ensures))
      | else-z-lt0 w ↦
          let above = whole_above z (flag-lt w64 _ (pos 0) c.ranges.z (record { sfits = omega arith }) w.if-z-lt0.false) in
          wrote_as (ap decimal size ∙ sym above) (rw w.self-is at c.decimal.ensures)
    ]

pub returns-clause-within : goal.returns-clause-within
returns-clause-within c =
    let few = short c.args.z _ c.ranges.z (rw (to_z-of_z w64 _ c.ranges.z) at c.unsigned_abs.ensures.value) in
    elim c.if-z-lt0.branch [
      | then-z-lt0 w ↦ let d = rw w.self-is at c.decimal.ensures in omega (arith, few, w.byte.ensures.put.moves, d.put.moves)
      | else-z-lt0 w ↦ let d = rw w.self-is at c.decimal.ensures in omega (arith, few, d.put.moves)
    ]
