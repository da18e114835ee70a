-- `text::Page::decimal` meets its contract: it recurses on a tenth of the number, and the number is what falls.
-- Assumes nothing.
use Rattle.std.proofs.Common.{ℕ, ◌/◌, [], ◌∷◌, ◌++◌, sym, ap, ◌∙◌, arith}
use Rattle.text.specs.Text.{decimal}
use Rattle.text.proofs.TextLaws.{decimal-one, decimal-more, length-one, length_more}
use Rattle.text.proofs.PutLaws.{wrote_then, wrote_as}
use Rattle.text.proofs.Page.+decimal.Goals as goal

pub byte-requires : goal.byte-requires
byte-requires t c = omega (arith, length-one c.args.n c.if-n-lt10.true)

pub returns-then-n-lt10 : goal.returns-then-n-lt10
returns-then-n-lt10 t c = wrote_as (ap (λ (d : ℕ). d ∷ []) c.digit.ensures ∙ sym (decimal-one c.args.n c.if-n-lt10.true)) c.byte.ensures

pub decimal-requires : goal.decimal-requires
decimal-requires t c = (omega (arith, c.decreases), omega (arith, length_more c.args.n c.if-n-lt10.false))

pub byte-requires-else-n-lt10 : goal.byte-requires-else-n-lt10
byte-requires-else-n-lt10 t c =
    omega (arith, length_more c.args.n c.if-n-lt10.false, c.decimal.ensures.put.moves, c.decimal.ensures.long)

pub returns-else-n-lt10 : goal.returns-else-n-lt10
returns-else-n-lt10 t c =
    wrote_as
    (ap (λ (d : ℕ). decimal (c.args.n / 10) ++ (d ∷ [])) c.digit-else-n-lt10.ensures ∙ sym (decimal-more c.args.n c.if-n-lt10.false))
    (wrote_then c.decimal.ensures c.byte-else-n-lt10.ensures)
