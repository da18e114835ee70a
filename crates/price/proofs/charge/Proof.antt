-- `price::charge` meets its contract: metal split by the thousand is charged as the whole is, by each of the four cases, and each product is
-- small.
-- Assumes nothing.
use borrow.Author.Rules.{rules}
use native.Mathlib.Omega.{arith}
use Rattle.price.proofs.ChargeLaws.{charge-down, charge-up, charge-even, charge-odd, part-fits, thousands-fit, whole-fits}
use Rattle.price.proofs.charge.Statement.{statement}
use Rattle.price.proofs.charge.Tie as tie

mul-part : tie.Need-overflow_mul-part
mul-part c = omega (arith, part-fits c.args.metal c.args.rate c.requires.1)

mul-whole : tie.Need-overflow_mul-whole
mul-whole c = omega (arith, thousands-fit c.args.metal c.args.rate c.requires.0 c.requires.1)

add-whole : tie.Need-overflow_add-whole
add-whole c = omega (arith, whole-fits c.args.metal c.args.rate c.requires.0 c.requires.1)

returns : tie.Need-returns-then-over-lt-UNITS
returns c = charge-down c.args.metal c.args.rate c.if-over-lt-UNITS.true

add-result : tie.Need-overflow_add-result
add-result c =
    let s = c in omega (arith, whole-fits s.args.metal s.args.rate s.requires.0 s.requires.1)

returns-2 : tie.Need-returns-then-over-gt-UNITS
returns-2 c = let s = c in charge-up s.args.metal s.args.rate c.if-over-gt-UNITS.true

returns-3 : tie.Need-returns-then-whole-eq0
returns-3 c =
    let s = c in
    charge-even s.args.metal s.args.rate (omega (arith, c.if-over-lt-UNITS.false, c.if-over-gt-UNITS.false)) c.if-whole-eq0.true

add-result-2 : tie.Need-overflow_add-result-2
add-result-2 c =
    let s = c in omega (arith, whole-fits s.args.metal s.args.rate s.requires.0 s.requires.1)

returns-4 : tie.Need-returns
returns-4 c =
    let s = c in
    charge-odd s.args.metal s.args.rate (omega (arith, c.if-over-lt-UNITS.false, c.if-over-gt-UNITS.false)) c.if-whole-eq0.false

pub charge_spec : {M : Type 1} → statement M
charge_spec =
    tie.close
    (tie.spec mul-part mul-whole add-whole (λ c. search rules) returns add-result returns-2 returns-3 add-result-2 returns-4)
