use Rattle.std.proofs.Common.{◌≡◌, ◌∙◌, arith, pos, ◌+ℤ◌}
use Rattle.std.proofs.Math.IntN.{nat_abs}
use Rattle.std.proofs.lemmas.Int.{ints}
use Rattle.turned.proofs.RaisedLaws.{raise-is, raise-most}
use Rattle.turned.proofs.raised.Goals as goal

pub returns : goal.returns
returns c =
    let e : c.cast_unsigned.result ≡ nat_abs (c.args.z +ℤ pos 2147483648) = omega (arith, ints) in
    (e ∙ raise-is _ c.ranges.z, omega (arith, e, raise-most _ c.ranges.z))
