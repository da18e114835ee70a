use Rattle.std.proofs.Common.{◌≡◌, ◌∙◌, arith, pos, ◌-ℤ◌}
use Rattle.std.proofs.Math.IntN.{nat_abs}
use Rattle.std.proofs.lemmas.Int.{ints}
use Rattle.turned.proofs.RaisedLaws.{turn_is, turn-most}
use Rattle.turned.proofs.turned.Goals as goal

pub returns : goal.returns
returns c =
    let e : c.cast_unsigned.result ≡ nat_abs (pos 2147483648 -ℤ c.args.z) = omega (arith, ints) in
    (e ∙ turn_is _ c.ranges.z, omega (arith, e, turn-most _ c.ranges.z))
