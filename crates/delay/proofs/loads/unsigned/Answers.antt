-- A load in range is not below zero, and fits.
use Rattle.std.proofs.Common.{◌≡◌, ◌∙◌, ap, arith}
use lib.IntN.{pos, nat_abs}
use mir.Syntax.{w32}
use mir.Val.{to_z, of_z}
use mir.ValLaws.{to_z-of_z}
use Rattle.signed.specs.Sides.{up}
use Rattle.net.proofs.AllowedLaws.{load-within, load_is}
use Rattle.delay.proofs.loads.unsigned.Goals as goal

read_back : (c : goal.Start) → to_z w32 (of_z w32 c.args.z) ≡ pos (up c.args.z)
read_back c = to_z-of_z w32 _ c.ranges.z ∙ load_is _ c.requires

pub overflow_cast-result : goal.overflow_cast-result
overflow_cast-result c = rw (read_back c) (tt, record { fits = omega (arith, load-within _ c.requires) })

pub returns : goal.returns
returns c = ap nat_abs (read_back c)
