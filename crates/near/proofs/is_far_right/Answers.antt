-- The gap across, at its weight, is what a place further right costs at least.
use Rattle.std.proofs.Common.{rules, arith}
use Rattle.std.proofs.lemmas.Bool.{leb-true}
use Rattle.std.proofs.lemmas.Int.{to_z-of_z}
use mir.Syntax.{w32}
use mir.Val.{SFits}
use Rattle.near.proofs.BoxLaws.{far-right}
use Rattle.near.proofs.is_far_right.Goals as goal

pub returns-then-m-u : goal.returns-then-m-u
returns-then-m-u c t =
    let right : SFits w32 c.args.m.right = search rules in
    let x : SFits w32 c.args.u.x = search rules in
    far-right c.args.w c.args.m c.args.u c.args.limit (simp to_z-of_z at c.if-m-u.true)
    (grind (arith, to_z-of_z, leb-true))
