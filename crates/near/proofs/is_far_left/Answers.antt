-- The gap across, at its weight, is what a place further left costs at least.
use Rattle.std.proofs.Common.{rules, arith}
use Rattle.std.proofs.lemmas.Bool.{leb-true}
use Rattle.std.proofs.lemmas.Int.{to_z-of_z}
use mir.Syntax.{w32}
use mir.Val.{SFits}
use Rattle.near.proofs.BoxLaws.{far-left}
use Rattle.near.proofs.is_far_left.Goals as goal

pub returns-then-u-m : goal.returns-then-u-m
returns-then-u-m c t =
    let left : SFits w32 c.args.m.left = search rules in
    let x : SFits w32 c.args.u.x = search rules in
    far-left c.args.w c.args.m c.args.u c.args.limit (simp to_z-of_z at c.if-u-m.true)
    (grind (arith, to_z-of_z, leb-true))
