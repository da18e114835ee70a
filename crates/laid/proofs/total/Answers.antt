use Rattle.std.proofs.Common.{◌≡◌, ◌∙◌, ap, refl, arith}
use Rattle.lists.specs.Total.{total}
use Rattle.lent.specs.Entries.{entries_from}
use Rattle.joined.specs.Cost.{lengths}
use Rattle.plane.specs.Cost.{cost}
use Rattle.laid.specs.Edges.{edges_of}
use Rattle.laid.proofs.EdgeLaws.{lengths-more}
use Rattle.laid.proofs.total.Goals as goal

pub loop-i-init : goal.loop-i-init
unfolding lengths total entries_from
loop-i-init c = (omega arith, refl)

pub loop-i-preserved : goal.loop-i-preserved
loop-i-preserved c =
    let next = lengths-more (cost c.args.w) c.args.edges.now c.loop-i.i c.place_at-a.result c.place_at-b.result
    c.place_at-a.ensures c.place_at-b.ensures in
    (omega (arith, c.cost-sum.ensures.1, c.loop-i.invariant.0), omega (arith, c.cost-sum.ensures.0, next, c.loop-i.invariant.1))

pub returns : goal.returns
returns c =
    let end : c.loop-i.i ≡ c.args.e = omega arith in
    (c.loop-i.invariant.1 ∙ ap (λ i. lengths (cost c.args.w) (edges_of c.args.edges.now i)) end, omega (arith, c.loop-i.invariant.0))
