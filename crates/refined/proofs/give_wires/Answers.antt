use Rattle.std.proofs.Common.{ap₂, arith}
use Rattle.plane.specs.declared.Place.{Place}
use Rattle.refined.specs.Wires.{wires_of_edge, wires}
use Rattle.refined.proofs.GivenLaws.{giving-none, giving-more, giving-count, giving-end}
use Rattle.refined.proofs.WireLaws.{wires-none, wires-more, edge_few}
use Rattle.refined.proofs.give_wires.Goals as goal

pub loop-k-init : goal.loop-k-init
loop-k-init c = (omega arith, giving-none wires_of_edge wires _ _ _ _)

pub place_at-a-requires : goal.place_at-a-requires
place_at-a-requires c = omega (arith, c.requires.1.0.small c.loop-k.k)

pub put_wires-count-requires : goal.put_wires-count-requires
put_wires-count-requires c = omega (arith, c.loop-k.invariant.0, c.loop-k-test.true, c.requires.1.1, c.loop-k.auto)

pub loop-k-preserved : goal.loop-k-preserved
loop-k-preserved c =
    let few = edge_few (c.place_at-a.result, c.place_at-b.result) in (
      omega (arith, c.loop-k.invariant.0, c.put_wires-count.ensures.value, few),
      giving-more wires_of_edge wires _ _ _ _ c.loop-k.invariant.1 wires-more (omega arith) _
          (ap₂ (λ (x y : Place). (x, y)) c.place_at-a.ensures c.place_at-b.ensures)
          (omega (arith, c.loop-k.invariant.0, c.loop-k-test.true, c.requires.1.1, few)) _ _ c.put_wires-count.ensures.table_after
          c.put_wires-count.ensures.value,
    )

pub returns-clause-value : goal.returns-clause-value
returns-clause-value c = giving-count wires_of_edge wires _ _ _ _ c.loop-k.invariant.1 wires-none (omega arith)

pub returns-clause-lent_after : goal.returns-clause-lent_after
returns-clause-lent_after c = giving-end wires_of_edge wires _ _ _ _ c.loop-k.invariant.1 wires-none (omega arith)
