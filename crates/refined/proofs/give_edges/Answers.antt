use Rattle.std.proofs.Common.{refl, ap₂, arith}
use Rattle.lent.specs.Entries.{flat}
use Rattle.plane.specs.declared.Place.{Place}
use Rattle.refined.proofs.GivenLaws.{itself, all, giving-none, giving-more, giving-end}
use Rattle.refined.proofs.give_edges.Goals as goal

pub loop-k-init : goal.loop-k-init
loop-k-init c = giving-none itself all _ _ _ _

pub place_at-a-requires : goal.place_at-a-requires
place_at-a-requires c = omega (arith, c.requires.1.0.small c.loop-k.k)

pub loop-k-preserved : goal.loop-k-preserved
unfolding flat
loop-k-preserved c =
    giving-more itself all _ _ _ _ c.loop-k.invariant (λ x m. refl) (omega arith) _
    (ap₂ (λ (x y : Place). (x, y)) c.place_at-a.ensures c.place_at-b.ensures) (omega (arith, c.requires.1.1)) _ _ c.put_edge.ensures refl

pub returns : goal.returns
returns c = giving-end itself all _ _ _ _ c.loop-k.invariant refl (omega arith)
