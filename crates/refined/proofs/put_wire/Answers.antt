use Rattle.std.proofs.Common.{◌∙◌, refl, sym, arith}
use Rattle.lent.specs.Entries.{flat}
use Rattle.refined.proofs.WireLaws.{drawn-none, drawn-one}
use Rattle.refined.proofs.put_wire.Goals as goal

pub returns-then-distance-eq0 : goal.returns-then-distance-eq0
unfolding flat
returns-then-distance-eq0 c =
    rw (drawn-none c.args.a c.args.b (sym c.distance.ensures ∙ c.if-distance-eq0.true)) (record { value = omega arith; table_after = refl })

pub returns : goal.returns
unfolding flat
returns c =
    rw (drawn-one c.args.a c.args.b (λ z. c.if-distance-eq0.false (c.distance.ensures ∙ z)))
    (record { value = refl; table_after = c.put_edge.ensures })
