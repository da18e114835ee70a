use Rattle.std.proofs.Common.{arith}
use Rattle.refined.proofs.WireLaws.{drawn-few, both-put}
use Rattle.refined.proofs.put_wires.Goals as goal

pub put_wire-requires : goal.put_wire-requires
put_wire-requires c =
    omega (arith, c.put_wire-j.ensures.value, c.put_wire-j.auto.table, c.requires, drawn-few c.args.a c.bend-c.result)

pub returns : goal.returns
returns c =
    let r = both-put c.args.a c.args.b c.bend-c.result c.bend-c.ensures _ _ _ _ _ _
    (c.put_wire-j.ensures.value, c.put_wire-j.ensures.table_after) (c.put_wire.ensures.value, c.put_wire.ensures.table_after) in
    record { value = r.0; table_after = r.1 }
