-- `netfile::read` meets its contract: past all tests the file is read, and its head says how long its lists are.
-- Assumes nothing.
use Rattle.std.proofs.Common.{◌∙◌, sym, arith}
use Rattle.decoded.proofs.HeldLaws.{blocks-counted, head-right, sized-by-head}
use Rattle.netfile.proofs.read.Goals as goal

pub head_wrong-requires : goal.head_wrong-requires
head_wrong-requires c =
    let b = blocks-counted c.args.bytes.now (sym c.blocks_miscounted.ensures ∙ c.if-blocks_miscounted.false) in
    omega (arith, b.some)

pub read_counted-requires : goal.read_counted-requires
read_counted-requires c =
    let b = c.args.bytes.now in
    let blocks = sym c.blocks_miscounted.ensures ∙ c.if-blocks_miscounted.false in
    let h = head-right b (sym c.head_wrong.ensures ∙ c.if-head_wrong.false) in
    ((sized-by-head b (blocks-counted b blocks) h.0, h.1), sym c.room_short.ensures ∙ c.if-room_short.false)
