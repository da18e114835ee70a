-- `decoded::pin_length` meets its contract: the head's count times the numbers of an entry, by the kind of the pins' blocks.
-- Assumes nothing.
use Rattle.std.proofs.Common.{◌*◌, sym, ap₂, ◌∙◌}
use Rattle.decoded.proofs.HeldLaws.{long-with, long-alone}
use Rattle.decoded.proofs.pin_length.Goals as goal

pub returns-then-are_loaded_in : goal.returns-then-are_loaded_in
returns-then-are_loaded_in c =
    ap₂ ◌*◌ c.head_word-m.ensures.0 c.width.ensures.0
    ∙ sym (long-with c.args.bytes.now (sym c.are_loaded_in.ensures ∙ c.if-are_loaded_in.true))

pub returns-else-are_loaded_in : goal.returns-else-are_loaded_in
returns-else-are_loaded_in c =
    ap₂ ◌*◌ c.head_word-m.ensures.0 c.width-else-are_loaded_in.ensures.0
    ∙ sym (long-alone c.args.bytes.now (sym c.are_loaded_in.ensures ∙ c.if-are_loaded_in.false))
