-- `encoded::stored_length` meets its contract: all numbers of the list where it is stored with its loads, two a pin where not.
-- Assumes nothing.
use Rattle.std.proofs.Common.{ℕ, ◌*◌, length, sym, ap, ◌∙◌, arith}
use Rattle.net.specs.Pins.{pin_count}
use Rattle.blocks.specs.Sizes.{place_width}
use Rattle.encoded.specs.Layout.{Stored}
use Rattle.encoded.proofs.StoredLaws.{stored-with, stored-alone, length-alone}
use Rattle.encoded.proofs.stored_length.Goals as goal

pub overflow_mul-result : goal.overflow_mul-result
unfolding pin_count
overflow_mul-result c = omega (arith, c.pin_count.ensures)

pub returns-then-are_loaded : goal.returns-then-are_loaded
returns-then-are_loaded c =
    ap (λ (s : Stored). length s.numbers) (sym (stored-with c.args.pins.now (sym c.are_loaded.ensures ∙ c.if-are_loaded.true)))

pub returns-else-are_loaded : goal.returns-else-are_loaded
returns-else-are_loaded c =
    let p = c.args.pins.now in
    ap (λ (n : ℕ). n * place_width) c.pin_count.ensures
    ∙ sym (length-alone p)
    ∙ ap (λ (s : Stored). length s.numbers) (sym (stored-alone p (sym c.are_loaded.ensures ∙ c.if-are_loaded.false)))
