-- `encoded::next_block` meets its contract: the part that it hands over is the next 120 numbers, or all that are left.
-- Assumes nothing.
use Rattle.std.proofs.Common.{◌≡◌, ℕ, ◌-◌, ◌+◌, length, take, drop, min, ap, ap₂, ◌∙◌, arith, length-drop}
use Rattle.std.proofs.lemmas.List.{take_min}
use Rattle.blocks.specs.Kind.{kind_word, kind_width}
use Rattle.blocks.specs.Sizes.{per_block}
use Rattle.blocks.specs.Block.{list_block}
use Rattle.encoded.proofs.next_block.Goals as goal

pub returns : goal.returns
returns c =
    let a = c.args in
    let s = drop a.from a.numbers.now in
    let e : a.from + c.min-count.result - a.from ≡ min per_block (length s) = omega (arith, length-drop a.from a.numbers.now) in
    c.list_block.ensures
    ∙ ap₂ (λ (k w : ℕ). list_block k w a.number (take (a.from + c.min-count.result - a.from) s)) c.word.ensures c.width.ensures.0
    ∙ ap (list_block (kind_word a.kind) (kind_width a.kind) a.number) (ap (λ (n : ℕ). take n s) e ∙ take_min per_block s)
