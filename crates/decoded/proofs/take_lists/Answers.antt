-- `decoded::take_lists` meets its contract: the numbers taken are those of the file's two lists.
-- Assumes nothing.
use Rattle.std.proofs.Common.{◌≡◌, ℕ, List, ℤ, ap, ◌∙◌, arith}
use Rattle.lent.specs.Over.{over}
use Rattle.blocks.specs.Sizes.{blocks_for}
use Rattle.decoded.specs.Held.{pin_length, macro_length, Sized}
use Rattle.blocks.proofs.SizeLaws.{pins-few}
use Rattle.decoded.proofs.ReadLaws.{blocks-few}
use Rattle.decoded.proofs.HeldLaws.{macros-taken}
use Rattle.decoded.proofs.take_lists.Goals as goal

-- the file's size by the lengths that were found
sized : (bytes : List ℕ) (n k : ℕ) → n ≡ pin_length bytes → k ≡ macro_length bytes
    → Sized bytes (pin_length bytes) (macro_length bytes) → Sized bytes n k
sized bytes n k e f h = rw (e, f) h

pub take_pins-requires : goal.take_pins-requires
take_pins-requires c =
    (omega (arith, c.requires.0.fit), (pins-few _ _ (blocks-few c.args.bytes.now _ _ c.requires.0), c.requires.1.0))

pub overflow_add-blocks_for : goal.overflow_add-blocks_for
overflow_add-blocks_for c =
    omega (arith, blocks-few c.args.bytes.now _ _ (sized _ _ _ c.pin_length-n.ensures c.macro_length-k.ensures c.requires.0))

pub take_numbers-requires : goal.take_numbers-requires
unfolding blocks_for
take_numbers-requires c =
    (omega (arith, (sized _ _ _ c.pin_length-n.ensures c.macro_length-k.ensures c.requires.0).fit), omega arith)

pub returns : goal.returns
returns c =
    record {
      pins = c.take_pins.ensures;
      macros =
          c.take_numbers.ensures
          ∙ ap (λ (l : List ℤ). over l c.args.macros.now)
          (macros-taken c.args.bytes.now _ _ _ c.pin_length-n.ensures c.macro_length-k.ensures c.blocks_for.ensures);
    }
