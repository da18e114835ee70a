-- `netfile::check_file` meets its contract: the parts of the two tables that are handed on are the file's two lists.
-- Assumes nothing.
use mathlib.Core.Path.{◌≡◌, refl, sym, ap, ap₂, ◌∙◌}
use mathlib.Core.List.{List}
use Prim.Native.Nat.{ℕ, ◌*◌, ◌-◌, ◌≤◌}
use native.Mathlib.Omega.{arith}
use lib.IntN.{ℤ, pos}
use lib.ListN.{length, take, replicate}
use Rattle.lists.proofs.TestLaws.{by}
use Rattle.plane.specs.declared.Weights.{Weights}
use Rattle.net.specs.Bounds.{pin_width}
use Rattle.blocks.specs.Sizes.{block_count, file_blocks, file_numbers, file_pins}
use Rattle.encoded.specs.Layout.{stored}
use Rattle.decoded.specs.Held.{loaded_in, pins_in, macros_in, pin_length, macro_length, Sized}
use Rattle.netfile.specs.Read.{laid_out}
use Rattle.blocks.proofs.SizeLaws.{fewer, pins-few, macros-few}
use Rattle.blocks.proofs.FillLaws.{part-of-over, over-long}
use Rattle.decoded.proofs.ReadLaws.{blocks-few}
use Rattle.decoded.proofs.HeldLaws.{length-pins-in, long-with, long-alone, length-macros-in}
use Rattle.netfile.proofs.AnswerLaws.{stored-within}
use borrow.Author.Rules.{rules}
use Rattle.netfile.proofs.check_file.Statement.{statement}
use Rattle.netfile.proofs.check_file.Tie as tie

-- the two tables
abbrev pin_zeros : List ℤ
pin_zeros = replicate file_pins (pos 0)

abbrev zeros : List ℤ
zeros = replicate file_numbers (pos 0)

-- the pins of a file fit into the first
fits-table : (bytes : List ℕ) → Sized bytes (pin_length bytes) (macro_length bytes) → length (pins_in bytes) ≤ file_pins
fits-table bytes sized =
    let few = pins-few _ _ (blocks-few bytes _ _ sized) in
    by (loaded_in bytes)
    (λ e. omega (arith, length-pins-in bytes, long-with bytes e, few))
    (λ e. omega (arith, length-pins-in bytes, long-alone bytes e, few))

-- and their file into the longest
stored-blocks : (bytes : List ℕ) → block_count (pin_length bytes) (macro_length bytes) ≤ file_blocks
    → block_count (length (stored (pins_in bytes)).numbers) (macro_length bytes) ≤ file_blocks
stored-blocks bytes few = omega (arith, fewer _ _ (stored-within bytes))

-- the tables after the lists were taken: as long as they were, and the lists stand at their beginnings
module _ (t : tie.After-take_lists) where
  abbrev bytes : List ℕ
  bytes = t.args.bytes.now

  sized : Sized bytes (pin_length bytes) (macro_length bytes)
  sized = t.requires.0

  few : block_count (pin_length bytes) (macro_length bytes) ≤ file_blocks
  few = blocks-few bytes _ _ sized

  pins-fit : length (pins_in bytes) ≤ file_pins
  pins-fit = fits-table bytes sized

  pins-long : length t.take_lists.new.pins ≡ file_pins
  pins-long = over-long _ _ pin_zeros file_pins t.take_lists.ensures.0 pins-fit refl

  macros-long : length t.take_lists.new.macros ≡ file_numbers
  macros-long =
      over-long _ _ zeros file_numbers t.take_lists.ensures.1 (omega (arith, length-macros-in bytes, macros-few _ _ few)) refl

  pins-counted : length (pins_in bytes) ≡ t.head_word-n.result * pin_width
  pins-counted = length-pins-in bytes ∙ ap (λ (n : ℕ). n * pin_width) (sym t.head_word-n.ensures.0)

  pins-part : take (t.head_word-n.result * pin_width - 0) t.take_lists.new.pins ≡ pins_in bytes
  pins-part = part-of-over _ _ pin_zeros _ t.take_lists.ensures.0 pins-counted

  macros-part : take (t.macro_length-k.result - 0) t.take_lists.new.macros ≡ macros_in bytes
  macros-part =
      part-of-over _ _ zeros _ t.take_lists.ensures.1
      (length-macros-in bytes ∙ sym t.macro_length-k.ensures)

weights-in-requires : tie.Need-weights_in-w-requires
weights-in-requires c κs = (omega (arith, c.requires.0.fit), c.requires.1)

take-lists-requires : tie.Need-take_lists-requires
take-lists-requires c κs =
    let s = c in
    (s.requires.0, (fits-table s.args.bytes.now s.requires.0, macros-few _ _ (blocks-few _ _ _ s.requires.0)))

part-check-lists-end : tie.Need-slice_bounds-check_lists-end
part-check-lists-end c =
    let t = c.before.before in
    omega (arith, pins-fit t, pins-counted t, pins-long t)

part-check-lists-end-2 : tie.Need-slice_bounds-check_lists-end-2
part-check-lists-end-2 c =
    let t = c.before.before.before in
    omega (arith, macros-few _ _ (few t), macros-long t)

check-lists-requires : tie.Need-check_lists-requires
check-lists-requires c κs =
    let t = c.before.before.before.before in
    rw (pins-part t, ap length (macros-part t) ∙ length-macros-in _) (stored-blocks (bytes t) (few t))

returns : tie.Need-returns
returns c =
    let t = c.before.before.before.before.before in
    c.check_lists.ensures
    ∙ ap₂ (laid_out (bytes t) _) (pins-part t) (macros-part t)
    ∙ ap (λ (w : Weights). laid_out (bytes t) w (pins_in (bytes t)) (macros_in (bytes t)))
    t.weights_in-w.ensures

pub check_file_spec : {M : Type 1} → statement M
check_file_spec =
    tie.close
    (tie.spec
    weights-in-requires (λ c κs. search rules) (λ c. search rules) (λ c κs. search rules) (λ c. search rules)
    (λ c. search rules) take-lists-requires (λ c. search rules) (λ c. search rules) part-check-lists-end
    (λ c. search rules) (λ c. search rules) part-check-lists-end-2 check-lists-requires
    returns)
