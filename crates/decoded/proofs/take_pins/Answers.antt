-- `decoded::take_pins` meets its contract: the numbers that are stored are the pins, or the places of pins without loads.
-- Assumes nothing.
use Rattle.std.proofs.Common.{◌≡◌, ℕ, ◌+◌, ◌*◌, ◌≤◌, List, length, take, replicate, ℤ, pos, sym, ap, ◌∙◌, arith}
use Rattle.lent.specs.Over.{over}
use Rattle.plane.specs.Flat.{places_of}
use Rattle.net.specs.Pins.{flat_pins}
use Rattle.blocks.specs.Sizes.{block_bytes, blocks_for, file_numbers}
use Rattle.decoded.specs.Held.{pin_length, numbers_in, stored_in}
use Rattle.blocks.proofs.FillLaws.{front-of-over}
use Rattle.decoded.proofs.HeldLaws.{in-with, in-alone, length-stored-in, stored-taken}
use Rattle.decoded.proofs.take_pins.Goals as goal

-- With loads

-- the blocks of other counts would be known here too: a wrong count is refused by the return, for what it gives
pub take_numbers-requires : goal.take_numbers-requires
unfolding blocks_for
take_numbers-requires c =
    let b = c.args.bytes.now in
    let there : (1 + blocks_for c.pin_length-n.result) * block_bytes ≤ length b = rw c.pin_length-n.ensures c.requires.0 in
    let with-is = in-with b (sym c.are_loaded_in.ensures ∙ c.if-are_loaded_in.true) in
    (omega (arith, there), omega (arith, c.requires.1.1, ap length with-is, length-stored-in b, c.pin_length-n.ensures))

pub returns-then-are_loaded_in : goal.returns-then-are_loaded_in
returns-then-are_loaded_in c =
    let b = c.args.bytes.now in
    c.take_numbers.ensures
    ∙ ap (λ (l : List ℤ). over l c.args.pins.now)
    (stored-taken b _ c.pin_length-n.ensures ∙ sym (in-with b (sym c.are_loaded_in.ensures ∙ c.if-are_loaded_in.true)))

-- As places alone

-- what the table then begins with
table-part : (bytes : List ℕ) (n : ℕ) (table : List ℤ) → n ≡ pin_length bytes
    → table ≡ over (numbers_in bytes 1 0 n) (replicate file_numbers (pos 0)) → take n table ≡ stored_in bytes
table-part bytes n table e f =
    front-of-over (stored_in bytes) table (replicate file_numbers (pos 0)) n
    (f ∙ ap (λ (l : List ℤ). over l (replicate file_numbers (pos 0))) (stored-taken bytes n e)) (length-stored-in bytes ∙ sym e)

pub put_bare-requires : goal.put_bare-requires
put_bare-requires c =
    let b = c.args.bytes.now in
    rw (
      ap (λ (l : List ℤ). length (flat_pins (places_of l)))
          (table-part b _ _ c.pin_length-n.ensures c.take_numbers-else-are_loaded_in.ensures),
      sym (ap length (in-alone b (sym c.are_loaded_in.ensures ∙ c.if-are_loaded_in.false))),
    )
    c.requires.1.1

pub returns-else-are_loaded_in : goal.returns-else-are_loaded_in
returns-else-are_loaded_in c =
    let b = c.args.bytes.now in
    c.put_bare.ensures
    ∙ ap (λ (l : List ℤ). over (flat_pins (places_of l)) c.args.pins.now)
    (table-part b _ _ c.pin_length-n.ensures c.take_numbers-else-are_loaded_in.ensures)
    ∙ ap (λ (l : List ℤ). over l c.args.pins.now) (sym (in-alone b (sym c.are_loaded_in.ensures ∙ c.if-are_loaded_in.false)))
