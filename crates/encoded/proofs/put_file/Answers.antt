-- `encoded::put_file` meets its contract: the pins are laid out as they are stored, with their loads or as places that are put into a table
-- of their own.
-- Assumes nothing.
use Rattle.std.proofs.Common.{◌≡◌, ℕ, ◌*◌, ◌≤◌, false, List, length, take, replicate, ℤ, pos, refl, sym, ap, ◌∙◌, arith}
use Rattle.lent.specs.Over.{over}
use Rattle.lent.specs.Entries.{flat}
use Rattle.plane.specs.Flat.{place_numbers}
use Rattle.net.specs.Pins.{pin_count, pin_places}
use Rattle.blocks.specs.Sizes.{place_width, pin_kind, block_count, file_blocks, file_numbers}
use Rattle.encoded.specs.Layout.{Stored, loaded, stored, laid_bytes}
use Rattle.blocks.proofs.SizeLaws.{pins-few}
use Rattle.blocks.proofs.FillLaws.{front-of-over, over-long}
use Rattle.encoded.proofs.StoredLaws.{stored-with, stored-alone, length-alone}
use Rattle.encoded.proofs.put_file.Goals as goal

-- With loads

pub put_lists-requires : goal.put_lists-requires
put_lists-requires c = rw (stored-with _ (sym c.are_loaded.ensures ∙ c.if-are_loaded.true)) at c.requires

pub returns-then-are_loaded : goal.returns-then-are_loaded
returns-then-are_loaded c =
    let a = c.args in
    c.put_lists.ensures
    ∙ ap (λ (s : Stored). over (laid_bytes a.w s a.macros.now) a.bytes.now)
    (sym (stored-with _ (sym c.are_loaded.ensures ∙ c.if-are_loaded.true)))

-- As places alone

module _ (pins macros : List ℤ) (bare : loaded pins ≡ false)
    (fit : block_count (length (stored pins).numbers) (length macros) ≤ file_blocks) where
  few : length (flat place_numbers (pin_places pins)) ≤ file_numbers
  few = pins-few _ (length macros) (rw (stored-alone pins bare) at fit)

  -- the table after the places were put there
  module _ (n : ℕ) (table : List ℤ) (count : n ≡ pin_count pins)
      (filled : table ≡ over (flat place_numbers (pin_places pins)) (replicate file_numbers (pos 0))) where
    count-is : n * place_width ≡ length (flat place_numbers (pin_places pins))
    count-is = ap (λ (k : ℕ). k * place_width) count ∙ sym (length-alone pins)

    end-within : n * place_width ≤ length table
    end-within = omega (arith, over-long _ _ (replicate file_numbers (pos 0)) file_numbers filled few refl, count-is, few)

    table-part : take (n * place_width) table ≡ flat place_numbers (pin_places pins)
    table-part = front-of-over _ _ (replicate file_numbers (pos 0)) _ filled (sym count-is)

pub overflow_mul-n : goal.overflow_mul-n
unfolding pin_count
overflow_mul-n c = omega (arith, c.pin_count-n.ensures)

pub put_places-requires : goal.put_places-requires
put_places-requires c = few _ c.args.macros.now (sym c.are_loaded.ensures ∙ c.if-are_loaded.false) c.requires.0

pub slice_bounds-places-end : goal.slice_bounds-places-end
slice_bounds-places-end c =
    end-within _ c.args.macros.now (sym c.are_loaded.ensures ∙ c.if-are_loaded.false) c.requires.0 _ _
    c.pin_count-n.ensures c.put_places.ensures

pub slice_bounds-put_lists-end : goal.slice_bounds-put_lists-end
slice_bounds-put_lists-end c =
    let e = sym c.are_loaded.ensures ∙ c.if-are_loaded.false in
    let m = c.args.macros.now in
    count-is _ m e c.requires.0 _ _ c.pin_count-n.ensures c.put_places.ensures
    ∙ sym (ap length (table-part _ m e c.requires.0 _ _ c.pin_count-n.ensures c.put_places.ensures))

pub put_lists-requires-2 : goal.put_lists-requires-2
put_lists-requires-2 c =
    let e = sym c.are_loaded.ensures ∙ c.if-are_loaded.false in
    rw (table-part _ c.args.macros.now e c.requires.0 _ _ c.pin_count-n.ensures c.put_places.ensures) (rw (stored-alone _ e) at c.requires)

pub returns : goal.returns
returns c =
    let a = c.args in
    let e = sym c.are_loaded.ensures ∙ c.if-are_loaded.false in
    let kept : List ℤ → Stored = λ (l : List ℤ). record { kind = pin_kind; width = place_width; numbers = l } in
    c.put_lists-2.ensures
    ∙ ap (λ (l : List ℤ). over (laid_bytes a.w (kept l) a.macros.now) a.bytes.now)
    (table-part _ a.macros.now e c.requires.0 _ _ c.pin_count-n.ensures c.put_places.ensures)
    ∙ ap (λ (s : Stored). over (laid_bytes a.w s a.macros.now) a.bytes.now) (sym (stored-alone _ e))
