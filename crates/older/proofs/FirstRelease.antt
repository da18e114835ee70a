-- Loads of 0 leave no trace in a file: its bytes are those of a net without loads. Nor do weights of 1: with both, they are those of the
-- first release, which knew neither.
-- Assumes nothing.
use mathlib.Core.Path.{◌≡◌, refl, sym, ap, ◌∙◌}
use mathlib.Core.Bool.{false}
use mathlib.Core.List.{List, ◌++◌}
use Prim.Native.Nat.{ℕ, ◌+◌, ◌/◌, ◌%◌}
use lib.IntN.{ℤ}
use lib.ListN.{length}
use Rattle.lent.specs.Over.{over}
use Rattle.lent.specs.Entries.{flat}
use Rattle.plane.specs.declared.Weights.{Weights}
use Rattle.plane.specs.Cost.{plain}
use Rattle.plane.specs.Flat.{places_of, place_numbers}
use Rattle.net.specs.Bounds.{macro_width}
use Rattle.net.specs.declared.Weighing.{Weighing}
use Rattle.net.specs.Net.{plainly, weights_of}
use Rattle.net.specs.Pins.{pin_places, flat_pins, macro_count}
use Rattle.net.proofs.PinLaws.{pins-flat}
use Rattle.net.proofs.HandedLaws.{weights-handed}
use Rattle.checks.specs.Check.{checked}
use Rattle.blocks.specs.Sizes.{pin_kind, macro_kind, place_width, blocks_for}
use Rattle.blocks.specs.Words.{bytes_of, weight_word}
use Rattle.blocks.specs.Block.{block, head_block}
use Rattle.encoded.specs.Layout.{all_blocks, Stored, loaded, file_words, laid_bytes, file_bytes}
use Rattle.decoded.specs.Held.{weights_in, pins_in, macros_in}
use Rattle.netfile.specs.Read.{room_short, read_file}
use Rattle.older.specs.FirstRelease.{unloaded_file, first_head, first_file}
use Rattle.encoded.proofs.StoredLaws.{stored-alone, bare-unloaded, numbers-back}
use Rattle.netfile.proofs.RoundTrip.{Storable, read-laid}

-- Without loads

-- with all loads 0 the file is that of the places alone, byte for byte, whatever the weights
pub unloaded-file : (w : Weights) (pins macros : List ℤ) → loaded pins ≡ false
    → file_bytes w pins macros ≡ unloaded_file w (flat place_numbers (pin_places pins)) macros
unloaded-file w pins macros e = ap (λ (k : Stored). laid_bytes w k macros) (stored-alone pins e)

-- what a file from before there were loads reads as: the same weights, the same lists with loads of 0, and the answer of their check
pub record ReadAsBefore (w : Weighing) (places macros : List ℤ) : Type 0 where
  pub weights-back : weights_in (unloaded_file (weights_of w) places macros) ≡ weights_of w
  pub pins-back : pins_in (unloaded_file (weights_of w) places macros) ≡ flat_pins (places_of places)
  pub macros-back : macros_in (unloaded_file (weights_of w) places macros) ≡ macros
  pub answer : (p q : ℕ) → room_short p q ≡ false
      → read_file (unloaded_file (weights_of w) places macros) p q ≡ checked w (flat_pins (places_of places)) macros

pub unloaded-read : (w : Weighing) (places macros : List ℤ) → length places % place_width ≡ 0
    → Storable w (flat_pins (places_of places)) macros → ReadAsBefore w places macros
unloaded-read w places macros whole lists =
    let ps = places_of places in
    let pins = flat_pins ps in
    let same : flat place_numbers (pin_places pins) ≡ places = ap (flat place_numbers) (pins-flat ps) ∙ numbers-back places whole in
    let file : unloaded_file (weights_of w) places macros ≡ file_bytes (weights_of w) pins macros =
    ap (λ (l : List ℤ). unloaded_file (weights_of w) l macros) (sym same) ∙ sym (unloaded-file (weights_of w) pins macros (bare-unloaded ps))
    in
    let back = read-laid w pins macros lists in
    record {
      weights-back = ap weights_in file ∙ back.weights-back;
      pins-back = ap pins_in file ∙ back.pins-back;
      macros-back = ap macros_in file ∙ back.macros-back;
      answer = λ p q room. ap (λ (bytes : List ℕ). read_file bytes p q) file ∙ back.answer p q room;
    }

-- Without weights too

pub plain-head : (m k : ℕ) → head_block m k plain ≡ first_head m k
unfolding over weight_word block head_block
plain-head m k = refl

unloaded-plain : (places macros : List ℤ) → unloaded_file plain places macros ≡ first_file places macros
unfolding file_words laid_bytes
unloaded-plain places macros =
    ap
    (λ (head : List ℕ). bytes_of (head
    ++ (all_blocks pin_kind place_width 1 places ++ all_blocks macro_kind macro_width (1 + blocks_for (length places)) macros)))
    (plain-head (length places / place_width) (macro_count macros))

-- with both weights 1 and all loads 0 the file is the first release's of their places, byte for byte
pub plain-file : (pins macros : List ℤ) → loaded pins ≡ false
    → file_bytes plain pins macros ≡ first_file (flat place_numbers (pin_places pins)) macros
plain-file pins macros e = unloaded-file plain pins macros e ∙ unloaded-plain (flat place_numbers (pin_places pins)) macros

-- and its files, of whole places, read as before, with weights of 1 and loads of 0
pub first_read : (places macros : List ℤ) → length places % place_width ≡ 0 → Storable plainly (flat_pins (places_of places)) macros
    → (p q : ℕ) → room_short p q ≡ false → read_file (first_file places macros) p q ≡ checked plainly (flat_pins (places_of places)) macros
first_read places macros whole lists p q room =
    ap (λ (bytes : List ℕ). read_file bytes p q)
    (sym (unloaded-plain places macros) ∙ ap (λ (w : Weights). unloaded_file w places macros) (sym (weights-handed plain)))
    ∙ (unloaded-read plainly places macros whole lists).answer p q room
