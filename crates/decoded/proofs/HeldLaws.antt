-- What a file holds, in the code's terms: its pins of both kinds, its lists, and what the tests of its blocks and of its head say.
-- Assumes nothing.
use mathlib.Core.Path.{◌≡◌, refl, ap, ap₂, ◌∙◌}
use mathlib.Core.Bool.{true, false}
use mathlib.Core.List.{List}
use Prim.Native.Nat.{ℕ, ◌+◌, ◌/◌, ◌%◌, ◌≤◌, ◌*◌}
use native.Mathlib.Omega.{arith}
use borrow.Author.Tests.{eqb-true, eqb-false, eq-eqb, ne_eqb, le-ltb, ltb-false, not-false}
use lib.ListN.{length}
use Rattle.lists.proofs.TestLaws.{by, or-none}
use Rattle.plane.specs.declared.Weights.{Weights}
use Rattle.plane.specs.Flat.{places_of}
use Rattle.plane.proofs.FlatLaws.{length-places}
use Rattle.net.specs.Bounds.{Bounds, today, weight_bound, pin_width}
use Rattle.net.specs.Pins.{flat_pins}
use Rattle.net.proofs.PinLaws.{length-flat-pins}
use Rattle.blocks.specs.Sizes.{block_bytes, pin_count_word, first_weight_word, second_weight_word, place_width, blocks_for, file_blocks_within}
use Rattle.decoded.specs.Held.{blocks_miscounted_within, head_word, loaded_in, pin_length, macro_length, numbers_in, stored_in, pins_in}
use Rattle.decoded.specs.Held.{macros_in, counts_wrong, weights_miswritten, head_wrong, Sized}
use Rattle.decoded.proofs.ReadLaws.{length-numbers}

-- The weights of a file

abbrev pub two_weights : ℕ → ℕ → Weights
two_weights a b = record { across = a; along = b }

-- The pins of a file

module _ (bytes : List ℕ) where
  pub in-with : loaded_in bytes ≡ true → pins_in bytes ≡ stored_in bytes
  unfolding pins_in
  in-with e = rw e refl

  pub in-alone : loaded_in bytes ≡ false → pins_in bytes ≡ flat_pins (places_of (stored_in bytes))
  unfolding pins_in
  in-alone e = rw e refl

  pub long-with : loaded_in bytes ≡ true → pin_length bytes ≡ head_word pin_count_word bytes * pin_width
  unfolding pin_length
  long-with e = rw e refl

  pub long-alone : loaded_in bytes ≡ false → pin_length bytes ≡ head_word pin_count_word bytes * place_width
  unfolding pin_length
  long-alone e = rw e refl

  pub length-stored-in : length (stored_in bytes) ≡ pin_length bytes
  unfolding stored_in
  length-stored-in = length-numbers bytes 1 0 (pin_length bytes)

  length-bare-in : length (flat_pins (places_of (stored_in bytes))) ≡ pin_length bytes / place_width * pin_width
  length-bare-in =
      length-flat-pins (places_of (stored_in bytes))
      ∙ ap (λ (n : ℕ). n * pin_width) (length-places (stored_in bytes) ∙ ap (λ (n : ℕ). n / place_width) length-stored-in)

  -- three numbers for each pin that the head counts
  pub length-pins-in : length (pins_in bytes) ≡ head_word pin_count_word bytes * pin_width
  length-pins-in =
      by (loaded_in bytes)
      (λ e. ap length (in-with e) ∙ length-stored-in ∙ long-with e)
      (λ e. ap length (in-alone e) ∙ length-bare-in ∙ omega (arith, long-alone e))

-- The lists of a file

pub stored-taken : (bytes : List ℕ) (n : ℕ) → n ≡ pin_length bytes → numbers_in bytes 1 0 n ≡ stored_in bytes
unfolding stored_in
stored-taken bytes n e = ap (numbers_in bytes 1 0) e

pub macros-taken : (bytes : List ℕ) (n k b : ℕ) → n ≡ pin_length bytes → k ≡ macro_length bytes → b ≡ blocks_for n
    → numbers_in bytes (1 + b) 0 k ≡ macros_in bytes
unfolding macros_in
macros-taken bytes n k b e f g = ap₂ (λ (i j : ℕ). numbers_in bytes (1 + i) 0 j) (g ∙ ap blocks_for e) f

pub length-macros-in : (bytes : List ℕ) → length (macros_in bytes) ≡ macro_length bytes
unfolding macros_in
length-macros-in bytes = length-numbers bytes _ 0 (macro_length bytes)

-- Tests passed

-- whole blocks, from one to those of the longest file
pub record BlocksCounted (b : Bounds) (bytes : List ℕ) : Type 0 where
  pub whole : length bytes % block_bytes ≡ 0
  pub some : 1 ≤ length bytes / block_bytes
  pub few : length bytes / block_bytes ≤ file_blocks_within b

pub blocks-counted : {b : Bounds} (bytes : List ℕ) → blocks_miscounted_within b bytes ≡ false → BlocksCounted b bytes
unfolding blocks_miscounted_within
blocks-counted {b} bytes e =
    let r = or-none _ _ e in
    let s = or-none _ _ r.1 in
    let n : length bytes / block_bytes ≡ 0 → ⊥ = eqb-false (length bytes / block_bytes) 0 s.0 in
    record {
      whole = eqb-true (length bytes % block_bytes) 0 (not-false _ r.0);
      some = omega (arith, n);
      few = ltb-false (file_blocks_within b) (length bytes / block_bytes) s.1;
    }

-- and the other way, within any bounds that allow as many
pub blocks-pass : (b c : Bounds) (bytes : List ℕ) → BlocksCounted c bytes → length bytes / block_bytes ≤ file_blocks_within b
    → blocks_miscounted_within b bytes ≡ false
unfolding blocks_miscounted_within
blocks-pass b c bytes n h =
    let some : length bytes / block_bytes ≡ 0 → ⊥ = λ e. omega (arith, n.some, e) in
    rw (eq-eqb _ 0 n.whole, ne_eqb _ 0 some, le-ltb (file_blocks_within b) _ h) refl

pub sized-by-head : (bytes : List ℕ) → BlocksCounted today bytes → counts_wrong bytes ≡ false → Sized bytes (pin_length bytes)
    (macro_length bytes)
unfolding counts_wrong
sized-by-head bytes b e =
    let n = eqb-true (length bytes / block_bytes) _ (not-false _ e) in
    record { few = omega (arith, b.whole, b.few); fit = omega (arith, b.whole, n) }

-- C3: a head that is right has right counts and right weights
pub head-right : (bytes : List ℕ) → head_wrong bytes ≡ false → (counts_wrong bytes ≡ false) × (weights_miswritten bytes ≡ false)
unfolding head_wrong
head-right bytes e = or-none (counts_wrong bytes) (weights_miswritten bytes) e

-- each word that stands for a weight is at most the greatest
pub weight-words : (bytes : List ℕ) → weights_miswritten bytes ≡ false
    → (head_word first_weight_word bytes ≤ weight_bound) × (head_word second_weight_word bytes ≤ weight_bound)
unfolding weights_miswritten
weight-words bytes e =
    let r = or-none _ _ e in
    (ltb-false weight_bound (head_word first_weight_word bytes) r.0, ltb-false weight_bound (head_word second_weight_word bytes) r.1)
