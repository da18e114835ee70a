-- The answer of a read by its cases, each past the ones before it.
-- Assumes nothing.
use mathlib.Core.Path.{◌≡◌, refl, sym, ◌∙◌}
use mathlib.Core.Bool.{true, false}
use mathlib.Core.List.{List}
use Prim.Native.Nat.{ℕ, ◌≤◌}
use native.Mathlib.Omega.{arith}
use borrow.Author.Tests.{ltb-false}
use lib.IntN.{ℤ}
use lib.ListN.{length}
use Rattle.lists.proofs.TestLaws.{by, or-none}
use Rattle.lent.specs.Told.{Told, refused, given}
use Rattle.lent.specs.Over.{after}
use Rattle.lent.proofs.AfterLaws.{after-refused, told-apart}
use Rattle.plane.specs.declared.Weights.{Weights}
use Rattle.plane.specs.Flat.{places_of}
use Rattle.plane.proofs.FlatLaws.{length-places}
use Rattle.net.specs.declared.Net.{Net as Counts}
use Rattle.net.specs.Net.{handed}
use Rattle.net.specs.Bounds.{Bounds, today}
use Rattle.net.specs.Pins.{flat_pins}
use Rattle.net.proofs.PinLaws.{pin-numbers, pin-count-flat}
use Rattle.net.proofs.CountLaws.{pins-counted, macros-counted}
use Rattle.checks.specs.Check.{checked_within}
use Rattle.checks.proofs.PassedLaws.{passed-all}
use Rattle.blocks.specs.Sizes.{pin_list_bound, macro_list_bound}
use Rattle.encoded.specs.Layout.{stored, file_bytes}
use Rattle.encoded.specs.Same.{same_numbers}
use Rattle.decoded.specs.Held.{blocks_miscounted_within, sums_wrong, loaded_in, pin_length, macro_length, weights_in, stored_in, pins_in, macros_in}
use Rattle.decoded.specs.Held.{head_wrong}
use Rattle.netfile.specs.Read.{laid_out_within, answer_within, answer_in, room_short_within, room_short, read_file_within}
use Rattle.encoded.proofs.StoredLaws.{stored-alone, length-alone, stored-few, bare-unloaded}
use Rattle.decoded.proofs.HeldLaws.{in-with, in-alone, length-stored-in, length-macros-in, BlocksCounted, blocks-counted}

-- The lists of a file, and room for them

-- the pins of a file, stored, take no more numbers than the file has for them
pub stored-within : (bytes : List ℕ) → length (stored (pins_in bytes)).numbers ≤ pin_length bytes
stored-within bytes =
    by (loaded_in bytes)
    (λ e. rw (in-with bytes e) (omega (arith, stored-few (stored_in bytes), length-stored-in bytes)))
    (λ e.
    let ps = places_of (stored_in bytes) in
    rw (in-alone bytes e, stored-alone (flat_pins ps) (bare-unloaded ps))
    (omega (arith, length-alone (flat_pins ps), pin-count-flat ps, length-places (stored_in bytes), length-stored-in bytes)))

room-enough : (p q : ℕ) → room_short p q ≡ false → (pin_list_bound ≤ p) × (macro_list_bound ≤ q)
unfolding room_short_within
room-enough p q e =
    let r = or-none _ _ e in
    (ltb-false p pin_list_bound r.0, ltb-false q macro_list_bound r.1)

-- The answer

module _ (b : Bounds) (bytes : List ℕ) (w : Weights) (pins macros : List ℤ) where
  pub laid-out : same_numbers bytes (file_bytes w pins macros) ≡ true
      → laid_out_within b bytes w pins macros ≡ checked_within b (handed w) pins macros
  unfolding laid_out_within
  laid-out e = rw e refl

  pub laid-wrong : same_numbers bytes (file_bytes w pins macros) ≡ false → laid_out_within b bytes w pins macros ≡ refused 3
  unfolding laid_out_within
  laid-wrong e = rw e refl

  -- an accepted file is the one that the layout makes of its lists, and these are allowed
  pub laid_same : (net : Counts) → laid_out_within b bytes w pins macros ≡ given net
      → same_numbers bytes (file_bytes w pins macros) ≡ true
  laid_same net e = by (same_numbers bytes (file_bytes w pins macros)) (λ h. h) (λ h. told-apart 3 net (sym (laid-wrong h) ∙ e))

  pub laid-allowed : (net : Counts) → laid_out_within b bytes w pins macros ≡ given net
      → checked_within b (handed w) pins macros ≡ given net
  laid-allowed net e = sym (laid-out (laid_same net e)) ∙ e

-- the lists of an accepted file fit where the largest net does
pub lists-fit : (bytes : List ℕ) (p q : ℕ) (net : Counts) → answer_in bytes ≡ given net
    → room_short p q ≡ false → (length (pins_in bytes) ≤ p) × (macro_length bytes ≤ q)
lists-fit bytes p q net e f =
    let a = (passed-all _ (pins_in bytes) (macros_in bytes) net
    (laid-allowed today bytes (weights_in bytes) (pins_in bytes) (macros_in bytes) net e)).past.past.past.past.past.past.past in
    let m = pins-counted (pins_in bytes) a.past.passed in
    let k = macros-counted (macros_in bytes) a.passed in
    let r = room-enough p q f in (
      omega (arith, pin-numbers (pins_in bytes) m.whole, m.few, r.0),
      omega (arith, k.few, length-macros-in bytes, r.1),
    )

module _ (b : Bounds) (bytes : List ℕ) (p q : ℕ) where
  pub refuse-21 : room_short_within b p q ≡ true → read_file_within b bytes p q ≡ refused 21
  unfolding read_file_within
  refuse-21 e = rw e refl

  pub refuse-1 : room_short_within b p q ≡ false → blocks_miscounted_within b bytes ≡ true
      → read_file_within b bytes p q ≡ refused 1
  unfolding read_file_within
  refuse-1 r e = rw (r, e) refl

  pub refuse-2 : room_short_within b p q ≡ false → blocks_miscounted_within b bytes ≡ false → sums_wrong bytes ≡ true
      → read_file_within b bytes p q ≡ refused 2
  unfolding read_file_within
  refuse-2 r n e = rw (r, n, e) refl

  pub refuse-3 : room_short_within b p q ≡ false → blocks_miscounted_within b bytes ≡ false → sums_wrong bytes ≡ false
      → head_wrong bytes ≡ true → read_file_within b bytes p q ≡ refused 3
  unfolding read_file_within
  refuse-3 r n s e = rw (r, n, s, e) refl

  pub read-on : room_short_within b p q ≡ false → blocks_miscounted_within b bytes ≡ false → sums_wrong bytes ≡ false
      → head_wrong bytes ≡ false → read_file_within b bytes p q ≡ answer_within b bytes
  unfolding read_file_within
  read-on r n s e = rw (r, n, s, e) refl

-- what an accepted file has passed
pub record Passed (b : Bounds) (bytes : List ℕ) (net : Counts) : Type 0 where
  pub blocks : BlocksCounted b bytes
  pub sums : sums_wrong bytes ≡ false
  pub head : head_wrong bytes ≡ false
  pub same : same_numbers bytes (file_bytes (weights_in bytes) (pins_in bytes) (macros_in bytes)) ≡ true
  pub lists : checked_within b (handed (weights_in bytes)) (pins_in bytes) (macros_in bytes) ≡ given net

pub accepted-passed : {b : Bounds} (bytes : List ℕ) (p q : ℕ) (net : Counts) → read_file_within b bytes p q ≡ given net → Passed b bytes net
accepted-passed {b} bytes p q net e =
    by (room_short_within b p q) (λ t. told-apart 21 net (sym (refuse-21 b bytes p q t) ∙ e)) (λ r.
    by (blocks_miscounted_within b bytes) (λ t. told-apart 1 net (sym (refuse-1 b bytes p q r t) ∙ e)) (λ n.
    by (sums_wrong bytes) (λ t. told-apart 2 net (sym (refuse-2 b bytes p q r n t) ∙ e)) (λ s.
    by (head_wrong bytes) (λ t. told-apart 3 net (sym (refuse-3 b bytes p q r n s t) ∙ e)) (λ c.
    let l = sym (read-on b bytes p q r n s c) ∙ e in
    record {
      blocks = blocks-counted bytes n;
      sums = s;
      head = c;
      same = laid_same b bytes (weights_in bytes) (pins_in bytes) (macros_in bytes) net l;
      lists = laid-allowed b bytes (weights_in bytes) (pins_in bytes) (macros_in bytes) net l;
    }))))

-- a refusal's number, and both lent lists as they were
pub unaltered : (t : Told Counts) (ps ms p q : List ℤ) (n : ℕ) → t ≡ refused n → (refused n ≡ t)
    × ((p ≡ after t ps p) × (q ≡ after t ms q))
unaltered t ps ms p q n e = (sym e, (after-refused t ps p n e, after-refused t ms q n e))
