-- Pins as they are stored: how many numbers that takes, and that pins whose loads are all 0 are their places.
-- Assumes nothing.
use mathlib.Core.Path.{◌≡◌, refl, sym, ap, ap₂, ◌∙◌}
use mathlib.Core.Bool.{true, false, not}
use mathlib.Core.List.{List, [], ◌∷◌}
use Prim.Native.Nat.{ℕ, suc, ◌*◌, ◌-◌, ◌%◌, ◌≤◌, ◌<◌}
use native.Mathlib.Omega.{arith}
use Rattle.std.proofs.Common.{◌≢◌, eqb, eqb-true, ne_eqb, lt-ltb, le-ltb, w32, SFits, of_z, negsuc}
use Rattle.std.proofs.lemmas.Bool.{eqb-false}
use lib.IntN.{ℤ, pos}
use lib.Signed.{lt_z}
use lib.ListN.{length}
use Rattle.lists.specs.Any.{any}
use Rattle.lists.proofs.TestLaws.{by, differ, or-none}
use Rattle.signed.proofs.SideLaws.{signed, z_lt-false, eq_of, up_pos, down_pos}
use Rattle.lent.specs.Entries.{flat}
use Rattle.lent.proofs.EntryTable.{length-flat}
use Rattle.plane.specs.declared.Place.{Place}
use Rattle.plane.specs.Flat.{places_of, place_from, place_numbers}
use Rattle.net.specs.Bounds.{pin_width}
use Rattle.net.specs.Pins.{pin_count, pin_places, pin_loads, flat_pins}
use Rattle.net.proofs.WidthLaws.{place-width}
use Rattle.net.proofs.PinLaws.{length-pins}
use Rattle.blocks.specs.Sizes.{place_width}
use Rattle.encoded.specs.Layout.{Stored, is_load, loaded, with_loads, places_alone, stored}

-- The two kinds

module _ (pins : List ℤ) where
  pub stored-with : loaded pins ≡ true → stored pins ≡ with_loads pins
  unfolding stored
  stored-with e = rw e refl

  pub stored-alone : loaded pins ≡ false → stored pins ≡ places_alone pins
  unfolding stored
  stored-alone e = rw e refl

  -- a fact of both kinds is one of what is stored
  pub either-kind {ℓ} : (P : Stored → Type ℓ) → (loaded pins ≡ true → P (with_loads pins)) → (loaded pins ≡ false → P (places_alone pins))
      → P (stored pins)
  either-kind P f g = by (loaded pins) (λ e. rw (stored-with e) (f e)) (λ e. rw (stored-alone e) (g e))

  pub length-alone : length (flat place_numbers (pin_places pins)) ≡ pin_count pins * place_width
  length-alone = length-flat place_numbers place_from 2 place-width (pin_places pins) ∙ ap (λ (n : ℕ). n * place_width) (length-pins pins)

  -- no more numbers are stored than the list has
  pub stored-few : length (stored pins).numbers ≤ length pins
  unfolding pin_count
  stored-few = either-kind (λ s. length s.numbers ≤ length pins) (λ e. omega arith) (λ e. omega (arith, length-alone))

  -- blocks have a kind
  pub kind-small : (stored pins).kind < 4294967296
  kind-small = either-kind (λ s. s.kind < 4294967296) (λ e. omega arith) (λ e. omega arith)

-- Without loads

-- any number but 0 is a load
pub load_is : (z : ℤ) → SFits w32 z → not (eqb (of_z w32 z) 0) ≡ is_load z
unfolding is_load
load_is (pos n) f =
    by (eqb n 0)
    (λ e. let h : n ≡ 0 = eqb-true n 0 e in rw h refl)
    (λ e. let h : n ≢ 0 = eqb-false n 0 e in rw (e, le-ltb n 0 (omega arith), lt-ltb 0 n (omega arith)) refl)
load_is (negsuc n) f = let h : 4294967296 - suc n ≢ 0 = omega (arith, f.sfits) in rw (ne_eqb _ 0 h) refl

no-load : (z : ℤ) → is_load z ≡ false → z ≡ pos 0
unfolding is_load
no-load z e =
    let r = or-none (lt_z z (pos 0)) (lt_z (pos 0) z) e in
    eq_of z (pos 0) (omega (signed, z_lt-false z (pos 0) r.0, z_lt-false (pos 0) z r.1, up_pos 0, down_pos 0))

-- pins whose loads are all 0 are their places
pub bare-pins : (pins : List ℤ) → length pins % pin_width ≡ 0 → loaded pins ≡ false → flat_pins (pin_places pins) ≡ pins
unfolding any pin_loads loaded flat_pins pin_places
bare-pins [] h e = refl
bare-pins (x ∷ []) h e = absurd (let f : ⊥ = omega arith in f)
bare-pins (x ∷ (y ∷ [])) h e = absurd (let f : ⊥ = omega arith in f)
bare-pins (x ∷ (y ∷ (load ∷ s))) h e =
    let r = or-none (is_load load) (any is_load (pin_loads s)) e in
    ap₂ (λ (z : ℤ) (l : List ℤ). x ∷ (y ∷ (z ∷ l))) (sym (no-load load r.0)) (bare-pins s (omega arith) r.1)

pub bare-unloaded : (ps : List Place) → loaded (flat_pins ps) ≡ false
unfolding any is_load pin_loads loaded flat_pins
bare-unloaded [] = refl
bare-unloaded (p ∷ ps) = bare-unloaded ps

-- places read back from their numbers, and numbers from their places
pub places-back : (ps : List Place) → places_of (flat place_numbers ps) ≡ ps
unfolding places_of flat
places-back [] = refl
places-back (p ∷ ps) = ap (λ (l : List Place). p ∷ l) (places-back ps)

pub numbers-back : (s : List ℤ) → length s % place_width ≡ 0 → flat place_numbers (places_of s) ≡ s
unfolding places_of flat
numbers-back [] h = refl
numbers-back (x ∷ []) h = absurd (let f : ⊥ = omega arith in f)
numbers-back (x ∷ (y ∷ s)) h = ap (λ (l : List ℤ). x ∷ (y ∷ l)) (numbers-back s (omega arith))

-- some pin has a load only where there is one
pub loaded-some : (pins : List ℤ) → loaded pins ≡ true → 1 ≤ length pins
unfolding any pin_loads loaded
loaded-some [] e = differ e refl
loaded-some (x ∷ s) e = omega arith
