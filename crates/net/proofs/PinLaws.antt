-- Pins by number: all that crates above need of `pin_count`, `pin_places`, `pin_at` and of loads, so that none has to know how many numbers a
-- pin has.
-- Assumes nothing.
use mathlib.Core.Path.{◌≡◌, refl, sym, ap, ◌∙◌}
use mathlib.Core.List.{List, [], ◌∷◌, map}
use Prim.Native.Nat.{ℕ, ◌+◌, ◌*◌, ◌/◌, ◌%◌, ◌≤◌, ◌<◌}
use native.Mathlib.Omega.{arith}
use lib.IntN.{ℤ, pos}
use lib.ListN.{length, drop, get_or}
use lib.Seq.{drop-cons}
use Rattle.plane.specs.declared.Place.{Place}
use Rattle.lists.proofs.EntryLaws.{threes-next, threes-end, length-threes}
use Rattle.plane.specs.Place.{place}
use Rattle.net.specs.Bounds.{pin_width, macro_width}
use Rattle.net.specs.Pins.{pin_count, pin_places, pin_at, pin_loads, load_at, pin_entries, flat_pins, macro_count}

module _ (pins : List ℤ) where
  -- as many places as pins
  pub length-pins : length (pin_places pins) ≡ pin_count pins
  unfolding pin_count pin_places
  length-pins = length-threes _ pins

  -- a scan: the next pin, and the end
  pub pins-next : (i : ℕ) → i < pin_count pins → drop i (pin_places pins) ≡ pin_at pins i ∷ drop (i + 1) (pin_places pins)
  unfolding pin_count pin_places
  pins-next i h = threes-next (pos 0) (λ x y load. place x y) pins i (omega arith)

  pub pins-end : (i : ℕ) → pin_count pins ≤ i → drop i (pin_places pins) ≡ []
  unfolding pin_count pin_places
  pins-end i h = threes-end (pos 0) (λ x y load. place x y) pins i (omega arith)

  -- and of loads
  pub loads-next : (i : ℕ) → i < pin_count pins → drop i (pin_loads pins) ≡ load_at pins i ∷ drop (i + 1) (pin_loads pins)
  unfolding pin_count pin_loads
  loads-next i h = threes-next (pos 0) (λ x y load. load) pins i (omega arith)

  pub loads-end : (i : ℕ) → pin_count pins ≤ i → drop i (pin_loads pins) ≡ []
  unfolding pin_count pin_loads
  loads-end i h = threes-end (pos 0) (λ x y load. load) pins i (omega arith)

  -- and of both together
  pub entries_next : (i : ℕ) → i < pin_count pins → drop i (pin_entries pins) ≡ (pin_at pins i, load_at pins i) ∷ drop (i + 1) (pin_entries pins)
  unfolding pin_count pin_entries
  entries_next i h = threes-next (pos 0) (λ x y load. (place x y, load)) pins i (omega arith)

  pub entries-end : (i : ℕ) → pin_count pins ≤ i → drop i (pin_entries pins) ≡ []
  unfolding pin_count pin_entries
  entries-end i h = threes-end (pos 0) (λ x y load. (place x y, load)) pins i (omega arith)

  -- the i-th, whatever stands past the end
  pub pin-is : (i : ℕ) (past : Place) → i < pin_count pins → get_or (pin_places pins) i past ≡ pin_at pins i
  pin-is i past h = ap (λ (l : List Place). get_or l 0 past) (sym (drop-cons (pin_places pins) i past (rw length-pins h)) ∙ pins-next i h)

  -- the numbers of a list of whole pins
  pub pin-numbers : length pins % pin_width ≡ 0 → pin_count pins * pin_width ≡ length pins
  unfolding pin_count
  pin-numbers e = omega arith

  -- a pin's numbers are in the list
  pub pin-within : (i : ℕ) → i < pin_count pins → i * pin_width + pin_width ≤ length pins
  unfolding pin_count
  pin-within i h = omega arith

-- lists of one length hold equally many pins
pub same-pins : (pins pins' : List ℤ) → length pins ≡ length pins' → pin_count pins ≡ pin_count pins'
unfolding pin_count
same-pins pins pins' e = ap (λ (n : ℕ). n / pin_width) e

pub macro-numbers : (macros : List ℤ) → length macros % macro_width ≡ 0 → macro_count macros * macro_width ≡ length macros
macro-numbers macros e = omega arith

-- places and loads are the parts of the entries
pub entry-places : (pins : List ℤ) → map (λ (e : Place × ℤ). e.0) (pin_entries pins) ≡ pin_places pins
unfolding pin_entries pin_places
entry-places [] = refl
entry-places (x ∷ []) = refl
entry-places (x ∷ (y ∷ [])) = refl
entry-places (x ∷ (y ∷ (load ∷ s))) = ap (λ (l : List Place). place x y ∷ l) (entry-places s)

pub entry-loads : (pins : List ℤ) → map (λ (e : Place × ℤ). e.1) (pin_entries pins) ≡ pin_loads pins
unfolding pin_entries pin_loads
entry-loads [] = refl
entry-loads (x ∷ []) = refl
entry-loads (x ∷ (y ∷ [])) = refl
entry-loads (x ∷ (y ∷ (load ∷ s))) = ap (λ (l : List ℤ). load ∷ l) (entry-loads s)

-- a flat list of places read back
pub pins-flat : (ps : List Place) → pin_places (flat_pins ps) ≡ ps
unfolding pin_places flat_pins
pins-flat [] = refl
pins-flat (p ∷ ps) = ap (λ (l : List Place). p ∷ l) (pins-flat ps)

pub length-flat-pins : (ps : List Place) → length (flat_pins ps) ≡ length ps * pin_width
unfolding flat_pins
length-flat-pins [] = refl
length-flat-pins (p ∷ ps) = omega (arith, length-flat-pins ps)

module _ (ps : List Place) where
  pub pin-count-flat : pin_count (flat_pins ps) ≡ length ps
  pin-count-flat = sym (length-pins (flat_pins ps)) ∙ ap length (pins-flat ps)
