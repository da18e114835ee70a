-- Places and pins are read back as they were written: two numbers a place, three a pin.
-- Assumes nothing.
use mathlib.Core.Path.{◌≡◌, refl, sym, ap, ap₂, ◌∙◌}
use mathlib.Core.List.{List, [], ◌∷◌, ◌++◌}
use Prim.Native.Nat.{ℕ, suc, ◌+◌, ◌≤◌, ◌<◌}
use native.Mathlib.Omega.{arith}
use lib.IntN.{ℤ, pos}
use lib.ListN.{length, get_or, take, drop}
use lib.Seq.{get_or-append-add, get_or-append_seam, drop-cons}
use Rattle.lent.specs.Entries.{Width}
use Rattle.plane.specs.declared.Place.{Place}
use Rattle.plane.specs.Place.{place}
use Rattle.plane.specs.Flat.{place_from, place_numbers}
use Rattle.net.specs.Bounds.{pin_width}
use Rattle.net.specs.Pins.{pin_from, pin_numbers}

-- the numbers from the k-th on
from_next : (s : List ℤ) (k j : ℕ) → j ≡ suc k → k < length s → drop k s ≡ get_or s k (pos 0) ∷ drop j s
from_next s k j e h = rw e (drop-cons s k (pos 0) h)

pub two_from : (s : List ℤ) (k : ℕ) → k + 2 ≤ length s → drop k s ≡ get_or s k (pos 0) ∷ (get_or s (k + 1) (pos 0) ∷ drop (k + 2) s)
two_from s k h =
    from_next s k (k + 1) (omega arith) (omega arith)
    ∙ ap (λ (l : List ℤ). get_or s k (pos 0) ∷ l) (from_next s (k + 1) (k + 2) (omega arith) (omega arith))

pub place-back : (s : List ℤ) (p : Place) (t : List ℤ) → place_from (s ++ (place_numbers p ++ t)) (length s) ≡ p
place-back s p t = ap₂ place (get_or-append_seam s p.x (p.y ∷ t) (pos 0)) (get_or-append-add s (p.x ∷ (p.y ∷ t)) 1 (pos 0))

pub place-width : Width place_numbers place_from 2
place-width = record {
  each = λ p. refl;
  back = place-back;
  forth = λ s k h. sym (ap (take 2) (two_from s k h));
}

pin-back : (s : List ℤ) (e : Place × ℤ) (t : List ℤ) → pin_from (s ++ (pin_numbers e ++ t)) (length s) ≡ e
pin-back s e t =
    ap₂ (λ (p : Place) (z : ℤ). (p, z)) (place-back s e.0 (e.1 ∷ t))
    (get_or-append-add s (e.0.x ∷ (e.0.y ∷ (e.1 ∷ t))) 2 (pos 0))

pin-forth : (s : List ℤ) (k : ℕ) → k + 3 ≤ length s → pin_numbers (pin_from s k) ≡ take 3 (drop k s)
pin-forth s k h =
    sym
    (ap (take 3)
    (two_from s k (omega arith)
    ∙ ap (λ (l : List ℤ). get_or s k (pos 0) ∷ (get_or s (k + 1) (pos 0) ∷ l)) (from_next s (k + 2) (k + 3) (omega arith) (omega arith))))

pub pin-width : Width pin_numbers pin_from pin_width
pin-width = record { each = λ e. refl; back = pin-back; forth = pin-forth }
