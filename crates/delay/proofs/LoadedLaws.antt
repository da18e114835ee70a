-- The tables of pins and of loads, filled point by point; and a scan of the pins for the load at a place.
-- Assumes nothing.
use mathlib.Core.Path.{◌≡◌, refl, sym, ap, ◌∙◌}
use mathlib.Core.Bool.{Bool, true, false, cond}
use mathlib.Core.List.{List, [], ◌∷◌}
use Prim.Native.Nat.{ℕ, ◌+◌, ◌<◌}
use native.Mathlib.Omega.{arith}
use lib.IntN.{ℤ}
use lib.Dec.{eqb}
use lib.ListN.{length, set}
use lib.Seq.{get_or-set_same, get_or-set_other}
use borrow.Author.Tests.{eqb-true, eqb-false}
use Rattle.lists.specs.Any.{any}
use Rattle.lists.proofs.TestLaws.{by, or-none}
use Rattle.signed.specs.Sides.{up}
use Rattle.plane.specs.declared.Place.{Place}
use Rattle.plane.specs.Place.{same_place}
use Rattle.plane.specs.Flat.{place_at}
use Rattle.std.specs.Int.{from_bool}
use Rattle.net.specs.Pins.{pin_places, pin_entries}
use Rattle.delay.specs.Load.{load_of}
use Rattle.floats.specs.Mark.{is_pin}
use Rattle.delay.specs.Table.{Loaded}

-- The scan: a pin at the place, one elsewhere, the end

module _ (q p : Place) (z : ℤ) (left rest : List (Place × ℤ)) (next : left ≡ (p, z) ∷ rest) where
  pub load-hit : same_place p q ≡ true → load_of left q ≡ up z
  unfolding load_of
  load-hit e = ap (λ (l : List (Place × ℤ)). load_of l q) next ∙ ap (λ (b : Bool). cond b (up z) (load_of rest q)) e

  pub load-miss : same_place p q ≡ false → load_of left q ≡ load_of rest q
  unfolding load_of
  load-miss e = ap (λ (l : List (Place × ℤ)). load_of l q) next ∙ ap (λ (b : Bool). cond b (up z) (load_of rest q)) e

pub load-end : (q : Place) (left : List (Place × ℤ)) → left ≡ [] → load_of left q ≡ 0
unfolding load_of
load-end q left e = ap (λ (l : List (Place × ℤ)). load_of l q) e

-- where nothing that is left fails a test, neither the next nor what is left after it does
pub none-next : {A : Type 0} (f : A → Bool) (x : A) (left rest : List A) → left ≡ x ∷ rest → any f left ≡ false
    → (f x ≡ false) × (any f rest ≡ false)
unfolding any
none-next f x left rest e h = or-none (f x) (any f rest) (sym (ap (any f) e) ∙ h)

-- The tables

flag : (b : Bool) → eqb (from_bool b) 1 ≡ b
flag true = refl
flag false = refl

module _ {pins pts : List ℤ} (pin loads : List ℕ) (i : ℕ) (r : Loaded pins pts i pin loads) (few : i < length pin)
    (fewer : i < length loads) (m l : ℕ) (mark : m ≡ from_bool (any (same_place (place_at pts i)) (pin_places pins)))
    (load : l ≡ load_of (pin_entries pins) (place_at pts i)) where
  pub loaded-next : Loaded pins pts (i + 1) (set pin i m) (set loads i l)
  unfolding is_pin
  loaded-next = record {
    pinned =
        λ j h.
        by (eqb j i)
        (λ t.
        let e : j ≡ i = eqb-true j i t in
        rw e (ap (λ (k : ℕ). eqb k 1) (get_or-set_same pin i m 0 few ∙ mark) ∙ flag (any (same_place (place_at pts i)) (pin_places pins))))
        (λ t.
        ap (λ (k : ℕ). eqb k 1) (get_or-set_other pin i j m 0 (eqb-false j i t))
        ∙ r.pinned j (omega (arith, h, eqb-false j i t)));
    loaded =
        λ j h.
        by (eqb j i)
        (λ t. let e : j ≡ i = eqb-true j i t in rw e (get_or-set_same loads i l 0 fewer ∙ load))
        (λ t. get_or-set_other loads i j l 0 (eqb-false j i t) ∙ r.loaded j (omega (arith, h, eqb-false j i t)));
  }

-- no point yet
pub loaded-none : {pins pts : List ℤ} (pin loads : List ℕ) → Loaded pins pts 0 pin loads
loaded-none pin loads = record {
  pinned = λ j h. absurd (let z : ⊥ = omega (arith, h) in z);
  loaded = λ j h. absurd (let z : ⊥ = omega (arith, h) in z);
}
