-- A filled table by masks is closed: a test splits a mask in two halves. And what is known of halves.
-- Assumes nothing.
use mathlib.Core.Path.{◌≡◌, refl, ap}
use mathlib.Core.Bool.{Bool, true, false, not}
use mathlib.Core.Logic.{◌⊎◌, inl, inr}
use mathlib.Core.List.Memᴰ
use mathlib.Core.List.{List, [], ◌∷◌}
use Prim.Native.Nat.{ℕ, suc}
use native.Mathlib.Omega.{arith}
use lib.ListN.{length}
use Rattle.lists.specs.Member.{◌∈◌, here, there}
use Rattle.lists.specs.Those.{those}
use Rattle.lists.proofs.TestLaws.{by, either, not-true}
use Rattle.lists.proofs.ThoseLaws.{in-those, of-those}
use Rattle.best.specs.Sets.{Split, Closed}
use Rattle.best.specs.Masks.{chosen, passing, Mask, mask_pins, Halves, none, left, right, neither, Filled}

module _ {A : Type 0} where
  chosen-passing : (f : A → Bool) (bs : List Bool) (ps : List A) → chosen (passing f bs ps) ps ≡ those f (chosen bs ps)
  unfolding chosen passing those
  chosen-passing f [] ps = refl
  chosen-passing f (b ∷ bs) [] = refl
  chosen-passing f (false ∷ bs) (p ∷ ps) = chosen-passing f bs ps
  chosen-passing f (true ∷ bs) (p ∷ ps) =
      by (f p)
      (λ e. rw (those, e) (ap (λ (l : List A). p ∷ l) (chosen-passing f bs ps)))
      (λ e. rw (those, e) (chosen-passing f bs ps))

  passing-size : (f : A → Bool) (bs : List Bool) (ps : List A) → length bs ≡ length ps → length (passing f bs ps) ≡ length ps
  unfolding passing
  passing-size f [] [] e = refl
  passing-size f [] (p ∷ ps) e = e
  passing-size f (b ∷ bs) [] e = refl
  passing-size f (b ∷ bs) (p ∷ ps) e = ap suc (passing-size f bs ps (omega arith))

  passing-halves : (f : A → Bool) (bs : List Bool) (ps : List A) → length bs ≡ length ps → Halves bs (passing f bs ps) (passing
      (λ x. not (f x)) bs ps)
  unfolding passing
  passing-halves f [] ps e = none
  passing-halves f (b ∷ bs) [] e = absurd (let z : ⊥ = omega arith in z)
  passing-halves f (false ∷ bs) (p ∷ ps) e = neither (passing-halves f bs ps (omega arith))
  passing-halves f (true ∷ bs) (p ∷ ps) e =
      let h = passing-halves f bs ps (omega arith) in
      by (f p) (λ k. rw k (left h)) (λ k. rw k (right h))

  -- two halves hold all pins
  pub halves-pins : {s bs cs : List Bool} → Halves s bs cs → (ps : List A) (p : A) → p ∈ chosen s ps → (p ∈ chosen bs ps) ⊎
      (p ∈ chosen cs ps)
  unfolding chosen
  halves-pins none ps p m = inl m
  halves-pins (left h) [] p m = inl m
  halves-pins (left h) (q ∷ ps) p m =
      either (λ e. inl (here e)) (λ i. either (λ k. inl (there k)) inr (halves-pins h ps p i)) (Memᴰ.cases_cons m)
  halves-pins (right h) [] p m = inl m
  halves-pins (right h) (q ∷ ps) p m =
      either (λ e. inr (here e)) (λ i. either inl (λ k. inr (there k)) (halves-pins h ps p i)) (Memᴰ.cases_cons m)
  halves-pins (neither h) [] p m = inl m
  halves-pins (neither h) (q ∷ ps) p m = halves-pins h ps p m

module _ {A : Type 0} (pins : List A) where
  -- those pins of a mask that pass, where one does
  unfoldable passed : (S : Mask pins) (f : A → Bool) (p : A) → p ∈ mask_pins pins S → f p ≡ true → Mask pins
  passed S f p m e = record {
    bits = passing f S.bits pins;
    size = passing-size f S.bits pins S.size;
    pin = p;
    some = rw (chosen-passing f S.bits pins) (in-those f (chosen S.bits pins) m e);
  }

  passed-pins : (S : Mask pins) (f : A → Bool) (p : A) (m : p ∈ mask_pins pins S) (e : f p ≡ true) (q : A) → q ∈ mask_pins pins
      (passed S f p m e) →
      (q ∈ mask_pins pins S) × (f q ≡ true)
  unfolding passed
  passed-pins S f p m e q i = of-those f (chosen S.bits pins) (rw chosen-passing at i)

  module _ (G : List (A × A)) (d : A → A → ℕ) (cap : ℕ) (T : Mask pins → A → ℕ) (t : Filled pins G d cap T) where
    pub filled-closed : Closed (mask_pins pins) G d cap T
    unfolding passed
    filled-closed = record {
      at_pin = λ S v h. omega (arith, t.below S v, (t.starts S v).at_pin h);
      further = t.settled;
      split = split;
    }
      where
        split : (S : Mask pins) (f : A → Bool) (p q : A) → p ∈ mask_pins pins S → q ∈ mask_pins pins S → f p ≡ true → f q ≡ false →
            Split (mask_pins pins) G d cap T S f
        split S f p q i k e n =
            let first = passed S f p i e in
            let second = passed S (λ x. not (f x)) q k (rw n refl) in
            record {
              first = first;
              second = second;
              first-pins = λ r m. passed-pins S f p i e r m;
              second-pins = λ r m. let h = passed-pins S (λ x. not (f x)) q k (rw n refl) r m in (h.0, not-true (f r) h.1);
              sum = λ v low. omega (
                arith,
                t.below S v,
                (t.starts S v).at_split first second (passing-halves f S.bits pins
                    S.size) low,
              );
            }
