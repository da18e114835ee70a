-- Weak duality: no edges that join a point with the pins of packed heights cost less than the heights at the point. The sum of the heights
-- of some pins at a point is a table that best's lower bound asks for: 0 where all pins are, over an edge no more than the edge costs
-- more, and for two parts of the pins the sum of both.
-- Assumes nothing.
use mathlib.Core.Path.{◌≡◌, refl, sym, ap, ◌∙◌}
use mathlib.Core.Bool.{Bool, true, not}
use mathlib.Core.List.{List, [], ◌∷◌, map}
use Prim.Native.Nat.{ℕ, suc, ◌+◌, ◌≤◌}
use native.Mathlib.Omega.{arith}
use Rattle.lists.specs.Member.{◌∈◌, here, there}
use Rattle.lists.specs.Those.{those}
use Rattle.lists.specs.Total.{total}
use Rattle.lists.proofs.TestLaws.{by, not-true}
use Rattle.lists.proofs.MapLaws.{in_map, of_map}
use Rattle.lists.proofs.ThoseLaws.{of-those}
use Rattle.joined.specs.Cost.{Cost, lengths}
use Rattle.best.specs.Sets.{Edges, Reaches, Closed}
use Rattle.best.proofs.LowerBound.{lower-bound}
use Rattle.sweeps.specs.Raises.{Raise, raised, falls, Packed}

module _ {A : Type 0} where
  abbrev pub pins_raised : List (Raise A) → List A
  pins_raised R = map (λ (r : Raise A). r.pin) R

  -- Sums

  pub raised-falls : (R : List (Raise A)) (v w : A) → raised R v ≤ raised R w + falls R v w
  unfolding raised falls total
  raised-falls [] v w = omega arith
  raised-falls (r ∷ R) v w = omega (arith, raised-falls R v w)

  pub raised-ground : (R : List (Raise A)) (v : A) → ((r : Raise A) → r ∈ R → r.height v ≡ 0) → raised R v ≡ 0
  unfolding raised total
  raised-ground [] v h = refl
  raised-ground (r ∷ R) v h = omega (arith, h r (here refl), raised-ground R v (λ s m. h s (there m)))

  pub raised-parts : (g : Raise A → Bool) (R : List (Raise A)) (v : A) →
      raised R v ≡ raised (those g R) v + raised (those (λ r. not (g r)) R) v
  unfolding raised those total
  raised-parts g [] v = refl
  raised-parts g (r ∷ R) v =
      by (g r)
      (λ e. rw (those, e) (omega (arith, raised-parts g R v)))
      (λ e. rw (those, e) (omega (arith, raised-parts g R v)))

  pub falls-those : (g : Raise A → Bool) (R : List (Raise A)) (v w : A) → falls (those g R) v w ≤ falls R v w
  unfolding falls those total
  falls-those g [] v w = omega arith
  falls-those g (r ∷ R) v w =
      by (g r)
      (λ e. rw (those, e) (omega (arith, falls-those g R v w)))
      (λ e. rw (those, e) (omega (arith, falls-those g R v w)))

module _ {A : Type 0} (same : Discrete A) (G : List (A × A)) (d : A → A → ℕ) (metric : Cost d) where
  -- packed heights
  pub record Pack : Type 0 where
    pub raises : List (Raise A)
    pub packed : Packed G d raises

  abbrev pins : Pack → List A
  pins S = pins_raised S.raises

  abbrev sums : Pack → A → ℕ
  sums S v = raised S.raises v

  part : Pack → (A → Bool) → Pack
  part S f = record {
    raises = those (λ (r : Raise A). f r.pin) S.raises;
    packed = record {
      grounded = λ r m. S.packed.grounded r (of-those _ S.raises m).0;
      within = λ v w l. omega (arith, falls-those (λ (r : Raise A). f r.pin) S.raises v w, S.packed.within v w l);
    };
  }

  part-pins : (S : Pack) (f : A → Bool) (p : A) → p ∈ pins (part S f) → (p ∈ pins S) × (f p ≡ true)
  unfolding part
  part-pins S f p m =
      let s = of_map (λ (r : Raise A). r.pin) _ m in
      let t = of-those (λ (r : Raise A). f r.pin) S.raises s.stands in
      (rw s.is (in_map (λ (r : Raise A). r.pin) t.0), rw s.is t.1)

  closed : (cap : ℕ) → Closed pins G d cap sums
  unfolding part
  closed cap = record {
    at_pin = λ S v h. raised-ground S.raises v
        (λ r m. ap r.height (sym (h r.pin (in_map (λ (q : Raise A). q.pin) m))) ∙ S.packed.grounded r m);
    further = λ S v w l k. omega (arith, raised-falls S.raises v w, S.packed.within v w l);
    split = λ S f p q i j e g. record {
      first = part S f;
      second = part S (λ x. not (f x));
      first-pins = part-pins S f;
      second-pins = λ x m. let r = part-pins S (λ y. not (f y)) x m in (r.0, not-true (f x) r.1);
      sum = λ v k. two S f v;
    };
  }
    where
      two : (S : Pack) (f : A → Bool) (v : A) → sums S v ≤ sums (part S f) v + sums (part S (λ x. not (f x))) v
      two S f v = omega (arith, raised-parts (λ (r : Raise A). f r.pin) S.raises v)

  -- THE THEOREM
  pub packed-bound : (R : List (Raise A)) → Packed G d R → (F : List (A × A)) → Edges G F → (v : A) → Reaches F v (pins_raised R) →
      raised R v ≤ lengths d F
  packed-bound R p F edges v reaches =
      lower-bound same pins G d metric (suc (lengths d F)) sums (closed (suc (lengths d F))) F (record { raises = R; packed = p }) v
      (omega arith) edges reaches
