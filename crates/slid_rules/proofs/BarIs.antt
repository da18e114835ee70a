-- The tests for what hangs from a bar read as sentences, for a bar that is given by a test and by what its points are.
-- Assumes nothing.
use mathlib.Core.Path.{◌≡◌, refl, sym, ap, ◌∙◌, subst}
use mathlib.Core.Bool.{Bool, true, false, not, ◌&&◌, ◌||◌}
use mathlib.Core.Logic.{◌⊎◌, inl, inr, ◌↔◌}
use mathlib.Core.List.Memᴰ
use mathlib.Core.List.{List, [], ◌∷◌, map}
use Prim.Native.Nat.{ℕ, ◌≤◌, ◌<◌, min}
use native.Mathlib.Omega.{arith}
use borrow.Author.Tests.{eqb-true, eq-eqb, ltb-true, ltb-false}
use lib.Dec.{eqb, ltb}
use lib.Signed.{lt_z}
use Rattle.lists.specs.Member.{◌∈◌, here, there}
use Rattle.lists.specs.Those.{those}
use Rattle.lists.proofs.TestLaws.{by, differ, either, and_left, and_right, and_both}
use Rattle.lists.proofs.MapLaws.{in_map, of_map}
use Rattle.lists.proofs.ThoseLaws.{in-those, of-those}
use Rattle.signed.specs.Sides.{up, down, Lt}
use Rattle.signed.proofs.SideLaws.{z_lt-true, lt-z_lt, signed}
use Rattle.plane.specs.declared.Place.{Place}
use Rattle.plane.specs.Distance.{apart}
use Rattle.plane.proofs.DistanceLaws.{apart-comm}
use Rattle.joined.specs.Joined.{Link, Joined}
use Rattle.net.specs.Net.{Net}
use Rattle.slide.specs.declared.Side.{Side}
use Rattle.slide.specs.Side.{across}
use Rattle.slide.specs.Bend.{Edge}
use Rattle.slide.specs.Bar.{level, on_bar, ahead, behind, far, long, least, shortest, far_ends, of_bar, hangs}
use Rattle.slide.specs.Sentences.{IsFarEnd, MovesAsFar}
use Rattle.slide.proofs.BarLaws.{or_cases, shortest-le}
use Rattle.slide.proofs.AcrossLaws.{level-true, true-level}
use Rattle.slid_rules.specs.Bar.{EitherWay, Ahead, Behind, FarEnd}

one_of : (a b : ℕ) → (min a b ≡ a) ⊎ (min a b ≡ b)
one_of a b = by (ltb a b) (λ e. inl (omega (arith, ltb-true a b e))) (λ e. inr (omega (arith, ltb-false a b e)))

-- the least of a list that is not empty stands in it
least-stands : (n : ℕ) (l : List ℕ) → least (n ∷ l) ∈ (n ∷ l)
unfolding least
least-stands n [] = here refl
least-stands n (m ∷ l) = either (λ e. here e) (λ e. there (Memᴰ.cast e (least-stands m l))) (one_of n (least (m ∷ l)))

-- the test `on` is for the points B of a bar
pub record Tests (s : Side) (T : List Edge) (on : Place → Bool) (B : Place → Type 0) : Type 0 where
  pub is : (p : Place) → (on p ≡ true) ↔ B p
  pub flat : (p q : Place) → on p ≡ true → on q ≡ true → across s p ≡ across s q
  pub closed : (p q : Place) → (p, q) ∈ T → across s p ≡ across s q → on p ≡ on q

module _ (s : Side) (T : List Edge) (on : Place → Bool) (B : Place → Type 0) (t : Tests s T on B) where
  pub ahead-is : (e : Edge) → e ∈ T → (ahead s on e ≡ true) ↔ EitherWay (Ahead s T B) e
  unfolding ahead
  ahead-is e m = (to, from)
    where
      to : ahead s on e ≡ true → EitherWay (Ahead s T B) e
      to h =
          either
          (λ k. inl (inl m, ((t.is e.0).0 (and_left _ _ k), z_lt-true _ _ (and_right (on e.0) _ k))))
          (λ k. inr (inr m, ((t.is e.1).0 (and_left _ _ k), z_lt-true _ _ (and_right (on e.1) _ k))))
          (or_cases _ _ h)

      from : EitherWay (Ahead s T B) e → ahead s on e ≡ true
      from (inl (l, (b, h))) = rw ((t.is e.0).1 b, lt-z_lt (across s e.0) (across s e.1) h) refl
      from (inr (l, (b, h))) =
          by (on e.0 && lt_z (across s e.0) (across s e.1))
          (λ k. rw k refl)
          (λ k. rw (k, (t.is e.1).1 b, lt-z_lt (across s e.1) (across s e.0) h) refl)

  pub behind-is : (e : Edge) → e ∈ T → (behind s on e ≡ true) ↔ EitherWay (Behind s T B) e
  unfolding behind
  behind-is e m = (to, from)
    where
      to : behind s on e ≡ true → EitherWay (Behind s T B) e
      to h =
          either
          (λ k. inl (inl m, ((t.is e.0).0 (and_left _ _ k), z_lt-true _ _ (and_right (on e.0) _ k))))
          (λ k. inr (inr m, ((t.is e.1).0 (and_left _ _ k), z_lt-true _ _ (and_right (on e.1) _ k))))
          (or_cases _ _ h)

      from : EitherWay (Behind s T B) e → behind s on e ≡ true
      from (inl (l, (b, h))) = rw ((t.is e.0).1 b, lt-z_lt (across s e.1) (across s e.0) h) refl
      from (inr (l, (b, h))) =
          by (on e.0 && lt_z (across s e.1) (across s e.0))
          (λ k. rw k refl)
          (λ k. rw (k, (t.is e.1).1 b, lt-z_lt (across s e.0) (across s e.1) h) refl)

  -- An edge that hangs on the side, as it is listed

  -- one as long as that from p to q, and q is its far end
  record Listed (p q : Place) : Type 0 where
    edge : Edge
    stands : edge ∈ T
    hanging : ahead s on edge ≡ true
    length-is : long s edge ≡ apart (across s p) (across s q)
    end : far on edge ≡ q

  off-line : (p q : Place) → on p ≡ true → Lt (across s p) (across s q) → on q ≡ false
  off-line p q o h =
      by (on q)
      (λ k. let e = ap up (t.flat p q o k) in let f = ap down (t.flat p q o k) in absurd (omega (arith, e, f, h)))
      (λ k. k)

  listed : (p q : Place) → Ahead s T B p q → Listed p q
  unfolding far long
  listed p q (inl m, (b, h)) = record {
    edge = (p, q);
    stands = m;
    hanging = (ahead-is (p, q) m).1 (inl (inl m, (b, h)));
    length-is = refl;
    end = rw (far, (t.is p).1 b) refl;
  }
  listed p q (inr m, (b, h)) = record {
    edge = (q, p);
    stands = m;
    hanging = (ahead-is (q, p) m).1 (inr (inr m, (b, h)));
    length-is = apart-comm (across s q) (across s p);
    end = rw (far, off-line p q ((t.is p).1 b) h) refl;
  }

  -- and the other way
  record Hung (e : Edge) : Type 0 where
    near : Place
    hangs-so : Ahead s T B near (far on e)
    length-so : apart (across s near) (across s (far on e)) ≡ long s e

  hung : (e : Edge) → e ∈ T → ahead s on e ≡ true → Hung e
  unfolding far long
  hung e m h = at ((ahead-is e m).0 h)
    where
      at : EitherWay (Ahead s T B) e → Hung e
      at (inl a) =
          let o = (t.is e.0).1 a.1.0 in
          record { near = e.0; hangs-so = rw (far, o) a; length-so = rw (far, o) refl }
      at (inr a) =
          let o = off-line e.1 e.0 ((t.is e.1).1 a.1.0) a.1.1 in
          let same = apart-comm (across s e.1) (across s e.0) in
          record { near = e.1; hangs-so = rw (far, o) a; length-so = rw (far, o) same }

  -- M10: at most the shortest is at most each
  pub shortest-each : (k : ℕ) → k ≤ shortest s on T → (p q : Place) → Ahead s T B p q →
      k ≤ apart (across s p) (across s q)
  shortest-each k h p q a =
      let r = listed p q a in omega (arith, h, shortest-le s on T r.edge r.stands r.hanging, r.length-is)

  -- one of them is as short
  record Shortest : Type 0 where
    edge : Edge
    stands : edge ∈ T
    hanging : ahead s on edge ≡ true
    is : long s edge ≡ shortest s on T

  shortest-stands : (e : Edge) → e ∈ T → ahead s on e ≡ true → Shortest
  unfolding shortest
  shortest-stands e m h = at (those (ahead s on) T) refl (in-those (ahead s on) T m h)
    where
      at : (l : List Edge) → those (ahead s on) T ≡ l → e ∈ l → Shortest
      at [] q i = elim i [ ]
      at (d ∷ l) q i =
          let r = of_map (long s) (d ∷ l) (least-stands (long s d) (map (long s) l)) in
          let o = of-those (ahead s on) T (subst (λ (k : List Edge). r.entry ∈ k) (sym q) r.stands) in
          record {
            edge = r.entry;
            stands = o.0;
            hanging = o.1;
            is = sym r.is ∙ ap (λ (k : List Edge). least (map (long s) k)) (sym q);
          }

  pub each-shortest : (e : Edge) → e ∈ T → ahead s on e ≡ true →
      (k : ℕ) → ((p q : Place) → Ahead s T B p q → k ≤ apart (across s p) (across s q)) → k ≤ shortest s on T
  each-shortest e m h k each =
      let r = shortest-stands e m h in
      let u = hung r.edge r.stands r.hanging in
      omega (arith, each u.near (far on r.edge) u.hangs-so, u.length-so, r.is)

  -- M9: far ends both ways
  pub far-ends : (q : Place) → (q ∈ far_ends s on T) ↔ FarEnd s T B q
  unfolding far_ends
  far-ends q = (to, from)
    where
      to : q ∈ far_ends s on T → FarEnd s T B q
      to i =
          let r = of_map (far on) (those (λ e. eqb (long s e) (shortest s on T)) (those (ahead s on) T)) i in
          let p = of-those (λ e. eqb (long s e) (shortest s on T)) (those (ahead s on) T) r.stands in
          let o = of-those (ahead s on) T p.0 in
          let u = hung r.entry o.0 o.1 in
          let is = eqb-true (long s r.entry) (shortest s on T) p.1 in
          subst (λ (z : Place). FarEnd s T B z) (sym r.is) (record {
            near = u.near;
            hangs = u.hangs-so;
            shortest = shortest-each (apart (across s u.near) (across s (far on r.entry))) (omega (arith, u.length-so, is));
          })

      from : FarEnd s T B q → q ∈ far_ends s on T
      from z =
          let r = listed z.near q z.hangs in
          let low = shortest-le s on T r.edge r.stands r.hanging in
          let Long-as = apart (across s z.near) (across s q) in
          let high = each-shortest r.edge r.stands r.hanging Long-as z.shortest in
          let is : long s r.edge ≡ shortest s on T = omega (arith, low, high, r.length-is) in
          Memᴰ.cast (sym r.end)
          (in_map (far on) (in-those (λ e. eqb (long s e) (shortest s on T)) (those (ahead s on) T)
          (in-those (ahead s on) T r.stands r.hanging) (eq-eqb _ _ is)))

  -- an edge with an end on the bar is of the bar or hangs from it, and the other way
  pub at-bar : (e : Edge) → e ∈ T → ((of_bar s on e ≡ true) ⊎ (hangs s on e ≡ true)) ↔ (B e.0 ⊎ B e.1)
  unfolding of_bar hangs
  at-bar e m = (to, from)
    where
      to : (of_bar s on e ≡ true) ⊎ (hangs s on e ≡ true) → B e.0 ⊎ B e.1
      to (inl h) = inl ((t.is e.0).0 (and_left _ (on e.1) (and_right (level s e) _ h)))
      to (inr h) =
          either (λ k. inl ((t.is e.0).0 k)) (λ k. inr ((t.is e.1).0 k))
          (or_cases _ _ (and_right (not (level s e)) _ h))

      both : level s e ≡ true → on e.0 ≡ on e.1
      both h = t.closed e.0 e.1 m (level-true s e.0 e.1 h)

      from : B e.0 ⊎ B e.1 → (of_bar s on e ≡ true) ⊎ (hangs s on e ≡ true)
      from (inl b) =
          let o = (t.is e.0).1 b in
          by (level s e) (λ h. inl (rw (h, o, sym (both h) ∙ o) refl)) (λ h. inr (rw (h, o) refl))
      from (inr b) =
          let o = (t.is e.1).1 b in
          by (level s e) (λ h. inl (rw (h, both h ∙ o, o) refl))
          (λ h. inr (by (on e.0) (λ k. rw (h, k) refl) (λ k. rw (h, k, o) refl)))
