-- A candidate takes the place of the best so far only where it gains more, so what an edge gains by itself says what it does to any best
-- so far: it stays, or the edge's own best comes.
-- Assumes nothing.
use mathlib.Core.Path.{◌≡◌, refl, sym, ap, ap₂, ◌∙◌, subst}
use mathlib.Core.Bool.{Bool, true, false, ◌&&◌, ◌||◌}
use mathlib.Core.List.{List}
use Prim.Native.Nat.{ℕ, zero, suc, ◌+◌, ◌-◌, ◌≤◌, ◌<◌}
use native.Mathlib.Omega.{arith}
use lib.Dec.{ltb, eqb}
use lib.IntN.{ℤ}
use lib.ListN.{length, get_or, set, length-set}
use borrow.Author.Tests.{ltb-true, ltb-false, lt-ltb, eqb-true, eqb-false}
use Rattle.lists.specs.Turns.{turns}
use Rattle.lists.proofs.TestLaws.{by, differ, and_left, and_right, and_both}
use Rattle.candidates.specs.declared.Best.{Best}
use Rattle.plane.specs.declared.Macro.{Macro}
use Rattle.plane.specs.declared.Weights.{Weights}
use Rattle.plane.specs.Cost.{cost}
use Rattle.plane.specs.Flat.{place_at}
use Rattle.tree.specs.Table.{tree_bound, first_end, second_end}
use Rattle.tree.proofs.SumLaws.{other, here as put-here}
use Rattle.longest.specs.Longest.{shorter, cut_of}
use Rattle.longest.specs.Hung.{Ties, turn_of, top_of, Told}
use Rattle.triples.specs.Triple.{allowed}
use Rattle.candidates.specs.Candidate.{best, chosen, middle_of, weighed, offer, offers}
use Rattle.candidates.specs.Bounded.{Shut, Bounded}
use Rattle.candidates.proofs.NearLaws.{turns-back}

-- One candidate: refused, or weighed with what it costs and L's cost

pub step : Bool → ℕ → ℕ → Bool → ℕ → ℕ → ℕ → Best → Best
step out d x ok k u l c = chosen out c (chosen (ltb (c.gain + d) x && ok) (best (x - d) k u l) c)

-- the best so far of c and d, where d gains no less: it stays, or what comes is one for both
pub record Strict (f : Best → Best) : Type 0 where
  pub more : (c : Best) → c.gain ≤ (f c).gain
  pub stays : (c d : Best) → c.gain ≤ d.gain → (f c).gain ≤ d.gain → f d ≡ d
  pub comes : (c d : Best) → c.gain ≤ d.gain → d.gain < (f c).gain → f d ≡ f c

module _ (out : Bool) (d x : ℕ) (ok : Bool) (k u l : ℕ) where
  abbrev one : Best → Best
  one = step out d x ok k u l

  weighs : (c : Best) → out ≡ false → ok ≡ true → c.gain + d < x → one c ≡ best (x - d) k u l
  unfolding step
  weighs c o y h = rw (o, and_both (ltb (c.gain + d) x) ok (lt-ltb _ _ h) y) refl

  pub refuses : (c : Best) → (out ≡ false → ok ≡ true → x ≤ c.gain + d) → one c ≡ c
  unfolding step
  refuses c f =
      by out (λ o. rw o refl) λ o.
      by (ltb (c.gain + d) x && ok)
      (λ t.
      absurd (let z : ⊥ = omega (
        arith,
        f o (and_right (ltb (c.gain + d) x) ok t),
        ltb-true (c.gain + d) x
            (and_left (ltb (c.gain + d) x) ok t),
      ) in z))
      (λ t. rw (o, t) refl)

  -- what a bound says of a candidate that is weighed
  pub refused : (b : ℕ) → ((c : Best) → b ≤ c.gain → one c ≡ c) → out ≡ false → ok ≡ true → x ≤ b + d
  refused b f o y =
      by (ltb (b + d) x)
      (λ t.
      let h = ltb-true (b + d) x t in
      let c = best b 0 0 0 in
      let q : x - d ≡ b = ap (λ (z : Best). z.gain) (sym (weighs c o y h) ∙ f c (omega arith)) in
      absurd (let z : ⊥ = omega (arith, q, h) in z))
      (λ t. ltb-false (b + d) x t)

  pub one-strict : Strict one
  one-strict = record {
    more = λ c. by_one c (λ q. omega (arith, ap (λ (z : Best). z.gain) q))
        (λ o y h. omega (arith, h, ap (λ (z : Best). z.gain) (weighs c o y h)));
    stays = λ c e h g.
        refuses e (λ o y. by (ltb (c.gain + d) x)
        (λ t. omega (
          arith,
          g,
          h,
          ltb-true (c.gain + d) x t,
          ap (λ (z : Best). z.gain) (weighs c o y (ltb-true (c.gain + d) x t)),
        ))
        (λ t. omega (arith, h, ltb-false (c.gain + d) x t)));
    comes = λ c e h g.
        by_one c (λ q. absurd (let z : ⊥ = omega (arith, ap (λ (z : Best). z.gain) q, h, g) in z))
        (λ o y l. weighs e o y (omega (arith, g, l, ap (λ (z : Best). z.gain) (weighs c o y l))) ∙ sym (weighs c o y l));
  }
    where
      by_one : {C : Type 0} (c : Best) → (one c ≡ c → C) → (out ≡ false → ok ≡ true → c.gain + d < x → C) → C
      by_one c f g =
          by out (λ o. f (refuses c (λ z. differ o z))) λ o.
          by ok
          (λ y. by (ltb (c.gain + d) x) (λ t. g o y (ltb-true _ _ t)) (λ t. f (refuses c (λ p q. ltb-false _ _ t))))
          (λ y. f (refuses c (λ p z. differ z y)))

-- All candidates of an edge

module _ (f : ℕ → Best → Best) (strict : (u : ℕ) → Strict (f u)) where
  all-strict : (n i : ℕ) → Strict (turns f i n)
  unfolding turns
  all-strict zero i = record {
    more = λ c. omega arith;
    stays = λ c d h g. refl;
    comes = λ c d h g. absurd (let z : ⊥ = omega (arith, h, g) in z);
  }
  all-strict (suc n) i =
      let rest = all-strict n (suc i) in
      record {
        more = λ c. omega (arith, (strict i).more c, rest.more (f i c));
        stays = λ c d h g.
            let l : (f i c).gain ≤ d.gain = omega (arith, rest.more (f i c), g) in
            ap (turns f (suc i) n) ((strict i).stays c d h l) ∙ rest.stays (f i c) d l g;
        comes = λ c d h g.
            by (ltb d.gain (f i c).gain)
            (λ t. ap (turns f (suc i) n) ((strict i).comes c d h (ltb-true _ _ t)))
            (λ t.
            let l = ltb-false d.gain (f i c).gain t in
            ap (turns f (suc i) n) ((strict i).stays c d h l) ∙ rest.comes (f i c) d l g);
      }

  -- each of them, where the best so far gains no less than all together
  each-stays : (n i : ℕ) (c d : Best) → c.gain ≤ d.gain → (turns f i n c).gain ≤ d.gain → (u : ℕ) → i ≤ u → u < i + n → f u d ≡ d
  unfolding turns
  each-stays zero i c d h g u a b = absurd (let z : ⊥ = omega (arith, a, b) in z)
  each-stays (suc n) i c d h g u a b =
      let l : (f i c).gain ≤ d.gain = omega (arith, (all-strict n (suc i)).more (f i c), g) in
      by (ltb i u)
      (λ t. each-stays n (suc i) (f i c) d l g u (omega (arith, ltb-true i u t)) (omega (arith, b)))
      (λ t.
      let q : i ≡ u = omega (arith, a, ltb-false i u t) in
      ap (λ (j : ℕ). f j d) (sym q) ∙ (strict i).stays c d h l)

  module _ (n : ℕ) (own : Best) (e : own ≡ turns f 0 n (best 0 0 0 0)) where
    gain-is : own.gain ≡ (turns f 0 n (best 0 0 0 0)).gain
    gain-is = ap (λ (z : Best). z.gain) e

    pub own-comes : (c : Best) → c.gain < own.gain → own ≡ turns f 0 n c
    own-comes c h = e ∙ sym ((all-strict n 0).comes (best 0 0 0 0) c (omega arith) (omega (arith, h, gain-is)))

    pub own-stays : (c : Best) → own.gain ≤ c.gain → c ≡ turns f 0 n c
    own-stays c h = sym ((all-strict n 0).stays (best 0 0 0 0) c (omega arith) (omega (arith, h, gain-is)))

    pub own-bounds : (u : ℕ) → u < n → (c : Best) → own.gain ≤ c.gain → f u c ≡ c
    own-bounds u h c g = each-stays n 0 (best 0 0 0 0) c (omega arith) (omega (arith, g, gain-is)) u (omega arith) (omega arith)

-- On the tree

module _ (w : Weights) (pts : List ℤ) (n : ℕ) (ms : List Macro) (el top : List ℕ) (a b k : ℕ) where
  -- refused, what it costs, what L costs
  abbrev pub out_of : ℕ → Bool
  out_of u = eqb u a || (eqb u b || eqb (cut_of el top a b u) k)

  abbrev pub cost_of : ℕ → ℕ
  cost_of u = cost w (middle_of pts a b u) (place_at pts u)

  abbrev pub long_of : ℕ → ℕ
  long_of u = get_or el (cut_of el top a b u) 0

  abbrev pub ok_of : ℕ → Bool
  ok_of u = allowed pts n ms a b u (middle_of pts a b u)

  pub offer-step : (u : ℕ) (c : Best) →
      offer w pts n ms el top a b k u c ≡ step (out_of u) (cost_of u) (long_of u) (ok_of u) k u (cut_of el top a b u) c
  unfolding offer weighed step
  offer-step u c = refl

  pub offer-strict : (u : ℕ) → Strict (offer w pts n ms el top a b k u)
  unfolding offer weighed step
  offer-strict u = one-strict (out_of u) (cost_of u) (long_of u) (ok_of u) k u (cut_of el top a b u)

-- Bounds by edge

module _ (w : Weights) (pts : List ℤ) (n : ℕ) (ms : List Macro) (keys : List ℕ) (e : ℕ) (el top : List ℕ) where
  abbrev of : ℕ → ℕ → Best → Best
  of k = offer w pts n ms el top (first_end (get_or keys k 0)) (second_end (get_or keys k 0)) k

  -- a best so far that gains no less than the bound stays
  pub bound-stays : (bound : List ℕ) → Bounded w pts n ms keys e el top n bound → (k : ℕ) → k < e → (c : Best) →
      get_or bound k 0 ≤ c.gain → c ≡ offers w pts n ms keys el top k c
  unfolding offers
  bound-stays bound b k h c g =
      sym (turns-back (of k) n 0 c (λ u i j. b.shut k h u (omega (arith, j)) (λ q. let z : ⊥ = omega (arith, j, q) in z) c g))

  module _ (k : ℕ) (own : Best) (q : own ≡ offers w pts n ms keys el top k (best 0 0 0 0)) where
    own_is : own ≡ turns (of k) 0 n (best 0 0 0 0)
    unfolding offers
    own_is = q

    pub bound-comes : (c : Best) → c.gain < own.gain → own ≡ offers w pts n ms keys el top k c
    unfolding offers
    bound-comes c h = own-comes (of k) (offer-strict w pts n ms el top _ _ k) n own own_is c h

    pub bound-keeps : (c : Best) → own.gain ≤ c.gain → c ≡ offers w pts n ms keys el top k c
    unfolding offers
    bound-keeps c h = own-stays (of k) (offer-strict w pts n ms el top _ _ k) n own own_is c h

    pub own_shut : Shut (of k) n n own.gain
    own_shut u h _ c g = own-bounds (of k) (offer-strict w pts n ms el top _ _ k) n own own_is u h c g

  pub bounded-set : (bound : List ℕ) (k x : ℕ) → Bounded w pts n ms keys e el top n bound → k < e → e ≤ tree_bound → Shut (of k) n n x →
      Bounded w pts n ms keys e el top n (set bound k x)
  bounded-set bound k x b h few s = record {
    room = length-set bound k x ∙ b.room;
    shut = λ j l. by (eqb k j)
        (λ t. subst (λ (i : ℕ). Shut (of i) n n (get_or (set bound k x) i 0)) (eqb-true k j t)
        (subst (Shut (of k) n n) (sym (put-here bound k x (rw b.room (omega (arith, h, few))))) s))
        (λ t. subst (Shut (of j) n n) (sym (other bound k j x (eqb-false k j t))) (b.shut j l));
  }

  -- Bounds while a point s is taken in: those before k count it

  pub record Raising (s k : ℕ) (bound : List ℕ) : Type 0 where
    pub room : length bound ≡ tree_bound
    pub done : (j : ℕ) → j < k → j < e → Shut (of j) n n (get_or bound j 0)
    pub left : (j : ℕ) → k ≤ j → j < e → Shut (of j) n s (get_or bound j 0)

  pub raising-start : (s : ℕ) (bound : List ℕ) → Bounded w pts n ms keys e el top s bound → Raising s 0 bound
  raising-start s bound b = record {
    room = b.room;
    done = λ j l. absurd (let z : ⊥ = omega (arith, l) in z);
    left = λ j l. b.shut j;
  }

  pub raising-next : (s k : ℕ) (bound : List ℕ) (x : ℕ) → Raising s k bound → k < e → e ≤ tree_bound →
      x ≡ (of k s (best (get_or bound k 0) 0 0 0)).gain → Raising s (k + 1) (set bound k x)
  raising-next s k bound x r h few q =
      let at : k < length bound = rw r.room (omega (arith, h, few)) in
      let strict = offer-strict w pts n ms el top (first_end (get_or keys k 0)) (second_end (get_or keys k 0)) k s in
      let b = best (get_or bound k 0) 0 0 0 in
      let shut : Shut (of k) n n x = λ u i _ c g. by (eqb u s)
      (λ t. subst (λ (v : ℕ). of k v c ≡ c) (sym (eqb-true u s t))
      (strict.stays b c (omega (arith, q, g, strict.more b)) (omega (arith, q, g))))
      (λ t. r.left k (omega arith) h u i (eqb-false u s t) c (omega (arith, q, g, strict.more b))) in
      record {
        room = length-set bound k x ∙ r.room;
        done = λ j l m. by (eqb k j)
            (λ t. subst (λ (i : ℕ). Shut (of i) n n (get_or (set bound k x) i 0)) (eqb-true k j t)
            (subst (Shut (of k) n n) (sym (put-here bound k x at)) shut))
            (λ t.
            let d = eqb-false k j t in
            subst (Shut (of j) n n) (sym (other bound k j x d)) (r.done j (omega (arith, l, d)) m));
        left = λ j l m.
            subst (Shut (of j) n s) (sym (other bound k j x (λ t. let z : ⊥ = omega (arith, t, l) in z)))
            (r.left j (omega (arith, l)) m);
      }

  pub raising-end : (s k : ℕ) (bound : List ℕ) → Raising s k bound → e ≤ k → Bounded w pts n ms keys e el top n bound
  raising-end s k bound r h = record { room = r.room; shut = λ j l. r.done j (omega (arith, h, l)) l }

-- L of an edge for the point u, from the row of u
pub cut-from : (el : List ℕ) (s : Ties) (t : List ℕ) → Told el s t → (a b u p q l : ℕ) → 0 < turn_of s a → 0 < turn_of s b →
    0 < turn_of s u → p ≡ top_of t u a → q ≡ top_of t u b → l ≡ shorter el p q → l ≡ cut_of el t a b u
unfolding cut_of
cut-from el s t told a b u p q l ha hb hu e f g =
    g ∙ ap₂ (shorter el) (e ∙ told.woven.even u a hu ha) (f ∙ told.woven.even u b hu hb)
