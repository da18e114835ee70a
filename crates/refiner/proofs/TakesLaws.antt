-- R10: a round takes the greatest gain above zero, of several the smallest edge, then the smallest point. The search is followed from the
-- front: the rule holds of the candidates that were offered so far, and the next one comes after all of those, so on a tie the best stays.
-- In a tree the candidates that the search weighs are those of R3.
-- Assumes nothing.
use mathlib.Core.Path.{◌≡◌, refl, sym, ap, ◌∙◌, subst}
use mathlib.Core.Bool.{true, not, ◌&&◌, ◌||◌}
use mathlib.Core.Logic.{◌⊎◌, inl, inr}
use mathlib.Core.List.{List}
use Prim.Native.Nat.{ℕ, zero, suc, ◌+◌, ◌-◌, ◌≤◌, ◌<◌}
use native.Mathlib.Omega.{arith}
use lib.Dec.{ltb, eqb}
use lib.IntN.{ℤ}
use lib.ListN.{get_or}
use borrow.Author.Tests.{ltb-true, ltb-false, ne_eqb}
use Rattle.lists.proofs.TestLaws.{by, differ, either, and_left, and_both, or-neither}
use Rattle.plane.specs.declared.Place.{Place}
use Rattle.plane.specs.declared.Macro.{Macro}
use Rattle.plane.specs.declared.Weights.{Weights}
use Rattle.plane.specs.Cost.{cost}
use Rattle.plane.specs.Macro.{clear}
use Rattle.plane.specs.Flat.{place_at}
use Rattle.net.specs.Net.{Net}
use Rattle.candidates.specs.declared.Best.{Best}
use Rattle.lists.specs.Turns.{turns}
use Rattle.tree.specs.Table.{tree_bound, first_end, second_end, Tree}
use Rattle.longest.specs.Longest.{costs, longest, cut_of}
use Rattle.triples.specs.Triple.{sees, dropped, allowed}
use Rattle.candidates.specs.Candidate.{best, middle_of, weighed, offer, offers, search, found}
use Rattle.tree.specs.Places.{Sound}
use Rattle.refiner.specs.Sentences.{key_at, end_a, end_b, cost_at, EndOf, middle_at, CutAt, cut_in, Gains, Takes}
use Rattle.bounds.proofs.DroppedLaws.{not-dropped, dropped-not}
use Rattle.bounds.proofs.CostLaws.{cost-at}
use Rattle.refiner.proofs.WinnerLaws.{Winner, found-wins}
use Rattle.refiner.proofs.CutSound.{tree-size, cut-at, cut-one, cut-another}

-- The first of the greatest

-- before the next one, or it
pub last_or : (k u i v : ℕ) → k ≤ i → (i ≤ k → u < suc v) → ((k ≡ i) × (u ≡ v)) ⊎ (i ≤ k → u < v)
last_or k u i v a b =
    by (ltb k i) (λ t. inr (λ q. absurd (let z : ⊥ = omega (arith, ltb-true k i t) in z)))
    (λ t.
    let q : i ≤ k = ltb-false k i t in
    by (ltb u v) (λ s. inr (λ r. ltb-true u v s)) (λ s. inl (omega arith, omega (arith, b q, ltb-false u v s))))

module _ (w : Weights) (ms : List Macro) (pts : List ℤ) (n : ℕ) (ks : List ℕ) (e : ℕ) (el top : List ℕ) where
  abbrev Win : ℕ → ℕ → ℕ → ℕ → Type 0
  Win g k u l = Winner w ms pts n ks e el top g k u l

  -- edges first, then points: c is the first of the greatest among the candidates before that of the edge i and the point v
  pub record Leads (c : Best) (i v : ℕ) : Type 0 where
    pub placed : 0 < c.gain → (c.edge ≤ i) × (i ≤ c.edge → c.point < v)
    pub most : (g k u l : ℕ) → 0 < g → Win g k u l → k ≤ i → (i ≤ k → u < v) →
        (g ≤ c.gain) × (g ≡ c.gain → (c.edge ≤ k) × (k ≤ c.edge → c.point ≤ u))

  -- the next one is no better
  stays : (c : Best) (i v : ℕ) → Leads c i v → ((g l : ℕ) → Win g i v l → g ≤ c.gain) → Leads c i (suc v)
  stays c i v h f = record {
    placed = λ p. ((h.placed p).0, λ q. omega (arith, (h.placed p).1 q));
    most =
        λ g k u l p win a b.
        either
        (λ t.
        let z : g ≤ c.gain = f g l (subst (λ (y : ℕ). Win g i y l) t.1 (subst (λ (y : ℕ). Win g y u l) t.0 win)) in
        (z, λ q. let r = h.placed (omega arith) in (omega (arith, r.0, t.0), λ s. omega (arith, r.1 (omega (arith, t.0)), t.1))))
        (λ t. h.most g k u l p win a t)
        (last_or k u i v a b);
  }

  -- the next one is better
  comes : (c : Best) (i v g l : ℕ) → Leads c i v → c.gain < g → ((x m : ℕ) → Win x i v m → x ≡ g) → Leads (best g i v l) i (suc v)
  comes c i v g l h more f = record {
    placed = λ p. (omega arith, λ q. omega arith);
    most =
        λ x k u m p win a b.
        either
        (λ t.
        let z : x ≡ g = f x m (subst (λ (y : ℕ). Win x i y m) t.1 (subst (λ (y : ℕ). Win x y u m) t.0 win)) in
        (omega arith, λ q. (omega (arith, t.0), λ s. omega (arith, t.1))))
        (λ t.
        let r = h.most x k u m p win a t in
        (omega (arith, r.0), λ q. absurd (let z : ⊥ = omega (arith, r.0) in z)))
        (last_or k u i v a b);
  }

  offer-leads : (k u : ℕ) (c : Best) → k < e → u < n → Leads c k u →
      Leads (offer w pts n ms el top (first_end (get_or ks k 0)) (second_end (get_or ks k 0)) k u c) k (suc u)
  unfolding offer weighed allowed
  offer-leads k u c hk hu h =
      let a = first_end (get_or ks k 0) in
      let b = second_end (get_or ks k 0) in
      let l = cut_of el top a b u in
      let s = middle_of pts a b u in
      let d = cost w s (place_at pts u) in
      let gained : (g m : ℕ) → Win g k u m → g + d ≡ get_or el l 0 = λ g m x. x.gained ∙ ap (λ (i : ℕ). get_or el i 0) x.cut in
      by (eqb u a || (eqb u b || eqb l k))
      (λ t. rw t (stays c k u h (λ g m x.
      differ t (or-neither _ _ (ne_eqb u a x.not_first)
      (or-neither _ _ (ne_eqb u b x.not_second) (ne_eqb l k (λ q. x.two (x.cut ∙ q)))))))) λ t.
      by (ltb (c.gain + d) (get_or el l 0) && (sees ms (place_at pts a) (place_at pts b) (place_at pts u) && not (dropped pts n a b u s)))
      (λ z.
      let more = ltb-true (c.gain + d) (get_or el l 0) (and_left _ _ z) in
      rw (t, z) (comes c k u (get_or el l 0 - d) l h (omega (arith, more)) (λ g m x. omega (arith, gained g m x))))
      (λ z. rw (t, z) (stays c k u h (λ g m x.
      by (ltb (c.gain + d) (get_or el l 0)) (λ y. differ (and_both _ _ y (and_both _ _ x.seen (ap not x.kept))) z)
      (λ y. omega (arith, ltb-false (c.gain + d) (get_or el l 0) y, gained g m x)))))

  -- all points of one edge
  points-lead : (k : ℕ) → k < e → (m v : ℕ) (c : Best) → v + m ≡ n → Leads c k v →
      Leads (turns (offer w pts n ms el top (first_end (get_or ks k 0)) (second_end (get_or ks k 0)) k) v m c) k n
  unfolding turns
  points-lead k hk zero v c q h = subst (λ (x : ℕ). Leads c k x) (omega arith) h
  points-lead k hk (suc m) v c q h = points-lead k hk m (suc v) _ (omega arith) (offer-leads k v c hk (omega arith) h)

  -- the next edge
  edge_leads : (c : Best) (k : ℕ) → Leads c k n → Leads c (suc k) 0
  edge_leads c k h = record {
    placed = λ p. (omega (arith, (h.placed p).0), λ q. absurd (let z : ⊥ = omega (arith, (h.placed p).0) in z));
    most =
        λ g j u l p win a b.
        h.most g j u l p win
        (by (ltb k j) (λ t. absurd (let z : ⊥ = omega (arith, b (ltb-true k j t)) in z)) (λ t. ltb-false k j t))
        (λ q. win.point);
  }

  edges-lead : (m i : ℕ) (c : Best) → i + m ≡ e → Leads c i 0 → Leads (turns (offers w pts n ms ks el top) i m c) e 0
  unfolding turns offers
  edges-lead zero i c q h = subst (λ (x : ℕ). Leads c x 0) (omega arith) h
  edges-lead (suc m) i c q h = edges-lead m (suc i) _ (omega arith) (edge_leads _ i (points-lead i (omega arith) n 0 c (omega arith) h))

  pub search-leads : Leads (search w pts n ms ks e el top) e 0
  unfolding search
  search-leads = edges-lead e 0 (best 0 0 0 0) (omega arith) (record {
    placed = λ p. absurd (let z : ⊥ = omega arith in z);
    most = λ g k u l p win a b. absurd (let z : ⊥ = omega (arith, b (omega arith)) in z);
  })

-- The candidates of R3

-- R3: u is clear of a or of b
pub sees-one : (ms : List Macro) (a b u : Place) → sees ms a b u ≡ true → (clear u a ms ≡ true) ⊎ (clear u b ms ≡ true)
unfolding sees
sees-one ms a b u t = by (clear u a ms) inl (λ f. inr (rw f at t))

pub one-sees : (ms : List Macro) (a b u : Place) → (clear u a ms ≡ true) ⊎ (clear u b ms ≡ true) → sees ms a b u ≡ true
unfolding sees
one-sees ms a b u (inl t) = rw t refl
one-sees ms a b u (inr t) = by (clear u a ms) (λ f. rw f refl) (λ f. rw (f, t) refl)

module _ (net : Net) (t : Tree) (sound : Sound net t) (few : t.count ≤ tree_bound) where
  abbrev Won : ℕ → ℕ → ℕ → ℕ → Type 0
  Won g k u l =
      let el = costs net.weights t.points t.edges.keys t.edges.size in
      Winner net.weights net.macros t.points t.count t.edges.keys t.edges.size el
      (longest t.edges.keys el t.edges.size t.count) g k u l

  cost-of : (j : ℕ) → j < t.edges.size → get_or (costs net.weights t.points t.edges.keys t.edges.size) j 0 ≡ cost_at net t j
  cost-of j h = cost-at net.weights t.points t.edges.keys t.edges.size j (omega (arith, tree-size net t sound)) h

  -- a candidate that gains is weighed as such
  gains-won : (k u l g : ℕ) → Gains net t k u l g → Won g k u l
  gains-won k u l g h =
      let c = h.candidate in
      record {
        edge = c.edge;
        point = c.point;
        not_first = λ q. c.third (inl q);
        not_second = λ q. c.third (inr q);
        two = cut-another net t sound few k u l h.cut;
        cut =
            cut-one net t sound few k u l (cut_in net t k u) c.edge h.cut
            (cut-at net t sound few k u c.edge c.point c.third);
        seen = one-sees net.macros (end_a t k) (end_b t k) (place_at t.points u) c.seen;
        kept =
            not-dropped t.points t.count (first_end (key_at t k)) (second_end (key_at t k)) u (middle_at t k u)
            (λ i b q. c.kept i b (either q.0.0 q.0.1.0) q.0.1.1 q.1);
        gained = h.gain ∙ sym (cost-of l h.cut.longest.step.edge);
      }

  won-gains : (k u l g : ℕ) → Won g k u l → 0 < g → Gains net t k u l g
  won-gains k u l g w above = record {
    candidate = record {
      edge = w.edge;
      point = w.point;
      third = third;
      seen = sees-one net.macros (end_a t k) (end_b t k) (place_at t.points u) w.seen;
      kept =
          λ i b ab iu s.
          dropped-not t.points t.count (first_end (key_at t k)) (second_end (key_at t k)) u (middle_at t k u) w.kept i b
          (((λ q. ab (inl q)), ((λ q. ab (inr q)), iu)), s);
    };
    cut = cut;
    gain = w.gained ∙ cost-of l cut.longest.step.edge;
    above = above;
  }
    where
      third : EndOf t u k → ⊥
      third = either w.not_first w.not_second

      cut : CutAt net t k u l
      cut = subst (λ (x : ℕ). CutAt net t k u x) (sym w.cut) (cut-at net t sound few k u w.edge w.point third)

  abbrev here : Best
  here = found net.weights net.macros t.points t.count t.edges.keys t.edges.size

  leads : (k u l g : ℕ) → Gains net t k u l g → (g ≤ here.gain) × (g ≡ here.gain → (here.edge ≤ k) × (k ≤ here.edge → here.point ≤ u))
  unfolding found
  leads k u l g h =
      let el = costs net.weights t.points t.edges.keys t.edges.size in
      (search-leads net.weights net.macros t.points t.count t.edges.keys t.edges.size el
      (longest t.edges.keys el t.edges.size t.count)
      ).most g k u l h.above (gains-won k u l g h) (omega (arith, h.candidate.edge))
      (λ q. absurd (let z : ⊥ = omega (arith, h.candidate.edge) in z))

  -- R10 holds of the candidate that is found
  pub found-takes : Takes net t here
  found-takes = record {
    taken =
        λ p.
        won-gains here.edge here.point here.cut here.gain
        (found-wins net.weights net.macros t.points t.count t.edges.keys t.edges.size p) p;
    greatest = λ k u l g h. (leads k u l g h).0;
    smallest = λ k u l g h. (leads k u l g h).1;
    none = λ q k u l g h. let z : ⊥ = omega (arith, q, h.above, (leads k u l g h).0) in z;
  }
