-- R23 to R26: what is known of the candidate beside the tree that is found. Every one that takes the place of the best so far is a vertex
-- at some distance whose root is neither a nor b, not dropped, with L by `cut_of` and the gain by its costs. It is the first of the
-- greatest, of those that gain more than what the search begins with.
-- Assumes nothing.
use mathlib.Core.Path.{◌≡◌, refl, ap, ◌∙◌, subst}
use mathlib.Core.Bool.{true, false, not, ◌&&◌, ◌||◌}
use mathlib.Core.List.{List}
use Prim.Native.Nat.{ℕ, zero, suc, ◌+◌, ◌-◌, ◌≤◌, ◌<◌}
use native.Mathlib.Omega.{arith}
use lib.Dec.{ltb, eqb}
use lib.IntN.{ℤ}
use lib.ListN.{get_or}
use borrow.Author.Tests.{ltb-true, ltb-false, eqb-false, ne_eqb, not-true}
use Rattle.lists.proofs.TestLaws.{by, differ, either, and_left, and_right, and_both, or-none, or-neither}
use Rattle.plane.specs.declared.Macro.{Macro}
use Rattle.plane.specs.declared.Weights.{Weights}
use Rattle.plane.specs.Cost.{cost}
use Rattle.plane.specs.Flat.{place_at}
use Rattle.forest.specs.Parents.{way_after}
use Rattle.tree.specs.Table.{first_end, second_end}
use Rattle.candidates.specs.declared.Best.{Best}
use Rattle.lists.specs.Turns.{turns}
use Rattle.longest.specs.Longest.{cut_of}
use Rattle.triples.specs.Triple.{sees, dropped}
use Rattle.candidates.specs.Candidate.{best}
use Rattle.beside.specs.Beside.{on_way, free, middle_beside, weighed, offer, offers, search}
use Rattle.refiner.proofs.TakesLaws.{last_or}

-- the candidate of the edge k and the vertex u, with L and gain
pub record WinnerOff (w : Weights) (ms : List Macro) (pts : List ℤ) (n : ℕ) (ks : List ℕ) (e : ℕ) (el top : List ℕ) (vs : List ℤ) (v : ℕ)
    (fars ups seat : List ℕ) (gain k u l : ℕ) : Type 0 where
  pub edge : k < e
  pub vertex : u < v
  pub off : get_or fars u 0 ≡ 0 → ⊥
  pub not_first : get_or seat u 0 ≡ first_end (get_or ks k 0) → ⊥
  pub not_second : get_or seat u 0 ≡ second_end (get_or ks k 0) → ⊥
  pub two : l ≡ k → ⊥
  pub cut : l ≡ cut_of el top (first_end (get_or ks k 0)) (second_end (get_or ks k 0)) (get_or seat u 0)
  pub seen : sees ms (place_at pts (first_end (get_or ks k 0))) (place_at pts (second_end (get_or ks k 0))) (place_at vs u) ≡ true
  pub kept : dropped pts n (first_end (get_or ks k 0)) (second_end (get_or ks k 0)) (first_end (get_or ks k 0))
      (middle_beside pts vs (first_end (get_or ks k 0)) (second_end (get_or ks k 0)) u) ≡ false
  pub away : on_way vs (middle_beside pts vs (first_end (get_or ks k 0)) (second_end (get_or ks k 0)) u) (way_after fars ups u) ≡ false
  pub gained : gain + (cost w (middle_beside pts vs (first_end (get_or ks k 0)) (second_end (get_or ks k 0)) u) (place_at vs u) + get_or fars u 0)
      ≡ get_or el l 0

module _ (w : Weights) (ms : List Macro) (pts : List ℤ) (n : ℕ) (ks : List ℕ) (e : ℕ) (el top : List ℕ) (vs : List ℤ) (v : ℕ)
    (fars ups seat : List ℕ) (least : ℕ) where
  abbrev Win : ℕ → ℕ → ℕ → ℕ → Type 0
  Win g k u l = WinnerOff w ms pts n ks e el top vs v fars ups seat g k u l

  -- edges first, then vertices: where c gains more than the least, it is the first of the greatest among the candidates before that of the
  -- edge i and the vertex x; otherwise none of those gains more
  pub record LeadsOff (c : Best) (i x : ℕ) : Type 0 where
    pub more : least ≤ c.gain
    pub wins : least < c.gain → Win c.gain c.edge c.point c.cut
    pub placed : least < c.gain → (c.edge ≤ i) × (i ≤ c.edge → c.point < x)
    pub most : (g k u l : ℕ) → least < g → Win g k u l → k ≤ i → (i ≤ k → u < x) →
        (g ≤ c.gain) × (g ≡ c.gain → (c.edge ≤ k) × (k ≤ c.edge → c.point ≤ u))

  -- the next one is no better
  stays : (c : Best) (i x : ℕ) → LeadsOff c i x → ((g l : ℕ) → Win g i x l → g ≤ c.gain) → LeadsOff c i (suc x)
  stays c i x h f = record {
    more = h.more;
    wins = h.wins;
    placed = λ p. ((h.placed p).0, λ q. omega (arith, (h.placed p).1 q));
    most =
        λ g k u l p win a b.
        either
        (λ t.
        let z : g ≤ c.gain = f g l (subst (λ (y : ℕ). Win g i y l) t.1 (subst (λ (y : ℕ). Win g y u l) t.0 win)) in
        (z, λ q. let r = h.placed (omega arith) in (omega (arith, r.0, t.0), λ s. omega (arith, r.1 (omega (arith, t.0)), t.1))))
        (λ t. h.most g k u l p win a t)
        (last_or k u i x a b);
  }

  -- the next one is better
  comes : (c : Best) (i x g l : ℕ) → LeadsOff c i x → c.gain < g → Win g i x l → ((y m : ℕ) → Win y i x m → y ≡ g) →
      LeadsOff (best g i x l) i (suc x)
  comes c i x g l h more mine f = record {
    more = omega (arith, h.more);
    wins = λ p. mine;
    placed = λ p. (omega arith, λ q. omega arith);
    most =
        λ y k u m p win a b.
        either
        (λ t.
        let z : y ≡ g = f y m (subst (λ (d : ℕ). Win y i d m) t.1 (subst (λ (d : ℕ). Win y d u m) t.0 win)) in
        (omega arith, λ q. (omega (arith, t.0), λ s. omega (arith, t.1))))
        (λ t.
        let r = h.most y k u m p win a t in
        (omega (arith, r.0), λ q. absurd (let z : ⊥ = omega (arith, r.0) in z)))
        (last_or k u i x a b);
  }

  offer-leads : (k u : ℕ) (c : Best) → k < e → u < v → LeadsOff c k u →
      LeadsOff (offer w pts n ms el top vs fars ups seat (first_end (get_or ks k 0)) (second_end (get_or ks k 0)) k u c) k (suc u)
  unfolding offer weighed free
  offer-leads k u c hk hu h =
      let a = first_end (get_or ks k 0) in
      let b = second_end (get_or ks k 0) in
      let f = get_or fars u 0 in
      let x = get_or seat u 0 in
      let l = cut_of el top a b x in
      let s = middle_beside pts vs a b u in
      let d = cost w s (place_at vs u) + f in
      let saw = sees ms (place_at pts a) (place_at pts b) (place_at vs u) in
      let gone = dropped pts n a b a s in
      let met = on_way vs s (way_after fars ups u) in
      let gained : (g m : ℕ) → Win g k u m → g + d ≡ get_or el l 0 = λ g m y. y.gained ∙ ap (λ (i : ℕ). get_or el i 0) y.cut in
      by (eqb f 0 || (eqb x a || (eqb x b || eqb l k)))
      (λ t. rw t (stays c k u h (λ g m y.
      differ t (or-neither _ _ (ne_eqb f 0 y.off) (or-neither _ _ (ne_eqb x a y.not_first)
      (or-neither _ _ (ne_eqb x b y.not_second) (ne_eqb l k (λ q. y.two (y.cut ∙ q))))))))) λ t.
      by (ltb (c.gain + d) (get_or el l 0) && (saw && (not gone && not met)))
      (λ z.
      let more = ltb-true (c.gain + d) (get_or el l 0) (and_left _ _ z) in
      let fit = and_right (ltb (c.gain + d) (get_or el l 0)) _ z in
      let rest = and_right saw _ fit in
      let no-f = or-none (eqb f 0) _ t in
      let no-a = or-none (eqb x a) _ no-f.1 in
      let no-b = or-none (eqb x b) _ no-a.1 in
      rw (t, z) (comes c k u (get_or el l 0 - d) l h (omega (arith, more)) (record {
        edge = hk;
        vertex = hu;
        off = eqb-false _ _ no-f.0;
        not_first = eqb-false _ _ no-a.0;
        not_second = eqb-false _ _ no-b.0;
        two = eqb-false _ _ no-b.1;
        cut = refl;
        seen = and_left _ _ fit;
        kept = not-true _ (and_left _ _ rest);
        away = not-true _ (and_right (not gone) _ rest);
        gained = omega (arith, more);
      }) (λ g m y. omega (arith, gained g m y))))
      (λ z. rw (t, z) (stays c k u h (λ g m y.
      by (ltb (c.gain + d) (get_or el l 0))
      (λ q. differ (and_both _ _ q (and_both _ _ y.seen (and_both _ _ (ap not y.kept) (ap not y.away)))) z)
      (λ q. omega (arith, ltb-false (c.gain + d) (get_or el l 0) q, gained g m y)))))

  -- all vertices of one edge
  vertices-lead : (k : ℕ) → k < e → (m x : ℕ) (c : Best) → x + m ≡ v → LeadsOff c k x →
      LeadsOff (turns (offer w pts n ms el top vs fars ups seat (first_end (get_or ks k 0)) (second_end (get_or ks k 0)) k) x m c) k v
  unfolding turns
  vertices-lead k hk zero x c q h = subst (λ (y : ℕ). LeadsOff c k y) (omega arith) h
  vertices-lead k hk (suc m) x c q h = vertices-lead k hk m (suc x) _ (omega arith) (offer-leads k x c hk (omega arith) h)

  -- the next edge
  edge_leads : (c : Best) (k : ℕ) → LeadsOff c k v → LeadsOff c (suc k) 0
  edge_leads c k h = record {
    more = h.more;
    wins = h.wins;
    placed = λ p. (omega (arith, (h.placed p).0), λ q. absurd (let z : ⊥ = omega (arith, (h.placed p).0) in z));
    most =
        λ g j u l p win a b.
        h.most g j u l p win
        (by (ltb k j) (λ t. absurd (let z : ⊥ = omega (arith, b (ltb-true k j t)) in z)) (λ t. ltb-false k j t))
        (λ q. win.vertex);
  }

  edges-lead : (m i : ℕ) (c : Best) → i + m ≡ e → LeadsOff c i 0
      → LeadsOff (turns (offers w pts n ms ks el top vs v fars ups seat) i m c) e 0
  unfolding turns offers
  edges-lead zero i c q h = subst (λ (x : ℕ). LeadsOff c x 0) (omega arith) h
  edges-lead (suc m) i c q h = edges-lead m (suc i) _ (omega arith) (edge_leads _ i (vertices-lead i (omega arith) v 0 c (omega arith) h))

  pub search-leads-off : (c : Best) → c.gain ≡ least → LeadsOff (search w pts n ms ks e el top vs v fars ups seat c) e 0
  unfolding search
  search-leads-off c q = edges-lead e 0 c (omega arith) (record {
    more = omega (arith, q);
    wins = λ p. absurd (let z : ⊥ = omega (arith, q) in z);
    placed = λ p. absurd (let z : ⊥ = omega (arith, q) in z);
    most = λ g k u l p win a b. absurd (let z : ⊥ = omega (arith, b (omega arith)) in z);
  })
