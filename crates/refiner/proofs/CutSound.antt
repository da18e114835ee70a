-- R8: in a tree `cut_of` is L, the longest edge on the way from u to the nearer end of (a, b). It alone is, and it is another edge than
-- (a, b), since the way does not go on over that edge. So the test that L is another edge than (a, b) turns no candidate away.
-- Assumes nothing.
use mathlib.Core.Path.{◌≡◌, refl, sym, ap, ◌∙◌, subst}
use mathlib.Core.Bool.{◌||◌}
use mathlib.Core.Logic.{inl, inr}
use mathlib.Core.List.{List}
use Prim.Native.Nat.{ℕ, zero, suc, ◌≤◌, ◌<◌}
use native.Mathlib.Omega.{arith}
use lib.Dec.{eqb}
use lib.IntN.{ℤ}
use lib.ListN.{get_or}
use borrow.Author.Tests.{eqb-false, ne_eqb}
use Rattle.lists.proofs.TestLaws.{by, either}
use Rattle.plane.specs.declared.Place.{Place}
use Rattle.plane.specs.Flat.{place_at}
use Rattle.net.specs.Net.{Net}
use Rattle.joined.specs.Exchange.{Toward}
use Rattle.joined.specs.Joined.{Alike}
use Rattle.joined.proofs.TreeLaws.{tree-cuts}
use Rattle.joined.proofs.TowardLaws.{toward-only}
use Rattle.joined.proofs.ExchangeLaws.{step_other}
use Rattle.candidates.specs.declared.Best.{Best}
use Rattle.tree.specs.Table.{tree_bound, first_end, second_end, Tree, tree}
use Rattle.longest.specs.Longest.{costs, longest, no_edge}
use Rattle.candidates.specs.Candidate.{chosen, weighed, offer}
use Rattle.tree.specs.Places.{ends_of, edges_of, Sound}
use Rattle.refiner.specs.Sentences.{key_at, end_a, end_b, cost_at, EndOf, StepOf, LongestOn, CutAt, cut_in}
use Rattle.longest.proofs.WinsLaws.{Under}
use Rattle.tree.proofs.ListingLaws.{listing-length, in-listing}
use Rattle.tree.proofs.PointLaws.{same-place}
use Rattle.refiner.proofs.CutLaws.{Is, cut-is, the-way}
use Rattle.beside.proofs.HangingLaws.{no-cost}
use Rattle.bounds.proofs.CostLaws.{cost-at}

-- only one edge is the longest, smallest on a tie
longest-one : (net : Net) (t : Tree) (x : Place) (ps : List Place) (l m : ℕ) → LongestOn net t x ps l → LongestOn net t x ps m → l ≡ m
longest-one net t x ps l m p q =
    let a = p.longest m q.step in
    let b = q.longest l p.step in
    omega (arith, p.smallest m q.step (omega arith), q.smallest l p.step (omega arith))

-- the number of edges is below the bound
pub tree-size : (net : Net) (t : Tree) → Sound net t → suc t.edges.size ≡ t.count
tree-size net t sound =
    ap suc (sym (listing-length (λ j. ends_of t.points (get_or t.edges.keys j 0)) t.edges.size)) ∙ sound.whole.size
    ∙ listing-length (place_at t.points) t.count

module _ (net : Net) (pts : List ℤ) (n : ℕ) (ks : List ℕ) (e : ℕ) (sound : Sound net (tree pts n ks (suc e)))
    (few : n ≤ tree_bound) (k u : ℕ) (hk : k < suc e) (hu : u < n) (third : EndOf (tree pts n ks (suc e)) u k → ⊥) where
  sized : suc (suc e) ≡ n
  sized = tree-size net (tree pts n ks (suc e)) sound

  abbrev el : List ℕ
  el = costs net.weights pts ks (suc e)

  free-cost : get_or el no_edge 0 ≡ 0
  free-cost = no-cost net.weights pts ks (suc e) (omega (arith, sized))

  abbrev Here : ℕ → Type 0
  Here x =
      Is pts n ks e el sound.ordered few (omega (arith, sized)) (free-cost)
      sound.within
      sound.whole k u
      hk hu (λ q. third (inl q)) (λ q. third (inr q)) x

  worked-is : Here (cut_in net (tree pts n ks (suc e)) k u)
  unfolding longest
  worked-is =
      cut-is pts n ks e el sound.ordered few (omega (arith, sized)) (free-cost)
      sound.within
      sound.whole
      k u hk hu (λ q. third (inl q)) (λ q. third (inr q))

  cost-of : (j : ℕ) → j < suc e → get_or el j 0 ≡ cost_at net (tree pts n ks (suc e)) j
  cost-of j h = cost-at net.weights pts ks (suc e) j (omega (arith, sized)) h

  abbrev way : Toward (edges_of pts ks (suc e)) (place_at pts u) (place_at pts (first_end (get_or ks k 0)))
      (place_at pts (second_end (get_or ks k 0)))
  way =
      the-way pts n ks e el sound.ordered few (omega (arith, sized)) (free-cost)
      sound.within
      sound.whole k u hk hu (λ q. third (inl q)) (λ q. third (inr q))

  of_is : (x : ℕ) → Here x → CutAt net (tree pts n ks (suc e)) k u x
  of_is x h = record {
    way = way;
    longest = record {
      step = record { edge = h.1.0; one = h.1.1.0; other = h.1.1.1.0; on = h.1.1.1.1.0; ends = h.1.1.1.1.1 };
      longest = λ j s. omega (arith, (under j s).0, cost-of j s.edge, cost-of x h.1.0);
      smallest = λ j s q. (under j s).1 (omega (arith, q, cost-of j s.edge, cost-of x h.1.0));
    };
  }
    where
      under : (j : ℕ) → StepOf (tree pts n ks (suc e)) (place_at pts u) way.free.points j → Under el j x
      under j s = h.0.best j s.edge s.one s.other s.on s.ends

  cut-some : CutAt net (tree pts n ks (suc e)) k u (cut_in net (tree pts n ks (suc e)) k u)
  cut-some = of_is (cut_in net (tree pts n ks (suc e)) k u) worked-is

at_size : (net : Net) (pts : List ℤ) (n : ℕ) (ks : List ℕ) (e : ℕ) → Sound net (tree pts n ks e) → n ≤ tree_bound →
    (k u : ℕ) → k < e → u < n → (EndOf (tree pts n ks e) u k → ⊥) → CutAt net (tree pts n ks e) k u (cut_in net (tree pts n ks e) k u)
at_size net pts n ks zero sound few k u hk hu third = absurd (let z : ⊥ = omega arith in z)
at_size net pts n ks (suc e) sound few k u hk hu third = cut-some net pts n ks e sound few k u hk hu third

module _ (net : Net) (t : Tree) (sound : Sound net t) (few : t.count ≤ tree_bound) where
  -- the edge that is worked out is L
  pub cut-at : (k u : ℕ) → k < t.edges.size → u < t.count → (EndOf t u k → ⊥) → CutAt net t k u (cut_in net t k u)
  cut-at k u hk hu third = at_size net t.points t.count t.edges.keys t.edges.size sound few k u hk hu third

  -- no two edges are L
  pub cut-one : (k u l m : ℕ) → k < t.edges.size → CutAt net t k u l → CutAt net t k u m → l ≡ m
  cut-one k u l m hk p q =
      longest-one net t (place_at t.points u) q.way.free.points l m
      (subst (λ (ps : List Place). LongestOn net t (place_at t.points u) ps l) (only p.way q.way) p.longest) q.longest
    where
      only : (v w : Toward (edges_of t.points t.edges.keys t.edges.size) (place_at t.points u) (end_a t k) (end_b t k)) →
          v.free.points ≡ w.free.points
      only v w =
          (toward-only same-place (tree-cuts same-place sound.whole)
          (inl (in-listing (λ j. ends_of t.points (get_or t.edges.keys j 0)) t.edges.size k hk)) v w).1

  -- L is another edge than (a, b)
  pub cut-another : (k u l : ℕ) → CutAt net t k u l → l ≡ k → ⊥
  cut-another k u l c q =
      let s = c.longest.step in
      step_other c.way s.on (subst (λ (j : ℕ). Alike s.one s.other (end_a t j) (end_b t j)) q s.ends)

  -- so the test of it turns no candidate away: without it an offer is the same
  pub offer-plain : (k u : ℕ) (c : Best) → k < t.edges.size → u < t.count →
      let el = costs net.weights t.points t.edges.keys t.edges.size in
      let top = longest t.edges.keys el t.edges.size t.count in
      let a = first_end (key_at t k) in
      let b = second_end (key_at t k) in
      offer net.weights t.points t.count net.macros el top a b k u c
      ≡ chosen (eqb u a || eqb u b) c
      (weighed net.weights t.points t.count net.macros a b k u (cut_in net t k u) (get_or el (cut_in net t k u) 0) c)
  unfolding offer
  offer-plain k u c hk hu =
      by (eqb u (first_end (key_at t k))) (λ p. rw p refl) λ p.
      by (eqb u (second_end (key_at t k))) (λ q. rw (p, q) refl) λ q.
      let third : EndOf t u k → ⊥ = either (eqb-false _ _ p) (eqb-false _ _ q) in
      rw (p, q, ne_eqb (cut_in net t k u) k (cut-another k u (cut_in net t k u) (cut-at k u hk hu third))) refl
