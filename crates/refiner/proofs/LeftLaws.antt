-- R16, its end: after pruning no edge has a point that is no pin and has a single edge. A run of the pruning ends with no such edge or
-- takes one away, and there are as many runs as edges. So a point of the tree that is no pin and has an edge has two.
-- Assumes nothing.
use mathlib.Core.Path.{◌≡◌, sym, ap, ◌∙◌, subst}
use mathlib.Core.Bool.{true, false}
use mathlib.Core.Logic.{◌⊎◌, inl, inr}
use mathlib.Core.List.{List}
use Prim.Native.Nat.{ℕ, zero, suc, ◌≤◌, ◌<◌}
use native.Mathlib.Omega.{arith}
use lib.Dec.{ltb, eqb}
use lib.IntN.{ℤ}
use lib.ListN.{get_or, replicate}
use borrow.Author.Tests.{ltb-true, ltb-false, eqb-true, eqb-false, eq-eqb}
use Rattle.lists.specs.Member.{◌∈◌}
use Rattle.lists.proofs.TestLaws.{by, differ, either, and_both, or-none}
use Rattle.lists.proofs.AnyLaws.{none_any}
use Rattle.plane.specs.declared.Place.{Place}
use Rattle.plane.specs.Place.{same_place}
use Rattle.plane.specs.Flat.{place_at}
use Rattle.net.specs.Net.{Net}
use Rattle.plane.proofs.PlaceLaws.{same_true}
use Rattle.joined.proofs.OneTreeLaws.{tree-simple}
use Rattle.lists.specs.Turns.{turns}
use Rattle.tree.specs.Table.{tree_bound, first_end, second_end, Tree, Within}
use Rattle.exchanges.specs.Exchange.{closed}
use Rattle.exchanges.specs.Prune.{mark_of, marks, count_ends, loose, loose_edge, first_loose, prune, pruned}
use Rattle.tree.specs.Sum.{below, sum_over}
use Rattle.tree.specs.Places.{ends_of, Sound}
use Rattle.refiner.specs.Sentences.{NoneLeft}
use Rattle.tree.proofs.SumLaws.{below_at, below-some, one, one_same, one-some, one-not}
use Rattle.exchanges.proofs.OpenedLaws.{seek-before}
use Rattle.exchanges.proofs.WithinLaws.{seek-le, pruned-within}
use Rattle.tree.proofs.ListingLaws.{in-listing}
use Rattle.tree.proofs.PointLaws.{same-place}
use Rattle.exchanges.proofs.PruneSound.{end_count, degree, pruned-was}
use Rattle.refiner.proofs.RefinedSound.{marks-at, zeros-length}

first-none : (pin ks : List ℕ) → first_loose pin ks 0 ≡ 0
unfolding first_loose
first-none pin ks = omega (arith, seek-le (loose_edge pin (turns (count_ends ks) 0 0 (replicate tree_bound 0)) ks) 0 0)

-- after pruning there is no edge to go
pub none-loose : (pin : List ℕ) (e : ℕ) (ks : List ℕ) → first_loose pin (prune pin ks e).keys (prune pin ks e).size ≡ (prune pin ks e).size
unfolding prune
none-loose pin zero ks = first-none pin ks
none-loose pin (suc e) ks =
    by (eqb (first_loose pin ks (suc e)) (suc e)) (λ t. rw (prune, t) (eqb-true _ _ t))
    (λ t. rw (prune, t) (none-loose pin e (closed (first_loose pin ks (suc e)) e ks)))

-- where none is to go, no edge has a point that is no pin and has a single edge
not-loose : (pin ks : List ℕ) (e : ℕ) → first_loose pin ks e ≡ e → (i : ℕ) → i < e →
    loose_edge pin (turns (count_ends ks) 0 e (replicate tree_bound 0)) ks i ≡ false
unfolding first_loose
not-loose pin ks e q i h = seek-before (loose_edge pin (turns (count_ends ks) 0 e (replicate tree_bound 0)) ks) e 0 i (omega arith)
    (omega (arith, q))

pub pruned-none : (pin ks : List ℕ) (e i : ℕ) → i < (prune pin ks e).size →
    loose_edge pin (turns (count_ends (prune pin ks e).keys) 0 (prune pin ks e).size (replicate tree_bound 0)) (prune pin ks e).keys i
    ≡ false
pruned-none pin ks e i h = not-loose pin (prune pin ks e).keys (prune pin ks e).size (none-loose pin e ks) i h

-- a sum with more than one of its parts has another
below_two : (f : ℕ → ℕ) (n i : ℕ) → i < n → f i < below f n → (j : ℕ) × ((j < n) × ((j ≡ i → ⊥) × (0 < f j)))
unfolding below
below_two f zero i h l = absurd (let z : ⊥ = omega arith in z)
below_two f (suc n) i h l =
    by (eqb i n)
    (λ t.
    let q : i ≡ n = eqb-true i n t in
    let p : f i ≡ f n = ap f q in
    let r = below-some f n (omega (arith, p)) in
    (r.0, (omega (arith, r.1.0), ((λ e. let z : ⊥ = omega (arith, r.1.0) in z), r.1.1))))
    (λ t.
    let d : i ≡ n → ⊥ = eqb-false i n t in
    by (ltb 0 (f n)) (λ s. (n, (omega arith, ((λ e. d (sym e)), ltb-true 0 (f n) s))))
    (λ s.
    let r = below_two f n i (omega arith) (omega (arith, ltb-false 0 (f n) s)) in
    (r.0, (omega (arith, r.1.0), (r.1.1.0, r.1.1.1)))))

-- an edge with two ends has each once
ends-count : (v k : ℕ) → (first_end k ≡ second_end k → ⊥) → (v ≡ first_end k) ⊎ (v ≡ second_end k) → end_count v k ≡ 1
ends-count v k d (inl q) =
    let a : one v (first_end k) ≡ 1 = ap (one v) (sym q) ∙ one_same v in
    omega (arith, a, one-not v (second_end k) (λ r. d (sym q ∙ sym r)))
ends-count v k d (inr q) =
    let a : one v (second_end k) ≡ 1 = ap (one v) (sym q) ∙ one_same v in
    omega (arith, a, one-not v (first_end k) (λ r. d (r ∙ q)))

count-ends : (v k : ℕ) → 0 < end_count v k → (v ≡ first_end k) ⊎ (v ≡ second_end k)
count-ends v k h =
    by (ltb 0 (one v (first_end k))) (λ t. inl (sym (one-some v (first_end k) (ltb-true 0 _ t))))
    (λ t. inr (sym (one-some v (second_end k) (omega (arith, ltb-false 0 (one v (first_end k)) t)))))

-- no edge with a loose point: a point that is no pin and has an edge has another
module _ (n : ℕ) (pin ks : List ℕ) (e : ℕ) (few : n ≤ tree_bound) (w : Within n ks)
    (apart : (i : ℕ) → i < e → first_end (get_or ks i 0) ≡ second_end (get_or ks i 0) → ⊥)
    (done : (i : ℕ) → i < e → loose_edge pin (turns (count_ends ks) 0 e (replicate tree_bound 0)) ks i ≡ false) where
  abbrev counted : List ℕ
  counted = turns (count_ends ks) 0 e (replicate tree_bound 0)

  -- such a point has not a single edge
  not-single : (v i : ℕ) → i < e → (v ≡ first_end (get_or ks i 0)) ⊎ (v ≡ second_end (get_or ks i 0)) → get_or pin v 0 ≡ 0 → get_or counted v 0 ≡ 1 →
      ⊥
  unfolding loose_edge loose
  not-single v i h q free single =
      let z = or-none (loose pin counted (first_end (get_or ks i 0))) (loose pin counted (second_end (get_or ks i 0))) (done i h) in
      let yes : loose pin counted v ≡ true = and_both _ _ (eq-eqb _ _ free) (eq-eqb _ _ single) in
      either (λ p. differ yes (ap (loose pin counted) p ∙ z.0)) (λ p. differ yes (ap (loose pin counted) p ∙ z.1)) q

  pub two_edges : (v i : ℕ) → i < e → (v ≡ first_end (get_or ks i 0)) ⊎ (v ≡ second_end (get_or ks i 0)) → get_or pin v 0 ≡ 0 →
      (j : ℕ) × ((j < e) × ((j ≡ i → ⊥) × ((v ≡ first_end (get_or ks j 0)) ⊎ (v ≡ second_end (get_or ks j 0)))))
  two_edges v i h q free =
      let own = ends-count v (get_or ks i 0) (apart i h) q in
      let all = degree n ks e v w few in
      let at = below_at (λ j. end_count v (get_or ks j 0)) e i h in
      let more : sum_over (end_count v) ks e ≡ 1 → ⊥ = λ s. not-single v i h q free (all ∙ s) in
      let r = below_two (λ j. end_count v (get_or ks j 0)) e i h (omega (arith, own, at, more)) in
      (r.0, (r.1.0, (r.1.1.0, count-ends v (get_or ks r.0 0) r.1.1.1)))

-- a point that is no pin has the mark 0
pub no-pin : (pins : List Place) (pts : List ℤ) (n : ℕ) → n ≤ tree_bound → (v : ℕ) → v < n → (place_at pts v ∈ pins → ⊥) →
    get_or (marks pins pts n) v 0 ≡ 0
unfolding marks mark_of
no-pin pins pts n few v h d =
    marks-at pins pts n 0 (replicate tree_bound 0) v (rw (zeros-length tree_bound) (omega arith)) (omega arith) (omega arith)
    ∙ ap mark_of (none_any (same_place (place_at pts v)) pins none)
  where
    none : (x : Place) → x ∈ pins → same_place (place_at pts v) x ≡ false
    none x m = by (same_place (place_at pts v) x) (λ t. absurd (d (subst (λ (y : Place). y ∈ pins) (sym (same_true _ _ t)) m))) (λ t. t)

-- R16, its end, of a tree over its points
pub pruned-left : (net : Net) (t : Tree) → Sound net t → t.count ≤ tree_bound → NoneLeft net.pins (pruned net.pins t)
unfolding pruned
pruned-left net t sound few = record {
  two =
      λ v i h q free.
      two_edges t.count pin left size few within apart (pruned-none pin t.edges.keys t.edges.size) v i h q
      (no-pin net.pins t.points t.count few v (low v i q) free);
}
  where
    pin : List ℕ
    pin = marks net.pins t.points t.count

    left : List ℕ
    left = (prune pin t.edges.keys t.edges.size).keys

    size : ℕ
    size = (prune pin t.edges.keys t.edges.size).size

    within : Within t.count left
    within = pruned-within t.count pin t.edges.keys t.edges.size sound.within

    low : (v i : ℕ) → (v ≡ first_end (get_or left i 0)) ⊎ (v ≡ second_end (get_or left i 0)) → v < t.count
    low v i (inl q) = omega (arith, q, (within.ends i).0)
    low v i (inr q) = omega (arith, q, (within.ends i).1)

    apart : (i : ℕ) → i < size → first_end (get_or left i 0) ≡ second_end (get_or left i 0) → ⊥
    apart i h q =
        let r = pruned-was pin t.edges.size t.edges.keys i h in
        let k = get_or t.edges.keys r.0 0 in
        let p : first_end k ≡ second_end k = ap first_end (sym r.1.1) ∙ q ∙ ap second_end r.1.1 in
        (tree-simple same-place sound.whole).apart (place_at t.points (first_end k)) (place_at t.points (second_end k))
        (in-listing (λ j. ends_of t.points (get_or t.edges.keys j 0)) t.edges.size r.0 r.1.0) (ap (place_at t.points) p)
