-- The pruning of the tables is one of those that the rules allow: each edge that goes is a loose point's single edge, and none is left.
-- Assumes nothing.
use mathlib.Core.Path.{◌≡◌, refl, sym, ap, ◌∙◌, subst}
use mathlib.Core.Bool.{true}
use mathlib.Core.Logic.{inl, inr, ◌↔◌}
use mathlib.Core.List.Memᴰ
use mathlib.Core.List.{List}
use Prim.Native.Nat.{ℕ, zero, suc, ◌≤◌, ◌<◌}
use native.Mathlib.Omega.{arith}
use lib.Dec.{ltb, eqb}
use lib.IntN.{ℤ}
use lib.ListN.{get_or, replicate}
use borrow.Author.Tests.{ltb-true, ltb-false, eqb-true, eqb-false}
use Rattle.lists.specs.Member.{◌∈◌}
use Rattle.lists.proofs.TestLaws.{by, either, and_left, and_right}
use Rattle.plane.specs.declared.Place.{Place}
use Rattle.plane.specs.Flat.{place_at}
use Rattle.plane.specs.Rank.{InOrder}
use Rattle.joined.specs.Joined.{Alike}
use Rattle.net.specs.Net.{Net}
use Rattle.lists.specs.Turns.{turns}
use Rattle.tree.specs.Table.{tree_bound, first_end, second_end, Tree, Within}
use Rattle.exchanges.specs.Exchange.{closed}
use Rattle.exchanges.specs.Prune.{marks, count_ends, loose, loose_edge, first_loose, prune, pruned}
use Rattle.tree.specs.Sum.{sum_over}
use Rattle.tree.specs.Places.{ends_of, edges_of, Ranked, Sound}
use Rattle.refiner.specs.Sentences as tables
use Rattle.exchanges.proofs.ExchangeSums.{closed_at, skip}
use Rattle.exchanges.proofs.WithinLaws.{within-closed}
use Rattle.tree.proofs.ListingLaws.{in-listing, of-listing}
use Rattle.exchanges.proofs.RankedLaws.{prune-ranked}
use Rattle.exchanges.proofs.PruneSound.{end_count, degree, kept, gone, skip-in, first-le, first-hit, pruned-was}
use Rattle.refiner.proofs.RefinedSound.{unmarked}
use Rattle.refiner.proofs.LeftLaws.{pruned-left}
use Rattle.rules.specs.Edges.{Edge}
use Rattle.rules.specs.Refined.{EndOf, Loose, Strips, same, strip, Prunes}
use Rattle.rules.proofs.GainOurs.{edges_in, edge_at, edge_in, edge-of, edge-one}

module _ (pts : List ℤ) (n : ℕ) (o : InOrder pts n) (few : n ≤ tree_bound) (net : Net) (pin : List ℕ)
    (marked : (v : ℕ) → v < n → get_or pin v 0 ≡ 0 → place_at pts v ∈ net.pins → ⊥) where
  -- the point v of the edge i goes
  module _ (ks : List ℕ) (w : Within n ks) (e i : ℕ) (hi : i ≤ e) (v z : ℕ)
      (ends : Alike v z (first_end (get_or ks i 0)) (second_end (get_or ks i 0)))
      (is : loose pin (turns (count_ends ks) 0 (suc e) (replicate tree_bound 0)) v ≡ true) where
    low : Alike v z (first_end (get_or ks i 0)) (second_end (get_or ks i 0)) → v < n
    low (inl h) = omega (arith, h.0, (w.ends i).0)
    low (inr h) = omega (arith, h.0, (w.ends i).1)

    single : sum_over (end_count v) ks (suc e) ≡ 1
    unfolding loose
    single = sym (degree n ks (suc e) v w few) ∙ eqb-true _ 1 (and_right (eqb (get_or pin v 0) 0) _ is)

    -- no edge that is left has it
    none_has : (f : Edge) → f ∈ edges_of pts (closed i e ks) e → EndOf (place_at pts v) f → ⊥
    none_has f m (inl q) =
        gone pts n o few ks w e i hi v z (low ends) ends single f.1
        (inl (subst (λ (x : Place). (x, f.1) ∈ edges_of pts (closed i e ks) e) (sym q) m))
    none_has f m (inr q) =
        gone pts n o few ks w e i hi v z (low ends) ends single f.0
        (inr (subst (λ (x : Place). (f.0, x) ∈ edges_of pts (closed i e ks) e) (sym q) m))

    its-end : Alike v z (first_end (get_or ks i 0)) (second_end (get_or ks i 0)) → EndOf (place_at pts v) (ends_of pts (get_or ks i 0))
    its-end (inl h) = inl (ap (place_at pts) h.0)
    its-end (inr h) = inr (ap (place_at pts) h.0)

    is-loose : Loose net (edges_of pts ks (suc e)) (place_at pts v) (ends_of pts (get_or ks i 0))
    unfolding loose
    is-loose = record {
      free = marked v (low ends) (eqb-true _ _ (and_left _ _ is));
      edge = in-listing (λ j. ends_of pts (get_or ks j 0)) (suc e) i (omega arith);
      end = its-end ends;
      single = λ f m q. either (λ r. r) (λ r. absurd (none_has f r q)) (kept pts n o few ks w e i hi f.0 f.1 m);
    }

    was : (f : Edge) → f ∈ edges_of pts (closed i e ks) e → f ∈ edges_of pts ks (suc e)
    was f m =
        let r = of-listing (λ j. ends_of pts (get_or (closed i e ks) j 0)) e f m in
        Memᴰ.cast (r.1.1 ∙ ap (ends_of pts) (closed_at i e ks r.0 r.1.0))
        (in-listing (λ j. ends_of pts (get_or ks j 0)) (suc e) (skip i r.0) (skip-in i r.0 e r.1.0))

    left : (f : Edge) → (f ∈ edges_of pts (closed i e ks) e) ↔ ((f ∈ edges_of pts ks (suc e)) × (f ≡ ends_of pts (get_or ks i 0) → ⊥))
    left f = (
      λ m. (was f m, λ q. none_has f m (subst (EndOf (place_at pts v)) (sym q) (its-end ends))),
      λ h. either (λ q. absurd (h.1 q)) (λ m. m) (kept pts n o few ks w e i hi f.0 f.1 h.0),
    )

    goes : {R : List Edge} → Strips net (edges_of pts (closed i e ks) e) R → Strips net (edges_of pts ks (suc e)) R
    goes s = strip (place_at pts v) (ends_of pts (get_or ks i 0)) is-loose left s

  strips-ours : (e : ℕ) (ks : List ℕ) → Within n ks →
      Strips net (edges_of pts ks e) (edges_of pts (prune pin ks e).keys (prune pin ks e).size)
  unfolding prune loose_edge
  strips-ours zero ks w = same (λ f m. m, λ f m. m)
  strips-ours (suc e) ks w =
      by (eqb (first_loose pin ks (suc e)) (suc e)) (λ t. rw (prune, t) (same (λ f m. m, λ f m. m)))
      (λ t.
      let i = first_loose pin ks (suc e) in
      let d = turns (count_ends ks) 0 (suc e) (replicate tree_bound 0) in
      let ne : i ≡ suc e → ⊥ = eqb-false i (suc e) t in
      let le = first-le pin ks (suc e) in
      let hit = first-hit pin ks (suc e) (omega arith) in
      let hi : i ≤ e = omega arith in
      let more = strips-ours e (closed i e ks) (within-closed n i e ks w) in
      rw (prune, t)
      (by (loose pin d (first_end (get_or ks i 0)))
      (λ a. goes ks w e i hi (first_end (get_or ks i 0)) (second_end (get_or ks i 0)) (inl (refl, refl)) a more)
      (λ a. goes ks w e i hi (second_end (get_or ks i 0)) (first_end (get_or ks i 0)) (inr (refl, refl)) (rw a at hit) more)))

-- keys that rise are each once
rising-one : (ks : List ℕ) (e i j : ℕ) → Ranked ks e → i < e → j < e → get_or ks i 0 ≡ get_or ks j 0 → i ≡ j
rising-one ks e i j r h k q =
    by (ltb i j) (λ t. absurd (let z : ⊥ = omega (arith, r.rising i j (ltb-true i j t) k, q) in z)) λ t.
    by (ltb j i) (λ s. absurd (let z : ⊥ = omega (arith, r.rising j i (ltb-true j i s) h, q) in z)) λ s.
    omega (arith, ltb-false i j t, ltb-false j i s)

module _ {net : Net} (t : Tree) (sound : Sound net t) (ranked : Ranked t.edges.keys t.edges.size)
    (few : t.count ≤ tree_bound) where
  -- two edges of what is left are one where their ends are
  left_one : (i j : ℕ) → i < (pruned net.pins t).edges.size → j < (pruned net.pins t).edges.size →
      edge_at (pruned net.pins t) i ≡ edge_at (pruned net.pins t) j → i
      ≡ j
  unfolding pruned
  left_one i j h k q =
      let pin = marks net.pins t.points t.count in
      let a = pruned-was pin t.edges.size t.edges.keys i h in
      let b = pruned-was pin t.edges.size t.edges.keys j k in
      let e = edge-one t sound ranked a.0 b.0 a.1.0 b.1.0
      (ap (ends_of t.points) (sym a.1.1) ∙ q ∙ ap (ends_of t.points) b.1.1) in
      rising-one (prune pin t.edges.keys t.edges.size).keys (prune pin t.edges.keys t.edges.size).size i j
      (prune-ranked pin t.edges.size t.edges.keys ranked) h k
      (a.1.1 ∙ ap (λ (x : ℕ). get_or t.edges.keys x 0) e ∙ sym b.1.1)

  -- the point v of the edge i of what is left is not loose
  not-loose : (v i : ℕ) → i < (pruned net.pins t).edges.size → tables.EndOf (pruned net.pins t) v i →
      Loose net (edges_in (pruned net.pins t)) (place_at (pruned net.pins t).points v) (edge_at (pruned net.pins t) i) → ⊥
  not-loose v i h q l =
      let r = (pruned-left net t sound few).two v i h q l.free in
      r.1.1.0 (left_one r.0 i r.1.0 h (l.single (edge_at (pruned net.pins t) r.0)
      (edge_in (pruned net.pins t) r.0 r.1.0)
      (at r.0 r.1.1.1)))
    where
      at : (j : ℕ) → tables.EndOf (pruned net.pins t) v j →
          EndOf (place_at (pruned net.pins t).points v) (edge_at (pruned net.pins t) j)
      at j (inl e) = inl (ap (place_at (pruned net.pins t).points) e)
      at j (inr e) = inr (ap (place_at (pruned net.pins t).points) e)

  none-loose : (v : Place) (e : Edge) → Loose net (edges_in (pruned net.pins t)) v e → ⊥
  none-loose v e l = at (edge-of (pruned net.pins t) e l.edge)
    where
      at : (i : ℕ) × ((i < (pruned net.pins t).edges.size) × (e ≡ edge_at (pruned net.pins t) i)) → ⊥
      at r = which (subst (EndOf v) r.1.1 l.end)
        where
          which : EndOf v (edge_at (pruned net.pins t) r.0) → ⊥
          which (inl q) =
              not-loose (first_end (tables.key_at (pruned net.pins t) r.0)) r.0 r.1.0 (inl refl)
              (subst (λ (x : Place). Loose net (edges_in (pruned net.pins t)) x (edge_at (pruned net.pins t) r.0)) q
              (subst (Loose net (edges_in (pruned net.pins t)) v) r.1.1 l))
          which (inr q) =
              not-loose (second_end (tables.key_at (pruned net.pins t) r.0)) r.0 r.1.0 (inr refl)
              (subst (λ (x : Place). Loose net (edges_in (pruned net.pins t)) x (edge_at (pruned net.pins t) r.0)) q
              (subst (Loose net (edges_in (pruned net.pins t)) v) r.1.1 l))

  strips : Strips net (edges_in t) (edges_in (pruned net.pins t))
  unfolding pruned
  strips =
      strips-ours t.points t.count sound.ordered few net (marks net.pins t.points t.count)
      (unmarked net.pins t.points t.count few)
      t.edges.size t.edges.keys sound.within

  pub prunes-ours : Prunes net (edges_in t) (edges_in (pruned net.pins t))
  prunes-ours = record { strips = strips; none = none-loose }
