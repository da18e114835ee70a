-- A tree's edges in the order of their table are its listing read from the other end: the same edges, as many, at the same cost.
-- Assumes nothing.
use mathlib.Core.Path.{◌≡◌, refl, sym, ap, ◌∙◌, subst}
use mathlib.Core.Bool.{true}
use mathlib.Core.List.Memᴰ
use mathlib.Core.List.{List, reverse, reverse_aux}
use Prim.Native.Nat.{ℕ, zero, suc, ◌+◌, ◌≤◌, ◌<◌}
use native.Mathlib.Omega.{arith}
use lib.IntN.{ℤ}
use lib.ListN.{length, get_or}
use Rattle.lists.specs.Member.{◌∈◌, Among}
use Rattle.lists.proofs.TestLaws.{either}
use Rattle.lists.proofs.MemberLaws.{in-reverse, of_reverse}
use Rattle.lists.proofs.TotalLaws.{total-reverse}
use Rattle.plane.specs.declared.Place.{Place}
use Rattle.plane.specs.declared.Weights.{Weights}
use Rattle.plane.specs.Place.{before}
use Rattle.plane.specs.Cost.{cost}
use Rattle.plane.specs.Rank.{InOrder}
use Rattle.joined.specs.Cost.{lengths}
use Rattle.tree.specs.Table.{Tree, Within}
use Rattle.tree.specs.Sum.{sum_over}
use Rattle.tree.specs.Places.{listing, ends_of, edges_of, key_cost, tree_total, Ranked}
use Rattle.tree.specs.Edges.{edges_from, table_edges, tree_edges}
use Rattle.tree.proofs.ListingLaws.{listing-lengths}

module _ (pts : List ℤ) (ks : List ℕ) where
  abbrev at : ℕ → Place × Place
  at i = ends_of pts (get_or ks i 0)

  edges-turned : (n i : ℕ) → reverse_aux (edges_from pts ks i n) (listing at i) ≡ listing at (i + n)
  unfolding edges_from listing
  edges-turned zero i = let z : i + 0 ≡ i = omega arith in ap (listing at) (sym z)
  edges-turned (suc n) i = let z : i + suc n ≡ suc i + n = omega arith in edges-turned n (suc i) ∙ ap (listing at) (sym z)

  -- the listing of them is the same from the other end
  pub edges-reversed : (e : ℕ) → reverse (table_edges pts ks e) ≡ edges_of pts ks e
  unfolding listing
  edges-reversed e = let z : 0 + e ≡ e = omega arith in edges-turned e 0 ∙ ap (listing at) z

  edges-long : (n i : ℕ) → length (edges_from pts ks i n) ≡ n
  unfolding edges_from
  edges-long zero i = refl
  edges-long (suc n) i = ap suc (edges-long n (suc i))

  pub edges-count : (e : ℕ) → length (table_edges pts ks e) ≡ e
  edges-count e = edges-long e 0

  pub edges-in : (e : ℕ) → Among (edges_of pts ks e) (table_edges pts ks e)
  edges-in e x i = of_reverse (table_edges pts ks e) x (subst (λ (l : List (Place × Place)). x ∈ l) (sym (edges-reversed e)) i)

  pub edges-of : (e : ℕ) → Among (table_edges pts ks e) (edges_of pts ks e)
  edges-of e x i = subst (λ (l : List (Place × Place)). x ∈ l) (edges-reversed e) (in-reverse (table_edges pts ks e) x i)

  -- each is that of a number
  pub record EdgeNumber (i n : ℕ) (x : Place × Place) : Type 0 where
    pub number : ℕ
    pub low : i ≤ number
    pub high : number < i + n
    pub is : x ≡ at number

  pub edge-number : (n i : ℕ) (x : Place × Place) → x ∈ edges_from pts ks i n → EdgeNumber i n x
  unfolding edges_from
  edge-number zero i x m = elim m [ ]
  edge-number (suc n) i x m =
      either (λ e. record { number = i; low = omega arith; high = omega arith; is = e }) (λ k. further (edge-number n (suc i) x k))
      (Memᴰ.cases_cons m)
    where
      further : EdgeNumber (suc i) n x → EdgeNumber i (suc n) x
      further r = record { number = r.number; low = omega (arith, r.low); high = omega (arith, r.high); is = r.is }

  -- the sum of what they cost
  pub edges-total : (w : Weights) (e : ℕ) → lengths (cost w) (table_edges pts ks e) ≡ sum_over (key_cost w pts) ks e
  unfolding lengths
  edges-total w e =
      sym (total-reverse (λ (x : Place × Place). cost w x.0 x.1) (table_edges pts ks e))
      ∙ ap (lengths (cost w)) (edges-reversed e)
      ∙ listing-lengths (cost w) at e

  -- smaller place first
  pub edges-smaller : (n : ℕ) → InOrder pts n → Within n ks → (e : ℕ) → Ranked ks e
      → (x : Place × Place) → x ∈ table_edges pts ks e → before x.0 x.1 ≡ true
  edges-smaller n order within e ranked x m =
      let r = edge-number e 0 x m in
      subst (λ (y : Place × Place). before y.0 y.1 ≡ true) (sym r.is)
      (order _ _ (ranked.upward r.number (omega (arith, r.high))) (within.ends r.number).1)

-- of a tree
pub tree-total : (w : Weights) (t : Tree) → lengths (cost w) (tree_edges t) ≡ tree_total w t
tree-total w t = edges-total t.points t.edges.keys w t.edges.size
