-- One exchange on the tables, read as places: the points are as they were, and s; the edges are those of before without (a, b) and L, and
-- those from s. All by sums over the table, whichever numbers moved on.
-- Assumes nothing.
use mathlib.Core.Path.{◌≡◌, refl, sym, ap, ap₂, ◌∙◌, subst}
use mathlib.Core.Bool.{true, false}
use mathlib.Core.Logic.{◌⊎◌, inl, inr}
use mathlib.Core.List.Memᴰ
use mathlib.Core.List.{List}
use Prim.Native.Nat.{ℕ, suc, ◌+◌, ◌≤◌, ◌<◌}
use native.Mathlib.Omega.{arith}
use lib.Dec.{ltb, eqb}
use lib.IntN.{ℤ}
use lib.ListN.{get_or}
use borrow.Author.Tests.{ltb-true, ltb-false, eqb-true, eqb-false}
use Rattle.lists.specs.Member.{◌∈◌}
use Rattle.lists.proofs.TestLaws.{by, either}
use Rattle.plane.specs.declared.Place.{Place}
use Rattle.plane.specs.declared.Macro.{Macro}
use Rattle.plane.specs.declared.Weights.{Weights}
use Rattle.plane.specs.Cost.{cost}
use Rattle.plane.specs.Macro.{clear}
use Rattle.plane.specs.Flat.{place_at}
use Rattle.plane.proofs.CostLaws.{cost-comm, cost-self}
use Rattle.plane.proofs.MacroLaws.{clear_comm}
use Rattle.joined.specs.Joined.{Link, Alike, Joined, stay}
use Rattle.joined.proofs.JoinedLaws.{one as one_link}
use Rattle.tree.specs.Table.{tree_bound, key, first_end, second_end, Tree, In, Within}
use Rattle.tree.specs.Sum.{sum_over}
use Rattle.exchanges.specs.Exchange.{drop_two}
use Rattle.tree.specs.Places.{ends_of, edges_of, key_cost}
use Rattle.tree.proofs.SumLaws.{below-same, below_at, below-some, one, one_same, one-some, one-not, in_table, of-table}
use Rattle.exchanges.proofs.ExchangeSums.{between}
use Rattle.exchanges.proofs.ExchangeSums.{over-dropped}
use Rattle.exchanges.proofs.WithinLaws.{within-dropped}
use Rattle.tree.proofs.ListingLaws.{in-listing, of-listing}

-- what the edge of two points adds
pub between-some : (g : ℕ → ℕ) (p a : ℕ) → 0 < between g p a → (0 < g (key p a)) ⊎ (0 < g (key a p))
unfolding between
between-some g p a h =
    by (ltb p a) (λ t. inl (rw (between, t) at h))
    (λ t. by (ltb a p) (λ s. inr (rw (between, t, s) at h))
    (λ s. absurd (let z : 0 < 0 = rw (between, t, s) at h in let y : ⊥ = omega arith in y)))

pub between_is : (g : ℕ → ℕ) (p a : ℕ) → (p ≡ a → ⊥) → (between g p a ≡ g (key p a)) ⊎ (between g p a ≡ g (key a p))
unfolding between
between_is g p a n =
    by (ltb p a) (λ t. inl (rw (between, t) refl))
    (λ t.
    by (ltb a p) (λ s. inr (rw (between, t, s) refl))
    (λ s. absurd (n (let e : p ≡ a = omega (arith, ltb-false p a t, ltb-false a p s) in e))))

pub between-less : (g : ℕ → ℕ) (p a : ℕ) → ltb p a ≡ true → between g p a ≡ g (key p a)
unfolding between
between-less g p a t = rw (between, t) refl

pub between_more : (g : ℕ → ℕ) (p a : ℕ) → ltb p a ≡ false → ltb a p ≡ true → between g p a ≡ g (key a p)
unfolding between
between_more g p a t s = rw (between, t, s) refl

pub between_none : (g : ℕ → ℕ) (p a : ℕ) → p ≡ a → between g p a ≡ 0
unfolding between
between_none g p a e =
    by (ltb p a) (λ t. absurd (let z : ⊥ = omega (arith, ltb-true p a t) in z))
    (λ t. by (ltb a p) (λ s. absurd (let z : ⊥ = omega (arith, ltb-true a p s) in z)) (λ s. rw (between, t, s) refl))

-- the tables after an exchange: point i has the number m i, s the number p; the edges k and l are gone
pub record After (pts : List ℤ) (n : ℕ) (ks : List ℕ) (e k l a b u p : ℕ) (s : Place) (m : ℕ → ℕ) (t : Tree) : Type 0 where
  pub old : (i : ℕ) → i < n → place_at t.points (m i) ≡ place_at pts i
  pub new : place_at t.points p ≡ s
  pub low : (i : ℕ) → i < n → m i < tree_bound
  pub lowest : p < tree_bound
  pub sums : (g : ℕ → ℕ) → sum_over g t.edges.keys t.edges.size
      ≡ between g p (m u) + (between g p (m b) + (between g p (m a) + sum_over (λ j. g (key (m (first_end j)) (m (second_end j))))
      (drop_two e k l ks) e))

pub first_of : (x y : ℕ) → y < tree_bound → first_end (key x y) ≡ x
first_of x y h = omega arith

pub second-of : (x y : ℕ) → y < tree_bound → second_end (key x y) ≡ y
second-of x y h = omega arith

module _ {pts : List ℤ} {n : ℕ} {ks : List ℕ} {e k l a b u p : ℕ} {s : Place} {m : ℕ → ℕ} {t : Tree}
    (after : After pts n ks e k l a b u p s m t) (w : Within n ks) (hk : k < suc (suc e)) (hl : l < suc (suc e)) (kl : k ≡ l → ⊥)
    (ha : a < n) (hb : b < n) (hu : u < n) where
  abbrev pub T : List (Place × Place)
  T = edges_of pts ks (suc (suc e))

  abbrev pub U : List (Place × Place)
  U = edges_of t.points t.edges.keys t.edges.size

  abbrev pub moved : ℕ → ℕ
  moved j = key (m (first_end j)) (m (second_end j))

  -- the ends of an edge under its new number
  pub moved_ends : (j : ℕ) → In n j → ends_of t.points (moved j) ≡ ends_of pts j
  moved_ends j i =
      ap₂ (λ (x y : Place). (x, y))
      (ap (place_at t.points) (first_of (m (first_end j)) (m (second_end j)) (after.low _ i.1)) ∙ after.old _ i.0)
      (ap (place_at t.points) (second-of (m (first_end j)) (m (second_end j)) (after.low _ i.1)) ∙ after.old _ i.1)

  -- an edge whose key has a part in the sums is there
  pub there-is : (j : ℕ) (x y : Place) → 0 < sum_over (one j) t.edges.keys t.edges.size → ends_of t.points j ≡ (x, y) → (x, y) ∈ U
  there-is j x y h f =
      let r = in_table j t.edges.keys t.edges.size h in
      Memᴰ.cast (sym f ∙ ap (ends_of t.points) (sym r.1.1))
      (in-listing (λ i. ends_of t.points (get_or t.edges.keys i 0)) t.edges.size
      r.0 r.1.0)

  -- an edge that is neither k nor l is still there
  left : (i : ℕ) → i < suc (suc e) → (get_or ks i 0 ≡ get_or ks k 0 → ⊥) → (get_or ks i 0 ≡ get_or ks l 0 → ⊥) → ends_of pts (get_or ks i 0) ∈ U
  left i h nk nl =
      let j = get_or ks i 0 in
      let d = over-dropped (one j) e k l ks hk hl kl in
      let some : 0 < sum_over (one j) (drop_two e k l ks) e
      = omega (
        arith,
        d,
        of-table ks (suc (suc e)) i h,
        one-not j (get_or ks k 0) (λ q. nk (sym q)),
        one-not j (get_or ks l 0)
            (λ q. nl (sym q)),
      ) in
      let r = in_table j (drop_two e k l ks) e some in
      let v : one (moved j) (moved (get_or (drop_two e k l ks) r.0 0)) ≡ 1 = ap (λ (q : ℕ). one (moved j) (moved q)) r.1.1
      ∙ one_same (moved j) in
      let x = below_at (λ q. one (moved j) (moved (get_or (drop_two e k l ks) q 0))) e r.0 r.1.0 in
      there-is (moved j) _ _ (omega (arith, after.sums (one (moved j)), v, x)) (moved_ends j (w.ends i))

  abbrev pub Sorted : Place → Place → Type 0
  Sorted x y = ((x, y) ≡ ends_of pts (get_or ks k 0)) ⊎ (((x, y) ≡ ends_of pts (get_or ks l 0)) ⊎ ((x, y) ∈ U))

  pub sorted : (x y : Place) → (x, y) ∈ T → Sorted x y
  sorted x y i = at (of-listing (λ j. ends_of pts (get_or ks j 0)) (suc (suc e)) (x, y) i)
    where
      at : (j : ℕ) × ((j < suc (suc e)) × ((x, y) ≡ ends_of pts (get_or ks j 0))) → Sorted x y
      at r =
          let j = get_or ks r.0 0 in
          by (eqb j (get_or ks k 0))
          (λ q. inl (r.1.1 ∙ ap (ends_of pts) (eqb-true _ _ q)))
          (λ q.
          by (eqb j (get_or ks l 0))
          (λ v. inr (inl (r.1.1 ∙ ap (ends_of pts) (eqb-true _ _ v))))
          (λ v. inr (inr (Memᴰ.cast r.1.1 (left r.0 r.1.0 (eqb-false _ _ q) (eqb-false _ _ v))))))

  -- each link is the edge k, or l, or still there
  pub still : (x y : Place) → Link T x y → Alike x y (ends_of pts (get_or ks k 0)).0 (ends_of pts (get_or ks k 0)).1
      ⊎ (Alike x y (ends_of pts (get_or ks l 0)).0 (ends_of pts (get_or ks l 0)).1 ⊎ Link U x y)
  still x y (inl i) =
      either (λ q. inl (inl (ap (λ (z : Place × Place). z.0) q, ap (λ (z : Place × Place). z.1) q)))
      (either (λ q. inr (inl (inl (ap (λ (z : Place × Place). z.0) q, ap (λ (z : Place × Place). z.1) q)))) (λ q. inr (inr (inl q))))
      (sorted x y i)
  still x y (inr i) =
      either (λ q. inl (inr (ap (λ (z : Place × Place). z.1) q, ap (λ (z : Place × Place). z.0) q)))
      (either (λ q. inr (inl (inr (ap (λ (z : Place × Place). z.1) q, ap (λ (z : Place × Place). z.0) q)))) (λ q. inr (inr (inr q))))
      (sorted y x i)

  pub ends : (c d : ℕ) (x y : Place) → d < tree_bound → place_at t.points c ≡ x → place_at t.points d ≡ y →
      ends_of t.points (key c d) ≡ (x, y)
  ends c d x y h f g =
      ap₂ (λ (v z : Place). (v, z)) (ap (place_at t.points) (first_of c d h) ∙ f) (ap (place_at t.points) (second-of c d h) ∙ g)

  -- s is joined with a point to which an edge is laid
  laid : (x : ℕ) → x < n → ((g : ℕ → ℕ) → between g p (m x) ≤ sum_over g t.edges.keys t.edges.size) → Joined U s (place_at pts x)
  laid x h part =
      by (ltb p (m x))
      (λ q.
      let j = key p (m x) in
      let v : between (one j) p (m x) ≡ one j j = between-less (one j) p (m x) q in
      one_link (inl (there-is j s (place_at pts x) (omega (arith, part (one j), v, one_same j))
      (ends p (m x) s (place_at pts x) (after.low x h) after.new (after.old x h)))))
      (λ q.
      by (ltb (m x) p)
      (λ r.
      let j = key (m x) p in
      let v : between (one j) p (m x) ≡ one j j = between_more (one j) p (m x) q r in
      one_link (inr (there-is j (place_at pts x) s (omega (arith, part (one j), v, one_same j))
      (ends (m x) p (place_at pts x) s after.lowest (after.old x h) after.new))))
      (λ r.
      let v : p ≡ m x = omega (arith, ltb-false p (m x) q, ltb-false (m x) p r) in
      stay (sym after.new ∙ ap (place_at t.points) v ∙ after.old x h)))

  pub to-a : Joined U s (place_at pts a)
  to-a = laid a ha (λ g. omega (arith, after.sums g))

  pub to-b : Joined U s (place_at pts b)
  to-b = laid b hb (λ g. omega (arith, after.sums g))

  pub to-u : Joined U s (place_at pts u)
  to-u = laid u hu (λ g. omega (arith, after.sums g))

  -- an edge of the key j is one from s, or was there
  pub data Origin (j : ℕ) : Type 0 where
    from-s : (x : ℕ) → x < n → (x ≡ a) ⊎ ((x ≡ b) ⊎ (x ≡ u)) → ends_of t.points j ≡ (s, place_at pts x) → Origin j
    to-s : (x : ℕ) → x < n → (x ≡ a) ⊎ ((x ≡ b) ⊎ (x ≡ u)) → ends_of t.points j ≡ (place_at pts x, s) → Origin j
    was : (i : ℕ) → i < suc (suc e) → ends_of t.points j ≡ ends_of pts (get_or ks i 0) → Origin j

  pub from-part : (j x : ℕ) → x < n → (x ≡ a) ⊎ ((x ≡ b) ⊎ (x ≡ u)) → 0 < between (one j) p (m x) → Origin j
  from-part j x h which some =
      either
      (λ q. from-s x h which (ap (ends_of t.points) (sym (one-some j (key p (m x)) q)) ∙ ends p (m x) s (place_at pts x) (after.low x h)
      after.new (after.old x h)))
      (λ q. to-s x h which (ap (ends_of t.points) (sym (one-some j (key (m x) p) q)) ∙ ends (m x) p (place_at pts x) s after.lowest
      (after.old x h) after.new))
      (between-some (one j) p (m x) some)

  from-left : (j : ℕ) → 0 < sum_over (λ q. one j (moved q)) (drop_two e k l ks) e → Origin j
  from-left j some =
      let r = below-some _ e some in
      let q = get_or (drop_two e k l ks) r.0 0 in
      let d = over-dropped (one q) e k l ks hk hl kl in
      let o = in_table q ks (suc (suc e)) (omega (arith, d, of-table (drop_two e k l ks) e r.0 r.1.0)) in
      was o.0 o.1.0
      (ap (ends_of t.points) (sym (one-some j (moved q) r.1.1))
      ∙ moved_ends q ((within-dropped n e k l ks w).ends r.0)
      ∙ ap (ends_of pts) (sym o.1.1))

  origin : (i : ℕ) → i < t.edges.size → Origin (get_or t.edges.keys i 0)
  origin i h =
      let j = get_or t.edges.keys i 0 in
      let all = after.sums (one j) in
      let some = of-table t.edges.keys t.edges.size i h in
      by (ltb 0 (between (one j) p (m u))) (λ q. from-part j u hu (inr (inr refl)) (ltb-true _ _ q)) λ q.
      by (ltb 0 (between (one j) p (m b))) (λ v. from-part j b hb (inr (inl refl)) (ltb-true _ _ v)) λ v.
      by (ltb 0 (between (one j) p (m a))) (λ z. from-part j a ha (inl refl) (ltb-true _ _ z)) λ z.
      from-left j (omega (
        arith,
        all,
        some,
        ltb-false 0 (between (one j) p (m u)) q,
        ltb-false 0 (between (one j) p (m b)) v,
        ltb-false 0
            (between (one j) p (m a)) z,
      ))

  -- every edge is clear, where those of before and those from s are
  module _ (ms : List Macro) (sa : clear s (place_at pts a) ms ≡ true) (sb : clear s (place_at pts b) ms ≡ true)
      (su : clear s (place_at pts u) ms ≡ true)
      (free : (i : ℕ) → i < suc (suc e) → clear (ends_of pts (get_or ks i 0)).0 (ends_of pts (get_or ks i 0)).1 ms ≡ true) where
    s-clear : (x : ℕ) → (x ≡ a) ⊎ ((x ≡ b) ⊎ (x ≡ u)) → clear s (place_at pts x) ms ≡ true
    s-clear x (inl q) = ap (λ (y : ℕ). clear s (place_at pts y) ms) q ∙ sa
    s-clear x (inr (inl q)) = ap (λ (y : ℕ). clear s (place_at pts y) ms) q ∙ sb
    s-clear x (inr (inr q)) = ap (λ (y : ℕ). clear s (place_at pts y) ms) q ∙ su

    abbrev Clear : Place × Place → Type 0
    Clear z = clear z.0 z.1 ms ≡ true

    clear_at : (j : ℕ) → Origin j → Clear (ends_of t.points j)
    clear_at j (from-s x h which q) = subst Clear (sym q) (s-clear x which)
    clear_at j (to-s x h which q) = subst Clear (sym q) (clear_comm (place_at pts x) s ms ∙ s-clear x which)
    clear_at j (was i h q) = subst Clear (sym q) (free i h)

    pub after-clear : (i : ℕ) → i < t.edges.size → Clear (ends_of t.points (get_or t.edges.keys i 0))
    after-clear i h = clear_at _ (origin i h)

  -- the costs
  module _ (weights : Weights) where
    abbrev long : Place × Place → ℕ
    long z = cost weights z.0 z.1

    cost-part : (x : ℕ) → x < n → between (key_cost weights t.points) p (m x) ≡ cost weights s (place_at pts x)
    cost-part x h =
        by (ltb p (m x))
        (λ q.
        between-less (key_cost weights t.points) p (m x) q
        ∙ ap long (ends p (m x) s (place_at pts x) (after.low x h) after.new (after.old x h)))
        (λ q.
        by (ltb (m x) p)
        (λ r.
        between_more (key_cost weights t.points) p (m x) q r
        ∙ ap long (ends (m x) p (place_at pts x) s after.lowest (after.old x h) after.new)
        ∙ cost-comm weights (place_at pts x) s)
        (λ r.
        let v : p ≡ m x = omega (arith, ltb-false p (m x) q, ltb-false (m x) p r) in
        let o : s ≡ place_at pts x = sym after.new ∙ ap (place_at t.points) v ∙ after.old x h in
        between_none (key_cost weights t.points) p (m x) v ∙ sym (ap (cost weights s) (sym o) ∙ cost-self weights s)))

    pub after-costs : sum_over (key_cost weights t.points) t.edges.keys t.edges.size
        + (key_cost weights pts (get_or ks k 0) + key_cost weights pts (get_or ks l 0))
        ≡ sum_over (key_cost weights pts) ks (suc (suc e))
        + (cost weights s (place_at pts u) + (cost weights s (place_at pts b) + cost weights s (place_at pts a)))
    after-costs =
        let same : sum_over (λ j. key_cost weights t.points (moved j)) (drop_two e k l ks) e ≡ sum_over (key_cost weights pts)
        (drop_two e k l ks) e
        = below-same _ _ e (λ i h. ap long (moved_ends _ ((within-dropped n e k l ks w).ends i))) in
        let dropped = over-dropped (key_cost weights pts) e k l ks hk hl kl in
        omega (arith, after.sums (key_cost weights t.points), dropped, same, cost-part a ha, cost-part b hb, cost-part u hu)
