-- In a tree every edge hangs a point: the points but the first hang by edges of their own, and there are as many edges.
-- Assumes nothing.
use mathlib.Core.Path.{◌≡◌, refl, sym, ap, ◌∙◌, subst}
use mathlib.Core.Logic.{◌⊎◌, inl, inr}
use mathlib.Core.List.Memᴰ
use mathlib.Core.List.{List, ◌∷◌}
use Prim.Native.Nat.{ℕ, zero, suc, ◌-◌, ◌≤◌, ◌<◌}
use native.Mathlib.Omega.{arith}
use lib.Dec.{ltb, eqb}
use lib.ListN.{length, get_or}
use borrow.Author.Tests.{ltb-true, ltb-false, eqb-true, eqb-false}
use Rattle.lists.specs.Member.{◌∈◌, Among, Once}
use Rattle.lists.proofs.TestLaws.{by, either}
use Rattle.lists.proofs.MemberLaws.{once-length}
use Rattle.tree.specs.Table.{tree_bound, first_end, second_end, Small}
use Rattle.tree.specs.Places.{listing}
use Rattle.tree.proofs.ListingLaws.{listing-length, in-listing, of-listing, listing-once}
use Rattle.longest.specs.Longest.{no_edge, Reach, reached, start, longest}
use Rattle.longest.specs.Hung.{Ties, onto_of, link_of, turn_of, Joins, Hung, Paired, Hanging, Spanned}
use Rattle.longest.proofs.FoundLaws.{small-longest}

-- m different numbers below m are all of them
module _ (f : ℕ → ℕ) (m : ℕ) (low : (i : ℕ) → i < m → f i < m) (apart : (i j : ℕ) → i < j → j < m → f i ≡ f j → ⊥) (k : ℕ) (h : k < m) where
  abbrev Found : ℕ → Type 0
  Found c = (i : ℕ) × ((i < c) × (f i ≡ k))

  look : (c : ℕ) → Found c ⊎ ((i : ℕ) → i < c → f i ≡ k → ⊥)
  look zero = inr (λ i l q. let z : ⊥ = omega (arith, l) in z)
  look (suc c) =
      by (eqb (f c) k)
      (λ t. inl (c, (omega arith, eqb-true _ _ t)))
      (λ t.
      either (λ r. inl (r.0, (omega (arith, r.1.0), r.1.1)))
      (λ out. inr (λ i l q. by (ltb i c) (λ s. out i (ltb-true i c s) q)
      (λ s. eqb-false _ _ t (let z : i ≡ c = omega (arith, l, ltb-false i c s) in ap f (sym z) ∙ q))))
      (look c))

  pub every : Found m
  every = either (λ r. r) (λ out. absurd (too_many out)) (look m)
    where
      too_many : ((i : ℕ) → i < m → f i ≡ k → ⊥) → ⊥
      too_many out =
          let among : Among (k ∷ listing f m) (listing (λ i. i) m) = λ x i. either
          (λ q. Memᴰ.cast q (in-listing (λ i. i) m k h))
          (λ j. let r = of-listing f m x j in Memᴰ.cast r.1.1 (in-listing (λ i. i) m (f r.0) (low r.0 r.1.0)))
          (Memᴰ.cases_cons i) in
          let none_in : k ∈ listing f m → ⊥ = λ i. let r = of-listing f m k i in out r.0 r.1.0 (sym r.1.1) in
          let once : Once (k ∷ listing f m) = (none_in, listing-once f m apart) in
          omega (
            arith,
            once-length (k ∷ listing f m) (listing (λ i. i) m) once among,
            listing-length f m,
            listing-length (λ (i : ℕ). i) m,
          )

module _ (ks el : List ℕ) (e n c : ℕ) (s : Ties) (r : Reach) (h : Hung ks el e n c s r) (size : suc e ≡ n)
    (all : (v : ℕ) → v < n → 0 < turn_of s v) where
  not_first : (i : ℕ) → i < e → 1 < turn_of s (suc i)
  not_first i l =
      by (ltb 1 (turn_of s (suc i))) (λ t. ltb-true _ _ t)
      (λ t.
      let g = all (suc i) (omega (arith, l, size)) in
      let o : turn_of s 0 ≡ turn_of s (suc i) = omega (arith, h.first, g, ltb-false 1 (turn_of s (suc i)) t) in
      let q : 0 ≡ suc i = h.tied.alone 0 (suc i) (omega (arith, h.first)) o in
      absurd (let z : ⊥ = omega (arith, q) in z))

  -- no two points hang on each other
  crossed : (v w : ℕ) → 1 < turn_of s v → 1 < turn_of s w → v ≡ onto_of s w → onto_of s v ≡ w → ⊥
  crossed v w f g a b = omega (arith, (h.tied.up v f).1, (h.tied.up w g).1, ap (turn_of s) a, ap (turn_of s) b)

  -- points that hang by one edge are one point
  one-point : (v w k : ℕ) → 1 < turn_of s v → 1 < turn_of s w → Joins ks k v (onto_of s v) → Joins ks k w (onto_of s w) → v ≡ w
  one-point v w k f g (inl p) (inl q) = sym p.0 ∙ q.0
  one-point v w k f g (inl p) (inr q) = absurd (crossed v w f g (sym p.0 ∙ q.0) (sym p.1 ∙ q.1))
  one-point v w k f g (inr p) (inl q) = absurd (crossed v w f g (sym p.1 ∙ q.1) (sym p.0 ∙ q.0))
  one-point v w k f g (inr p) (inr q) = sym p.1 ∙ q.1

  links-apart : (i j : ℕ) → i < j → j < e → link_of s (suc i) ≡ link_of s (suc j) → ⊥
  links-apart i j l m q =
      let f = not_first i (omega (arith, l, m)) in
      let g = not_first j m in
      let p = one-point (suc i) (suc j) (link_of s (suc j)) f g
      (rw (← q) (h.ends (suc i) f).1) (h.ends (suc j) g).1 in
      omega (arith, p, l)

  pair_of : (v k : ℕ) → 1 < turn_of s v → Joins ks k v (onto_of s v) → Paired s (first_end (get_or ks k 0)) (second_end (get_or ks k 0))
  pair_of v k g (inl p) = inr (
    ap (onto_of s) p.0 ∙ sym p.1,
    omega (arith, (h.tied.up v g).1, ap (turn_of s) p.0, ap (turn_of s) p.1),
  )
  pair_of v k g (inr p) = inl (
    ap (onto_of s) p.1 ∙ sym p.0,
    omega (arith, (h.tied.up v g).1, ap (turn_of s) p.0, ap (turn_of s) p.1),
  )

  pub paired : (k : ℕ) → k < e → Paired s (first_end (get_or ks k 0)) (second_end (get_or ks k 0))
  paired k l =
      let r = every (λ i. link_of s (suc i)) e (λ i m. (h.ends (suc i) (not_first i m)).0) links-apart k l in
      let g = not_first r.0 r.1.0 in
      pair_of (suc r.0) k g (subst (λ (x : ℕ). Joins ks x (suc r.0) (onto_of s (suc r.0))) r.1.1 (h.ends (suc r.0) g).1)

-- the rows of a tree when all passes are done
pub hanging : (ks el : List ℕ) (e n c : ℕ) (s : Ties) → Hung ks el e n c s (reached ks el e n start) → Spanned ks e n →
    get_or el no_edge 0 ≡ 0 → Hanging ks el e n s
unfolding longest
hanging ks el e n c s h p none =
    let all : (v : ℕ) → v < n → 0 < turn_of s v = λ v l.
    by (eqb (turn_of s v) 0)
    (λ t. absurd (let z : ⊥ = omega (arith, h.off v (eqb-true (turn_of s v) 0 t), p.reaches el none v l) in z))
    (λ t. let z = eqb-false (turn_of s v) 0 t in omega (arith, z)) in
    record {
      tied = h.tied;
      told = record { none = none; small = small-longest ks el e n (omega (arith, p.size, p.few)); woven = h.woven };
      all = all;
      paired = paired ks el e n c s (reached ks el e n start) h p.size all;
      ends = h.ends;
    }
