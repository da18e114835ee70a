-- No list of edges that joins v with all pins of S costs less than the table says. By induction on the number of edges: an edge at v is
-- taken out; each pin is then joined with v still, or with the other end w. All with v: the edge was not needed. All with w: one edge
-- further. Both kinds: S is split in two, and so are the edges that are left, those joined with v and those not.
-- The list need not be a tree, and an edge may stand in it twice.
-- Assumes nothing.
use mathlib.Core.Path.{◌≡◌, refl, sym, ap, ◌∙◌}
use mathlib.Core.Bool.{Bool, true, false, not}
use mathlib.Core.Logic.{◌⊎◌, inl, inr}
use mathlib.Core.List.Memᴰ
use mathlib.Core.List.{List, [], ◌∷◌}
use Prim.Native.Nat.{ℕ, zero, suc, ◌+◌, ◌≤◌, ◌<◌}
use native.Mathlib.Omega.{arith}
use lib.ListN.{length}
use Rattle.lists.specs.Member.{◌∈◌, here, there}
use Rattle.lists.proofs.TestLaws.{by, differ, either, not-true}
use Rattle.joined.specs.Joined.{Link, others, Joined, stay, step}
use Rattle.joined.specs.Cost.{Cost, lengths}
use Rattle.joined.specs.Labels.{equal, labels}
use Rattle.joined.proofs.JoinedLaws.{constant}
use Rattle.joined.proofs.LabelLaws.{equal-true, equal-false, joined_same, same-joined, labelled}
use Rattle.joined.proofs.OtherLaws.{length-others, others-among}
use Rattle.joined.proofs.CostLaws.{lengths-others}
use Rattle.grid.proofs.NearestLaws.{end-or-end}
use Rattle.best.specs.Sets.{Edges, Reaches, Split, Closed}
use Rattle.best.proofs.PartLaws.{part, Steady, part-joins, part-costs, part-among, part-lengths, all-or-one}

-- The test of what F joins with v

module _ {A : Type 0} (same : Discrete A) (F : List (A × A)) (v : A) where
  unfoldable pub with : A → Bool
  with x = equal same (labels same F v) (labels same F x)

  pub joined-with : (x : A) → Joined F v x → with x ≡ true
  unfolding with
  joined-with x j = by (with x) (λ e. e) (λ e. absurd (equal-false same _ _ e (joined_same (labelled same F) j)))

  pub with-joined : (x : A) → with x ≡ true → Joined F v x
  unfolding with
  with-joined x e = same-joined (labelled same F) v x (equal-true same _ _ e)

  pub with-steady : Steady with F
  unfolding with
  with-steady a b m = ap (λ (z : A). equal same (labels same F v) z) ((labelled same F).ends a b m)

not-false : (t : Bool) → not t ≡ false → t ≡ true
not-false true e = refl
not-false false e = sym e

-- every pin is v, or an edge leads on from v
pub start : {A : Type 0} {F : List (A × A)} (v : A) (l : List A) → Reaches F v l → ((p : A) → p ∈ l → p ≡ v) ⊎ ((w : A) × Link F v w)
start v [] r = inl (λ p m. elim m [ ])
start {A} {F} v (q ∷ l) r = at (r q (here refl)) (start v l (λ p m. r p (there m)))
  where
    at : Joined F v q → ((p : A) → p ∈ l → p ≡ v) ⊎ ((w : A) × Link F v w) → ((p : A) → p ∈ (q ∷ l) → p ≡ v) ⊎ ((w : A) × Link F v w)
    at (step {y = w} k j) s = inr (w, k)
    at (stay e) (inr s) = inr s
    at (stay e) (inl h) = inl (λ p m. either (λ k. k ∙ sym e) (h p) (Memᴰ.cases_cons m))

module _ {A M : Type 0} (same : Discrete A) (pins_of : M → List A) (G : List (A × A)) (d : A → A → ℕ) (metric : Cost d)
    (cap : ℕ) (T : M → A → ℕ) (c : Closed pins_of G d cap T) where
  -- what is to be shown of lists of at most n edges
  abbrev Bound : ℕ → Type 0
  Bound n = (F : List (A × A)) (S : M) (v : A) → length F ≤ n → lengths d F < cap → Edges G F → Reaches F v (pins_of S) → T S v ≤ lengths d F

  module _ (n : ℕ) (ih : Bound n) (F : List (A × A)) (S : M) (v w : A) (l : Link F v w) (size : length F ≤ suc n)
      (low : lengths d F < cap) (edges : Edges G F) (reaches : Reaches F v (pins_of S)) where
    abbrev left : List (A × A)
    left = others l

    abbrev f : A → Bool
    f = with same left v

    cost : lengths d F ≡ d v w + lengths d left
    cost = lengths-others d metric l

    edge : Link G v w
    edge = either (λ m. edges v w m) (λ m. either inr inl (edges w v m)) l

    left-edges : Edges G left
    left-edges a b m = edges a b (others-among l (a, b) m)

    -- a pin that is not joined with v any more is joined with w
    other-end : (p : A) → p ∈ pins_of S → f p ≡ false → Joined left w p
    other-end p m e = either (λ j. differ (joined-with same left v p j) e) (λ j. j) (end-or-end l (reaches p m))

    -- the edge was not needed
    all_near : ((p : A) → p ∈ pins_of S → f p ≡ true) → T S v ≤ lengths d F
    all_near h =
        omega (
          arith,
          cost,
          ih left S v (omega (arith, length-others l)) (omega (arith, cost)) left-edges
              (λ p m. with-joined same left v p (h p m)),
        )

    -- one edge further
    all-far : ((p : A) → p ∈ pins_of S → f p ≡ false) → T S v ≤ lengths d F
    all-far h =
        let r = ih left S w (omega (arith, length-others l)) (omega (arith, cost)) left-edges (λ p m. other-end p m (h p m)) in
        omega (arith, cost, r, c.further S v w edge (omega (arith, cost, r)))

    -- the two parts
    abbrev away : A → Bool
    away x = not (f x)

    away-steady : Steady away left
    away-steady a b i = ap not (with-steady same left v a b i)

    both : Split pins_of G d cap T S f → T S v ≤ lengths d F
    both s =
        let costs = part-costs d f left in
        let r = near-bound in
        let q = far-bound in
        let k = c.further s.second v w edge (omega (arith, cost, costs, r, q)) in
        omega (arith, cost, costs, r, q, k, s.sum v (omega (arith, cost, costs, r, q, k)))
      where
        near-bound : T s.first v ≤ lengths d (part f left)
        near-bound =
            ih (part f left) s.first v (omega (arith, length-others l, part-lengths f left)) (omega (arith, cost, part-costs d f left))
            (λ a b m. left-edges a b (part-among f left (a, b) m))
            (λ p m. part-joins f left (with-steady same left v) (with-joined same left v p (s.first-pins p m).1)
            (joined-with same left v v (stay refl)))

        far-reaches : Reaches (part away left) w (pins_of s.second)
        far-reaches p m =
            let r = s.second-pins p m in
            let j = other-end p r.0 r.1 in
            part-joins away left away-steady j (constant away away-steady j ∙ ap not r.1)

        far-bound : T s.second w ≤ lengths d (part away left)
        far-bound =
            ih (part away left) s.second w (omega (arith, length-others l, part-lengths away left)) (omega (
              arith,
              cost,
              part-costs d f left,
            ))
            (λ a b m. left-edges a b (part-among away left (a, b) m)) far-reaches

    linked : T S v ≤ lengths d F
    linked = at (all-or-one f (pins_of S)) (all-or-one (λ x. not (f x)) (pins_of S))
      where
        at : ((p : A) → p ∈ pins_of S → f p ≡ true) ⊎ ((p : A) × ((p ∈ pins_of S) × (f p ≡ false))) →
            ((p : A) → p ∈ pins_of S → not (f p) ≡ true) ⊎ ((p : A) × ((p ∈ pins_of S) × (not (f p) ≡ false))) → T S v ≤ lengths d F
        at (inl h) r = all_near h
        at (inr q) (inl h) = all-far (λ p m. not-true (f p) (h p m))
        at (inr q) (inr p) = both (c.split S f p.0 q.0 p.1.0 q.1.0 (not-false (f p.0) p.1.1) q.1.1)

  bound : (n : ℕ) → Bound n
  bound zero F S v size low edges r =
      either (λ h. omega (arith, c.at_pin S v h)) (λ k. omega (arith, length-others k.1)) (start v (pins_of S) r)
  bound (suc n) F S v size low edges r =
      either (λ h. omega (arith, c.at_pin S v h))
      (λ k. linked n (bound n) F S v k.0 k.1 size low edges r) (start v (pins_of S) r)

  pub lower-bound : (F : List (A × A)) (S : M) (v : A) → lengths d F < cap → Edges G F → Reaches F v (pins_of S) →
      T S v ≤ lengths d F
  lower-bound F S v low edges r = bound (length F) F S v (omega arith) low edges r
