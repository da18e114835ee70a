-- A cheapest list of edges that joins all pins is a tree that the bought-in check passes. Each edge is a cut, and each is joined with the
-- pins, and each point that is no pin has a second edge: otherwise the edge, or the part that no pin is joined with, could go, and what is
-- left would join all pins for less. Nothing is asked of how the list was found.
-- Assumes nothing.
use mathlib.Core.Path.{◌≡◌, refl, sym, ap, ◌∙◌}
use mathlib.Core.Bool.{Bool, not}
use mathlib.Core.Logic.{◌⊎◌, inl, inr}
use mathlib.Core.List.Memᴰ
use mathlib.Core.List.{List, [], ◌∷◌, ◌++◌, map}
use Prim.Native.Nat.{ℕ, ◌≤◌, ◌<◌}
use native.Mathlib.Omega.{arith}
use lib.ListN.{length}
use Rattle.lists.specs.Member.{◌∈◌, here, there, Among, Once}
use Rattle.lists.proofs.TestLaws.{by, either}
use Rattle.lists.proofs.MemberLaws.{is-in, once-length}
use Rattle.lists.proofs.MapLaws.{in_map, of_map}
use Rattle.lists.proofs.ThoseLaws.{in-those}
use Rattle.joined.specs.Joined.{Link, others, Alike, Joined, stay, Inside}
use Rattle.joined.specs.Cost.{Cost, lengths}
use Rattle.joined.specs.Labels.{renamed}
use Rattle.joined.specs.Tree.{TreeOn, Cuts}
use Rattle.joined.specs.OneTree.{OneTree, Simple}
use Rattle.joined.proofs.JoinedLaws.{firsts, seconds, turn, one, then, back, between, carried, around}
use Rattle.joined.proofs.LabelLaws.{renamed-hit, renamed-miss, renamed-fix}
use Rattle.joined.proofs.OtherLaws.{others-among, link-or}
use Rattle.joined.proofs.CostLaws.{lengths-others}
use Rattle.joined.proofs.TreeLaws.{cuts-forest, forest-tree}
use Rattle.joined.proofs.OneTreeLaws.{tree-one, tree-simple}
use Rattle.best.specs.Sets.{Edges, Reaches}
use Rattle.best.proofs.PartLaws.{part, part-joins, part-costs, part-among}
use Rattle.best.proofs.LowerBound.{with, joined-with, with-joined, with-steady}

-- The points of a list of pairs, each once

module _ {A : Type 0} (same : Discrete A) where
  distinct : List A → List A
  distinct [] = []
  distinct (x ∷ l) = elim (is-in same x l) [ yes m ↦ distinct l | no n ↦ x ∷ distinct l ]

  of-distinct : (l : List A) → Among (distinct l) l
  unfolding distinct
  of-distinct [] y m = m
  of-distinct (x ∷ l) y m = at (is-in same x l) (λ z k. of-distinct l z k) m
    where
      at : (d : Dec (x ∈ l)) → Among (distinct l) l → y ∈ elim d [ yes m ↦ distinct l | no n ↦ x ∷ distinct l ] → y ∈ (x ∷ l)
      at (yes k) ih m = there (ih y m)
      at (no n) ih m = either (λ e. here e) (λ i. there (ih y i)) (Memᴰ.cases_cons m)

  in-distinct : (l : List A) → Among l (distinct l)
  unfolding distinct
  in-distinct [] y m = m
  in-distinct (x ∷ l) y m = at (is-in same x l) (λ z k. in-distinct l z k) (Memᴰ.cases_cons m)
    where
      at : (d : Dec (x ∈ l)) → Among l (distinct l) → (y ≡ x) ⊎ (y ∈ l) → y ∈ elim d [ yes m ↦ distinct l | no n ↦ x ∷ distinct l ]
      at (yes k) ih (inl e) = ih y (Memᴰ.cast e k)
      at (yes k) ih (inr i) = ih y i
      at (no n) ih (inl e) = here e
      at (no n) ih (inr i) = there (ih y i)

  distinct-once : (l : List A) → Once (distinct l)
  unfolding distinct
  distinct-once [] = tt
  distinct-once (x ∷ l) = at (is-in same x l) (distinct-once l)
    where
      at : (d : Dec (x ∈ l)) → Once (distinct l) → Once {A = A} (elim d [ yes m ↦ distinct l | no n ↦ x ∷ distinct l ])
      at (yes k) ih = ih
      at (no n) ih = (λ m. n (of-distinct l x m), ih)

  -- a point has a link, or it has none
  pub link-or-none : (x : A) (L : List (A × A)) → ((z : A) × Link L x z) ⊎ ((z : A) → Link L x z → ⊥)
  link-or-none x [] = inr (λ z l. either (λ m. elim m [ ]) (λ m. elim m [ ]) l)
  link-or-none x (e ∷ L) = at (same x e.0) (same x e.1) (link-or-none x L)
    where
      at : Dec (x ≡ e.0) → Dec (x ≡ e.1) → ((z : A) × Link L x z) ⊎ ((z : A) → Link L x z → ⊥) →
          ((z : A) × Link (e ∷ L) x z) ⊎ ((z : A) → Link (e ∷ L) x z → ⊥)
      at (yes k) d r = inl (e.1, inl (here (ap (λ (z : A). (z, e.1)) k)))
      at (no n) (yes k) r = inl (e.0, inr (here (ap (λ (z : A). (e.0, z)) k)))
      at (no n) (no k) (inl s) = inl (s.0, either (λ m. inl (there m)) (λ m. inr (there m)) s.1)
      at (no n) (no k) (inr h) = inr (λ z l. either
          (λ m. either (λ f. n (firsts f)) (λ i. h z (inl i)) (Memᴰ.cases_cons m))
          (λ m. either (λ f. k (seconds f)) (λ i. h z (inr i)) (Memᴰ.cases_cons m)) l)

-- edges that join all pins, and none that do cost less
pub record Cheapest {A : Type 0} (G : List (A × A)) (d : A → A → ℕ) (pins : List A) (p0 : A) (O : List (A × A)) : Type 0 where
  pub root : p0 ∈ pins
  pub edges : Edges G O
  pub reaches : Reaches O p0 pins
  pub least : (F : List (A × A)) → Edges G F → Reaches F p0 pins → lengths d O ≤ lengths d F

module _ {A : Type 0} (same : Discrete A) {G : List (A × A)} {d : A → A → ℕ} (metric : Cost d)
    (positive : (a b : A) → Link G a b → 1 ≤ d a b) {pins : List A} {p0 : A} {O : List (A × A)} (c : Cheapest G d pins p0 O) where
  -- an edge cannot go
  needed : (a b : A) (l : Link O a b) → Reaches (others l) p0 pins → ⊥
  needed a b l r =
      let k : 1 ≤ d a b = positive a b (either (c.edges a b) (λ m. turn (c.edges b a m)) l) in
      omega (arith, k, lengths-others d metric l, c.least (others l) (λ x y m. c.edges x y (others-among l (x, y) m)) r)

  pub cheapest-cuts : Cuts O
  unfolding others
  cheapest-cuts a b m j = needed a b (inl m) (λ p i. around m j (c.reaches p i))

  -- what is joined with a pin, and what is not
  abbrev near : A → Bool
  near = with same O p0

  abbrev far : A → Bool
  far x = not (near x)

  kept : Reaches (part near O) p0 pins
  kept p i = part-joins near O (with-steady same O p0) (c.reaches p i) (joined-with same O p0 p0 (stay refl))

  pub cheapest-joined : (a b : A) → (a, b) ∈ O → Joined O p0 a
  unfolding part
  cheapest-joined a b m =
      by (near a) (with-joined same O p0 a)
      (λ e. absurd
      (let i : (a, b) ∈ part far O = in-those (λ (e : A × A). far e.0) O m (rw e refl) in
      let k : 1 ≤ d a b = positive a b (c.edges a b m) in
      let r = c.least (part near O) (λ x y n. c.edges x y (part-among near O (x, y) n)) kept in
      let z : ⊥ = omega (arith, k, r, part-costs d near O, lengths-others d metric (inl i)) in z))

  -- the points
  pub points : List A
  points = distinct same (pins ++ (map (λ (e : A × A). e.0) O ++ map (λ (e : A × A). e.1) O))

  to-root : (x : A) → x ∈ points → Joined O p0 x
  unfolding points
  to-root x m =
      either (c.reaches x)
      (λ i. either
      (λ k. let s = of_map (λ (e : A × A). e.0) O k in then (cheapest-joined s.entry.0 s.entry.1 s.stands) (stay (sym s.is)))
      (λ k. let s = of_map (λ (e : A × A). e.1) O k in
      then (cheapest-joined s.entry.0 s.entry.1 s.stands) (then (one (inl s.stands)) (stay (sym s.is))))
      (Memᴰ.append_cases (map (λ (e : A × A). e.0) O) i))
      (Memᴰ.append_cases pins (of-distinct same _ x m))

  inside : Inside points O
  unfolding points
  inside a b m = (
    in-distinct same _ a (Memᴰ.append_right pins (Memᴰ.append_left _ (in_map (λ (e : A × A). e.0) m))),
    in-distinct same _ b (Memᴰ.append_right pins (Memᴰ.append_right (map (λ (e : A × A). e.0) O) (in_map (λ (e : A × A). e.1) m))),
  )

  pins-points : Among pins points
  unfolding points
  pins-points x m = in-distinct same _ x (Memᴰ.append_left _ m)

  pub cheapest-tree : TreeOn points O
  unfolding points
  cheapest-tree =
      forest-tree same (distinct-once same _) inside (cuts-forest O cheapest-cuts)
      (λ x y i k. then (back (to-root x i)) (to-root y k)) (pins-points p0 c.root)

  -- it has fewer edges than there are points
  pub cheapest-short : (all : List A) → Among points all → length O < length all
  cheapest-short all h = omega (arith, cheapest-tree.size, once-length points all cheapest-tree.once h)

  pub points-are : (x : A) → x ∈ points → (x ∈ pins) ⊎ ((z : A) × Link O x z)
  unfolding points
  points-are x m =
      either inl
      (λ i. either
      (λ k. let s = of_map (λ (e : A × A). e.0) O k in
      inr (s.entry.1, inl (Memᴰ.cast (ap (λ (z : A). (z, s.entry.1)) s.is) s.stands)))
      (λ k. let s = of_map (λ (e : A × A). e.1) O k in
      inr (s.entry.0, inr (Memᴰ.cast (ap (λ (z : A). (s.entry.0, z)) s.is) s.stands)))
      (Memᴰ.append_cases (map (λ (e : A × A). e.0) O) i))
      (Memᴰ.append_cases pins (of-distinct same _ x m))

  -- one tree, no edge twice and none with equal ends
  pub cheapest-one-tree : OneTree pins O
  cheapest-one-tree = tree-one same cheapest-tree inside pins pins-points

  pub cheapest-simple : Simple O
  cheapest-simple = tree-simple same cheapest-tree

  -- a point that is no pin has a second edge
  pub cheapest-two : (x y : A) (l : Link O x y) → (x ∈ pins → ⊥) → (z : A) × Link (others l) x z
  cheapest-two x y l n = either (λ s. s) (λ none. absurd (needed x y l (without none))) (link-or-none same x (others l))
    where
      stays : (p : A) → p ∈ pins → renamed same y x p ≡ p
      stays p i = renamed-miss same y x p (λ e. n (Memᴰ.cast (sym e) i))

      meet : (a b : A) → Alike a b x y → renamed same y x a ≡ renamed same y x b
      meet a b (inl e) = renamed-hit same y x a e.0 ∙ sym (renamed-fix same y x b e.1)
      meet a b (inr e) = renamed-fix same y x a e.0 ∙ sym (renamed-hit same y x b e.1)

      pairs : ((z : A) → Link (others l) x z → ⊥) → (a b : A) → (a, b) ∈ O → Joined (others l) (renamed same y x a) (renamed same y x b)
      pairs none a b m =
          either (λ e. stay (meet a b e))
          (λ k. between (renamed-miss same y x a (λ e. none b (rw e at k))) (renamed-miss same y x b (λ e. none a (turn (rw e at k))))
          (one k))
          (link-or l (inl m))

      without : ((z : A) → Link (others l) x z → ⊥) → Reaches (others l) p0 pins
      without none p i =
          between (sym (stays p0 c.root)) (sym (stays p i)) (carried (renamed same y x) (pairs none) (c.reaches p i))
