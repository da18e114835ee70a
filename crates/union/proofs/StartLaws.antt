-- The tables that the code marks and writes are the definitions' lists: a number is marked where it stands in the list that was marked, and
-- the rank of a point is where it stands among the points.
-- Assumes nothing.
use mathlib.Core.Path.{◌≡◌, refl, sym, ap, ap₂, ◌∙◌}
use mathlib.Core.Bool.{Bool, true, false, ◌||◌}
use mathlib.Core.List.Memᴰ
use mathlib.Core.List.{List, [], ◌∷◌, ◌++◌, map}
use Prim.Native.Nat.{ℕ, zero, suc, ◌+◌, ◌-◌, ◌*◌, ◌≤◌, ◌<◌}
use native.Mathlib.Omega.{arith}
use borrow.Author.Tests.{eqb-true, eqb-false}
use lib.Dec.{eqb, ltb}
use lib.IntN.{ℤ, pos}
use lib.ListN.{length, get_or, set, replicate, length-set, length-replicate}
use lib.Seq.{get_or_at, get_or-set_same, get_or-set_other}
use Rattle.lists.specs.Member.{◌∈◌, here, there}
use Rattle.lists.specs.Sorted.{Ascending, position}
use Rattle.lists.specs.Those.{those}
use Rattle.lists.proofs.TestLaws.{by}
use Rattle.lists.proofs.AnyLaws.{any-hit, any-miss, any-end}
use Rattle.lists.proofs.OrderLaws.{number-order}
use Rattle.lists.proofs.SortedLaws.{position_at}
use Rattle.lists.proofs.ThoseLaws.{those-hit, those-miss, those-none, of-those}
use Rattle.lent.specs.Over.{over}
use Rattle.lent.specs.Entries.{flat}
use Rattle.plane.specs.declared.Place.{Place}
use Rattle.graph.specs.Numbers.{place_numbers}
use Rattle.forest.specs.Bounds.{point_bound, edge_bound}
use Rattle.forest.specs.Edges.{Graph, one, two, from}
use Rattle.forest.specs.Parents.{Parents}
use Rattle.forest.proofs.EdgeLaws.{below-from, from_next}
use Rattle.tree.specs.Table.{key, tree}
use Rattle.tree.specs.Table as tables
use Rattle.union.specs.Union.{listed, both_ends, key_in, kept_edges, union_edges, union_points, start_of}
use Rattle.union.specs.Marks.{marked, is_marked, marks, Ranking}
use Rattle.union.proofs.ListedLaws.{in-listed, picked-ascending, in-flat}
use Rattle.union.proofs.MarkLaws.{marked_append, from_parts, those-append, marks-room}

-- Marks read

or-true : (p : Bool) → (p || true) ≡ true
or-true true = refl
or-true false = refl

or-false : (p : Bool) → (p || false) ≡ p
or-false true = refl
or-false false = refl

pub mark-read : (l t : List ℕ) (k : ℕ) → k < length t → is_marked (marked l t) k ≡ (listed k l || is_marked t k)
unfolding marked listed
mark-read [] t k h = rw (any-end (eqb k) [] refl) refl
mark-read (j ∷ l) t k h =
    let ih = mark-read l (set t j 1) k (omega (arith, length-set t j 1)) in
    by (eqb k j)
    (λ e.
    let q : get_or (set t j 1) k 0 ≡ 1 = rw (eqb-true k j e) (get_or-set_same t j 1 0 (rw (← eqb-true k j e) h)) in
    ih ∙ ap (λ (x : ℕ). listed k l || ltb 0 x) q ∙ or-true (listed k l) ∙ sym (rw (any-hit (eqb k) (j ∷ l) j l refl e) refl))
    (λ e.
    let q : get_or (set t j 1) k 0 ≡ get_or t k 0 = get_or-set_other t j k 1 0 (eqb-false k j e) in
    ih ∙ ap (λ (x : ℕ). listed k l || ltb 0 x) q ∙ sym (rw (any-miss (eqb k) (j ∷ l) j l refl e) refl))

none-at : (n k : ℕ) → get_or {A = ℕ} (replicate n 0) k 0 ≡ 0
none-at zero k = refl
none-at (suc n) zero = refl
none-at (suc n) (suc k) = none-at n k

-- in a fresh table a number is marked exactly where it stands in the list
pub fresh-read : (n : ℕ) (l t : List ℕ) → t ≡ marked l (replicate n 0) → (k : ℕ) → k < n → is_marked t k ≡ listed k l
fresh-read n l t e k h =
    ap (λ (s : List ℕ). is_marked s k) e
    ∙ mark-read l (replicate n 0) k (omega (arith, length-replicate {A = ℕ} n 0))
    ∙ ap (λ (x : ℕ). listed k l || ltb 0 x) (none-at n k)
    ∙ or-false (listed k l)

those-agree : (f h : ℕ → Bool) (l : List ℕ) → ((k : ℕ) → k ∈ l → f k ≡ h k) → those f l ≡ those h l
those-agree f h [] a = those-none f ∙ sym (those-none h)
those-agree f h (k ∷ l) a =
    let ih = those-agree f h l (λ j m. a j (there m)) in
    by (h k)
    (λ e. those-hit f k l (a k (here refl) ∙ e) ∙ ap (λ (r : List ℕ). k ∷ r) ih ∙ sym (those-hit h k l e))
    (λ e. those-miss f k l (a k (here refl) ∙ e) ∙ ih ∙ sym (those-miss h k l e))

pub map-agree : {A B : Type 0} (f h : A → B) (l : List A) → ((k : A) → k ∈ l → f k ≡ h k) → map f l ≡ map h l
map-agree f h [] a = refl
map-agree f h (k ∷ l) a = ap₂ (λ (x : _) (r : List _). x ∷ r) (a k (here refl)) (map-agree f h l (λ j m. a j (there m)))

-- Ranks

-- the marked numbers below v, then v, then those above it
parts : (t : List ℕ) (v n : ℕ) → v < n → is_marked t v ≡ true → marks t n ≡ marks t v
    ++ (v ∷ those (is_marked t) (from (v + 1) (n - (v + 1))))
unfolding marks
parts t v n h e =
    ap (λ (m : ℕ). those (is_marked t) (from 0 m)) (let q : n ≡ v + (n - v) = omega arith in q)
    ∙ ap (those (is_marked t)) (from_parts 0 v (n - v) ∙ ap (λ (j : ℕ). from 0 v ++ from j (n - v)) (let q : 0 + v ≡ v = omega arith in q))
    ∙ those-append (is_marked t) (from 0 v) (from v (n - v))
    ∙ ap (λ (l : List ℕ). those (is_marked t) (from 0 v) ++ l)
    (ap (those (is_marked t)) (from_next v n h) ∙ those-hit (is_marked t) v (from (v + 1) (n - (v + 1))) e)

marks-ascending : (t : List ℕ) (n : ℕ) → Ascending ltb (marks t n)
unfolding marks
marks-ascending t n = picked-ascending (is_marked t) n

-- a marked number stands behind those that are below it
pub rank-position : (t : List ℕ) (v n : ℕ) → v < n → is_marked t v ≡ true → position ltb (marks t n) v ≡ length (marks t v)
rank-position t v n h e =
    let at : get_or (marks t n) (length (marks t v)) 0 ≡ v =
    ap (λ (l : List ℕ). get_or l (length (marks t v)) 0) (parts t v n h e)
    ∙ get_or_at (marks t v) v (those (is_marked t) (from (v + 1) (n - (v + 1)))) 0 (length (marks t v)) refl in
    ap (position ltb (marks t n)) (sym at) ∙ position_at ltb number-order (marks t n) (marks-ascending t n) (length (marks t v)) 0
    (marks-room t v n h e)

-- The stages

module _ (g : Graph) (fars : List ℕ) (p : Parents) (ks : List ℕ) (n : ℕ) (pins : List ℕ)
    (edges_few : g.count ≤ edge_bound) (points-few : n ≤ point_bound)
    (on at₁ at : List ℕ)
    (a : on ≡ marked (kept_edges g fars p ks) (replicate edge_bound 0))
    (b : at₁ ≡ marked pins (replicate point_bound 0))
    (c : at ≡ marked (flat (both_ends g.ones g.twos) (marks on g.count)) at₁) where
  pub edges_are : marks on g.count ≡ union_edges g fars p ks
  unfolding marks union_edges
  edges_are =
      those-agree (is_marked on) (λ k. listed k (kept_edges g fars p ks)) (from 0 g.count)
      (λ k m. fresh-read edge_bound (kept_edges g fars p ks) on a k (let h = below-from g.count k m in omega arith))

  abbrev all : List ℕ
  all = pins ++ flat (both_ends g.ones g.twos) (union_edges g fars p ks)

  all-marked : at ≡ marked all (replicate point_bound 0)
  all-marked =
      c
      ∙ ap₂ (λ (l t : List ℕ). marked (flat (both_ends g.ones g.twos) l) t) edges_are b
      ∙ sym (marked_append pins (flat (both_ends g.ones g.twos) (union_edges g fars p ks)) (replicate point_bound 0))

  pub points-are : marks at n ≡ union_points g fars p ks n pins
  unfolding marks union_points
  points-are =
      those-agree (is_marked at) (λ v. listed v all) (from 0 n)
      (λ v m. fresh-read point_bound all at all-marked v (let h = below-from n v m in omega arith))

  module _ (one_in : (k : ℕ) → k < g.count → one g k < n) (two_in : (k : ℕ) → k < g.count → two g k < n)
      (ranks : List ℕ) (ranked : Ranking at n ranks) where
    -- the rank of an end of an edge
    rank-of : (v : ℕ) → v < n → v ∈ all → get_or ranks v 0 ≡ position ltb (union_points g fars p ks n pins) v
    rank-of v h m =
        let e : is_marked at v ≡ true = fresh-read point_bound all at all-marked v (omega arith) ∙ in-listed v all m in
        ranked.rank v h e ∙ sym (rank-position at v n h e) ∙ ap (λ (l : List ℕ). position ltb l v) points-are

    union-below : (k : ℕ) → k ∈ union_edges g fars p ks → k < g.count
    unfolding union_edges
    union-below k m = below-from g.count k (of-those (λ j. listed j (kept_edges g fars p ks)) (from 0 g.count) m).0

    pub keys-are : map (λ k. key (get_or ranks (one g k) 0) (get_or ranks (two g k) 0)) (marks on g.count)
        ≡ map (λ k. key_in (union_points g fars p ks n pins) (one g k) (two g k)) (union_edges g fars p ks)
    keys-are =
        ap (map (λ k. key (get_or ranks (one g k) 0) (get_or ranks (two g k) 0))) edges_are
        ∙ map-agree _ _ (union_edges g fars p ks)
        (λ k m.
        let h = union-below k m in
        ap₂ key
        (rank-of (one g k) (one_in k h) (Memᴰ.append_right pins
        (in-flat (both_ends g.ones g.twos) (union_edges g fars p ks) m (here refl))))
        (rank-of (two g k) (two_in k h)
        (Memᴰ.append_right pins (in-flat (both_ends g.ones g.twos) (union_edges g fars p ks) m (there (here refl))))))

    -- what is written is the start
    pub started : (places : ℕ → Place) (lent pts : List ℤ) (lent' keys : List ℕ) (points edges : ℕ) →
        lent ≡ replicate (tables.tree_bound * 2) (pos 0) → lent' ≡ replicate tables.tree_bound 0 →
        points ≡ length (marks at n) → pts ≡ over (flat place_numbers (map places (marks at n))) lent →
        edges ≡ length (marks on g.count) →
        keys ≡ over (map (λ k. key (get_or ranks (one g k) 0) (get_or ranks (two g k) 0)) (marks on g.count)) lent' →
        tree pts points keys edges ≡ start_of g fars p ks places n pins
    unfolding start_of
    started places lent pts lent' keys points edges fresh fresh' count written count' written' =
        let i : pts ≡ over (flat place_numbers (map places (union_points g fars p ks n pins))) (replicate (tables.tree_bound * 2) (pos 0)) =
        written ∙ ap₂ (λ (l : List ℕ) (r : List ℤ). over (flat place_numbers (map places l)) r) points-are fresh in
        let j : keys ≡ over (map (λ k. key_in (union_points g fars p ks n pins) (one g k) (two g k)) (union_edges g fars p ks))
        (replicate tables.tree_bound 0) =
        written' ∙ ap₂ (λ (l r : List ℕ). over l r) keys-are fresh' in
        let q : points ≡ length (union_points g fars p ks n pins) = count ∙ ap length points-are in
        let r : edges ≡ length (union_edges g fars p ks) = count' ∙ ap length edges_are in
        rw (i, j, q, r) refl
