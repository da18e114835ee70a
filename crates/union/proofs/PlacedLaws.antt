-- The refiner's tables of points and edges read back as places: a point is the place of its vertex, an edge has the places of its ends.
-- Assumes nothing.
use mathlib.Core.Path.{◌≡◌, refl, sym, ap, ◌∙◌}
use mathlib.Core.List.{List, [], ◌∷◌, map}
use Prim.Native.Nat.{ℕ, zero, suc, ◌+◌, ◌-◌, ◌*◌, ◌≤◌, ◌<◌}
use native.Mathlib.Omega.{arith}
use borrow.Author.Tests.{ltb-true, ltb-false}
use lib.Dec.{ltb}
use lib.IntN.{ℤ, pos}
use lib.ListN.{length, get_or, drop, replicate, length-map, length-replicate}
use lib.Seq.{get_or-append-add}
use Rattle.lists.specs.Member.{◌∈◌}
use Rattle.lists.specs.Sorted.{Ascending, position}
use Rattle.lists.specs.Total.{total}
use Rattle.lists.proofs.TestLaws.{by}
use Rattle.lists.proofs.MemberLaws.{get_d-in}
use Rattle.lists.proofs.MapLaws.{get_d_map}
use Rattle.lists.proofs.OrderLaws.{number-order}
use Rattle.lists.proofs.SortedLaws.{position-small, at_position}
use Rattle.lent.specs.Over.{over}
use Rattle.lent.specs.Entries.{flat}
use Rattle.lent.proofs.OverLaws.{length_over}
use Rattle.lent.proofs.EntryTable.{length-flat, entries_over}
use Rattle.plane.specs.declared.Place.{Place}
use Rattle.plane.specs.Place.{place}
use Rattle.plane.specs.Flat.{place_from, place_at}
use Rattle.sorted.proofs.NumberLaws.{ascending-at, entry_at}
use Rattle.graph.specs.Numbers.{place_numbers}
use Rattle.graph.proofs.WidthLaws.{place-width}
use Rattle.forest.specs.Edges.{Graph, one, two}
use Rattle.terminal.proofs.NumberLaws.{get_d_over}
use Rattle.tree.specs.Table.{tree_bound, key, first_end, second_end, In, Within}
use Rattle.tree.specs.Sum.{below}
use Rattle.tree.specs.Places.{ends_of}
use Rattle.union.specs.Union.{key_in}

-- the i-th place of a table that begins with some places
pub place-at : (ps : List Place) (lent : List ℤ) (i : ℕ) → i < length ps → place_at (over (flat place_numbers ps) lent) i
    ≡ get_or ps i (place (pos 0) (pos 0))
place-at ps lent i h =
    sym (entry_at place_from 2 (over (flat place_numbers ps) lent) (length ps) i (place (pos 0) (pos 0)) h)
    ∙ ap (λ (l : List Place). get_or l i (place (pos 0) (pos 0))) (entries_over place_numbers place_from 2 place-width ps lent (length ps) refl)

none-at : (m n i : ℕ) → get_or {A = ℕ} (drop m (replicate n 0)) i 0 ≡ 0
none-at zero zero i = refl
none-at zero (suc n) zero = refl
none-at zero (suc n) (suc i) = none-at zero n i
none-at (suc m) zero i = refl
none-at (suc m) (suc n) i = none-at m n i

-- past the answer a fresh table is empty
past : (xs : List ℕ) (n i : ℕ) → length xs ≤ i → get_or (over xs (replicate n 0)) i 0 ≡ 0
unfolding over
past xs n i h =
    let e : i ≡ length xs + (i - length xs) = omega arith in
    ap (λ (j : ℕ). get_or (over xs (replicate n 0)) j 0) e
    ∙ get_or-append-add xs (drop (length xs) (replicate n 0)) (i - length xs) 0
    ∙ none-at (length xs) n (i - length xs)

first_of : (x y : ℕ) → y < tree_bound → first_end (key x y) ≡ x
first_of x y h = omega arith

second-of : (x y : ℕ) → y < tree_bound → second_end (key x y) ≡ y
second-of x y h = omega arith

-- the sum over a table's first entries is the sum over the list that they are
pub below_total : (f : ℕ → ℕ) (l : List ℕ) → below (λ i. f (get_or l i 0)) (length l) ≡ total (map f l)
unfolding below total
below_total f [] = refl
below_total f (x ∷ l) = first (λ i. f (get_or (x ∷ l) i 0)) (length l) ∙ ap (λ (s : ℕ). f x + s) (below_total f l)
  where
    first : (h : ℕ → ℕ) (n : ℕ) → below h (suc n) ≡ h 0 + below (λ i. h (suc i)) n
    first h zero = refl
    first h (suc n) = omega (arith, first h n)

module _ (places : ℕ → Place) (g : Graph) (W E : List ℕ) (ascending : Ascending ltb W) (few : length W ≤ tree_bound)
    (fewer : length E ≤ tree_bound)
    (one_at : (k : ℕ) → k ∈ E → one g k ∈ W) (two_at : (k : ℕ) → k ∈ E → two g k ∈ W) where
  abbrev pub point_table : List ℤ
  point_table = over (flat place_numbers (map places W)) (replicate (tree_bound * 2) (pos 0))

  abbrev pub edge_table : List ℕ
  edge_table = over (map (λ k. key_in W (one g k) (two g k)) E) (replicate tree_bound 0)

  pub points-length : length point_table ≡ tree_bound * 2
  points-length =
      length_over (flat place_numbers (map places W)) (replicate (tree_bound * 2) (pos 0))
      (omega (
        arith,
        length-flat place_numbers place_from 2 place-width (map places W),
        length-map W places,
        length-replicate {A = ℤ}
            (tree_bound * 2) (pos 0),
      ))
      ∙ length-replicate (tree_bound * 2) (pos 0)

  pub edges-length : length edge_table ≡ tree_bound
  edges-length =
      length_over (map (λ k. key_in W (one g k) (two g k)) E) (replicate tree_bound 0)
      (omega (arith, length-map E (λ k. key_in W (one g k) (two g k)), length-replicate {A = ℕ} tree_bound 0))
      ∙ length-replicate {A = ℕ} tree_bound 0

  -- points
  pub point_at : (i : ℕ) → i < length W → place_at point_table i ≡ places (get_or W i 0)
  point_at i h =
      place-at (map places W) (replicate (tree_bound * 2) (pos 0)) i (omega (arith, length-map W places)) ∙ get_d_map places W i 0 _ h

  pub small : (v : ℕ) → v ∈ W → position ltb W v < length W
  small v m = position-small ltb number-order W ascending v m

  -- the order of points is that of their vertices
  pub position-rises : (u v : ℕ) → u ∈ W → v ∈ W → u < v → position ltb W u < position ltb W v
  position-rises u v i j l =
      let x = position ltb W u in
      let y = position ltb W v in
      let p : get_or W x 0 ≡ u = at_position ltb number-order W ascending u 0 i in
      let q : get_or W y 0 ≡ v = at_position ltb number-order W ascending v 0 j in
      by (ltb x y)
      (λ t. ltb-true x y t)
      (λ t.
      by (ltb y x)
      (λ s.
      let c = ltb-true (get_or W y 0) (get_or W x 0) (ascending-at ltb W ascending y x 0 (ltb-true y x s) (small u i)) in
      absurd (let z : ⊥ = omega (arith, p, q) in z))
      (λ s.
      let e : x ≡ y = omega (arith, ltb-false x y t, ltb-false y x s) in
      let c : get_or W x 0 ≡ get_or W y 0 = ap (λ (k : ℕ). get_or W k 0) e in
      absurd (let z : ⊥ = omega (arith, p, q) in z)))

  pub point-of : (v : ℕ) → v ∈ W → place_at point_table (position ltb W v) ≡ places v
  point-of v m = point_at (position ltb W v) (small v m) ∙ ap places (at_position ltb number-order W ascending v 0 m)

  -- edges
  pub key-at : (i : ℕ) → i < length E → get_or edge_table i 0 ≡ key_in W (one g (get_or E i 0)) (two g (get_or E i 0))
  key-at i h =
      get_d_over (map (λ k. key_in W (one g k) (two g k)) E) (replicate tree_bound 0) i 0
      (omega (arith, length-map E (λ k. key_in W (one g k) (two g k))))
      ∙ get_d_map (λ k. key_in W (one g k) (two g k)) E i 0 0 h

  pub first-at : (i : ℕ) → i < length E → (ends_of point_table (get_or edge_table i 0)).0 ≡ places (one g (get_or E i 0))
  first-at i h =
      let k = get_or E i 0 in
      let m = get_d-in E i 0 h in
      let l = small (two g k) (two_at k m) in
      ap (λ (q : ℕ). place_at point_table (first_end q)) (key-at i h)
      ∙ ap (place_at point_table) (first_of (position ltb W (one g k)) (position ltb W (two g k)) (omega arith))
      ∙ point-of (one g k) (one_at k m)

  pub second_at : (i : ℕ) → i < length E → (ends_of point_table (get_or edge_table i 0)).1 ≡ places (two g (get_or E i 0))
  second_at i h =
      let k = get_or E i 0 in
      let m = get_d-in E i 0 h in
      let l = small (two g k) (two_at k m) in
      ap (λ (q : ℕ). place_at point_table (second_end q)) (key-at i h)
      ∙ ap (place_at point_table) (second-of (position ltb W (one g k)) (position ltb W (two g k)) (omega arith))
      ∙ point-of (two g k) (two_at k m)

  pub keys-within : 1 ≤ length W → Within (length W) edge_table
  keys-within some = record {
    ends = λ i. by (ltb i (length E)) (λ t. written i (ltb-true i (length E) t))
        (λ t. empty i (ltb-false i (length E) t));
  }
    where
      written : (i : ℕ) → i < length E → In (length W) (get_or edge_table i 0)
      written i h =
          let k = get_or E i 0 in
          let m = get_d-in E i 0 h in
          let x = small (one g k) (one_at k m) in
          let y = small (two g k) (two_at k m) in
          rw (key-at i h) (omega arith, omega arith)

      empty : (i : ℕ) → length E ≤ i → In (length W) (get_or edge_table i 0)
      empty i h =
          rw (past (map (λ k. key_in W (one g k) (two g k)) E) tree_bound i (omega (arith, length-map E (λ k. key_in W (one g k) (two g k)))))
          (omega arith, omega arith)
