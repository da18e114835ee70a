-- A new point put in at its rank: the other points keep their places under numbers moved on, and the order holds.
-- Assumes nothing.
use mathlib.Core.Path.{◌≡◌, refl, sym, ap, ap₂, ◌∙◌}
use mathlib.Core.Bool.{Bool, true, false, not}
use mathlib.Core.List.{List}
use Prim.Native.Nat.{ℕ, zero, suc, ◌+◌, ◌-◌, ◌*◌, ◌/◌, ◌%◌, ◌≤◌, ◌<◌}
use native.Mathlib.Omega.{arith}
use lib.Dec.{ltb}
use lib.IntN.{ℤ, pos}
use lib.ListN.{length, get_or, set, length-set}
use lib.Seq.{get_or-set_same, get_or-set_other}
use borrow.Author.Tests.{ltb-true, ltb-false, lt-ltb}
use Rattle.std.specs.List.{CopiedTo, SameBelow, SameFrom}
use Rattle.std.proofs.lemmas.List.{ext_get_or}
use Rattle.lists.proofs.TestLaws.{by, differ, and_both}
use Rattle.plane.specs.declared.Place.{Place}
use Rattle.plane.specs.Place.{place, before, same_place}
use Rattle.plane.specs.Flat.{place_at}
use Rattle.plane.specs.Rank.{InOrder, later, rank}
use Rattle.plane.proofs.PlaceLaws.{same_refl, before-trans, before-tie}
use Rattle.lists.specs.Turns.{turns, seek}
use Rattle.exchanges.specs.Exchange.{stands, Hand, hand, push, closing, opened, bump}
use Rattle.tree.specs.Table.{set_point}
use Rattle.exchanges.proofs.WithinLaws.{rank-le}
use Rattle.exchanges.proofs.ExchangeLaws.{bump-lt, bump-ge}

-- One place stored

place_here : (pts : List ℤ) (i : ℕ) (q : Place) → i * 2 + 2 ≤ length pts → place_at (set_point pts i q) i ≡ q
place_here pts i q h =
    ap₂ place
    (get_or-set_other (set pts (i * 2) q.x) (i * 2 + 1) (i * 2) q.y (pos 0) (λ e. let z : ⊥ = omega arith in z)
    ∙ get_or-set_same pts (i * 2) q.x (pos 0) (omega arith))
    (get_or-set_same (set pts (i * 2) q.x) (i * 2 + 1) q.y (pos 0) (rw (length-set pts (i * 2) q.x) (omega arith)))

place_other : (pts : List ℤ) (i j : ℕ) (q : Place) → (i ≡ j → ⊥) → place_at (set_point pts i q) j ≡ place_at pts j
place_other pts i j q n = ap₂ place (at (j * 2) (λ e. n (omega arith)) (λ e. n (omega arith)))
    (at (j * 2 + 1) (λ e. n (omega arith)) (λ e. n (omega arith)))
  where
    at : (k : ℕ) → (k ≡ i * 2 → ⊥) → (k ≡ i * 2 + 1 → ⊥) → get_or (set_point pts i q) k (pos 0) ≡ get_or pts k (pos 0)
    at k a b = get_or-set_other (set pts (i * 2) q.x) (i * 2 + 1) k q.y (pos 0) b ∙ get_or-set_other pts (i * 2) k q.x (pos 0) a

-- two tables of the same places
places_same : (xs ys : List ℤ) → length xs ≡ length ys → ((j : ℕ) → place_at xs j ≡ place_at ys j) → xs ≡ ys
places_same xs ys l same =
    ext_get_or (pos 0) xs ys l
    (λ i _.
    let j = i / 2 in
    by (ltb (i % 2) 1)
    (λ t.
    let e : i ≡ j * 2 = omega (arith, ltb-true (i % 2) 1 t) in
    rw e (ap (λ (p : Place). p.x) (same j)))
    (λ t.
    let e : i ≡ j * 2 + 1 = omega (arith, ltb-false (i % 2) 1 t) in
    rw e (ap (λ (p : Place). p.y) (same j))))

-- Places moved on, the one in hand first

pushed-low : (c i : ℕ) (h : Hand) (j : ℕ) → j < i → place_at (closing (i + c) (turns push i c h)) j ≡ place_at h.pts j
unfolding turns push closing
pushed-low zero i h j l = let z : i + 0 ≡ i = omega arith in rw z (place_other h.pts i j h.held (λ e. let y : ⊥ = omega arith in y))
pushed-low (suc c) i h j l =
    let z : i + suc c ≡ suc i + c = omega arith in
    rw z (pushed-low c (suc i) (push i h) j (omega arith) ∙ place_other h.pts i j h.held (λ e. let y : ⊥ = omega arith in y))

pushed-first : (c i : ℕ) (h : Hand) → i * 2 + 2 ≤ length h.pts → place_at (closing (i + c) (turns push i c h)) i ≡ h.held
unfolding turns push closing
pushed-first zero i h r = let z : i + 0 ≡ i = omega arith in rw z (place_here h.pts i h.held r)
pushed-first (suc c) i h r =
    let z : i + suc c ≡ suc i + c = omega arith in
    rw z (pushed-low c (suc i) (push i h) i (omega arith) ∙ place_here h.pts i h.held r)

length-point : (pts : List ℤ) (i : ℕ) (q : Place) → length (set_point pts i q) ≡ length pts
length-point pts i q = length-set (set pts (i * 2) q.x) (i * 2 + 1) q.y ∙ length-set pts (i * 2) q.x

pushed-high : (c i : ℕ) (h : Hand) (j : ℕ) → (i + c) * 2 + 2 ≤ length h.pts → i ≤ j → j < i + c →
    place_at (closing (i + c) (turns push i c h)) (suc j) ≡ place_at h.pts j
unfolding turns push closing
pushed-high zero i h j r l m = absurd (let y : ⊥ = omega arith in y)
pushed-high (suc c) i h j r l m =
    let z : i + suc c ≡ suc i + c = omega arith in
    let room : (suc i + c) * 2 + 2 ≤ length (push i h).pts = rw (length-point h.pts i h.held) (omega arith) in
    rw z
    (by (ltb i j)
    (λ t.
    let k : i < j = ltb-true i j t in
    pushed-high c (suc i) (push i h) j room k (omega arith) ∙ place_other h.pts i j h.held (λ e. let y : ⊥ = omega arith in y))
    (λ t. let e : j ≡ i = omega (arith, ltb-false i j t) in rw e (pushed-first c (suc i) (push i h) (omega arith))))

pushed-past : (c i : ℕ) (h : Hand) (j : ℕ) → i + c < j → place_at (closing (i + c) (turns push i c h)) j ≡ place_at h.pts j
unfolding turns push closing
pushed-past zero i h j l = place_other h.pts (i + 0) j h.held (λ e. let y : ⊥ = omega arith in y)
pushed-past (suc c) i h j l =
    let z : i + suc c ≡ suc i + c = omega arith in
    rw z (pushed-past c (suc i) (push i h) j (omega arith) ∙ place_other h.pts i j h.held (λ e. let y : ⊥ = omega arith in y))

pushed-length : (c i : ℕ) (h : Hand) → length (turns push i c h).pts ≡ length h.pts
unfolding turns push
pushed-length zero i h = refl
pushed-length (suc c) i h = pushed-length c (suc i) (push i h) ∙ length-point h.pts i h.held

-- The points with s put in

pub opened-length : (pts : List ℤ) (n p : ℕ) (s : Place) → length (opened pts n p s) ≡ length pts
unfolding opened closing
opened-length pts n p s =
    let h = turns push p (n - p) (hand pts s) in
    length-point h.pts n h.held ∙ pushed-length (n - p) p (hand pts s)

module _ (pts : List ℤ) (n p : ℕ) (s : Place) (hp : p ≤ n) (room : n * 2 + 2 ≤ length pts) where
  whole : p + (n - p) ≡ n
  whole = omega arith

  pub opened-low : (j : ℕ) → j < p → place_at (opened pts n p s) j ≡ place_at pts j
  unfolding opened
  opened-low j h = rw whole at (pushed-low (n - p) p (hand pts s) j h)

  pub opened-new : place_at (opened pts n p s) p ≡ s
  unfolding opened
  opened-new = rw whole at (pushed-first (n - p) p (hand pts s) (omega arith))

  pub opened-high : (j : ℕ) → p ≤ j → j < n → place_at (opened pts n p s) (suc j) ≡ place_at pts j
  unfolding opened
  opened-high j h l = rw whole at (pushed-high (n - p) p (hand pts s) j (rw whole (omega arith)) h (omega arith))

  pub opened-bump : (i : ℕ) → i < n → place_at (opened pts n p s) (bump p i) ≡ place_at pts i
  opened-bump i h =
      by (ltb i p)
      (λ t. let l : i < p = ltb-true i p t in rw (← bump-lt p i l) (opened-low i l))
      (λ t. let l : p ≤ i = ltb-false i p t in let e : i + 1 ≡ suc i = omega arith in rw (← bump-ge p i l, e) (opened-high i l h))

  pub opened-past : (j : ℕ) → p < j → j < suc n → place_at (opened pts n p s) j ≡ place_at pts (j - 1)
  opened-past j h l = let e : j ≡ suc (j - 1) = omega arith in ap (place_at (opened pts n p s)) e ∙ opened-high (j - 1) (omega arith)
      (omega arith)

  opened-beyond : (j : ℕ) → n < j → place_at (opened pts n p s) j ≡ place_at pts j
  unfolding opened
  opened-beyond j h = rw whole at (pushed-past (n - p) p (hand pts s) j (omega arith))

  -- the numbers from p on copied two to the back, and s stored
  pub opened-copied : (from to m : ℕ) (ys : List ℤ) → from ≡ p * 2 → to ≡ p * 2 + 2 → m ≡ n * 2 - p * 2 → length ys ≡ length pts
      → SameBelow pts ys to → CopiedTo pts ys from to m → SameFrom pts ys (to + m) → set_point ys p s ≡ opened pts n p s
  opened-copied from to m ys a b c l below copied past =
      places_same (set_point ys p s) (opened pts n p s) (length-point ys p s ∙ l ∙ sym (opened-length pts n p s)) at
    where
      moved : (j : ℕ) → (p ≡ j → ⊥) → place_at (set_point ys p s) j ≡ place_at ys j
      moved j q = place_other ys p j s q

      at : (j : ℕ) → place_at (set_point ys p s) j ≡ place_at (opened pts n p s) j
      at j =
          by (ltb j p)
          (λ t.
          let u : j < p = ltb-true j p t in
          moved j (λ e. let y : ⊥ = omega arith in y)
          ∙ ap₂ place (below (j * 2) (pos 0) (omega arith)) (below (j * 2 + 1) (pos 0) (omega arith))
          ∙ sym (opened-low j u))
          (λ t.
          let u : p ≤ j = ltb-false j p t in
          by (ltb p j)
          (λ v.
          let w : p < j = ltb-true p j v in
          by (ltb n j)
          (λ x.
          let z : n < j = ltb-true n j x in
          moved j (λ e. let y : ⊥ = omega arith in y)
          ∙ ap₂ place (past (j * 2) (pos 0) (omega arith)) (past (j * 2 + 1) (pos 0) (omega arith))
          ∙ sym (opened-beyond j z))
          (λ x.
          let z : j ≤ n = ltb-false n j x in
          let e : from + (j * 2 - to) ≡ (j - 1) * 2 = omega arith in
          let f : from + (j * 2 + 1 - to) ≡ (j - 1) * 2 + 1 = omega arith in
          moved j (λ e. let y : ⊥ = omega arith in y)
          ∙ ap₂ place (copied (j * 2) (pos 0) (omega arith) (omega arith) ∙ ap (λ (k : ℕ). get_or pts k (pos 0)) e)
          (copied (j * 2 + 1) (pos 0) (omega arith) (omega arith) ∙ ap (λ (k : ℕ). get_or pts k (pos 0)) f)
          ∙ sym (opened-past j w (omega arith))))
          (λ v.
          let e : j ≡ p = omega (arith, ltb-false p j v) in
          rw e (place_here ys p s (omega (arith, l)) ∙ sym opened-new)))

-- The rank of s

pub seek-before : (t : ℕ → Bool) (n i j : ℕ) → i ≤ j → j < seek t i n → t j ≡ false
unfolding seek
seek-before t zero i j h l = absurd (let z : ⊥ = omega arith in z)
seek-before t (suc n) i j h l =
    by (t i) (λ e. absurd (let k : j < i = rw (seek, e) at l in let z : ⊥ = omega arith in z))
    (λ e.
    by (ltb i j) (λ b. seek-before t n (suc i) j (ltb-true i j b) (rw (seek, e) at l))
    (λ b. let q : j ≡ i = omega (arith, ltb-false i j b) in rw q e))

pub seek_hit : (t : ℕ → Bool) (n i : ℕ) → seek t i n < i + n → t (seek t i n) ≡ true
unfolding seek
seek_hit t zero i h = absurd (let z : ⊥ = omega arith in z)
seek_hit t (suc n) i h =
    by (t i) (λ e. rw (seek, e) e) (λ e. rw (seek, e) (seek_hit t n (suc i) (omega (arith, rw (seek, e) at h))))

not-false : (t : Bool) → not t ≡ false → t ≡ true
not-false true e = refl
not-false false e = sym e

not-true : (t : Bool) → not t ≡ true → t ≡ false
not-true true e = sym e
not-true false e = refl

module _ (pts : List ℤ) (n : ℕ) (s : Place) (o : InOrder pts n) where
  pub rank_below : (j : ℕ) → j < rank pts n s → before (place_at pts j) s ≡ true
  unfolding rank later
  rank_below j h = not-false _ (seek-before (later pts s) n 0 j (omega arith) h)

  module _ (new : stands pts n (rank pts n s) s ≡ false) where
    first-after : rank pts n s < n → before s (place_at pts (rank pts n s)) ≡ true
    unfolding rank later stands
    first-after h =
        let r = seek (later pts s) 0 n in
        let a : before (place_at pts r) s ≡ false = not-true _ (seek_hit (later pts s) n 0 (omega arith)) in
        by (before s (place_at pts r)) (λ t. t)
        (λ t.
        let e : s ≡ place_at pts r = before-tie s (place_at pts r) t a in
        let y : same_place s (place_at pts r) ≡ true = ap (same_place s) (sym e) ∙ same_refl s in
        differ (and_both _ _ (lt-ltb r n h) y) new)

    pub rank-above : (j : ℕ) → rank pts n s ≤ j → j < n → before s (place_at pts j) ≡ true
    rank-above j h l =
        by (ltb (rank pts n s) j)
        (λ t. before-trans s (place_at pts (rank pts n s)) (place_at pts j) (first-after (omega arith))
        (o (rank pts n s) j (ltb-true _ _ t) l))
        (λ t. let e : j ≡ rank pts n s = omega (arith, ltb-false (rank pts n s) j t) in rw e (first-after (omega arith)))

    module _ (room : n * 2 + 2 ≤ length pts) where
      pub opened-order : InOrder (opened pts n (rank pts n s) s) (n + 1)
      opened-order i j l k =
          let p = rank pts n s in
          let hp : p ≤ n = rank-le pts n s in
          let low = opened-low pts n p s hp room in
          let past = opened-past pts n p s hp room in
          let new = opened-new pts n p s hp room in
          by (ltb j p)
          (λ t. let jp : j < p = ltb-true j p t in ap₂ before (low i (omega arith)) (low j jp) ∙ o i j l (omega arith))
          (λ t.
          by (ltb p j)
          (λ v.
          let pj : p < j = ltb-true p j v in
          let q = past j pj (omega arith) in
          by (ltb i p)
          (λ x. let ip : i < p = ltb-true i p x in ap₂ before (low i ip) q ∙ o i (j - 1) (omega arith) (omega arith))
          (λ x.
          by (ltb p i)
          (λ y. let pi : p < i = ltb-true p i y in ap₂ before (past i pi (omega arith)) q ∙ o (i - 1) (j - 1) (omega arith) (omega arith))
          (λ y.
          let e : i ≡ p = omega (arith, ltb-false i p x, ltb-false p i y) in
          ap₂ before (ap (place_at (opened pts n p s)) e ∙ new) q ∙ rank-above (j - 1) (omega arith) (omega arith))))
          (λ v.
          let e : j ≡ p = omega (arith, ltb-false j p t, ltb-false p j v) in
          ap₂ before (low i (omega arith)) (ap (place_at (opened pts n p s)) e ∙ new) ∙ rank_below i (omega arith)))
