-- Entries of a table by their numbers: in order, a smaller number is an earlier entry, and where a place stands is its rank.
-- Assumes nothing.
use mathlib.Core.Path.{◌≡◌, sym, ap, ap₂, ◌∙◌}
use mathlib.Core.Bool.{Bool, true}
use mathlib.Core.List.{List, [], ◌∷◌}
use Prim.Native.Nat.{ℕ, zero, suc, ◌+◌, ◌*◌, ◌≤◌, ◌<◌}
use native.Mathlib.Nat.{suc-mul}
use native.Mathlib.Omega.{arith}
use lib.IntN.{ℤ, pos}
use lib.ListN.{length, get_or}
use Rattle.lists.specs.Sorted.{Order, Ascending, position}
use Rattle.lists.specs.Turns.{seek}
use Rattle.lists.proofs.TestLaws.{by}
use Rattle.lists.proofs.MemberLaws.{get_d-in}
use Rattle.lent.specs.Entries.{entries_from, entries}
use Rattle.lent.proofs.EntryTable.{length-entries}
use Rattle.plane.specs.declared.Place.{Place}
use Rattle.plane.specs.Place.{place, before}
use Rattle.plane.specs.Flat.{place_at, place_from, place_numbers}
use Rattle.plane.specs.Rank.{InOrder, later, rank}
use Rattle.net.proofs.WidthLaws.{place-width}

-- Of a list

module _ {A : Type 0} (less : A → A → Bool) where
  -- an earlier entry of an ascending list comes before a later one
  pub ascending-at : (l : List A) → Ascending less l → (i j : ℕ) (d : A) → i < j → j < length l → less (get_or l i d) (get_or l j d) ≡ true
  ascending-at [] h i j d e f = absurd (let z : ⊥ = omega arith in z)
  ascending-at (a ∷ l) h i zero d e f = absurd (let z : ⊥ = omega arith in z)
  ascending-at (a ∷ l) h zero (suc j) d e f = h.0 (get_or l j d) (get_d-in l j d (omega arith))
  ascending-at (a ∷ l) h (suc i) (suc j) d e f = ascending-at l h.1 i j d (omega arith) (omega arith)

  -- no more come before c than there are
  pub position-whole : (l : List A) (c : A) → position less l c ≤ length l
  unfolding position
  position-whole [] c = omega arith
  position-whole (b ∷ l) c =
      by (less b c) (λ e. rw (position, e) (omega (arith, position-whole l c))) (λ e. rw (position, e) (omega arith))

  -- an entry that comes before c is counted
  pub position_past : Order less → (l : List A) (c d : A) → Ascending less l → (j : ℕ) → j < length l → less (get_or l j d) c ≡ true
      → j < position less l c
  unfolding position
  position_past o [] c d a j h e = absurd (let z : ⊥ = omega arith in z)
  position_past o (b ∷ l) c d a zero h e = rw (position, e) (omega arith)
  position_past o (b ∷ l) c d a (suc j) h e =
      let f : less b c ≡ true = o.along b (get_or l j d) c (a.0 (get_or l j d) (get_d-in l j d (omega arith))) e in
      rw (position, f) (omega (arith, position_past o l c d a.1 j (omega arith) e))

-- Of a table

module _ {A B : Type 0} (from : List A → ℕ → B) (w : ℕ) (s : List A) where
  read_at : (j n k : ℕ) (d : B) → k < n → get_or (entries_from from w s j n) k d ≡ from s (j + k * w)
  unfolding entries_from
  read_at j zero k d h = absurd (let z : ⊥ = omega arith in z)
  read_at j (suc n) zero d h = let e : j ≡ j + zero * w = omega arith in ap (from s) e
  read_at j (suc n) (suc k) d h =
      let e : j + w + k * w ≡ j + suc k * w = omega (arith, suc-mul k w) in
      read_at (j + w) n k d (omega arith) ∙ ap (from s) e

  -- the k-th of the first n
  pub entry_at : (n k : ℕ) (d : B) → k < n → get_or (entries from w s n) k d ≡ from s (k * w)
  entry_at n k d h = let e : 0 + k * w ≡ k * w = omega arith in read_at 0 n k d h ∙ ap (from s) e

pub place-entries : (s : List ℤ) (n : ℕ) → length (entries place_from 2 s n) ≡ n
place-entries s n = length-entries place_numbers place_from 2 place-width s 0 n

pub entries-in-order : (s : List ℤ) (n : ℕ) → Ascending before (entries place_from 2 s n) → InOrder s n
entries-in-order s n a i j h k =
    let z = place (pos 0) (pos 0) in
    ap₂ before (sym (entry_at place_from 2 s n i z (omega arith))) (sym (entry_at place_from 2 s n j z k))
    ∙ ascending-at before (entries place_from 2 s n) a i j z h (omega (arith, place-entries s n))

-- the rank of p: the number of the first place that does not come before it
module _ (s : List ℤ) (p : Place) where
  seek-position : (n i : ℕ) → seek (later s p) i n ≡ i + position before (entries_from place_from 2 s (i * 2) n) p
  unfolding seek later position entries_from
  seek-position zero i = omega arith
  seek-position (suc n) i =
      let e : suc i * 2 ≡ i * 2 + 2 = omega arith in
      by (before (place_at s i) p)
      (λ t. rw (seek, later, position, t) (seek-position n (suc i) ∙ rw e (omega arith)))
      (λ t. rw (seek, later, position, t) (omega arith))

  pub rank-position : (n : ℕ) → rank s n p ≡ position before (entries place_from 2 s n) p
  unfolding rank
  rank-position n = seek-position n 0 ∙ omega arith
