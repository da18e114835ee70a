-- The entries of a flat list, w numbers each: `of` reads them all, `at` the one that begins at a number's place. Then those of two, of
-- three and of four numbers. A scan of entries goes by `drop i (of s)`: what is left after i of them.
-- Assumes nothing.
use mathlib.Core.Path.{◌≡◌, refl, sym, ap, ◌∙◌}
use mathlib.Core.List.{List, [], ◌∷◌}
use Prim.Native.Nat.{ℕ, zero, suc, ◌+◌, ◌*◌, ◌-◌, ◌/◌, ◌≤◌, ◌<◌}
use native.Mathlib.Nat.{zero-mul, suc-mul, add_comm, add_assoc}
use native.Mathlib.Omega.{arith}
use borrow.Author.Tests.{leb-true, leb-false}
use lib.Dec.{leb}
use lib.ListN.{length, get_or, drop, length-drop}
use lib.Seq.{get_or-drop}
use Rattle.lists.specs.Entries.{twos, threes, fours}
use Rattle.lists.proofs.TestLaws.{by}

module _ {A B : Type 0} (w : ℕ) (of : List A → List B) (at : List A → ℕ → B)
    (step : (s : List A) → w ≤ length s → of s ≡ at s 0 ∷ of (drop w s))
    (short : (s : List A) → length s < w → of s ≡ [])
    (past : (s : List A) (i : ℕ) → at (drop w s) i ≡ at s (w + i)) where
  -- what is left after one entry more
  left-suc : (s : List A) (i : ℕ) → w ≤ length s → drop (suc i) (of s) ≡ drop i (of (drop w s))
  left-suc s i h = ap (drop (suc i)) (step s h)

  entry_next : (s : List A) (i : ℕ) → i * w + w ≤ length s → drop i (of s) ≡ at s (i * w) ∷ drop (i + 1) (of s)
  entry_next s zero h =
      let e : zero * w ≡ 0 = zero-mul w in
      let r : w ≤ length s = omega (arith, e) in
      step s r ∙ ap (λ (l : List B). at s 0 ∷ l) (sym (left-suc s 0 r)) ∙ ap (λ (k : ℕ). at s k ∷ drop 1 (of s)) (sym e)
  entry_next s (suc i) h =
      let e : suc i * w ≡ i * w + w = suc-mul i w in
      let r : w ≤ length s = omega (arith, e) in
      let k : i * w + w ≤ length (drop w s) = simp length-drop (omega (arith, e)) in
      let n : suc (i + 1) ≡ suc i + 1 = omega arith in
      left-suc s i r
      ∙ entry_next (drop w s) i k
      ∙ ap (λ (b : B). b ∷ drop (i + 1) (of (drop w s))) (past s (i * w) ∙ ap (at s) (add_comm w (i * w) ∙ sym e))
      ∙ ap (λ (l : List B). at s (suc i * w) ∷ l) (sym (left-suc s (i + 1) r) ∙ ap (λ (m : ℕ). drop m (of s)) n)

  entry-end : (s : List A) (i : ℕ) → length s < i * w + w → drop i (of s) ≡ []
  entry-end s zero h = short s (omega (arith, zero-mul w))
  entry-end s (suc i) h =
      by (leb w (length s))
      (λ e. let r = leb-true w (length s) e in left-suc s i r ∙ entry-end (drop w s) i (simp length-drop (omega (arith, suc-mul i w))))
      (λ e. ap (drop (suc i)) (short s (leb-false w (length s) e)))

-- a number past a part that is dropped; z stands past the end
at-past : {A : Type 0} (z : A) (w : ℕ) (s : List A) (i k : ℕ) → get_or (drop w s) (i + k) z ≡ get_or s (w + i + k) z
at-past z w s i k = get_or-drop w s (i + k) z ∙ ap (λ (n : ℕ). get_or s n z) (sym (add_assoc w i k))

module _ {A B : Type 0} (z : A) where
  module _ (entry : A → A → B) where
    -- the entry of the two numbers from the k-th on
    abbrev two : List A → ℕ → B
    two s k = entry (get_or s k z) (get_or s (k + 1) z)

    two-step : (s : List A) → 2 ≤ length s → twos entry s ≡ two s 0 ∷ twos entry (drop 2 s)
    unfolding twos
    two-step [] h = absurd (let f : ⊥ = omega arith in f)
    two-step (a ∷ []) h = absurd (let f : ⊥ = omega arith in f)
    two-step (a ∷ (b ∷ s)) h = refl

    two-short : (s : List A) → length s < 2 → twos entry s ≡ []
    unfolding twos
    two-short [] h = refl
    two-short (a ∷ []) h = refl
    two-short (a ∷ (b ∷ s)) h = absurd (let f : ⊥ = omega arith in f)

    two_past : (s : List A) (i : ℕ) → two (drop 2 s) i ≡ two s (2 + i)
    two_past s i = rw (get_or-drop 2 s i z, at-past z 2 s i 1) refl

    pub twos-next : (s : List A) (i : ℕ) → i * 2 + 2 ≤ length s → drop i (twos entry s) ≡ two s (i * 2) ∷ drop (i + 1) (twos entry s)
    twos-next = entry_next 2 (twos entry) two two-step two-short two_past

    pub twos-end : (s : List A) (i : ℕ) → length s < i * 2 + 2 → drop i (twos entry s) ≡ []
    twos-end = entry-end 2 (twos entry) two two-step two-short two_past

  module _ (entry : A → A → A → B) where
    -- the entry of the three numbers from the k-th on
    abbrev three : List A → ℕ → B
    three s k = entry (get_or s k z) (get_or s (k + 1) z) (get_or s (k + 2) z)

    three-step : (s : List A) → 3 ≤ length s → threes entry s ≡ three s 0 ∷ threes entry (drop 3 s)
    unfolding threes
    three-step [] h = absurd (let f : ⊥ = omega arith in f)
    three-step (a ∷ []) h = absurd (let f : ⊥ = omega arith in f)
    three-step (a ∷ (b ∷ [])) h = absurd (let f : ⊥ = omega arith in f)
    three-step (a ∷ (b ∷ (c ∷ s))) h = refl

    three-short : (s : List A) → length s < 3 → threes entry s ≡ []
    unfolding threes
    three-short [] h = refl
    three-short (a ∷ []) h = refl
    three-short (a ∷ (b ∷ [])) h = refl
    three-short (a ∷ (b ∷ (c ∷ s))) h = absurd (let f : ⊥ = omega arith in f)

    three-past : (s : List A) (i : ℕ) → three (drop 3 s) i ≡ three s (3 + i)
    three-past s i = rw (get_or-drop 3 s i z, at-past z 3 s i 1, at-past z 3 s i 2) refl

    pub threes-next : (s : List A) (i : ℕ) → i * 3 + 3 ≤ length s
        → drop i (threes entry s) ≡ three s (i * 3) ∷ drop (i + 1) (threes entry s)
    threes-next = entry_next 3 (threes entry) three three-step three-short three-past

    pub threes-end : (s : List A) (i : ℕ) → length s < i * 3 + 3 → drop i (threes entry s) ≡ []
    threes-end = entry-end 3 (threes entry) three three-step three-short three-past

  module _ (entry : A → A → A → A → B) where
    -- the entry of the four numbers from the k-th on
    abbrev four : List A → ℕ → B
    four s k = entry (get_or s k z) (get_or s (k + 1) z) (get_or s (k + 2) z) (get_or s (k + 3) z)

    four-step : (s : List A) → 4 ≤ length s → fours entry s ≡ four s 0 ∷ fours entry (drop 4 s)
    unfolding fours
    four-step [] h = absurd (let f : ⊥ = omega arith in f)
    four-step (a ∷ []) h = absurd (let f : ⊥ = omega arith in f)
    four-step (a ∷ (b ∷ [])) h = absurd (let f : ⊥ = omega arith in f)
    four-step (a ∷ (b ∷ (c ∷ []))) h = absurd (let f : ⊥ = omega arith in f)
    four-step (a ∷ (b ∷ (c ∷ (d ∷ s)))) h = refl

    four-short : (s : List A) → length s < 4 → fours entry s ≡ []
    unfolding fours
    four-short [] h = refl
    four-short (a ∷ []) h = refl
    four-short (a ∷ (b ∷ [])) h = refl
    four-short (a ∷ (b ∷ (c ∷ []))) h = refl
    four-short (a ∷ (b ∷ (c ∷ (d ∷ s)))) h = absurd (let f : ⊥ = omega arith in f)

    four-past : (s : List A) (i : ℕ) → four (drop 4 s) i ≡ four s (4 + i)
    four-past s i = rw (get_or-drop 4 s i z, at-past z 4 s i 1, at-past z 4 s i 2, at-past z 4 s i 3) refl

    pub fours-next : (s : List A) (i : ℕ) → i * 4 + 4 ≤ length s
        → drop i (fours entry s) ≡ four s (i * 4) ∷ drop (i + 1) (fours entry s)
    fours-next = entry_next 4 (fours entry) four four-step four-short four-past

    pub fours-end : (s : List A) (i : ℕ) → length s < i * 4 + 4 → drop i (fours entry s) ≡ []
    fours-end = entry-end 4 (fours entry) four four-step four-short four-past

-- how many there are
module _ {A B : Type 0} where
  pub length-twos : (entry : A → A → B) (s : List A) → length (twos entry s) ≡ length s / 2
  unfolding twos
  length-twos entry [] = refl
  length-twos entry (a ∷ []) = refl
  length-twos entry (a ∷ (b ∷ s)) = omega (arith, length-twos entry s)

  pub length-threes : (entry : A → A → A → B) (s : List A) → length (threes entry s) ≡ length s / 3
  unfolding threes
  length-threes entry [] = refl
  length-threes entry (a ∷ []) = refl
  length-threes entry (a ∷ (b ∷ [])) = refl
  length-threes entry (a ∷ (b ∷ (c ∷ s))) = omega (arith, length-threes entry s)

  pub length-fours : (entry : A → A → A → A → B) (s : List A) → length (fours entry s) ≡ length s / 4
  unfolding fours
  length-fours entry [] = refl
  length-fours entry (a ∷ []) = refl
  length-fours entry (a ∷ (b ∷ [])) = refl
  length-fours entry (a ∷ (b ∷ (c ∷ []))) = refl
  length-fours entry (a ∷ (b ∷ (c ∷ (d ∷ s)))) = omega (arith, length-fours entry s)
