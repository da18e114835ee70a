-- Reading a file piece by piece: its blocks, and the numbers of a list.
-- Assumes nothing.
use mathlib.Core.Path.{◌≡◌, refl, sym, ap, ◌∙◌}
use mathlib.Core.List.{List, [], ◌∷◌, ◌++◌}
use Prim.Native.Nat.{ℕ, zero, suc, ◌+◌, ◌*◌, ◌-◌, ◌≤◌, ◌<◌}
use native.Mathlib.Nat.{add-zero, suc-add}
use native.Mathlib.Omega.{arith}
use lib.IntN.{ℤ}
use lib.ListN.{length, drop, set}
use lib.Seq.{drop-drop}
use Rattle.lent.specs.Over.{over}
use Rattle.lent.proofs.OverLaws.{over-more}
use Rattle.blocks.specs.Sizes.{block_words, block_count, file_blocks}
use Rattle.blocks.specs.Block.{block_of}
use Rattle.decoded.specs.Held.{blocks_of, number_in, numbers_in, Sized}

-- the blocks that are left
module _ (n b : ℕ) (words : List ℕ) where
  pub blocks-next : b < n
      → blocks_of (n - b) (drop (b * block_words) words) ≡ block_of b words ∷ blocks_of (n - (b + 1)) (drop ((b + 1) * block_words) words)
  unfolding blocks_of
  blocks-next h =
      let e : n - b ≡ suc (n - (b + 1)) = omega arith in
      let d : b * block_words + block_words ≡ (b + 1) * block_words = omega arith in
      ap (λ (k : ℕ). blocks_of k (drop (b * block_words) words)) e
      ∙ ap (λ (l : List ℕ). block_of b words ∷ blocks_of (n - (b + 1)) l)
      (drop-drop block_words (b * block_words) words ∙ ap (λ (k : ℕ). drop k words) d)

  pub blocks_end : n ≤ b → blocks_of (n - b) (drop (b * block_words) words) ≡ []
  unfolding blocks_of
  blocks_end h = ap (λ (k : ℕ). blocks_of k (drop (b * block_words) words)) (let e : n - b ≡ 0 = omega arith in e)

-- Numbers of a list

pub length-numbers : (bytes : List ℕ) (b j n : ℕ) → length (numbers_in bytes b j n) ≡ n
unfolding numbers_in
length-numbers bytes b j zero = refl
length-numbers bytes b j (suc n) = ap suc (length-numbers bytes b (suc j) n)

numbers-snoc : (bytes : List ℕ) (b j n : ℕ) → numbers_in bytes b j (n + 1) ≡ numbers_in bytes b j n ++ (number_in bytes b (j + n) ∷ [])
unfolding numbers_in
numbers-snoc bytes b j zero = ap (λ (k : ℕ). number_in bytes b k ∷ []) (sym (add-zero j))
numbers-snoc bytes b j (suc n) =
    let e : suc j + n ≡ j + suc n = omega arith in
    ap (numbers_in bytes b j) (suc-add n 1)
    ∙ ap (λ (l : List ℤ). number_in bytes b j ∷ l)
    (numbers-snoc bytes b (suc j) n ∙ ap (λ (k : ℕ). numbers_in bytes b (suc j) n ++ (number_in bytes b k ∷ [])) e)

-- one number more, stored behind those before it
pub numbers_more : (bytes : List ℕ) (b j : ℕ) (lent : List ℤ) → j < length lent
    → set (over (numbers_in bytes b 0 j) lent) j (number_in bytes b j) ≡ over (numbers_in bytes b 0 (j + 1)) lent
numbers_more bytes b j lent h =
    let e : 0 + j ≡ j = omega arith in
    over-more (numbers_in bytes b 0 j) lent j (number_in bytes b j) (length-numbers bytes b 0 j) h
    ∙ ap (λ (l : List ℤ). over l lent) (sym (numbers-snoc bytes b 0 j ∙ ap (λ (k : ℕ). numbers_in bytes b 0 j ++ (number_in bytes b k ∷ []))
    e))

-- the blocks of a file of the right size
pub blocks-few : (bytes : List ℕ) (n k : ℕ) → Sized bytes n k → block_count n k ≤ file_blocks
blocks-few bytes n k sized = omega (arith, sized.few, sized.fit)
