-- Bytes as words, and a block of them read into zeros.
-- Assumes nothing.
use Rattle.std.proofs.Common.{◌≡◌, ℕ, ◌+◌, ◌*◌, ◌/◌, ◌<◌, ◌≤◌, List, ◌∷◌, length, get_or, take, drop, set, replicate, sym, ap, ◌∙◌, add-zero, arith, length-drop, drop_of_length-le, length-take, get_or-drop}
use Rattle.lists.proofs.EntryLaws.{fours-next, length-fours}
use Rattle.lent.specs.Over.{over}
use Rattle.lent.proofs.OverLaws.{over-more}
use Rattle.blocks.specs.Sizes.{block_words, block_bytes}
use Rattle.blocks.specs.Words.{word, words_of, word_from}
use Rattle.blocks.specs.Block.{block_of}
use Rattle.blocks.proofs.SumLaws.{word_more}

-- Words

words-next : (s : List ℕ) (i : ℕ) → i * 4 + 4 ≤ length s → drop i (words_of s) ≡ word_from s (i * 4) ∷ drop (i + 1) (words_of s)
unfolding words_of
words-next = fours-next 0 word

-- the i-th word
pub word-is : (s : List ℕ) (i : ℕ) → i * 4 + 4 ≤ length s → get_or (words_of s) i 0 ≡ word_from s (i * 4)
word-is s i h =
    sym (get_or-drop i (words_of s) 0 0 ∙ ap (λ (n : ℕ). get_or (words_of s) n 0) (add-zero i))
    ∙ ap (λ (l : List ℕ). get_or l 0 0) (words-next s i h)

pub length-words-of : (s : List ℕ) → length (words_of s) ≡ length s / 4
unfolding words_of
length-words-of = length-fours word

-- no word past the end
pub word_none : (s : List ℕ) (i : ℕ) → length s < i * 4 + 4 → get_or (words_of s) i 0 ≡ 0
word_none s i h =
    let n : length (words_of s) ≤ i = omega (arith, length-words-of s) in
    sym (get_or-drop i (words_of s) 0 0 ∙ ap (λ (k : ℕ). get_or (words_of s) k 0) (add-zero i))
    ∙ ap (λ (l : List ℕ). get_or l 0 0) (drop_of_length-le (words_of s) n)

-- Blocks

-- one word more of a block that is read into zeros
module _ (s : List ℕ) (b i : ℕ) (whole : b * block_bytes + block_bytes ≤ length s) (less : i < block_words) where
  left-long : block_words ≤ length (drop (b * block_words) (words_of s))
  left-long = simp length-drop (omega (arith, length-words-of s))

  pub read_more : set (over (take i (drop (b * block_words) (words_of s))) (replicate block_words 0)) i (word_from s ((b * block_words + i) * 4))
      ≡ over (take (i + 1) (drop (b * block_words) (words_of s))) (replicate block_words 0)
  read_more =
      let l = drop (b * block_words) (words_of s) in
      let k = b * block_words + i in
      let e : length (take i l) ≡ i = length-take i l ∙ omega (arith, left-long) in
      let v : get_or l i 0 ≡ word_from s (k * 4) = get_or-drop (b * block_words) (words_of s) i 0 ∙ word-is s k (omega arith) in
      ap (set (over (take i l) (replicate block_words 0)) i) (sym v)
      ∙ over-more (take i l) (replicate block_words 0) i (get_or l i 0) e less
      ∙ ap (λ (ws : List ℕ). over ws (replicate block_words 0)) (sym (word_more l i (omega (arith, left-long))))

pub block-full : (s : List ℕ) (b : ℕ) → b * block_bytes + block_bytes ≤ length s → length (block_of b (words_of s)) ≡ block_words
block-full s b h =
    length-take block_words (drop (b * block_words) (words_of s))
    ∙ omega (arith, length-drop (b * block_words) (words_of s), length-words-of s)
