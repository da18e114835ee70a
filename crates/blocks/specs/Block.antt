-- One block of a net file: rules F2 to F12, F17 and F18. The head and a block of a list are made here, with their sums; a file's blocks are
-- found by their numbers.
use Rattle.std.specs.Prelude.{ℕ, ◌*◌, ◌/◌, List, [], ◌∷◌, map, length, take, drop, replicate, ℤ}
use Rattle.lent.specs.Over.{over}
use Rattle.plane.specs.declared.Weights.{Weights}
use Rattle.blocks.specs.Sizes.{block_words, summed_words, head_kind}
use Rattle.blocks.specs.Words.{word_of, weight_word}
use Rattle.blocks.specs.Sums.{sealed}

-- F2 to F5: the kind, the block's number and its count of entries, then 0; F6: entries from word 4 on; F10: 0 behind them

unfoldable pub block : ℕ → ℕ → ℕ → List ℕ → List ℕ
block kind number count entries = sealed (over (kind ∷ (number ∷ (count ∷ (0 ∷ entries)))) (replicate summed_words 0))

-- F9, F17: the head has m, k and the two weights as its first words after these
unfoldable pub head_block : ℕ → ℕ → Weights → List ℕ
head_block m k w = block head_kind 0 0 (m ∷ (k ∷ (weight_word w.across ∷ (weight_word w.along ∷ []))))

-- a block of entries of w numbers each
unfoldable pub list_block : ℕ → ℕ → ℕ → List ℤ → List ℕ
list_block kind w number numbers = block kind number (length numbers / w) (map word_of numbers)

-- Blocks of a file

-- F1: the words of the block b
abbrev pub block_of : ℕ → List ℕ → List ℕ
block_of b words = take block_words (drop (b * block_words) words)
