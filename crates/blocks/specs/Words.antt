-- Bytes and words; coordinates and weights as words.
use Rattle.std.specs.Prelude.{ℕ, suc, ◌+◌, ◌-◌, ◌*◌, ◌/◌, ◌%◌, true, false, cond, List, [], ◌∷◌, ◌++◌, ℤ, pos, negsuc, ◌==◌, nat_lt, slice_index}
use Rattle.lists.specs.Entries.{fours}

-- F1: the word of four bytes
abbrev pub word : ℕ → ℕ → ℕ → ℕ → ℕ
word a b c d = a + b * 256 + c * 65536 + d * 16777216

-- F1: words of 32 bits with the low byte first; up to three bytes left over at the end are no word
unfoldable pub words_of : List ℕ → List ℕ
unfolding fours
words_of s = fours word s

-- the word that begins at the byte k
abbrev pub word_from : List ℕ → ℕ → ℕ
word_from bytes k = word (slice_index bytes k) (slice_index bytes (k + 1)) (slice_index bytes (k + 2)) (slice_index bytes (k + 3))

-- the bytes of words, low byte first
unfoldable pub bytes_of_word : ℕ → List ℕ
bytes_of_word w = w % 256 ∷ (w / 256 % 256 ∷ (w / 65536 % 256 ∷ (w / 16777216 % 256 ∷ [])))

unfoldable pub bytes_of : List ℕ → List ℕ
bytes_of [] = []
bytes_of (w ∷ ws) = bytes_of_word w ++ bytes_of ws

-- F8: a coordinate is its two's complement
unfoldable pub word_of : ℤ → ℕ
word_of (pos n) = n
word_of (negsuc n) = 4294967296 - suc n

unfoldable pub coordinate : ℕ → ℤ
coordinate w = elim (nat_lt w 2147483648) [ true ↦ pos w | false ↦ negsuc (4294967296 - suc w) ]

-- F18: a weight is itself, but for 1, which is 0; and the weight of a word
unfoldable pub weight_word : ℕ → ℕ
weight_word n = cond (n == 1) 0 n

unfoldable pub weight_in : ℕ → ℕ
weight_in w = cond (w == 0) 1 w
