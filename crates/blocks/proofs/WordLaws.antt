-- Coordinates as words, two's complement; and each read back from the other.
-- Assumes nothing.
use Rattle.std.proofs.Common.{◌≡◌, ℕ, ◌<◌, ltb, ℤ, pos, negsuc, refl, ◌∙◌, arith, w32, SFits, to_z, of_z}
use mir.ValLaws.{to_z-of_z}
use Rattle.lists.proofs.TestLaws.{by}
use Rattle.blocks.specs.Words.{word_of, coordinate}

-- a word has 32 bits
pub word_small : (z : ℤ) → SFits w32 z → word_of z < 4294967296
unfolding word_of
word_small (pos n) f = omega (arith, f.sfits)
word_small (negsuc n) f = omega (arith, f.sfits)

-- the bits that the machine keeps of a coordinate are its word
pub word_bits : (z : ℤ) → of_z w32 z ≡ word_of z
unfolding word_of
word_bits (pos n) = refl
word_bits (negsuc n) = refl

-- the coordinate of a word is what the machine reads from its bits
pub coordinate-is : (w : ℕ) → coordinate w ≡ to_z w32 w
unfolding coordinate
coordinate-is w = by (ltb w 2147483648) (λ e. rw (e, coordinate) refl) (λ e. rw (e, coordinate) refl)

-- a coordinate read from its word
pub coordinate-word : (z : ℤ) → SFits w32 z → coordinate (word_of z) ≡ z
unfolding word_of
coordinate-word (pos n) f = coordinate-is n ∙ to_z-of_z w32 (pos n) f
coordinate-word (negsuc n) f = coordinate-is _ ∙ to_z-of_z w32 (negsuc n) f
