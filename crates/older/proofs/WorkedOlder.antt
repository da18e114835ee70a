-- Files between an older machine and this one, by computing the definitions: one of each kind that F20 to F23 speak of.
-- Assumes nothing.
use mathlib.Core.Path.{◌≡◌, refl}
use mathlib.Core.List.{List, [], ◌∷◌}
use Prim.Native.Nat.{ℕ, zero, suc, ◌+◌}
use lib.IntN.{ℤ, pos}
use lib.ListN.{replicate}
use Rattle.lent.specs.Told.{Told, refused, given, only_if}
use Rattle.lent.specs.Over.{after}
use Rattle.plane.specs.Cost.{plain}
use Rattle.net.specs.declared.Net.{Net as Counts}
use Rattle.net.specs.Bounds.{Bounds, today}
use Rattle.net.specs.Net.{plainly}
use Rattle.net.specs.Counts.{counted}
use Rattle.net.specs.WorkedNets.{Lists, around_one}
use Rattle.blocks.specs.Words.{bytes_of}
use Rattle.netfile.specs.Write.{fitted, written_within}
use Rattle.netfile.specs.Read.{read_file_within}
use Rattle.older.specs.Older.{older, left_by}
use Rattle.netfile.proofs.WorkedFiles.{words, read_words}

-- n pins without a load on a diagonal, and n squares along it with their corners there
unfoldable pub diagonal : ℕ → ℕ → List ℤ
diagonal zero i = []
diagonal (suc n) i = pos i ∷ (pos i ∷ (pos 0 ∷ diagonal n (suc i)))

unfoldable pub squares : ℕ → ℕ → List ℤ
squares zero i = []
squares (suc n) i = pos i ∷ (pos i ∷ (pos (suc i) ∷ (pos (suc i) ∷ squares n (i + 2))))

abbrev many : ℕ → ℕ → Lists
many m k = record { pins = diagonal m 0; macros = squares k 0 }

-- a machine's answer to the file of a net, lent so much; and what its writer leaves in so many lent bytes
unfoldable pub read_by : Bounds → Lists → ℕ → ℕ → Told Counts
unfolding words read_words diagonal squares
read_by b net p q = read_file_within b (bytes_of (words plain net)) p q

unfoldable pub left : Bounds → Lists → ℕ → List ℕ
unfolding words read_words after only_if fitted written_within
left b net room = left_by b plainly net.pins net.macros (replicate room 7)

pub record Table : Type 0 where
  -- the net of E3: the same bytes, and one too few
  pub old-file : left older around_one 1540 ≡ left today around_one 1540
  pub one-short : left today around_one 1535 ≡ replicate 1535 7
  -- its file read by both, and now with what was lent before
  pub read-then : read_by older around_one 192 256 ≡ given (counted plainly 2 1)
  pub read-before : read_by today around_one 384 512 ≡ given (counted plainly 2 1)
  pub less-room : read_by today around_one 192 256 ≡ refused 21
  -- 65 pins in three blocks
  pub more-pins-now : read_by today (many 65 0) 384 512 ≡ given (counted plainly 65 0)
  pub more-pins : read_by older (many 65 0) 192 256 ≡ refused 11
  -- one pin and 65 macros in five
  pub more-macros-now : read_by today (many 1 65) 384 512 ≡ given (counted plainly 1 65)
  pub more-macros : read_by older (many 1 65) 192 256 ≡ refused 12
  -- 121 pins and 65 macros in seven
  pub longer : read_by older (many 121 65) 192 256 ≡ refused 1

pub worked-older : Table
unfolding read_by left
worked-older = record {
  old-file = refl;
  one-short = refl;
  read-then = refl;
  read-before = refl;
  less-room = refl;
  more-pins-now = refl;
  more-pins = refl;
  more-macros-now = refl;
  more-macros = refl;
  longer = refl;
}
