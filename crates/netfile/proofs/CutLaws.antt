-- A file cut at one byte more than the longest keeps the answer of its read: a longer file is refused for its length, cut or not, and a
-- shorter one is not cut.
-- Assumes nothing.
use mathlib.Core.Path.{◌≡◌, sym, ap, ◌∙◌}
use mathlib.Core.Bool.{true, false}
use mathlib.Core.List.{List}
use Prim.Native.Nat.{ℕ, suc, ◌*◌, ◌≤◌, ◌<◌}
use native.Mathlib.Omega.{arith}
use borrow.Author.Tests.{ltb-true, ltb-false}
use lib.Dec.{ltb}
use lib.ListN.{length, take, length-take}
use lib.Seq.{take_all}
use Rattle.lists.proofs.TestLaws.{by}
use Rattle.lent.specs.Told.{refused}
use Rattle.net.specs.Bounds.{Bounds, today}
use Rattle.blocks.specs.Sizes.{block_bytes, file_blocks_within, file_bound}
use Rattle.decoded.specs.Held.{blocks_miscounted_within}
use Rattle.netfile.specs.Read.{room_short, read_file}
use Rattle.decoded.proofs.HeldLaws.{blocks-counted}
use Rattle.netfile.proofs.AnswerLaws.{refuse-21, refuse-1}

-- the first bytes of a file: one more than the longest has
abbrev pub cut : List ℕ → List ℕ
cut bytes = take (suc file_bound) bytes

-- by cases of a file's length
pub by_length {ℓ} : {C : Type ℓ} (bytes : List ℕ) → (length bytes ≤ file_bound → C) → (file_bound < length bytes → C) → C
by_length bytes f g =
    by (ltb file_bound (length bytes)) (λ e. g (ltb-true file_bound (length bytes) e)) (λ e. f (ltb-false file_bound (length bytes) e))

pub cut_short : (bytes : List ℕ) → length bytes ≤ file_bound → cut bytes ≡ bytes
cut_short bytes h = take_all (suc file_bound) bytes (omega arith)

pub cut-long : (bytes : List ℕ) → file_bound < length bytes → file_bound < length (cut bytes)
cut-long bytes h = omega (arith, length-take (suc file_bound) bytes)

-- C1, within any bounds
pub too_long : (b : Bounds) (bytes : List ℕ) → file_blocks_within b * block_bytes < length bytes → blocks_miscounted_within b bytes ≡ true
too_long b bytes h =
    by (blocks_miscounted_within b bytes) (λ e. e)
    (λ e. let n = blocks-counted bytes e in absurd (let f : ⊥ = omega (arith, n.whole, n.few) in f))

pub read-too-long : (bytes : List ℕ) (p q : ℕ) → room_short p q ≡ false → file_bound < length bytes → read_file bytes p q ≡ refused 1
read-too-long bytes p q r h = refuse-1 today bytes p q r (too_long today bytes h)

-- the answer of a read
module _ (bytes : List ℕ) (p q : ℕ) where
  long-cut : file_bound < length bytes → read_file (cut bytes) p q ≡ read_file bytes p q
  long-cut h =
      by (room_short p q) (λ r. refuse-21 today (cut bytes) p q r ∙ sym (refuse-21 today bytes p q r))
      (λ r. read-too-long (cut bytes) p q r (cut-long bytes h) ∙ sym (read-too-long bytes p q r h))

  pub read-cut : read_file (cut bytes) p q ≡ read_file bytes p q
  read-cut = by_length bytes (λ h. ap (λ (s : List ℕ). read_file s p q) (cut_short bytes h)) long-cut
