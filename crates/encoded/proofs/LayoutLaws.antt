-- The layout block by block: how long each part of it is, and one block of a list more.
-- Assumes nothing.
use mathlib.Core.Path.{◌≡◌, refl, sym, ap, ap₂, ◌∙◌}
use mathlib.Core.List.{List, ◌++◌, append-nil, append_assoc}
use Prim.Native.Nat.{ℕ, zero, suc, ◌+◌, ◌*◌, ◌/◌, ◌≤◌}
use native.Mathlib.Nat.{add-zero, zero-add, suc-add}
use native.Mathlib.Omega.{arith}
use lib.IntN.{ℤ}
use lib.ListN.{length, take, drop, length-append}
use lib.Seq.{drop-drop, sets, sets-eq}
use Rattle.lent.specs.Over.{over}
use Rattle.plane.specs.declared.Weights.{Weights}
use Rattle.net.specs.Bounds.{macro_width}
use Rattle.net.specs.Pins.{macro_count}
use Rattle.blocks.specs.Sizes.{block_words, block_bytes, per_block, macro_kind, blocks_for, block_count}
use Rattle.blocks.specs.Words.{bytes_of}
use Rattle.blocks.specs.Block.{head_block, list_block}
use Rattle.encoded.specs.Layout.{list_blocks, Stored, pin_blocks, macro_blocks, file_words, laid_bytes}
use Rattle.blocks.proofs.BlockLaws.{sets-after, length-bytes, bytes-append, length-head, length-next-block}

-- Lengths

pub length-list-blocks : (kind w number n : ℕ) (numbers : List ℤ) → length (list_blocks kind w number n numbers) ≡ n * block_words
unfolding list_blocks
length-list-blocks kind w number zero numbers = refl
length-list-blocks kind w number (suc n) numbers =
    length-append (list_block kind w number (take per_block numbers)) _
    ∙ ap₂ (λ (a b : ℕ). a + b) (length-next-block kind w number numbers) (length-list-blocks kind w (suc number) n (drop per_block numbers))
    ∙ omega arith

module _ (w : Weights) (s : Stored) (macros : List ℤ) where
  pub length-words : length (file_words w s macros) ≡ block_count (length s.numbers) (length macros) * block_words
  unfolding file_words
  length-words =
      let n = blocks_for (length s.numbers) in
      let e = length-list-blocks s.kind s.width 1 n s.numbers in
      let f = length-list-blocks macro_kind macro_width (1 + n) (blocks_for (length macros)) macros in
      length-append (head_block _ _ _) _
      ∙ omega
      (arith, length-head (length s.numbers / s.width) (macro_count macros) w, length-append (pin_blocks s) (macro_blocks s macros), e, f)

  pub length-file : length (laid_bytes w s macros) ≡ block_count (length s.numbers) (length macros) * block_bytes
  unfolding laid_bytes
  length-file = length-bytes (file_words w s macros) ∙ omega (arith, length-words)

-- One block more

pub blocks_more : (kind w number n : ℕ) (numbers : List ℤ)
    → list_blocks kind w number (n + 1) numbers ≡ list_blocks kind w number n numbers ++ list_block kind w (number + n)
    (take per_block (drop (n * per_block) numbers))
unfolding list_blocks
blocks_more kind w number zero numbers =
    append-nil (list_block kind w number (take per_block numbers))
    ∙ ap (λ (k : ℕ). list_block kind w k (take per_block numbers)) (sym (add-zero number))
blocks_more kind w number (suc n) numbers =
    let b = list_block kind w number (take per_block numbers) in
    let e : suc number + n ≡ number + suc n = omega arith in
    let d : per_block + n * per_block ≡ suc n * per_block = omega arith in
    ap (λ (k : ℕ). list_blocks kind w number k numbers) (suc-add n 1)
    ∙ ap (λ (l : List ℕ). b ++ l) (blocks_more kind w (suc number) n (drop per_block numbers))
    ∙ sym (append_assoc b _ _)
    ∙ ap₂
    (λ (k : ℕ) (l : List ℤ). (b ++ list_blocks kind w (suc number) n (drop per_block numbers)) ++ list_block kind w k (take per_block l)) e
    (drop-drop (n * per_block) per_block numbers ∙ ap (λ (k : ℕ). drop k numbers) d)

-- words laid out behind others
pub words-after : (l vs ws : List ℕ) (k n : ℕ) → length vs * 4 ≡ n
    → sets (sets l k (bytes_of vs)) (k + n) (bytes_of ws) ≡ sets l k (bytes_of (vs ++ ws))
words-after l vs ws k n e =
    ap (λ (i : ℕ). sets (sets l k (bytes_of vs)) (k + i) (bytes_of ws)) (sym e ∙ sym (length-bytes vs))
    ∙ sets-after (bytes_of vs) (bytes_of ws) l k
    ∙ ap (sets l k) (sym (bytes-append vs ws))

-- the next block of a list, laid out behind those before it
pub list-more : (l : List ℕ) (kind w first j : ℕ) (numbers : List ℤ)
    → sets (sets l (first * block_bytes) (bytes_of (list_blocks kind w first j numbers))) ((first + j) * block_bytes)
    (bytes_of (list_block kind w (first + j) (take per_block (drop (j * per_block) numbers))))
    ≡ sets l (first * block_bytes) (bytes_of (list_blocks kind w first (j + 1) numbers))
list-more l kind w first j numbers =
    let b = list_block kind w (first + j) (take per_block (drop (j * per_block) numbers)) in
    let vs = list_blocks kind w first j numbers in
    let k : (first + j) * block_bytes ≡ first * block_bytes + j * block_bytes = omega arith in
    ap (λ (i : ℕ). sets (sets l (first * block_bytes) (bytes_of vs)) i (bytes_of b)) k
    ∙ words-after l vs b (first * block_bytes) (j * block_bytes) (omega (arith, length-list-blocks kind w first j numbers))
    ∙ ap (λ (ws : List ℕ). sets l (first * block_bytes) (bytes_of ws)) (sym (blocks_more kind w first j numbers))

-- stores from the first place on are the list over what stood there
pub sets_over : {X : Type 0} (xs l : List X) → length xs ≤ length l → sets l 0 xs ≡ over xs l
unfolding over
sets_over xs l h = sets-eq xs l 0 (omega arith) ∙ ap (λ (n : ℕ). xs ++ drop n l) (let e : 0 + length xs ≡ length xs = omega arith in e)

-- head, pins and macros, one behind the other, are the file
pub file-laid : (l : List ℕ) (w : Weights) (s : Stored) (macros : List ℤ)
    → block_count (length s.numbers) (length macros) * block_bytes ≤ length l
    → sets (sets (sets l 0 (bytes_of (head_block (length s.numbers / s.width) (macro_count macros) w))) block_bytes (bytes_of (pin_blocks s)))
    ((1 + blocks_for (length s.numbers)) * block_bytes) (bytes_of (macro_blocks s macros))
    ≡ over (laid_bytes w s macros) l
unfolding file_words laid_bytes
file-laid l w s macros h =
    let m = length s.numbers / s.width in
    let b = head_block m (macro_count macros) w in
    let p = pin_blocks s in
    let q = macro_blocks s macros in
    let k = (1 + blocks_for (length s.numbers)) * block_bytes in
    let e : length b ≡ block_words = length-head m (macro_count macros) w in
    let g = length-list-blocks s.kind s.width 1 (blocks_for (length s.numbers)) s.numbers in
    let f : length (b ++ p) * 4 ≡ k = omega (arith, length-append b p, g) in
    ap (λ (t : List ℕ). sets t k (bytes_of q)) (words-after l b p 0 block_bytes (omega arith))
    ∙ ap (λ (i : ℕ). sets (sets l 0 (bytes_of (b ++ p))) i (bytes_of q)) (sym (zero-add k))
    ∙ words-after l (b ++ p) q 0 k f
    ∙ ap (λ (ws : List ℕ). sets l 0 (bytes_of ws)) (append_assoc b p q)
    ∙ sets_over (bytes_of (b ++ (p ++ q))) l (omega (arith, length-file w s macros))
