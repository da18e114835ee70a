-- The file of a net, read: its bytes give back its words, each block's sums are right, and each number stands at its place.
-- Assumes nothing.
use mathlib.Core.Path.{◌≡◌, refl, sym, ap, ap₂, ◌∙◌}
use mathlib.Core.Bool.{false}
use mathlib.Core.List.{List, [], ◌∷◌, ◌++◌, map, append_assoc}
use Prim.Native.Nat.{ℕ, zero, suc, ◌+◌, ◌*◌, ◌-◌, ◌/◌, ◌%◌, ◌≤◌, ◌<◌}
use native.Mathlib.Nat.{div-le_self, suc-add, zero-add}
use native.Mathlib.Omega.{arith}
use borrow.Author.Tests.{eq-eqb, ltb-true, ltb-false}
use lib.Dec.{ltb}
use lib.IntN.{ℤ, pos}
use lib.ListN.{length, take, drop, get_or, replicate, length-append, length-map, length-take, length-drop, drop_of_length-le}
use lib.ListN.{get_or-append, get_or-map}
use lib.Seq.{get_or-append-add, get_or-append_seam, get_or-take, get_or-drop, drop-cons, take_at, drop_at}
use mir.Syntax.{w32}
use mir.Val.{SFits}
use Rattle.lists.specs.Any.{any}
use Rattle.lists.proofs.TestLaws.{by}
use Rattle.lent.specs.Over.{over}
use Rattle.lent.proofs.OverLaws.{length_over}
use Rattle.plane.specs.declared.Weights.{Weights}
use Rattle.blocks.specs.Sizes.{block_words, summed_words, second_sum, first_entry, per_block, head_kind}
use Rattle.blocks.specs.Words.{words_of, bytes_of_word, bytes_of, word_of, coordinate}
use Rattle.blocks.specs.Sums.{plain_sum, sum_of_sums, sealed, wrong_sums}
use Rattle.blocks.specs.Block.{block, head_block, list_block}
use Rattle.encoded.specs.Layout.{list_blocks}
use Rattle.decoded.specs.Held.{blocks_of, place_in, number_in, numbers_in}
use Rattle.blocks.proofs.WordLaws.{word_small, coordinate-word}
use Rattle.blocks.proofs.BlockLaws.{length-head, length-next-block}
use Rattle.encoded.proofs.LayoutLaws.{length-list-blocks}

-- Words of 32 bits

-- every word has 32 bits, and every number of a list
abbrev pub Small : List ℕ → Type 0
Small [] = Unit {0}
Small (w ∷ ws) = (w < 4294967296) × Small ws

abbrev pub Fit : List ℤ → Type 0
Fit [] = Unit {0}
Fit (z ∷ zs) = SFits w32 z × Fit zs

split : (x : ℕ) → x % 256 + x / 256 * 256 ≡ x
split x = omega arith

small-digit : (w : ℕ) → w < 4294967296 → w / 16777216 % 256 ≡ w / 16777216
small-digit w h = omega arith

digits : (w r₀ q₀ r₁ q₁ r₂ q₂ : ℕ) → r₀ + q₀ * 256 ≡ w → r₁ + q₁ * 256 ≡ q₀ → r₂ + q₂ * 256 ≡ q₁ → r₀ + r₁ * 256 + r₂ * 65536
    + q₂ * 16777216 ≡ w
digits w r₀ q₀ r₁ q₁ r₂ q₂ d e f = omega arith

-- bytes give back the words
pub words-bytes : (ws : List ℕ) → Small ws → words_of (bytes_of ws) ≡ ws
unfolding words_of bytes_of bytes_of_word
words-bytes [] s = refl
words-bytes (w ∷ ws) s =
    let a : w / 65536 ≡ w / 256 / 256 = omega arith in
    let b : w / 16777216 ≡ w / 256 / 256 / 256 = omega arith in
    let h : w / 16777216 % 256 ≡ w / 256 / 256 / 256 = small-digit w s.0 ∙ b in
    let e : w % 256 + w / 256 % 256 * 256 + w / 65536 % 256 * 65536 + w / 16777216 % 256 * 16777216 ≡ w =
    rw (h, a) (digits w _ _ _ _ _ _ (split w) (split (w / 256)) (split (w / 256 / 256)))
    in
    ap₂ (λ (v : ℕ) (vs : List ℕ). v ∷ vs) e (words-bytes ws s.1)

pub small-append : (vs ws : List ℕ) → Small vs → Small ws → Small (vs ++ ws)
small-append [] ws s t = t
small-append (v ∷ vs) ws s t = (s.0, small-append vs ws s.1 t)

small-drop : (n : ℕ) (ws : List ℕ) → Small ws → Small (drop n ws)
small-drop zero ws s = s
small-drop (suc n) [] s = s
small-drop (suc n) (w ∷ ws) s = small-drop n ws s.1

small-zeros : (n : ℕ) → Small (replicate n 0)
small-zeros zero = tt
small-zeros (suc n) = (omega arith, small-zeros n)

pub small-block : (kind number count : ℕ) (entries : List ℕ) → kind < 4294967296 → number < 4294967296 → count < 4294967296 → Small entries
    → Small (block kind number count entries)
unfolding block sealed over plain_sum sum_of_sums
small-block kind number count entries h i j s =
    let ws = kind ∷ (number ∷ (count ∷ (0 ∷ entries))) in
    small-append (over ws (replicate summed_words 0)) _
    (small-append ws (drop (length ws) (replicate summed_words 0)) (h, (i, (j, (omega arith, s))))
    (small-drop (length ws) (replicate summed_words 0) (small-zeros summed_words)))
    (omega arith, (omega arith, tt))

small-words : (zs : List ℤ) → Fit zs → Small (map word_of zs)
small-words [] f = tt
small-words (z ∷ zs) f = (word_small z f.0, small-words zs f.1)

fit-take : (n : ℕ) (zs : List ℤ) → Fit zs → Fit (take n zs)
fit-take zero zs f = tt
fit-take (suc n) [] f = f
fit-take (suc n) (z ∷ zs) f = (f.0, fit-take n zs f.1)

fit-drop : (n : ℕ) (zs : List ℤ) → Fit zs → Fit (drop n zs)
fit-drop zero zs f = f
fit-drop (suc n) [] f = f
fit-drop (suc n) (z ∷ zs) f = fit-drop n zs f.1

fit_at : (zs : List ℤ) (i : ℕ) → Fit zs → i < length zs → SFits w32 (get_or zs i (pos 0))
fit_at [] i f h = absurd (let g : ⊥ = omega arith in g)
fit_at (z ∷ zs) zero f h = f.0
fit_at (z ∷ zs) (suc i) f h = fit_at zs i f.1 (omega arith)

pub small-list-blocks : (kind w number n : ℕ) (zs : List ℤ) → kind < 4294967296 → number + n < 4294967296 → Fit zs →
    Small (list_blocks kind w number n zs)
unfolding list_blocks list_block
small-list-blocks kind w number zero zs h i f = tt
small-list-blocks kind w number (suc n) zs h i f =
    let t = take per_block zs in
    small-append (list_block kind w number t) _
    (small-block kind number (length t / w) (map word_of t) h (omega arith)
    (omega (arith, div-le_self (length t) w, length-take per_block zs))
    (small-words t (fit-take per_block zs f)))
    (small-list-blocks kind w (suc number) n (drop per_block zs) h (omega arith) (fit-drop per_block zs f))

-- Sums

-- the sums of a block are right
right-block : (kind number count : ℕ) (entries : List ℕ) → length entries ≤ per_block → wrong_sums (block kind number count entries) ≡ false
unfolding wrong_sums block sealed
right-block kind number count entries h =
    let ws = kind ∷ (number ∷ (count ∷ (0 ∷ entries))) in
    let v = over ws (replicate summed_words 0) in
    let e : length v ≡ summed_words = length_over ws (replicate summed_words 0) (omega arith) in
    let t : take summed_words (v ++ (plain_sum v ∷ (sum_of_sums v ∷ []))) ≡ v = take_at v _ summed_words e in
    let s = v ++ (plain_sum v ∷ (sum_of_sums v ∷ [])) in
    let p : get_or s summed_words 0 ≡ plain_sum v = ap (λ (n : ℕ). get_or s n 0) (sym e) ∙ get_or-append_seam v _ _ 0 in
    let i : second_sum ≡ length v + 1 = omega arith in
    let q : get_or s second_sum 0 ≡ sum_of_sums v = ap (λ (n : ℕ). get_or s n 0) i ∙ get_or-append-add v _ 1 0 in
    rw (t, p, q, eq-eqb (plain_sum v) (plain_sum v) refl, eq-eqb (sum_of_sums v) (sum_of_sums v) refl) refl

-- a right block is passed over
module _ (b rest : List ℕ) (n : ℕ) (long : length b ≡ block_words) (right : wrong_sums b ≡ false) where
  pub pass-block : any wrong_sums (blocks_of (suc n) (b ++ rest)) ≡ any wrong_sums (blocks_of n rest)
  unfolding any blocks_of
  pass-block = rw (take_at b rest block_words long, drop_at b rest block_words long, right) refl

right-head : (m k : ℕ) (w : Weights) → wrong_sums (head_block m k w) ≡ false
unfolding head_block
right-head m k w = right-block head_kind 0 0 _ (omega arith)

right-list : (kind w number : ℕ) (zs : List ℤ) → length zs ≤ per_block → wrong_sums (list_block kind w number zs) ≡ false
unfolding list_block
right-list kind w number zs h = right-block kind number (length zs / w) (map word_of zs) (omega (arith, length-map zs word_of))

pub pass-head : (m k : ℕ) (w : Weights) (n : ℕ) (rest : List ℕ)
    → any wrong_sums (blocks_of (suc n) (head_block m k w ++ rest)) ≡ any wrong_sums (blocks_of n rest)
pass-head m k w n rest = pass-block (head_block m k w) rest n (length-head m k w) (right-head m k w)

pub pass-list : (kind w number n k : ℕ) (zs : List ℤ) (rest : List ℕ)
    → any wrong_sums (blocks_of (n + k) (list_blocks kind w number n zs ++ rest)) ≡ any wrong_sums (blocks_of k rest)
unfolding list_blocks
pass-list kind w number zero k zs rest = ap (λ (i : ℕ). any wrong_sums (blocks_of i rest)) (zero-add k)
pass-list kind w number (suc n) k zs rest =
    let b = list_block kind w number (take per_block zs) in
    let l = list_blocks kind w (suc number) n (drop per_block zs) in
    ap₂ (λ (i : ℕ) (ws : List ℕ). any wrong_sums (blocks_of i ws)) (suc-add n k) (append_assoc b l rest)
    ∙ pass-block b (l ++ rest) (n + k) (length-next-block kind w number zs)
    (right-list kind w number (take per_block zs) (omega (arith, length-take per_block zs)))
    ∙ pass-list kind w (suc number) n k (drop per_block zs) rest

-- Numbers at their places

-- the word of the number j in a block
block-entry : (kind number count : ℕ) (zs : List ℤ) (j : ℕ) → j < length zs
    → get_or (block kind number count (map word_of zs)) (first_entry + j) 0 ≡ word_of (get_or zs j (pos 0))
unfolding block sealed over word_of
block-entry kind number count zs j h =
    let n : first_entry + j ≡ suc (suc (suc (suc j))) = omega arith in
    let l = length-map zs word_of in
    rw n
    (get_or-append (map word_of zs ++ _) _ 0 j (omega
    (arith, length-append (map word_of zs) (drop (length (map word_of zs)) (replicate (summed_words - first_entry) 0)), l))
    ∙ get_or-append (map word_of zs) _ 0 j (omega (arith, l))
    ∙ get_or-map word_of zs j (pos 0))

-- the word of the number j in the blocks of a list
list-entry : (kind w number n : ℕ) (zs : List ℤ) (j : ℕ) → j < length zs → length zs ≤ n * per_block
    → get_or (list_blocks kind w number n zs) (place_in j) 0 ≡ word_of (get_or zs j (pos 0))
unfolding list_blocks list_block
list-entry kind w number zero zs j h g = absurd (let f : ⊥ = omega arith in f)
list-entry kind w number (suc n) zs j h g =
    let t = take per_block zs in
    let b = list_block kind w number t in
    let e : length b ≡ block_words = length-next-block kind w number zs in
    by (ltb j per_block)
    (λ l.
    let u = ltb-true j per_block l in
    let i : place_in j ≡ first_entry + j = omega (arith, u) in
    ap (λ (k : ℕ). get_or (list_blocks kind w number (suc n) zs) k 0) i
    ∙ get_or-append b _ 0 (first_entry + j) (omega (arith, u, e))
    ∙ block-entry kind number (length t / w) t j (omega (arith, u, length-take per_block zs))
    ∙ ap word_of (get_or-take per_block zs j (pos 0) u))
    (λ l.
    let o = ltb-false j per_block l in
    let r = j - per_block in
    let d = length-drop per_block zs in
    let i : place_in j ≡ length b + place_in r = omega (arith, o, e) in
    let a : per_block + r ≡ j = omega (arith, o) in
    ap (λ (k : ℕ). get_or (list_blocks kind w number (suc n) zs) k 0) i
    ∙ get_or-append-add b _ (place_in r) 0
    ∙ list-entry kind w (suc number) n (drop per_block zs) r (omega (arith, o, d)) (omega (arith, d))
    ∙ ap word_of (get_or-drop per_block zs r (pos 0) ∙ ap (λ (k : ℕ). get_or zs k (pos 0)) a))

-- a list whose blocks begin at the block b of a file is read whole
module _ (bytes front rest : List ℕ) (kind w number b n : ℕ) (zs : List ℤ)
    (words : words_of bytes ≡ front ++ (list_blocks kind w number n zs ++ rest))
    (long : length front ≡ b * block_words) (enough : length zs ≤ n * per_block) (fit : Fit zs) where
  number_read : (j : ℕ) → j < length zs → number_in bytes b j ≡ get_or zs j (pos 0)
  unfolding number_in
  number_read j h =
      let l = list_blocks kind w number n zs in
      let i : b * block_words + place_in j ≡ length front + place_in j = omega (arith, long) in
      let s : place_in j < length l = omega (arith, length-list-blocks kind w number n zs) in
      ap coordinate
      (ap₂ (λ (ws : List ℕ) (m : ℕ). get_or ws m 0) words i
      ∙ get_or-append-add front (l ++ rest) (place_in j) 0
      ∙ get_or-append l rest 0 (place_in j) s
      ∙ list-entry kind w number n zs j h enough)
      ∙ coordinate-word (get_or zs j (pos 0)) (fit_at zs j fit h)

  numbers-from : (j m : ℕ) → j + m ≡ length zs → numbers_in bytes b j m ≡ drop j zs
  unfolding numbers_in
  numbers-from j zero e = sym (drop_of_length-le zs (let h : length zs ≤ j = omega arith in h))
  numbers-from j (suc m) e =
      let h : j < length zs = omega arith in
      ap₂ (λ (z : ℤ) (l : List ℤ). z ∷ l) (number_read j h) (numbers-from (suc j) m (omega arith)) ∙ sym (drop-cons zs j (pos 0) h)

  pub list_read : numbers_in bytes b 0 (length zs) ≡ zs
  list_read = numbers-from 0 (length zs) (omega arith)
