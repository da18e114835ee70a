-- A block in the making: entries stored one after the other over zeros, the two sums behind them, its words laid out as bytes, and how long
-- it is.
-- Assumes nothing.
use Rattle.std.proofs.Common.{◌≡◌, ℕ, zero, suc, ◌+◌, ◌*◌, ◌<◌, ◌≤◌, List, [], ◌∷◌, ◌++◌, map, length, get_or, take, set, replicate, ℤ, pos, sym, refl, ap, ◌∙◌, append_assoc, append-nil, add-zero, add-suc, suc-add, add-one, arith, length-append, drop_of_length-le, length-take, take-suc}
use mathlib.Core.List.{map-append}
use lib.ListN.{length-map}
use lib.Seq.{sets, sets-eq}
use Rattle.lent.specs.Over.{over}
use Rattle.lent.proofs.OverLaws.{over-more, length_over}
use Rattle.plane.specs.declared.Weights.{Weights}
use Rattle.blocks.specs.Sizes.{block_words, summed_words, second_sum, first_entry, per_block, head_kind}
use Rattle.blocks.specs.Words.{bytes_of_word, bytes_of, word_of}
use Rattle.blocks.specs.Sums.{sealed}
use Rattle.blocks.specs.Block.{block, head_block, list_block}
use Rattle.blocks.proofs.SumLaws.{word_more}

-- Stores

-- a run of stores that follows another
pub sets-after : {X : Type 0} (xs ys l : List X) (k : ℕ) → sets (sets l k xs) (k + length xs) ys ≡ sets l k (xs ++ ys)
sets-after [] ys l k = ap (λ (n : ℕ). sets l n ys) (add-zero k)
sets-after (x ∷ xs) ys l k =
    ap (λ (n : ℕ). sets (sets (set l k x) (suc k) xs) n ys) (add-suc k (length xs) ∙ sym (suc-add k (length xs)))
    ∙ sets-after xs ys (set l k x) (suc k)

-- the last two words of a block
pub last-two : (ws : List ℕ) (a b : ℕ) → length ws ≡ block_words
    → set (set ws summed_words a) second_sum b ≡ take summed_words ws ++ (a ∷ (b ∷ []))
last-two ws a b e =
    let h : length ws ≤ block_words = omega arith in
    sets-eq (a ∷ (b ∷ [])) ws summed_words (omega arith)
    ∙ ap (λ (l : List ℕ). (take summed_words ws ++ (a ∷ (b ∷ []))) ++ l) (drop_of_length-le ws h)
    ∙ append-nil _

-- Entries over zeros

zeros-cut : (n k : ℕ) → n ≤ k → take {A = ℕ} n (replicate k 0) ≡ replicate n 0
zeros-cut zero k h = refl
zeros-cut (suc n) zero h = absurd (let f : ⊥ = omega arith in f)
zeros-cut (suc n) (suc k) h = ap (λ (l : List ℕ). 0 ∷ l) (zeros-cut n k (omega arith))

-- words over zeros, cut to fewer zeros
pub over-cut : (ws : List ℕ) (n k : ℕ) → length ws ≤ n → n ≤ k → take n (over ws (replicate k 0)) ≡ over ws (replicate n 0)
unfolding over
over-cut [] n k h g = zeros-cut n k g
over-cut (w ∷ ws) zero k h g = absurd (let f : ⊥ = omega arith in f)
over-cut (w ∷ ws) (suc n) zero h g = absurd (let f : ⊥ = omega arith in f)
over-cut (w ∷ ws) (suc n) (suc k) h g = ap (λ (l : List ℕ). w ∷ l) (over-cut ws n k (omega arith) (omega arith))

pub words_more : (ns : List ℤ) (i : ℕ) → i < length ns → map word_of (take (i + 1) ns) ≡ map word_of (take i ns)
    ++ (word_of (get_or ns i (pos 0)) ∷ [])
words_more ns i h = rw (add-one, take-suc ns i (pos 0)) (map-append word_of (take i ns) (get_or ns i (pos 0) ∷ []))

-- one entry's word more
pub entry_more : (a b c d : ℕ) (ns : List ℤ) (i : ℕ) → i < length ns → length ns ≤ per_block
    → set (over (a ∷ (b ∷ (c ∷ (d ∷ map word_of (take i ns))))) (replicate block_words 0)) (first_entry + i) (word_of (get_or ns i (pos 0)))
    ≡ over (a ∷ (b ∷ (c ∷ (d ∷ map word_of (take (i + 1) ns))))) (replicate block_words 0)
entry_more a b c d ns i h g =
    let ws = map word_of (take i ns) in
    let e : length ws ≡ i = length-map (take i ns) word_of ∙ length-take i ns ∙ omega arith in
    over-more (a ∷ (b ∷ (c ∷ (d ∷ ws)))) (replicate block_words 0) (first_entry + i) (word_of (get_or ns i (pos 0))) (omega arith) (omega arith)
    ∙ ap (λ (l : List ℕ). over (a ∷ (b ∷ (c ∷ (d ∷ l)))) (replicate block_words 0)) (sym (words_more ns i h))

-- Words as bytes

pub length-bytes : (ws : List ℕ) → length (bytes_of ws) ≡ length ws * 4
unfolding bytes_of bytes_of_word
length-bytes [] = refl
length-bytes (w ∷ ws) = omega (arith, length-bytes ws)

pub bytes-append : (vs ws : List ℕ) → bytes_of (vs ++ ws) ≡ bytes_of vs ++ bytes_of ws
unfolding bytes_of
bytes-append [] ws = refl
bytes-append (v ∷ vs) ws = ap (λ (l : List ℕ). bytes_of_word v ++ l) (bytes-append vs ws)
    ∙ sym (append_assoc (bytes_of_word v) (bytes_of vs) (bytes_of ws))

bytes_one : (w : ℕ) → bytes_of (w ∷ []) ≡ bytes_of_word w
unfolding bytes_of
bytes_one w = append-nil (bytes_of_word w)

-- one word more of a block that is laid out from the byte k on
pub put-more : (l ws : List ℕ) (k i : ℕ) → i < length ws
    → sets (sets l k (bytes_of (take i ws))) (k + i * 4) (bytes_of_word (get_or ws i 0)) ≡ sets l k (bytes_of (take (i + 1) ws))
put-more l ws k i h =
    let e : length (bytes_of (take i ws)) ≡ i * 4 = length-bytes (take i ws) ∙ ap (λ (n : ℕ). n * 4) (length-take i ws ∙ omega arith) in
    ap (λ (n : ℕ). sets (sets l k (bytes_of (take i ws))) (k + n) (bytes_of_word (get_or ws i 0))) (sym e)
    ∙ sets-after (bytes_of (take i ws)) (bytes_of_word (get_or ws i 0)) l k
    ∙ ap (sets l k)
    (ap (λ (b : List ℕ). bytes_of (take i ws) ++ b) (sym (bytes_one (get_or ws i 0)))
    ∙ sym (bytes-append (take i ws) (get_or ws i 0 ∷ []))
    ∙ ap bytes_of (sym (word_more ws i h)))

-- Lengths

pub length-block : (kind number count : ℕ) (entries : List ℕ) → length entries ≤ per_block
    → length (block kind number count entries) ≡ block_words
unfolding sealed block
length-block kind number count entries h =
    let ws = kind ∷ (number ∷ (count ∷ (0 ∷ entries))) in
    let e = length_over ws (replicate summed_words 0) (omega arith) in
    length-append (over ws (replicate summed_words 0)) _ ∙ ap (λ (n : ℕ). n + 2) e

pub length-head : (m k : ℕ) (w : Weights) → length (head_block m k w) ≡ block_words
unfolding head_block
length-head m k w = length-block head_kind 0 0 _ (omega arith)

pub length-list-block : (kind w number : ℕ) (numbers : List ℤ) → length numbers ≤ per_block
    → length (list_block kind w number numbers) ≡ block_words
unfolding list_block
length-list-block kind w number numbers h =
    let e = length-map numbers word_of in
    length-block kind number _ (map word_of numbers) (omega (arith, e))

pub length-next-block : (kind w number : ℕ) (numbers : List ℤ) → length (list_block kind w number (take per_block numbers)) ≡ block_words
length-next-block kind w number numbers =
    length-list-block kind w number (take per_block numbers) (omega (arith, length-take per_block numbers))
