-- The weights of a file: a weight read back from its word, the words that no file of ours has there (1, and what is above 8), which are
-- refused by 3, and that a read is never refused by 18.
-- Assumes nothing.
use mathlib.Core.Path.{◌≡◌, refl, sym, ap, ap₂, ◌∙◌}
use mathlib.Core.Bool.{false, cond}
use mathlib.Core.List.{List}
use mathlib.Core.Logic.{◌⊎◌}
use Prim.Native.Nat.{ℕ, ◌≤◌, ◌<◌}
use native.Mathlib.Omega.{arith}
use borrow.Author.Tests.{eqb-true, eqb-false, ne_eqb, le-ltb}
use lib.Dec.{eqb}
use lib.IntN.{ℤ}
use Rattle.lists.proofs.TestLaws.{by, either, or-neither}
use Rattle.lent.specs.Over.{over}
use Rattle.lent.specs.Told.{refused, code}
use Rattle.plane.specs.declared.Weights.{Weights}
use Rattle.net.specs.Bounds.{today, weight_bound}
use Rattle.net.specs.Allowed.{Weighted}
use Rattle.net.proofs.HandedLaws.{weighted-passes}
use Rattle.checks.proofs.CodeLaws.{one_number, another, not-18}
use Rattle.blocks.specs.Sizes.{first_weight_word, second_weight_word}
use Rattle.blocks.specs.Words.{words_of, bytes_of_word, bytes_of, weight_word, weight_in}
use Rattle.blocks.specs.Sums.{sealed}
use Rattle.blocks.specs.Block.{block, head_block}
use Rattle.encoded.specs.Layout.{Stored, file_words, laid_bytes, file_bytes}
use Rattle.encoded.specs.Same.{same_numbers}
use Rattle.decoded.specs.Held.{blocks_miscounted, sums_wrong, head_word, weights_in, pins_in, macros_in, weights_miswritten, head_wrong}
use Rattle.netfile.specs.Read.{answer_in, room_short, read_file_within, read_file}
use Rattle.encoded.proofs.SameLaws.{same_true}
use Rattle.decoded.proofs.HeldLaws.{two_weights, head-right, weight-words}
use Rattle.netfile.proofs.AnswerLaws.{laid-out, laid-wrong, refuse-3, read-on}

-- One weight

module _ (n : ℕ) where
  pub word-within : n ≤ weight_bound → weight_word n ≤ weight_bound
  unfolding weight_word
  word-within h = by (eqb n 1) (λ e. rw e (omega arith)) (λ e. rw e h)

  -- F18: no weight is written as 1
  pub never-one : weight_word n ≡ 1 → ⊥
  unfolding weight_word
  never-one = by (eqb n 1) (λ e. rw e (λ z. omega arith)) (λ e. rw e (eqb-false n 1 e))

  -- a weight read back from its word
  pub weight-back : 1 ≤ n → weight_in (weight_word n) ≡ n
  unfolding weight_word weight_in
  weight-back h = by (eqb n 1) (λ e. rw e (sym (eqb-true n 1 e))) (λ e. rw (e, ne_eqb n 0 (λ z. omega arith)) refl)

  -- and every word up to the bound is that of a weight from 1 to the bound
  pub in_within : n ≤ weight_bound → (1 ≤ weight_in n) × (weight_in n ≤ weight_bound)
  unfolding weight_in
  in_within h = by (eqb n 0) (λ e. rw e (omega arith, omega arith)) (λ e. rw e (let z = eqb-false n 0 e in omega arith, h))

-- Both weights of a file

-- where the two words stand in the file that the layout makes
module _ (w : Weights) (s : Stored) (macros : List ℤ) (within : Weighted w) where
  first_word : head_word first_weight_word (laid_bytes w s macros) ≡ weight_word w.across
  unfolding head_word words_of laid_bytes bytes_of bytes_of_word file_words head_block block sealed over
  first_word = let h = word-within w.across within.across in omega arith

  second_word : head_word second_weight_word (laid_bytes w s macros) ≡ weight_word w.along
  unfolding head_word words_of laid_bytes bytes_of bytes_of_word file_words head_block block sealed over
  second_word = let h = word-within w.along within.along in omega arith

  pub weights-read : weights_in (laid_bytes w s macros) ≡ w
  weights-read =
      ap₂ two_weights (ap weight_in first_word ∙ weight-back w.across within.positive.across)
      (ap weight_in second_word ∙ weight-back w.along within.positive.along)

  pub weights-written : weights_miswritten (laid_bytes w s macros) ≡ false
  unfolding weights_miswritten
  weights-written =
      let a : head_word first_weight_word (laid_bytes w s macros) ≤ weight_bound = rw first_word (word-within w.across within.across) in
      let b : head_word second_weight_word (laid_bytes w s macros) ≤ weight_bound = rw second_word (word-within w.along within.along) in
      or-neither _ _ (le-ltb weight_bound _ a) (le-ltb weight_bound _ b)

-- the weights of a file whose head is right are from 1 to 8
pub weighted-in : (bytes : List ℕ) → weights_miswritten bytes ≡ false → Weighted (weights_in bytes)
weighted-in bytes e =
    let h = weight-words bytes e in
    let a = in_within (head_word first_weight_word bytes) h.0 in
    let b = in_within (head_word second_weight_word bytes) h.1 in
    record { positive = record { across = a.0; along = b.0 }; across = a.1; along = b.1 }

-- Theorems

module _ (bytes : List ℕ) (p q : ℕ) where
  laid-not-18 : weights_miswritten bytes ≡ false → code (answer_in bytes) ≡ 18 → ⊥
  laid-not-18 e =
      by (same_numbers bytes (file_bytes (weights_in bytes) (pins_in bytes) (macros_in bytes)))
      (λ t. rw (laid-out today _ _ _ _ t) (not-18 _ (pins_in bytes) (macros_in bytes) (weighted-passes _ (weighted-in bytes e))))
      (λ t. rw (laid-wrong today _ _ _ _ t) (one_number 3 18 refl))

  head-not-18 : code (cond (head_wrong bytes) (refused 3) (answer_in bytes)) ≡ 18 → ⊥
  head-not-18 = by (head_wrong bytes) (λ t. rw t (one_number 3 18 refl)) (λ t. rw t (laid-not-18 (head-right bytes t).1))

  number-not-18 : code (read_file bytes p q) ≡ 18 → ⊥
  unfolding read_file_within
  number-not-18 =
      another (room_short p q) 21 18 _ refl
      (another (blocks_miscounted bytes) 1 18 _ refl
      (another (sums_wrong bytes) 2 18 _ refl head-not-18))

  -- C71: a read is never refused by 18
  pub read-not-18 : read_file bytes p q ≡ refused 18 → ⊥
  unfolding code
  read-not-18 e = number-not-18 (ap code e)

-- F18: what no file of ours has for a weight
abbrev pub NoWeightWord : ℕ → Type 0
NoWeightWord n = (n ≡ 1) ⊎ (weight_bound < n)

unwritten : (m n : ℕ) → n ≡ weight_word m → n ≤ weight_bound → NoWeightWord n → ⊥
unwritten m n e h = either (λ o. never-one m (sym e ∙ o)) (λ a. omega arith)

module _ (bytes : List ℕ) where
  abbrev pub WrongWeights : Type 0
  WrongWeights = NoWeightWord (head_word first_weight_word bytes) ⊎ NoWeightWord (head_word second_weight_word bytes)

  abbrev made : List ℕ
  made = file_bytes (weights_in bytes) (pins_in bytes) (macros_in bytes)

  -- past the head's test, such a word is a written 1, and the layout makes none
  not_made : weights_miswritten bytes ≡ false → WrongWeights → bytes ≡ made → ⊥
  not_made e wrong s =
      let h = weight-words bytes e in
      let v = weighted-in bytes e in
      either (unwritten _ _ (ap (head_word first_weight_word) s ∙ first_word _ _ _ v) h.0)
      (unwritten _ _ (ap (head_word second_weight_word) s ∙ second_word _ _ _ v) h.1) wrong

  made-otherwise : weights_miswritten bytes ≡ false → WrongWeights → same_numbers bytes made ≡ false
  made-otherwise e wrong = by (same_numbers bytes made) (λ t. absurd (not_made e wrong (same_true bytes made t))) (λ t. t)

  -- C3: a written 1 and a word above 8 are refused by 3, where nothing before is wrong
  pub wrong-weight : (p q : ℕ) → room_short p q ≡ false → blocks_miscounted bytes ≡ false → sums_wrong bytes ≡ false → WrongWeights
      → read_file bytes p q ≡ refused 3
  wrong-weight p q r b s wrong =
      by (head_wrong bytes) (λ t. refuse-3 today bytes p q r b s t)
      (λ t. read-on today bytes p q r b s t ∙ laid-wrong today _ _ _ _ (made-otherwise (head-right bytes t).1 wrong))
