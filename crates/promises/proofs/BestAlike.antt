-- Two calls for a best tree that the check answers alike, of nets with as many pins and macros: the refusal and the work are the same,
-- whichever trees are given.
-- Assumes nothing.
use mathlib.Core.Path.{◌≡◌, refl, ap, ap₂, ◌∙◌}
use mathlib.Core.Bool.{Bool, true, false, cond, ◌||◌}
use mathlib.Core.List.{List}
use Prim.Native.Nat.{ℕ, ◌+◌, ◌*◌}
use lib.Dec.{ltb}
use lib.IntN.{ℤ}
use lib.ListN.{replicate}
use Rattle.lent.specs.Told.{Told, refused, given, code, only_if}
use Rattle.lent.specs.Over.{after}
use Rattle.net.specs.declared.Net.{Net as Counts}
use Rattle.net.specs.declared.Weighing.{Weighing}
use Rattle.net.specs.Pins.{pin_count, macro_count}
use Rattle.checks.specs.Check.{checked}
use Rattle.rules.specs.Edges.{Edge}
use Rattle.lines.specs.Bounds.{grid_macros}
use Rattle.parts.specs.Bounds.{best_pins, work_bound}
use Rattle.answers.specs.Best.{above_best, best_numbers, best_room_short, best_answer, best_given, best_tree}

-- an answer by its refusals, and by what is given: the number of the refusal, and a list that holds the same in each success, do not
-- depend on what is given

abbrev shown : {A : Type 0} → Told Counts → Bool → Bool → A → Told A
shown c above short a = only_if c (cond above (refused 41) (cond short (refused 21) (given a)))

shown-code : {A : Type 0} (c : Told Counts) (above short : Bool) (a b : A) → code (shown c above short a) ≡ code (shown c above short b)
unfolding code only_if
shown-code (refused n) above short a b = refl
shown-code (given net) true short a b = refl
shown-code (given net) false true a b = refl
shown-code (given net) false false a b = refl

shown-after : {A X : Type 0} (c : Told Counts) (above short : Bool) (a b : A) (xs lent : List X) →
    after (shown c above short a) xs lent ≡ after (shown c above short b) xs lent
unfolding after only_if
shown-after (refused n) above short a b xs lent = refl
shown-after (given net) true short a b xs lent = refl
shown-after (given net) false true a b xs lent = refl
shown-after (given net) false false a b xs lent = refl

module _ (w : Weighing) (pins pins' macros macros' : List ℤ) (check : checked w pins macros ≡ checked w pins' macros')
    (m : pin_count pins ≡ pin_count pins') (k : macro_count macros ≡ macro_count macros') where
  same-best : (work room : ℕ) (T : List Edge) → best_tree w pins macros work room T
      ≡ shown (checked w pins' macros') (above_best pins' macros') (best_room_short (best_numbers pins' macros') work room)
      (best_answer w pins macros T)
  unfolding best_tree best_given above_best
  same-best work room T =
      ap₂ only_if check
      (ap₂ (λ (m k : ℕ). cond (ltb best_pins m || ltb grid_macros k) (refused 41)
      (cond (best_room_short ((m + k * 2) * (m + k * 2) * 4) work room) (refused 21) (given (best_answer w pins macros T)))) m k)

  pub same_code : (T U : List Edge) (work room : ℕ)
      → code (best_tree w pins macros work room T) ≡ code (best_tree w pins' macros' work room U)
  unfolding best_tree best_given
  same_code T U work room =
      ap code (same-best work room T)
      ∙ shown-code (checked w pins' macros') (above_best pins' macros') (best_room_short (best_numbers pins' macros') work room)
      (best_answer w pins macros T) (best_answer w pins' macros' U)

  pub same-work : (T U : List Edge) (work room : ℕ) (lent : List ℕ)
      → after (best_tree w pins macros work room T) (replicate work_bound 0) lent
      ≡ after (best_tree w pins' macros' work room U) (replicate work_bound 0) lent
  unfolding best_tree best_given
  same-work T U work room lent =
      ap (λ (t : Told (ℕ × (ℤ × ℤ))). after t (replicate work_bound 0) lent) (same-best work room T)
      ∙ shown-after (checked w pins' macros') (above_best pins' macros') (best_room_short (best_numbers pins' macros') work room)
      (best_answer w pins macros T) (best_answer w pins' macros' U) (replicate work_bound 0) lent
