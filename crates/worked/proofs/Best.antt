-- E37 and E38, as far as the rules fix them: which number refuses, and what is said of a tree that is given. What a best tree costs is run.
-- Assumes nothing.
use mathlib.Core.Path.{◌≡◌, refl}
use mathlib.Core.List.{List, [], ◌∷◌}
use Prim.Native.Nat.{ℕ, zero, suc}
use lib.IntN.{ℤ, pos}
use Rattle.lists.specs.Total.{total}
use Rattle.lent.specs.Told.{Told, refused, given, only_if}
use Rattle.joined.specs.Cost.{lengths}
use Rattle.net.specs.declared.Weighing.{Weighing}
use Rattle.net.specs.Net.{weighing, plainly}
use Rattle.net.specs.WorkedNets.{Lists, one_pin, no_pin, overlapping}
use Rattle.checks.proofs.WorkedChecks.{answer}
use Rattle.lines.specs.Edges.{Edge}
use Rattle.answers.specs.Refined.{laid_total}
use Rattle.answers.specs.Best.{above_best, best_room_short, best_given, best_tree}
use Rattle.answers.proofs.Answered.{answers_by}
use Rattle.worked.proofs.Bought.{check_of}

-- to unfold this is to unfold all that it rests on
unfoldable pub best_of : Weighing → Lists → ℕ → ℕ → List Edge → Told (ℕ × (ℤ × ℤ))
unfolding answer only_if lengths total above_best best_room_short best_given best_tree
best_of w net work room T = best_tree w net.pins net.macros work room T

-- five pins whose refined tree costs 8, and a tree of 7 for them
abbrev five_pins : Lists
five_pins = record {
  pins =
      pos 2 ∷ pos 0 ∷ pos 0 ∷ pos 1 ∷ pos 3 ∷ pos 0 ∷ pos 0 ∷ pos 1 ∷ pos 0 ∷ pos 3 ∷ pos 1 ∷ pos 0 ∷ pos 0 ∷ pos 0 ∷ pos 0 ∷ [];
  macros = [];
}

abbrev seven_long : List ℤ
seven_long =
    pos 0 ∷ pos 0 ∷ pos 0 ∷ pos 1 ∷ pos 0 ∷ pos 1 ∷ pos 1 ∷ pos 1 ∷ pos 1 ∷ pos 1 ∷ pos 1 ∷ pos 3 ∷ pos 1 ∷ pos 1 ∷ pos 2 ∷ pos 1 ∷ pos 2
    ∷ pos 0 ∷ pos 2 ∷ pos 1 ∷ pos 2 ∷ pos 1 ∷ pos 3 ∷ pos 1 ∷ []

-- six pins in a row
abbrev six_pins : Lists
six_pins = record {
  pins =
      pos 0 ∷ pos 0 ∷ pos 0 ∷ pos 1 ∷ pos 0 ∷ pos 0 ∷ pos 2 ∷ pos 0 ∷ pos 0 ∷ pos 3 ∷ pos 0 ∷ pos 0 ∷ pos 4 ∷ pos 0 ∷ pos 0 ∷ pos 5 ∷ pos 0
      ∷ pos 0 ∷ [];
  macros = [];
}

-- one pin and so many macros above it, one on the other
unfoldable pub squares : ℕ → List ℤ
squares zero = []
squares (suc n) = pos 0 ∷ pos (suc n) ∷ pos 1 ∷ pos (suc (suc n)) ∷ squares n

abbrev macros : ℕ → Lists
macros n = record { pins = pos 0 ∷ pos 0 ∷ pos 0 ∷ []; macros = squares n }

pub record Table : Type 0 where
  -- a lone pin: no edge; it asks for as much work as any
  pub one-pin : best_of plainly one_pin 65536 4 [] ≡ given (0, (pos 0, pos 0))
  pub work-short : best_of plainly one_pin 65535 4 [] ≡ refused 21
  pub edges-short : best_of plainly one_pin 65536 3 [] ≡ refused 21
  -- six pins, and seventeen macros, with nothing lent: 41 before 21
  pub six-pins : best_of plainly six_pins 0 0 [] ≡ refused 41
  pub seventeen : best_of plainly (macros 17) 0 0 [] ≡ refused 41
  pub sixteen : best_of plainly (macros 16) 65536 4356 [] ≡ given (0, (pos 0, pos 0))
  pub sixteen-short : best_of plainly (macros 16) 65536 4355 [] ≡ refused 21
  -- the net's own numbers before 41
  pub no-pin : best_of plainly no_pin 0 0 [] ≡ refused 11
  pub overlap : best_of plainly overlapping 0 0 [] ≡ refused 16
  pub no-weight : best_of (weighing (pos 9) (pos 1)) six_pins 0 0 [] ≡ refused 18
  -- five pins: a tree of 7 passes
  pub seven : check_of plainly five_pins seven_long ≡ given (pos 7, pos 7)

pub worked-best : Table
unfolding best_of check_of squares
worked-best = record {
  one-pin = refl;
  work-short = refl;
  edges-short = refl;
  six-pins = refl;
  seventeen = refl;
  sixteen = refl;
  sixteen-short = refl;
  no-pin = refl;
  overlap = refl;
  no-weight = refl;
  seven = refl;
}

-- and the refined tree costs 8
pub five-refined : laid_total plainly five_pins.pins five_pins.macros ≡ 8
unfolding answers_by
five-refined = refl
