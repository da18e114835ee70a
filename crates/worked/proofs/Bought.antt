-- E28, of worked nets: the refusals of the net come before those of the edges, whatever the edges.
-- Assumes nothing.
use mathlib.Core.Path.{◌≡◌, refl}
use mathlib.Core.List.{List, [], ◌∷◌}
use lib.IntN.{ℤ, pos, negsuc}
use Rattle.lent.specs.Told.{Told, refused, given}
use Rattle.net.specs.declared.Weighing.{Weighing}
use Rattle.net.specs.Net.{weighing, plainly}
use Rattle.net.specs.WorkedNets.{Lists, one_pin, no_pin, around_one, overlapping}
use Rattle.checks.proofs.WorkedChecks.{answer}
use Rattle.lent.specs.Told.{only_if}
use Rattle.bought.proofs.WorkedTrees.{judged}
use Rattle.answers.specs.Bought.{checked_tree}

-- to unfold this is to unfold all that it rests on
unfoldable pub check_of : Weighing → Lists → List ℤ → Told (ℤ × ℤ)
unfolding answer judged only_if checked_tree
check_of w net edges = checked_tree w net.pins net.macros edges

-- one number: not whole fours
abbrev odd : List ℤ
odd = pos 0 ∷ []

pub record Table : Type 0 where
  -- E3, around the macro, with weights 1 and 2
  pub passes : check_of (weighing (pos 1) (pos 2)) around_one
      (pos 0 ∷ pos 0 ∷ pos 4 ∷ negsuc 1 ∷ pos 6 ∷ negsuc 1 ∷ pos 4 ∷ negsuc 1 ∷ pos 6 ∷ negsuc 1 ∷ pos 10 ∷ pos 0 ∷ [])
      ≡ given (pos 18, pos 14)
  -- E1: one pin, no edge
  pub one-pin : check_of plainly one_pin [] ≡ given (pos 0, pos 0)
  -- 11, 16 and 18 before 33
  pub no-pin : check_of plainly no_pin odd ≡ refused 11
  pub overlap : check_of plainly overlapping odd ≡ refused 16
  pub no-weight : check_of (weighing (pos 9) (pos 1)) one_pin odd ≡ refused 18
  pub odd-list : check_of plainly one_pin odd ≡ refused 33

pub worked-bought : Table
unfolding check_of
worked-bought = record {
  passes = refl;
  one-pin = refl;
  no-pin = refl;
  overlap = refl;
  no-weight = refl;
  odd-list = refl;
}
