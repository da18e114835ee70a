-- The lower bound among the operations: the answer by its cases (C89).
-- Assumes nothing.
use mathlib.Core.Path.{◌≡◌, refl}
use mathlib.Core.Bool.{true, false, ◌||◌}
use mathlib.Core.List.{List}
use Prim.Native.Nat.{ℕ, ◌≤◌}
use borrow.Author.Tests.{ltb-false}
use lib.Dec.{ltb}
use lib.IntN.{ℤ}
use Rattle.lists.proofs.TestLaws.{or-none}
use Rattle.lent.specs.Told.{given, refused}
use Rattle.net.specs.declared.Weighing.{Weighing}
use Rattle.sweeps.specs.Tables.{wide_crossings, arc_bound}
use Rattle.answers.specs.Bound.{bound_room_short, bound_given}

module _ (w : Weighing) (pins macros : List ℤ) (left rows n : ℕ) where
  pub bound-short : (ltb left arc_bound || ltb rows wide_crossings) ≡ true → bound_given w pins macros left rows n ≡ refused 21
  unfolding bound_given bound_room_short
  bound-short k = rw k refl

  pub bound-enough : (ltb left arc_bound || ltb rows wide_crossings) ≡ false → bound_given w pins macros left rows n ≡ given n
  unfolding bound_given bound_room_short
  bound-enough k = rw k refl

-- the room that is there
pub bound-room : (left rows : ℕ) → (ltb left arc_bound || ltb rows wide_crossings) ≡ false → (arc_bound ≤ left) × (wide_crossings ≤ rows)
bound-room left rows e =
    let r = or-none (ltb left arc_bound) (ltb rows wide_crossings) e in
    (ltb-false left arc_bound r.0, ltb-false rows wide_crossings r.1)
