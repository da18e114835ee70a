-- Lent space that is too short: the last refusal of the operations that give a tree or its wires.
use Rattle.std.specs.Prelude.{cond, ℕ, ltb}
use Rattle.lent.specs.Told.{Told, refused, given}

-- C21: fewer numbers lent than are needed; otherwise what is given
unfoldable pub if_room : {A : Type 0} → ℕ → ℕ → A → Told A
if_room need room a = cond (ltb room need) (refused 21) (given a)
