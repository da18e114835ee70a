-- An operation's answer by its cases: the check's refusals first, then 21, then what is given.
-- Assumes nothing.
use mathlib.Core.Path.{◌≡◌, refl}
use Prim.Native.Nat.{ℕ, ◌≤◌, ◌<◌}
use borrow.Author.Tests.{lt-ltb, le-ltb}
use Rattle.lent.specs.Told.{Told, refused, given, only_if}
use Rattle.answers.specs.Room.{if_room}

module _ {A B : Type 0} (t : Told A) (next : Told B) where
  pub only-refused : (n : ℕ) → t ≡ refused n → only_if t next ≡ refused n
  unfolding only_if
  only-refused n r = rw r refl

  pub only-given : (a : A) → t ≡ given a → only_if t next ≡ next
  unfolding only_if
  only-given a r = rw r refl

module _ {A : Type 0} (need room : ℕ) (a : A) where
  pub room-short : room < need → if_room need room a ≡ refused 21
  unfolding if_room
  room-short h = rw (lt-ltb room need h) refl

  pub room-enough : need ≤ room → if_room need room a ≡ given a
  unfolding if_room
  room-enough h = rw (le-ltb room need h) refl
