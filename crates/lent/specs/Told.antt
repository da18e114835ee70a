-- Answers as the rules have them.
use Rattle.std.specs.Prelude.{ℕ}

-- C50: a refusal is its number and nothing else; otherwise the answer has a value.
pub data Told (A : Type 0) : Type 0 where
  refused : ℕ → Told A
  given : A → Told A

-- the answer as one number: 0 for success, or the refusal's
unfoldable pub code : {A : Type 0} → Told A → ℕ
code (refused n) = n
code (given a) = 0

-- the next answer, once the first is given: its refusals come first
unfoldable pub only_if : {A B : Type 0} → Told A → Told B → Told B
only_if (refused n) next = refused n
only_if (given a) next = next
