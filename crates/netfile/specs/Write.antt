-- Write a net file: rules C69 and C70.
use Rattle.std.specs.Prelude.{cond, List, ℕ, ltb, ℤ, length, Result}
use Rattle.lent.specs.Told.{Told, refused, given, only_if}
use Rattle.net.specs.declared.Weighing.{Weighing}
use Rattle.net.specs.Net.{weights_of}
use Rattle.net.specs.declared.Refusal.{Refusal}
use Rattle.net.specs.Answer.{told_by}
use Rattle.net.specs.Bounds.{Bounds, today}
use Rattle.checks.specs.Check.{checked_within}
use Rattle.encoded.specs.Layout.{file_bytes}

-- C69: 21 where fewer bytes are lent than the file has; otherwise (C52) how many bytes it has
unfoldable pub fitted : ℕ → ℕ → Told ℕ
fitted needed room = cond (ltb room needed) (refused 21) (given needed)

-- C69: the answer of a write into `room` lent bytes
unfoldable pub written_within : Bounds → Weighing → List ℤ → List ℤ → ℕ → Told ℕ
written_within b w pins macros room = only_if (checked_within b w pins macros) (fitted (length (file_bytes (weights_of w) pins macros)) room)

abbrev pub written : Weighing → List ℤ → List ℤ → ℕ → Told ℕ
written = written_within today

-- what the code's answer says
abbrev pub told_bytes : Result ℕ Refusal → Told ℕ
told_bytes = told_by (λ n. n)
