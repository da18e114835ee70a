-- A state that goes through the numbers from i on, n of them; the first of them that passes a test.
use Rattle.std.specs.Prelude.{Bool, true, false, ℕ, zero, suc}

unfoldable pub turns : {S : Type 0} → (ℕ → S → S) → ℕ → ℕ → S → S
turns f i zero s = s
turns f i (suc n) s = turns f (suc i) n (f i s)

-- the number after the last where none passes
unfoldable pub seek : (ℕ → Bool) → ℕ → ℕ → ℕ
seek t i zero = i
seek t i (suc n) = elim (t i) [ true ↦ i | false ↦ seek t (suc i) n ]
