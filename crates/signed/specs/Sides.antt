-- A whole number as two naturals, one of which is 0.
use Rattle.std.specs.Prelude.{ℕ, suc, ◌+◌, ◌≤◌, ◌<◌, ℤ, pos, negsuc}

unfoldable pub up : ℤ → ℕ
up (pos n) = n
up (negsuc n) = 0

unfoldable pub down : ℤ → ℕ
down (pos n) = 0
down (negsuc n) = suc n

abbrev pub Lt : ℤ → ℤ → Type 0
Lt a b = up a + down b < up b + down a

abbrev pub Le : ℤ → ℤ → Type 0
Le a b = up a + down b ≤ up b + down a
