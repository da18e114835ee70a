-- Keys and their ends: what the bounds of a table give.
-- Assumes nothing.
use mathlib.Core.List.{List}
use Prim.Native.Nat.{ℕ, ◌≤◌}
use native.Mathlib.Omega.{arith}
use Rattle.straight.specs.Table.{straight_bound, Small, Within}

-- ends below the bound make small keys
pub within-small : (n : ℕ) (ks : List ℕ) → n ≤ straight_bound → Within n ks → Small ks
within-small n ks h w = record { small = λ i. let z = w.ends i in omega (arith, z) }
