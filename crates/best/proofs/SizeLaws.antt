-- How many sets of pins there are, and a lent list filled with one number.
-- Assumes nothing.
use mathlib.Core.Path.{◌≡◌, sym, ap, ◌∙◌}
use mathlib.Core.List.{List}
use Prim.Native.Nat.{ℕ, zero, suc, ◌-◌, ◌^◌, ◌≤◌}
use native.Mathlib.Omega.{arith}
use lib.ListN.{length, take, replicate, length-replicate}
use lib.Seq.{take-length}
use Rattle.lent.specs.Over.{over}
use Rattle.lent.proofs.OverLaws.{take-over}

-- How many sets

pub sets-bound : (m n : ℕ) → n ≡ 2 ^ (m - 1) → 1 ≤ m → m ≤ 5 → (1 ≤ n) × (n ≤ 16)
sets-bound zero n e h k = absurd (let z : ⊥ = omega (arith, h) in z)
sets-bound (suc zero) n e h k = let z : n ≡ 1 = e in (omega (arith, z), omega (arith, z))
sets-bound (suc (suc zero)) n e h k = let z : n ≡ 2 = e in (omega (arith, z), omega (arith, z))
sets-bound (suc (suc (suc zero))) n e h k = let z : n ≡ 4 = e in (omega (arith, z), omega (arith, z))
sets-bound (suc (suc (suc (suc zero)))) n e h k = let z : n ≡ 8 = e in (omega (arith, z), omega (arith, z))
sets-bound (suc (suc (suc (suc (suc zero))))) n e h k = let z : n ≡ 16 = e in (omega (arith, z), omega (arith, z))
sets-bound (suc (suc (suc (suc (suc (suc m)))))) n e h k = absurd (let z : ⊥ = omega (arith, k) in z)

-- A list of n numbers whose first n are put to x

pub filled-all : (x n : ℕ) (w t : List ℕ) → length t ≡ n → t ≡ over (replicate n x) w → t ≡ replicate n x
filled-all x n w t l e =
    sym (take-length t) ∙ ap (λ (k : ℕ). take k t) (l ∙ sym (length-replicate n x)) ∙ ap (take (length (replicate n x))) e
    ∙ take-over (replicate n x) w
