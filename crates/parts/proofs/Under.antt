-- The numbers below a bound.
-- Assumes nothing.
use mathlib.Core.Path.{◌≡◌, refl, ap}
use mathlib.Core.List.Memᴰ
use mathlib.Core.List.{◌∷◌}
use Prim.Native.Nat.{ℕ, zero, suc, ◌<◌}
use native.Mathlib.Decide.{ℕ_discrete}
use native.Mathlib.Omega.{arith}
use lib.ListN.{length}
use Rattle.lists.specs.Member.{◌∈◌, here, there}
use Rattle.lists.proofs.TestLaws.{either}
use Rattle.parts.specs.Starts.{under}

pub in-under : (n p : ℕ) → p < n → p ∈ under n
unfolding under
in-under zero p h = absurd (let z : ⊥ = omega (arith, h) in z)
in-under (suc n) p h = pick (ℕ_discrete p n) (in-under n p)
  where
    pick : Dec (p ≡ n) → (p < n → p ∈ under n) → p ∈ (n ∷ under n)
    pick (yes e) ih = here e
    pick (no k) ih = there (ih (omega (arith, h, k)))

pub of-under : (n p : ℕ) → p ∈ under n → p < n
unfolding under
of-under zero p m = elim m [ ]
of-under (suc n) p m = either (λ e. omega (arith, e)) (λ i. omega (arith, of-under n p i)) (Memᴰ.cases_cons m)

pub length-under : (n : ℕ) → length (under n) ≡ n
unfolding under
length-under zero = refl
length-under (suc n) = ap suc (length-under n)
