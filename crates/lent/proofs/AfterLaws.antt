-- Lent space after an answer, by the answer: as it was after a refusal, the list over what stood there otherwise.
-- Assumes nothing.
use mathlib.Core.Path.{◌≡◌, sym, ap}
use mathlib.Core.List.{List}
use Prim.Native.Nat.{ℕ}
use native.Mathlib.Omega.{arith}
use Rattle.lent.specs.Told.{Told, refused, given}
use Rattle.lent.specs.Over.{over, after}

module _ {A X : Type 0} (t : Told A) (xs lent : List X) where
  pub after-refused : (n : ℕ) → t ≡ refused n → lent ≡ after t xs lent
  unfolding after
  after-refused n e = sym (ap (λ (s : Told A). after s xs lent) e)

  pub after-given : (a : A) → t ≡ given a → over xs lent ≡ after t xs lent
  unfolding after
  after-given a e = sym (ap (λ (s : Told A). after s xs lent) e)

-- an answer is not of both kinds
pub told-apart {ℓ} : {A : Type 0} {C : Type ℓ} (n : ℕ) (a : A) → refused n ≡ given a → C
told-apart n a e = absurd (let z : ◌≡◌ {A = ℕ} 0 1 = cc in let f : ⊥ = omega arith in f)
