-- Sums of lengths of pairs: one link taken out, lists put together, pairs turned round, the steps of a way.
-- Assumes nothing.
use mathlib.Core.Path.{◌≡◌, refl}
use mathlib.Core.Logic.{inl, inr}
use mathlib.Core.List.{List, [], ◌∷◌, ◌++◌}
use Prim.Native.Nat.{ℕ, ◌+◌, ◌≤◌}
use native.Mathlib.Omega.{arith}
use Rattle.lists.specs.Member.{Among, Once}
use Rattle.lists.specs.Total.{total}
use Rattle.lists.proofs.TotalLaws.{total-rest, once-total}
use Rattle.joined.specs.Joined.{Link, others}
use Rattle.joined.specs.Way.{long}
use Rattle.joined.specs.Exchange.{steps}
use Rattle.joined.specs.Cost.{Cost, lengths}

module _ {A : Type 0} (d : A → A → ℕ) where
  pub lengths-append : (T U : List (A × A)) → lengths d (T ++ U) ≡ lengths d T + lengths d U
  unfolding lengths total
  lengths-append [] U = omega arith
  lengths-append (e ∷ T) U = omega (arith, lengths-append T U)

  pub lengths-others : Cost d → {T : List (A × A)} {a b : A} (l : Link T a b) → lengths d T ≡ d a b + lengths d (others l)
  unfolding lengths others
  lengths-others c (inl m) = total-rest (λ e. d e.0 e.1) m
  lengths-others c {a = a} {b = b} (inr m) = omega (arith, total-rest (λ e. d e.0 e.1) m, c.even a b)

  -- the steps of a way come to its length
  pub lengths-steps : (x : A) (ps : List A) → lengths d (steps x ps) ≡ long d x ps
  unfolding steps lengths total long
  lengths-steps x [] = refl
  lengths-steps x (y ∷ ps) = omega (arith, lengths-steps y ps)

  -- each of some pairs once comes to no more than all of them
  pub lengths-once : (T U : List (A × A)) → Once T → Among T U → lengths d T ≤ lengths d U
  unfolding lengths
  lengths-once T U o h = once-total (λ e. d e.0 e.1) T U o h
