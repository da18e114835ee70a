-- The first band that reaches the metal, as a scan finds it: what is found, what is passed over, the end. The position of a scan is the
-- list that is left.
-- Assumes nothing.
use mathlib.Core.Path.{◌≡◌, refl}
use mathlib.Core.Bool.{true, false}
use mathlib.Core.List.{List, [], ◌∷◌}
use Prim.Native.Nat.{ℕ}
use Rattle.lent.specs.Told.{refused, given}
use Rattle.bands.specs.declared.Band.{Band}
use Rattle.price.specs.Charge.{charge, reaches, by_first}

-- `left` begins with b, and `rest` is what follows
module _ (metal : ℕ) (left : List Band) (b : Band) (rest : List Band) (at : left ≡ b ∷ rest) where
  pub first-hit : reaches metal b ≡ true → by_first metal left ≡ given (charge metal b.rate)
  unfolding by_first
  first-hit e = rw (at, e) refl

  pub first-miss : reaches metal b ≡ false → by_first metal left ≡ by_first metal rest
  unfolding by_first
  first-miss e = rw (at, e) refl

pub first-end : (metal : ℕ) (left : List Band) → left ≡ [] → by_first metal left ≡ refused 32
unfolding by_first
first-end metal left e = rw e refl
