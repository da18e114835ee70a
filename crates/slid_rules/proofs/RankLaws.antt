-- The order of moves by rank: by saving, then by first place, then by direction.
-- Assumes nothing.
use mathlib.Core.Path.{◌≡◌, refl}
use mathlib.Core.Bool.{Bool, true, false}
use Prim.Native.Nat.{ℕ}
use Rattle.lists.specs.Sorted.{Order, first_then}
use Rattle.lists.proofs.TestLaws.{differ}
use Rattle.lists.proofs.OrderLaws.{number-order, pair-order}
use Rattle.plane.specs.Place.{before}
use Rattle.plane.proofs.PlaceOrder.{place-order}
use Rattle.slide.specs.Slide.{greater, flatter}

greater-order : Order greater
greater-order = record {
  never = number-order.never;
  along = λ a b c e f. number-order.along c b a f e;
  tie = λ a b e f. number-order.tie a b f e;
}

flatter-order : Order flatter
flatter-order = record { never = never; along = along; tie = tie }
  where
    never : (a : Bool) → flatter a a ≡ false
    never true = refl
    never false = refl

    along : (a b c : Bool) → flatter a b ≡ true → flatter b c ≡ true → flatter a c ≡ true
    along true true c e f = differ e refl
    along true false c e f = differ f refl
    along false b c e f = differ e refl

    tie : (a b : Bool) → flatter a b ≡ false → flatter b a ≡ false → a ≡ b
    tie true true e f = refl
    tie true false e f = differ refl e
    tie false true e f = differ refl f
    tie false false e f = refl

pub rank-order : Order (first_then greater (first_then before flatter))
rank-order = pair-order greater (first_then before flatter) greater-order (pair-order before flatter place-order flatter-order)
