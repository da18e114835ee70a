-- E18, of worked nets: the refusals of the net come first, and one pin is charged nothing.
-- Assumes nothing.
use mathlib.Core.Path.{◌≡◌, refl}
use mathlib.Core.List.{List, [], ◌∷◌}
use Prim.Native.Nat.{ℕ}
use Rattle.lent.specs.Told.{Told, refused, given}
use Rattle.net.specs.Net.{plainly}
use Rattle.net.specs.WorkedNets.{Lists, one_pin, no_pin, three_pins, overlapping}
use Rattle.price.proofs.WorkedPrices.{answer}
use Rattle.answers.specs.Price.{net_price}
use Rattle.answers.proofs.Answered.{answers_by}

-- to unfold this is to unfold all that it rests on
unfoldable pub price_of : Lists → List ℕ → Told ℕ
unfolding answers_by answer net_price
price_of net bands = net_price plainly net.pins net.macros bands

pub record Table : Type 0 where
  -- E1: one pin, no metal: any first band reaches it
  pub one-pin : price_of one_pin (0 ∷ 1000000 ∷ []) ≡ given 0
  -- E4: metal 7, of which 7 × 500 thousandths of a hundredth are 3.5 hundredths
  pub three-pins : price_of three_pins (7 ∷ 500 ∷ []) ≡ given 4
  pub not-reached : price_of three_pins (6 ∷ 500 ∷ []) ≡ refused 32
  pub odd-list : price_of three_pins (6 ∷ 500 ∷ 7 ∷ []) ≡ refused 31
  pub equal-limits : price_of three_pins (7 ∷ 500 ∷ 7 ∷ 600 ∷ []) ≡ refused 37
  -- E2 and E7: 11 and 16 before 31, 37 and 32, by every list
  pub no-pin : (bands : List ℕ) → price_of no_pin bands ≡ refused 11
  pub overlap : (bands : List ℕ) → price_of overlapping bands ≡ refused 16

pub worked-prices : Table
unfolding price_of
worked-prices = record {
  one-pin = refl;
  three-pins = refl;
  not-reached = refl;
  odd-list = refl;
  equal-limits = refl;
  no-pin = λ bands. refl;
  overlap = λ bands. refl;
}
