-- Worked prices, by computing the definition: E17, and E21 for lists that fall back.
-- Assumes nothing.
use mathlib.Core.Path.{◌≡◌, refl}
use mathlib.Core.List.{List, [], ◌∷◌}
use Prim.Native.Nat.{ℕ}
use Rattle.lists.specs.Any.{any}
use Rattle.lent.specs.Told.{Told, refused, given}
use Rattle.bands.specs.Band.{bands_of}
use Rattle.bands.specs.Tests.{bands_miscounted, rate_above}
use Rattle.bands.specs.Order.{steps_back, falls_after, falls_back}
use Rattle.price.specs.Charge.{rounded, charge, reaches, by_first}
use Rattle.price.specs.Price.{priced}

-- to unfold this is to unfold all that it rests on
unfoldable pub answer : ℕ → List ℕ → Told ℕ
unfolding any bands_of rounded charge reaches by_first bands_miscounted rate_above priced steps_back falls_after falls_back
answer metal s = priced metal s

-- two bands that are kept in order: up to 100 units at rate 10, up to 200 at rate 20
abbrev two : List ℕ
two = 100 ∷ 10 ∷ 200 ∷ 20 ∷ []

pub record Table : Type 0 where
  -- 2.499, 2.5 and 2.501 hundredths, and 3.5: a half goes to the even one, below or above
  pub below_half : answer 2499 (9000 ∷ 1 ∷ []) ≡ given 2
  pub half-after-even : answer 500 (500 ∷ 5 ∷ []) ≡ given 2
  pub above_half : answer 2501 (9000 ∷ 1 ∷ []) ≡ given 3
  pub half-after-odd : answer 500 (500 ∷ 7 ∷ []) ≡ given 4
  -- no metal is charged nothing
  pub no-metal : answer 0 (0 ∷ 1000000 ∷ []) ≡ given 0
  -- a limit equal to the metal reaches it, one below does not; of two bands that reach it the first sets the rate
  pub limit-equal : answer 100 two ≡ given 1
  pub limit-below : answer 101 two ≡ given 2
  pub first-of-two : answer 100 (200 ∷ 10 ∷ 300 ∷ 20 ∷ []) ≡ given 1
  -- 32 where the last limit is below
  pub none-reaches : answer 201 two ≡ refused 32
  -- 31 for three numbers, for none, and for a rate above the highest in a band that sets no rate
  pub odd-list : answer 1 (10 ∷ 5 ∷ 20 ∷ []) ≡ refused 31
  pub no-band : answer 1 [] ≡ refused 31
  pub rate-above : answer 1 (10 ∷ 5 ∷ 20 ∷ 1000001 ∷ []) ≡ refused 31
  pub rate-highest : answer 1000 (1000 ∷ 1000000 ∷ []) ≡ given 1000000
  -- 31 comes before 32
  pub wrong_first : answer 11 (10 ∷ 1000001 ∷ []) ≡ refused 31
  -- the largest limit of 64 bits is like any other
  pub largest-limit : answer 1000 (18446744073709551615 ∷ 3 ∷ []) ≡ given 3
  -- 37 for equal limits, a limit that falls and a rate that falls; equal rates pass
  pub equal-limits : answer 1 (100 ∷ 10 ∷ 100 ∷ 20 ∷ []) ≡ refused 37
  pub falling-limit : answer 1 (200 ∷ 10 ∷ 100 ∷ 20 ∷ []) ≡ refused 37
  pub falling-rate : answer 1 (100 ∷ 10 ∷ 200 ∷ 9 ∷ []) ≡ refused 37
  pub equal-rates : answer 101 (100 ∷ 10 ∷ 200 ∷ 10 ∷ []) ≡ given 1
  -- it is tested over the whole list: at the last pair, where the first band sets the rate, and at the first, where the last would
  pub last-pair : answer 1 (100 ∷ 10 ∷ 200 ∷ 20 ∷ 200 ∷ 30 ∷ []) ≡ refused 37
  pub first-pair : answer 250 (100 ∷ 10 ∷ 100 ∷ 20 ∷ 300 ∷ 30 ∷ []) ≡ refused 37
  -- 31 comes before 37, and 37 before 32
  pub above-and-falling : answer 1 (200 ∷ 10 ∷ 100 ∷ 1000001 ∷ []) ≡ refused 31
  pub odd-and-falling : answer 1 (200 ∷ 10 ∷ 100 ∷ 20 ∷ 300 ∷ []) ≡ refused 31
  pub falling-and-short : answer 201 (200 ∷ 10 ∷ 100 ∷ 20 ∷ []) ≡ refused 37
  -- one band has no neighbour to fall back from
  pub one-band : answer 100 (100 ∷ 10 ∷ []) ≡ given 1
  pub one-band-short : answer 101 (100 ∷ 10 ∷ []) ≡ refused 32

pub worked-prices : Table
unfolding answer
worked-prices = record {
  below_half = refl;
  half-after-even = refl;
  above_half = refl;
  half-after-odd = refl;
  no-metal = refl;
  limit-equal = refl;
  limit-below = refl;
  first-of-two = refl;
  none-reaches = refl;
  odd-list = refl;
  no-band = refl;
  rate-above = refl;
  rate-highest = refl;
  wrong_first = refl;
  largest-limit = refl;
  equal-limits = refl;
  falling-limit = refl;
  falling-rate = refl;
  equal-rates = refl;
  last-pair = refl;
  first-pair = refl;
  above-and-falling = refl;
  odd-and-falling = refl;
  falling-and-short = refl;
  one-band = refl;
  one-band-short = refl;
}
