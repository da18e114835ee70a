-- A price by its cases: 31 by either test, 37, then what the first band that reaches says; and what a list that sets a charge has passed.
-- A rate that passed is low enough.
-- Assumes nothing.
use mathlib.Core.Path.{◌≡◌, refl, sym, ◌∙◌}
use mathlib.Core.Bool.{true, false}
use mathlib.Core.List.{List, ◌∷◌}
use Prim.Native.Nat.{ℕ, ◌≤◌}
use borrow.Author.Tests.{ltb-false}
use Rattle.lists.specs.Any.{any}
use Rattle.lists.proofs.TestLaws.{by, or-none}
use Rattle.lent.specs.Told.{refused, given}
use Rattle.lent.proofs.AfterLaws.{told-apart}
use Rattle.bands.specs.declared.Band.{Band}
use Rattle.bands.specs.Band.{bands_of}
use Rattle.bands.specs.Tests.{rate_bound, bands_miscounted, rate_above}
use Rattle.bands.specs.Order.{falls_back}
use Rattle.price.specs.Charge.{by_first}
use Rattle.price.specs.Price.{priced}

-- the tests that a list passes before its bands are asked for a rate
pub record Passed (s : List ℕ) : Type 0 where
  pub counted : bands_miscounted s ≡ false
  pub low : any rate_above (bands_of s) ≡ false
  pub onward : falls_back (bands_of s) ≡ false

module _ (metal : ℕ) (s : List ℕ) where
  pub price-miscounted : bands_miscounted s ≡ true → priced metal s ≡ refused 31
  unfolding priced
  price-miscounted e = rw e refl

  pub price-above : bands_miscounted s ≡ false → any rate_above (bands_of s) ≡ true → priced metal s ≡ refused 31
  unfolding priced
  price-above e f = rw (e, f) refl

  pub price-back : bands_miscounted s ≡ false → any rate_above (bands_of s) ≡ false → falls_back (bands_of s) ≡ true
      → priced metal s ≡ refused 37
  unfolding priced
  price-back e f g = rw (e, f, g) refl

  pub price-first : Passed s → priced metal s ≡ by_first metal (bands_of s)
  unfolding priced
  price-first p = rw (p.counted, p.low, p.onward) refl

  -- a list that charges anything has passed every test
  pub given-passed : {h : ℕ} → priced metal s ≡ given h → Passed s
  given-passed {h} e =
      by (bands_miscounted s)
      (λ t. told-apart 31 h (sym (price-miscounted t) ∙ e))
      (λ t.
      by (any rate_above (bands_of s))
      (λ u. told-apart 31 h (sym (price-above t u) ∙ e))
      (λ u.
      by (falls_back (bands_of s))
      (λ v. told-apart 37 h (sym (price-back t u v) ∙ e))
      (λ v. record { counted = t; low = u; onward = v })))

-- none of the bands that are left has a rate above the highest: neither has the next, nor any after it
module _ (left : List Band) (b : Band) (rest : List Band) (at : left ≡ b ∷ rest) (none : any rate_above left ≡ false) where
  first-none : (rate_above b ≡ false) × (any rate_above rest ≡ false)
  unfolding any
  first-none = or-none (rate_above b) (any rate_above rest) (rw at at none)

  pub rate-low : b.rate ≤ rate_bound
  unfolding rate_above
  rate-low = ltb-false rate_bound b.rate first-none.0

  pub rest-low : any rate_above rest ≡ false
  rest-low = first-none.1
