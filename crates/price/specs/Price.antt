-- The price of so much metal by a lent list: rules C32 and C75.
use Rattle.std.specs.Prelude.{cond, ◌||◌, List, ℕ, Result}
use Rattle.lists.specs.Any.{any}
use Rattle.lent.specs.Told.{Told, refused}
use Rattle.net.specs.declared.Refusal.{Refusal}
use Rattle.net.specs.Answer.{told_by}
use Rattle.bands.specs.Tests.{bands_miscounted, rate_above}
use Rattle.bands.specs.Band.{bands_of}
use Rattle.bands.specs.Order.{falls_back}
use Rattle.price.specs.Charge.{by_first}

-- C75: 31 is tested over the whole list, also in bands that set no rate; then 37, over the whole list too; then 32, then the charge
unfoldable pub priced : ℕ → List ℕ → Told ℕ
priced metal s =
    cond (bands_miscounted s || any rate_above (bands_of s)) (refused 31)
    (cond (falls_back (bands_of s)) (refused 37) (by_first metal (bands_of s)))

-- what the code's answer says
abbrev pub told_price : Result ℕ Refusal → Told ℕ
told_price = told_by (λ h. h)
