-- The charge: rounding by its three cases and as one division, to the nearest and at a half to the even one; it rises with metal and with
-- the rate; metal split by the thousand.
-- Assumes nothing.
use mathlib.Core.Path.{◌≡◌, refl, sym, ap, ◌∙◌}
use Prim.Native.Nat.{ℕ, ◌+◌, ◌*◌, ◌/◌, ◌%◌, ◌≤◌, ◌<◌}
use native.Mathlib.Nat.{div-add-mod', add-mul, mul_right_comm, mul-le-mul, add-mod-mod, mul-mod_left}
use native.Mathlib.Omega.{arith}
use borrow.Author.Tests.{lt-ltb, le-ltb, ltb-true, ltb-false}
use lib.Dec.{ltb}
use Rattle.lists.proofs.TestLaws.{by}
use Rattle.bands.specs.Tests.{rate_bound}
use Rattle.price.specs.Charge.{metal_bound, units, rounded, charge}

-- Rounding

module _ (n : ℕ) where
  pub rounded-down : n % units * 2 < units → rounded n ≡ n / units
  unfolding rounded
  rounded-down h = rw (lt-ltb (n % units * 2) units h) refl

  pub rounded-up : units < n % units * 2 → rounded n ≡ n / units + 1
  unfolding rounded
  rounded-up h = rw (le-ltb (n % units * 2) units (omega (arith, h)), lt-ltb units (n % units * 2) h) refl

  pub rounded-half : n % units * 2 ≡ units → rounded n ≡ n / units + n / units % 2
  unfolding rounded
  rounded-half h = rw (le-ltb (n % units * 2) units (omega (arith, h)), le-ltb units (n % units * 2) (omega (arith, h))) refl

  -- half a unit more, or a thousandth less than that where the whole units are even; whole units of it
  pub rounded-is : rounded n ≡ (n + 499 + n / 1000 % 2) / 1000
  rounded-is =
      by (ltb (n % units * 2) units)
      (λ e. omega (arith, rounded-down (ltb-true (n % units * 2) units e), ltb-true (n % units * 2) units e))
      (λ e.
      by (ltb units (n % units * 2))
      (λ f. omega (arith, rounded-up (ltb-true units (n % units * 2) f), ltb-true units (n % units * 2) f))
      (λ f.
      let half : n % units * 2 ≡ units = omega (arith, ltb-false (n % units * 2) units e, ltb-false units (n % units * 2) f) in
      omega (arith, rounded-half half, half)))

  -- B4: it is no further than half a unit
  pub rounded-near : (rounded n * units ≤ n + 500) × (n ≤ rounded n * units + 500)
  rounded-near = (omega (arith, rounded-is), omega (arith, rounded-is))

  -- B4: half way between two it is even
  pub rounded-even : n % units ≡ 500 → rounded n % 2 ≡ 0
  rounded-even h =
      let twice : n / units + n / units ≡ n / units * 2 = omega arith in
      ap (λ (k : ℕ). k % 2) (rounded-half (omega (arith, h)))
      ∙ add-mod-mod (n / units) (n / units) 2
      ∙ ap (λ (k : ℕ). k % 2) twice
      ∙ mul-mod_left (n / units) 2

-- it never falls: all that the theorem on longer nets asks of it. With fewer whole units it is at most the next; with the same, both have
-- one even side
pub rounded-rises : {m n : ℕ} → m ≤ n → rounded m ≤ rounded n
rounded-rises {m} {n} h =
    by (ltb (m / units) (n / units))
    (λ e. omega (arith, h, rounded-is m, rounded-is n, ltb-true (m / units) (n / units) e))
    (λ e.
    let same : m / units ≡ n / units = omega (arith, h, ltb-false (m / units) (n / units) e) in
    omega (arith, h, rounded-is m, rounded-is n, ap (λ (k : ℕ). k % 2) same))

pub charge-rises : {m n r s : ℕ} → m ≤ n → r ≤ s → charge m r ≤ charge n s
unfolding charge
charge-rises h k = rounded-rises (mul-le-mul h k)

-- Metal split by the thousand, as the program charges it

module _ (metal rate : ℕ) where
  split : metal * rate ≡ metal / units * rate * units + metal % units * rate
  split =
      ap (λ (k : ℕ). k * rate) (sym (div-add-mod' metal units))
      ∙ add-mul (metal / units * units) (metal % units) rate
      ∙ ap (λ (k : ℕ). k + metal % units * rate) (mul_right_comm (metal / units) units rate)

  -- whole hundredths of the charge, and twice what is over them
  abbrev whole : ℕ
  whole = metal / units * rate + metal % units * rate / units

  abbrev over : ℕ
  over = metal % units * rate % units * 2

  whole_is : whole ≡ metal * rate / units
  whole_is = omega (arith, split)

  over-is : over ≡ metal * rate % units * 2
  over-is = omega (arith, split)

  pub charge-down : over < units → whole ≡ charge metal rate
  unfolding charge
  charge-down h = whole_is ∙ sym (rounded-down (metal * rate) (omega (arith, over-is, h)))

  pub charge-up : units < over → whole + 1 ≡ charge metal rate
  unfolding charge
  charge-up h = ap (λ (k : ℕ). k + 1) whole_is ∙ sym (rounded-up (metal * rate) (omega (arith, over-is, h)))

  charge-half : over ≡ units → whole + whole % 2 ≡ charge metal rate
  unfolding charge
  charge-half h = ap (λ (k : ℕ). k + k % 2) whole_is ∙ sym (rounded-half (metal * rate) (omega (arith, over-is, h)))

  pub charge-even : over ≡ units → whole % 2 ≡ 0 → whole ≡ charge metal rate
  charge-even h e = omega (arith, charge-half h, e)

  pub charge-odd : over ≡ units → (whole % 2 ≡ 0 → ⊥) → whole + 1 ≡ charge metal rate
  charge-odd h e = omega (arith, charge-half h, e)

  pub part-fits : rate ≤ rate_bound → metal % units * rate ≤ units * rate_bound
  part-fits h = let low : metal % units ≤ units = omega arith in mul-le-mul low h

  pub thousands-fit : metal ≤ metal_bound → rate ≤ rate_bound → metal / units * rate ≤ metal_bound / units * rate_bound
  thousands-fit h k = let low : metal / units ≤ metal_bound / units = omega arith in mul-le-mul low k

  pub whole-fits : metal ≤ metal_bound → rate ≤ rate_bound → whole ≤ metal_bound / units * rate_bound + rate_bound
  whole-fits h k = omega (arith, part-fits k, thousands-fit h k)
