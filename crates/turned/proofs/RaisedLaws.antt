-- Numbers of 32 bits raised above zero: as the machine raises them, and in which order they are then.
-- Assumes nothing.
use mathlib.Core.Path.{◌≡◌, sym, ap, ◌∙◌}
use Prim.Native.Nat.{◌-◌, ◌^◌, ◌≤◌, min, max}
use native.Mathlib.Omega.{arith}
use borrow.Author.Tests.{eqb-true, eq-eqb, leb-true, leb-false, ltb-true, ltb-false}
use lib.Dec.{T, eqb, leb, ltb}
use lib.IntN.{ℤ, pos, negsuc, nat_abs, ◌+ℤ◌, ◌-ℤ◌}
use lib.Signed.{lt_z, le_z, non_neg}
use mir.Syntax.{w32, w64}
use mir.Val.{SFits}
use Rattle.lists.proofs.TestLaws.{by, differ}
use Rattle.signed.specs.Sides.{up, down}
use Rattle.signed.specs.Order.{z_eq, z_min, z_max}
use Rattle.signed.proofs.SideLaws.{one_side, of-sfits, to-sfits, add-sides, sub-sides, abs-sides, up_pos, down_pos, z_lt-true, z_lt-false}
use Rattle.signed.proofs.SideLaws.{z_le-true, z_le-false, eq_of}
use Rattle.signed.proofs.OrderLaws.{min-sides, max-sides, z_eq-true, z_eq-refl}
use Rattle.turned.specs.Turned.{raised}

-- As the machine has it

module _ (z : ℤ) (f : SFits w32 z) where
  abbrev lifted : ℤ
  lifted = z +ℤ pos 2147483648

  abbrev flipped : ℤ
  flipped = pos 2147483648 -ℤ z

  pub raise-fits : SFits w64 lifted
  raise-fits =
      to-sfits w64 lifted
      (omega (arith, of-sfits w32 z f, add-sides z (pos 2147483648), up_pos 2147483648, down_pos 2147483648, one_side lifted))
      (omega (arith, of-sfits w32 z f, add-sides z (pos 2147483648), up_pos 2147483648, down_pos 2147483648, one_side lifted))

  pub turn-fits : SFits w64 flipped
  turn-fits =
      to-sfits w64 flipped
      (omega (arith, of-sfits w32 z f, sub-sides (pos 2147483648) z, up_pos 2147483648, down_pos 2147483648, one_side flipped))
      (omega (arith, of-sfits w32 z f, sub-sides (pos 2147483648) z, up_pos 2147483648, down_pos 2147483648, one_side flipped))

  raise-low : down lifted ≡ 0
  raise-low = omega (arith, of-sfits w32 z f, add-sides z (pos 2147483648), up_pos 2147483648, down_pos 2147483648, one_side lifted)

  turn_low : down flipped ≡ 0
  turn_low = omega (arith, of-sfits w32 z f, sub-sides (pos 2147483648) z, up_pos 2147483648, down_pos 2147483648, one_side flipped)

  pub raise-is : nat_abs lifted ≡ raised z
  unfolding raised
  raise-is =
      omega (arith, of-sfits w32 z f, abs-sides lifted, raise-low, add-sides z (pos 2147483648), up_pos 2147483648, down_pos 2147483648)

  pub turn_is : nat_abs flipped ≡ raised (pos 0 -ℤ z)
  unfolding raised
  turn_is =
      omega (
        arith,
        of-sfits w32 z f,
        abs-sides flipped,
        turn_low,
        sub-sides (pos 2147483648) z,
        up_pos 2147483648,
        down_pos 2147483648,
        sub-sides (pos 0) z,
        up_pos 0,
        down_pos 0,
      )

  pub raise-most : nat_abs lifted ≤ 2 ^ 32
  raise-most =
      omega (arith, of-sfits w32 z f, abs-sides lifted, raise-low, add-sides z (pos 2147483648), up_pos 2147483648, down_pos 2147483648)

  pub turn-most : nat_abs flipped ≤ 2 ^ 32
  turn-most =
      omega (arith, of-sfits w32 z f, abs-sides flipped, turn_low, sub-sides (pos 2147483648) z, up_pos 2147483648, down_pos 2147483648)

not-below : (z : ℤ) → down z ≡ 0 → T (non_neg z)
unfolding down
not-below (pos n) e = tt
not-below (negsuc n) e = absurd (let x : ⊥ = omega (arith, e) in x)

pub raise-whole : (z : ℤ) → SFits w32 z → T (non_neg (z +ℤ pos 2147483648))
raise-whole z f = not-below _ (raise-low z f)

pub turn-whole : (z : ℤ) → SFits w32 z → T (non_neg (pos 2147483648 -ℤ z))
turn-whole z f = not-below _ (turn_low z f)

-- In which order they are

-- not further below zero than it is raised
abbrev pub High : ℤ → Type 0
High z = down z ≤ 2 ^ 31

pub high : (z : ℤ) → SFits w32 z → High z
high z f = (of-sfits w32 z f).1

pub high-turned : (z : ℤ) → SFits w32 z → High (pos 0 -ℤ z)
high-turned z f = omega (arith, of-sfits w32 z f, sub-sides (pos 0) z, up_pos 0, down_pos 0, one_side (pos 0 -ℤ z))

module _ (a b : ℤ) (h : High a) (k : High b) where
  pub raised-le : le_z a b ≡ leb (raised a) (raised b)
  unfolding raised
  raised-le =
      by (le_z a b)
      (λ e. by (leb (raised a) (raised b)) (λ g. e ∙ sym g)
      (λ g. absurd (let x : ⊥ = omega (arith, h, k, z_le-true a b e, leb-false (raised a) (raised b) g) in x)))
      (λ e. by (leb (raised a) (raised b))
      (λ g. absurd (let x : ⊥ = omega (arith, h, k, z_le-false a b e, leb-true (raised a) (raised b) g) in x)) (λ g. e ∙ sym g))

  pub raised_lt : lt_z a b ≡ ltb (raised a) (raised b)
  unfolding raised
  raised_lt =
      by (lt_z a b)
      (λ e. by (ltb (raised a) (raised b)) (λ g. e ∙ sym g)
      (λ g. absurd (let x : ⊥ = omega (arith, h, k, z_lt-true a b e, ltb-false (raised a) (raised b) g) in x)))
      (λ e. by (ltb (raised a) (raised b))
      (λ g. absurd (let x : ⊥ = omega (arith, h, k, z_lt-false a b e, ltb-true (raised a) (raised b) g) in x)) (λ g. e ∙ sym g))

  pub raised-eq : z_eq a b ≡ eqb (raised a) (raised b)
  unfolding raised
  raised-eq =
      by (z_eq a b)
      (λ e. e ∙ sym (eq-eqb (raised a) (raised b) (ap raised (z_eq-true a b e))))
      (λ e. by (eqb (raised a) (raised b))
      (λ g. let q : a ≡ b = eq_of a b (omega (arith, h, k, eqb-true (raised a) (raised b) g)) in
      differ (ap (λ (z : ℤ). z_eq z b) q ∙ z_eq-refl b) e) (λ g. e ∙ sym g))

  pub raised-min : raised (z_min a b) ≡ min (raised a) (raised b)
  unfolding raised
  raised-min = omega (arith, h, k, min-sides a b, one_side (z_min a b))

  pub raised-max : raised (z_max a b) ≡ max (raised a) (raised b)
  unfolding raised
  raised-max = omega (arith, h, k, max-sides a b, one_side (z_max a b))

  -- how far beyond
  pub raised-beyond : up (b -ℤ a) ≡ raised b - raised a
  unfolding raised
  raised-beyond = omega (arith, h, k, sub-sides b a, one_side (b -ℤ a))

-- Turned about zero

pub negated : (a b : ℤ) → z_eq (pos 0 -ℤ a) (pos 0 -ℤ b) ≡ z_eq a b
negated a b =
    by (z_eq a b)
    (λ e. let q = z_eq-true a b e in ap (λ (z : ℤ). z_eq (pos 0 -ℤ z) (pos 0 -ℤ b)) q ∙ z_eq-refl (pos 0 -ℤ b) ∙ sym e)
    (λ e. by (z_eq (pos 0 -ℤ a) (pos 0 -ℤ b))
    (λ g.
    let q = z_eq-true (pos 0 -ℤ a) (pos 0 -ℤ b) g in
    let u = ap up q in
    let d = ap down q in
    let w : a ≡ b = eq_of a b (omega (arith, u, d, sub-sides (pos 0) a, sub-sides (pos 0) b)) in
    differ (ap (λ (z : ℤ). z_eq z b) w ∙ z_eq-refl b) e)
    (λ g. g ∙ sym e))
