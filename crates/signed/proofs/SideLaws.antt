-- What `omega` needs to read whole numbers: each test of ℤ is an order of the two numbers' sides, and sums, differences and absolute
-- values are equations of sides. The ruleset `signed` holds the laws of the tests.
-- Assumes nothing.
use mathlib.Core.Path.{◌≡◌, refl, ap}
use mathlib.Core.Bool.{Bool, true, false}
use Prim.Native.Nat.{ℕ, zero, suc, ◌+◌, ◌^◌, ◌≤◌, ◌<◌, min}
use native.Mathlib.Omega.{arith}
use lib.IntN.{ℤ, pos, negsuc, neg_ℤ, nat_abs, sub_ℕ, ◌+ℤ◌, ◌-ℤ◌}
use lib.Signed.{lt_z, le_z}
use lib.Dec.{ltb}
use borrow.Author.Tests.{ltb-true, ltb-false, leb-true, leb-false, lt-ltb, le-ltb, le-leb, lt-leb}
use mir.Syntax.{Width}
use mir.Val.{SFits, hbits}
use Rattle.signed.specs.Sides.{up, down}

pub one_side : (z : ℤ) → min (up z) (down z) ≡ 0
unfolding up down
one_side (pos n) = omega arith
one_side (negsuc n) = omega arith

pub z_lt-true : (a b : ℤ) → lt_z a b ≡ true → up a + down b < up b + down a
unfolding up down
z_lt-true (pos a) (pos b) e = omega (arith, ltb-true)
z_lt-true (pos a) (negsuc b) e = let z : ◌≡◌ {A = ℕ} 0 1 = cc in omega arith
z_lt-true (negsuc a) (pos b) e = omega arith
z_lt-true (negsuc a) (negsuc b) e = omega (arith, ltb-true)

pub z_lt-false : (a b : ℤ) → lt_z a b ≡ false → up b + down a ≤ up a + down b
unfolding up down
z_lt-false (pos a) (pos b) e = omega (arith, ltb-false)
z_lt-false (pos a) (negsuc b) e = omega arith
z_lt-false (negsuc a) (pos b) e = let z : ◌≡◌ {A = ℕ} 0 1 = cc in omega arith
z_lt-false (negsuc a) (negsuc b) e = omega (arith, ltb-false)

pub z_le-true : (a b : ℤ) → le_z a b ≡ true → up a + down b ≤ up b + down a
unfolding up down
z_le-true (pos a) (pos b) e = omega (arith, leb-true)
z_le-true (pos a) (negsuc b) e = let z : ◌≡◌ {A = ℕ} 0 1 = cc in omega arith
z_le-true (negsuc a) (pos b) e = omega arith
z_le-true (negsuc a) (negsuc b) e = omega (arith, leb-true)

pub z_le-false : (a b : ℤ) → le_z a b ≡ false → up b + down a < up a + down b
unfolding up down
z_le-false (pos a) (pos b) e = omega (arith, leb-false)
z_le-false (pos a) (negsuc b) e = omega arith
z_le-false (negsuc a) (pos b) e = let z : ◌≡◌ {A = ℕ} 0 1 = cc in omega arith
z_le-false (negsuc a) (negsuc b) e = omega (arith, leb-false)

pub lt-z_lt : (a b : ℤ) → up a + down b < up b + down a → lt_z a b ≡ true
unfolding up down
lt-z_lt (pos a) (pos b) h = lt-ltb a b (omega arith)
lt-z_lt (pos a) (negsuc b) h = absurd (let f : ⊥ = omega arith in f)
lt-z_lt (negsuc a) (pos b) h = refl
lt-z_lt (negsuc a) (negsuc b) h = lt-ltb b a (omega arith)

pub le-z_lt : (a b : ℤ) → up b + down a ≤ up a + down b → lt_z a b ≡ false
unfolding up down
le-z_lt (pos a) (pos b) h = le-ltb a b (omega arith)
le-z_lt (pos a) (negsuc b) h = refl
le-z_lt (negsuc a) (pos b) h = absurd (let f : ⊥ = omega arith in f)
le-z_lt (negsuc a) (negsuc b) h = le-ltb b a (omega arith)

pub le-z_le : (a b : ℤ) → up a + down b ≤ up b + down a → le_z a b ≡ true
unfolding up down
le-z_le (pos a) (pos b) h = le-leb a b (omega arith)
le-z_le (pos a) (negsuc b) h = absurd (let f : ⊥ = omega arith in f)
le-z_le (negsuc a) (pos b) h = refl
le-z_le (negsuc a) (negsuc b) h = le-leb b a (omega arith)

pub lt-z_le : (a b : ℤ) → up b + down a < up a + down b → le_z a b ≡ false
unfolding up down
lt-z_le (pos a) (pos b) h = lt-leb a b (omega arith)
lt-z_le (pos a) (negsuc b) h = refl
lt-z_le (negsuc a) (pos b) h = absurd (let f : ⊥ = omega arith in f)
lt-z_le (negsuc a) (negsuc b) h = lt-leb b a (omega arith)

pub eq_of : (a b : ℤ) → up a + down b ≡ up b + down a → a ≡ b
unfolding up down
eq_of (pos a) (pos b) h = ap pos (omega arith)
eq_of (pos a) (negsuc b) h = absurd (let f : ⊥ = omega arith in f)
eq_of (negsuc a) (pos b) h = absurd (let f : ⊥ = omega arith in f)
eq_of (negsuc a) (negsuc b) h = ap negsuc (omega arith)

subℕ-at : (a b : ℕ) (t : Bool) → ltb a b ≡ t → up (sub_ℕ a b) + b ≡ a + down (sub_ℕ a b)
unfolding up down
subℕ-at a b true e = rw e (omega (arith, ltb-true))
subℕ-at a b false e = rw e (omega (arith, ltb-false))

subℕ-sides : (a b : ℕ) → up (sub_ℕ a b) + b ≡ a + down (sub_ℕ a b)
subℕ-sides a b = subℕ-at a b (ltb a b) refl

pub add-sides : (a b : ℤ) → up (a +ℤ b) + (down a + down b) ≡ (up a + up b) + down (a +ℤ b)
unfolding up down
add-sides (pos a) (pos b) = omega arith
add-sides (pos a) (negsuc b) = omega (arith, subℕ-sides a (suc b))
add-sides (negsuc a) (pos b) = omega (arith, subℕ-sides b (suc a))
add-sides (negsuc a) (negsuc b) = omega arith

neg-sides : (a : ℤ) → (up (neg_ℤ a) ≡ down a) × (down (neg_ℤ a) ≡ up a)
unfolding up down
neg-sides (pos zero) = (refl, refl)
neg-sides (pos (suc n)) = (refl, refl)
neg-sides (negsuc n) = (refl, refl)

pub sub-sides : (a b : ℤ) → up (a -ℤ b) + (down a + up b) ≡ (up a + down b) + down (a -ℤ b)
sub-sides a b = omega (arith, add-sides a (neg_ℤ b), neg-sides b)

pub abs-sides : (z : ℤ) → nat_abs z ≡ up z + down z
unfolding up down
abs-sides (pos n) = omega arith
abs-sides (negsuc n) = omega arith

-- a bound of a width, both ways
pub of-sfits : (w : Width) (z : ℤ) → SFits w z → (up z < 2 ^ hbits w) × (down z ≤ 2 ^ hbits w)
unfolding up down
of-sfits w (pos n) f = (f.sfits, omega arith)
of-sfits w (negsuc n) f = (omega (arith, f.sfits), f.sfits)

pub to-sfits : (w : Width) (z : ℤ) → up z < 2 ^ hbits w → down z ≤ 2 ^ hbits w → SFits w z
unfolding up down
to-sfits w (pos n) h k = record { sfits = h }
to-sfits w (negsuc n) h k = record { sfits = k }

pub up_pos : (n : ℕ) → up (pos n) ≡ n
unfolding up
up_pos n = refl

pub down_pos : (n : ℕ) → down (pos n) ≡ 0
unfolding down
down_pos n = refl

-- `omega (signed, facts)` reads and proves tests of whole numbers
pub ruleset signed = (arith, z_lt-true, z_lt-false, z_le-true, z_le-false, lt-z_lt, le-z_lt, le-z_le, lt-z_le, eq_of)
