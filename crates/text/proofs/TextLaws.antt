-- Digits, one by one, and how long numbers and lines are.
-- Assumes nothing.
use mathlib.Core.Path.{◌≡◌, refl, sym, ap, ◌∙◌}
use mathlib.Core.Bool.{true, false}
use mathlib.Core.List.{List, [], ◌∷◌, ◌++◌}
use Prim.Native.Nat.{ℕ, zero, suc, ◌+◌, ◌/◌, ◌%◌, ◌^◌, ◌≤◌, ◌<◌}
use native.Mathlib.Nat.{pow-suc}
use native.Mathlib.Omega.{arith}
use borrow.Author.Tests.{ltb-true, ltb-false, lt-ltb, le-ltb}
use lib.Dec.{ltb}
use lib.IntN.{ℤ, pos, negsuc, nat_abs}
use lib.ListN.{length, length-append}
use lib.Signed.{lt_z}
use mir.Syntax.{w64}
use mir.Val.{SFits}
use Rattle.lists.proofs.TestLaws.{by, differ}
use Rattle.signed.proofs.SideLaws.{one_side, of-sfits, abs-sides}
use Rattle.text.specs.Text.{digits_in, decimal, whole}

-- Digits

few-digits : (most n : ℕ) → n < 10 → digits_in (suc most) n ≡ (48 + n) ∷ []
unfolding digits_in
few-digits most n h = rw (lt-ltb n 10 h, digits_in) refl

more-digits : (most n : ℕ) → 10 ≤ n → digits_in (suc most) n ≡ digits_in most (n / 10) ++ ((48 + n % 10) ∷ [])
unfolding digits_in
more-digits most n h = rw (le-ltb n 10 h, digits_in) refl

-- the bound on the digits does not matter where it is above the number
enough : (f g n : ℕ) → n < f → n < g → digits_in f n ≡ digits_in g n
enough zero g n h k = absurd (let f : ⊥ = omega arith in f)
enough (suc f) zero n h k = absurd (let f : ⊥ = omega arith in f)
enough (suc f) (suc g) n h k =
    by (ltb n 10)
    (λ t. let l = ltb-true n 10 t in few-digits f n l ∙ sym (few-digits g n l))
    (λ t.
    let l = ltb-false n 10 t in
    more-digits f n l
    ∙ ap (λ (ds : List ℕ). ds ++ ((48 + n % 10) ∷ [])) (enough f g (n / 10) (omega arith) (omega arith))
    ∙ sym (more-digits g n l))

pub decimal-one : (n : ℕ) → n < 10 → decimal n ≡ (48 + n) ∷ []
unfolding decimal
decimal-one n h = few-digits n n h

pub decimal-more : (n : ℕ) → 10 ≤ n → decimal n ≡ decimal (n / 10) ++ ((48 + n % 10) ∷ [])
unfolding decimal
decimal-more n h =
    more-digits n n h ∙ ap (λ (ds : List ℕ). ds ++ ((48 + n % 10) ∷ [])) (enough n (suc (n / 10)) (n / 10) (omega arith) (omega arith))

-- Lengths

pub length-one : (n : ℕ) → n < 10 → length (decimal n) ≡ 1
length-one n h = ap length (decimal-one n h)

pub length_more : (n : ℕ) → 10 ≤ n → length (decimal n) ≡ length (decimal (n / 10)) + 1
length_more n h = ap length (decimal-more n h) ∙ length-append (decimal (n / 10)) ((48 + n % 10) ∷ [])

-- a number below a power of ten has no more digits than its exponent
pub decimal-short : (k n : ℕ) → n < 10 ^ suc k → length (decimal n) ≤ suc k
decimal-short zero n h = omega (arith, length-one n h)
decimal-short (suc k) n h =
    by (ltb n 10)
    (λ t. omega (arith, length-one n (ltb-true n 10 t)))
    (λ t. omega (arith, length_more n (ltb-false n 10 t), decimal-short k (n / 10) (omega (arith, pow-suc 10 (suc k)))))

-- Whole numbers

pub whole_below : (z : ℤ) → lt_z z (pos 0) ≡ true → whole z ≡ 45 ∷ decimal (nat_abs z)
unfolding whole
whole_below (pos n) e = differ e (le-ltb n 0 (omega arith))
whole_below (negsuc n) e = refl

pub whole_above : (z : ℤ) → lt_z z (pos 0) ≡ false → whole z ≡ decimal (nat_abs z)
unfolding whole
whole_above (pos n) e = refl
whole_above (negsuc n) e = differ refl e

-- an i64 is at most 2^63 from zero, which has 19 digits
pub far-short : (z : ℤ) → SFits w64 z → length (decimal (nat_abs z)) ≤ 19
far-short z f = decimal-short 18 (nat_abs z) (omega (arith, of-sfits w64 z f, abs-sides z, one_side z))
