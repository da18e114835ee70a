-- Masks as numbers and as tests: each is had from the other, and a number with its part taken off is its other half.
-- Assumes nothing.
use mathlib.Core.Path.{◌≡◌, refl, sym, ap, ap₂, subst, ◌∙◌}
use mathlib.Core.Bool.{Bool, true, false}
use mathlib.Core.List.{List, [], ◌∷◌}
use Prim.Native.Nat.{ℕ, zero, suc, ◌+◌, ◌*◌, ◌-◌, ◌/◌, ◌%◌, ◌^◌, ◌≤◌, ◌<◌}
use native.Mathlib.Nat.{two-pow-succ}
use native.Mathlib.Omega.{arith}
use borrow.Author.Tests.{leb-true, leb-false, le-leb, lt-leb}
use lib.Dec.{leb}
use lib.ListN.{length}
use Rattle.lists.proofs.TestLaws.{by, and_left, and_right, and_both}
use Rattle.best.specs.Masks.{Halves, none, left, right, neither}
use Rattle.parts.specs.Numbers.{bit, number, odd, bits_of, part_of}

pub bits-size : (m n : ℕ) → length (bits_of m n) ≡ m
unfolding bits_of
bits-size zero n = refl
bits-size (suc m) n = ap suc (bits-size m (n / 2))

odd-bit : (n : ℕ) → bit (odd n) ≡ n % 2
unfolding odd
odd-bit n = by (leb 1 (n % 2)) (λ e. rw e (omega (arith, leb-true 1 (n % 2) e))) (λ e. rw e (omega (arith, leb-false 1 (n % 2) e)))

pub number-bits : (m n : ℕ) → n < 2 ^ m → number (bits_of m n) ≡ n
unfolding number bits_of
number-bits zero n h = omega (arith, h)
number-bits (suc m) n h =
    let half : n / 2 < 2 ^ m = omega (arith, h) in
    omega (arith, odd-bit n, number-bits m (n / 2) half)

halve : (b : Bool) (n : ℕ) → ((bit b + 2 * n) / 2 ≡ n) × ((bit b + 2 * n) % 2 ≡ bit b)
halve true n = (omega arith, omega arith)
halve false n = (omega arith, omega arith)

odd-of : (b : Bool) (n : ℕ) → odd (bit b + 2 * n) ≡ b
unfolding odd
odd-of true n = le-leb 1 ((bit true + 2 * n) % 2) (omega arith)
odd-of false n = lt-leb 1 ((bit false + 2 * n) % 2) (omega arith)

pub bits-number : (bs : List Bool) → bits_of (length bs) (number bs) ≡ bs
unfolding number bits_of
bits-number [] = refl
bits-number (b ∷ bs) =
    ap₂ (λ (c : Bool) (l : List Bool). c ∷ l) (odd-of b (number bs)) (ap (bits_of (length bs)) (halve b (number bs)).0 ∙ bits-number bs)

pub number_small : (bs : List Bool) → number bs < 2 ^ length bs
unfolding number
number_small [] = omega arith
number_small (true ∷ bs) = omega (arith, number_small bs, two-pow-succ (length bs))
number_small (false ∷ bs) = omega (arith, number_small bs, two-pow-succ (length bs))

-- two halves add up, and each is a part
pub halves-sum : {s p q : List Bool} → Halves s p q → number p + number q ≡ number s
unfolding number
halves-sum none = refl
halves-sum (left h) = omega (arith, halves-sum h)
halves-sum (right h) = omega (arith, halves-sum h)
halves-sum (neither h) = omega (arith, halves-sum h)

-- one bit in front, of a part and of the whole
more-part : (m p s : ℕ) (b c : Bool) → bit b ≤ bit c → part_of m p s ≡ true → part_of (suc m) (bit b + 2 * p) (bit c + 2 * s) ≡ true
unfolding part_of
more-part m p s b c h k =
    let i : leb ((bit b + 2 * p) % 2) ((bit c + 2 * s) % 2) ≡ true = rw ((halve b p).1, (halve c s).1) (le-leb (bit b) (bit c) h) in
    let j : part_of m ((bit b + 2 * p) / 2) ((bit c + 2 * s) / 2) ≡ true = rw ((halve b p).0, (halve c s).0) k in
    and_both _ _ i j

pub halves-part : {s p q : List Bool} → Halves s p q → part_of (length s) (number p) (number s) ≡ true
unfolding number part_of
halves-part none = refl
halves-part (left {s = s} {bs = p} h) = more-part (length s) (number p) (number s) true true (omega arith) (halves-part h)
halves-part (right {s = s} {bs = p} h) = more-part (length s) (number p) (number s) false true (omega arith) (halves-part h)
halves-part (neither {s = s} {bs = p} h) = more-part (length s) (number p) (number s) false false (omega arith) (halves-part h)

-- a part and what is left without it
pub part-halves : (m p s : ℕ) → part_of m p s ≡ true → p ≤ s → Halves (bits_of m s) (bits_of m p) (bits_of m (s - p))
unfolding bits_of part_of odd
part-halves zero p s h k = none
part-halves (suc m) p s h k =
    let low = leb-true (p % 2) (s % 2) (and_left _ (part_of m (p / 2) (s / 2)) h) in
    let half : (s - p) / 2 ≡ s / 2 - p / 2 = omega (arith, low, k) in
    let ih = subst (λ (n : ℕ). Halves (bits_of m (s / 2)) (bits_of m (p / 2)) (bits_of m n)) (sym half)
    (part-halves m (p / 2) (s / 2) (and_right (leb (p % 2) (s % 2)) _ h) (omega (arith, k))) in
    by (leb 1 (s % 2))
    (λ e. by (leb 1 (p % 2))
    (λ f. let g : leb 1 ((s - p) % 2) ≡ false = lt-leb 1 ((s - p) % 2) (omega (arith, k, leb-true 1 (s % 2) e, leb-true 1 (p % 2) f)) in
    rw (e, f, g) (left ih))
    (λ f. let g : leb 1 ((s - p) % 2) ≡ true = le-leb 1 ((s - p) % 2) (omega (arith, k, leb-true 1 (s % 2) e, leb-false 1 (p % 2) f)) in
    rw (e, f, g) (right ih)))
    (λ e. let f : leb 1 (p % 2) ≡ false = lt-leb 1 (p % 2) (omega (arith, low, leb-false 1 (s % 2) e)) in
    let g : leb 1 ((s - p) % 2) ≡ false = lt-leb 1 ((s - p) % 2) (omega (arith, k, leb-false 1 (s % 2) e, leb-false 1 (p % 2) f)) in
    rw (e, f, g) (neither ih))
