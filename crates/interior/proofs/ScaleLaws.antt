-- Whole numbers times a denominator: both sides of a number are multiplied, so the order of two numbers is that of
-- their products.
-- Assumes nothing.
use mathlib.Core.Path.{◌≡◌, refl, sym, ap, ◌∙◌}
use Prim.Native.Nat.{ℕ, zero, suc, ◌*◌, ◌≤◌}
use native.Mathlib.Nat.{mul_comm, mul-le-mul_right, mul-lt-mul_of_pos_right}
use native.Mathlib.Nat.{le_of_mul-le-mul_right, lt_of_mul-lt-mul_right}
use native.Mathlib.Omega.{arith}
use lib.IntN.{ℤ, pos, negsuc, neg_ℤ, ◌*ℤ◌}
use Rattle.signed.specs.Sides.{up, down, Lt, Le}
use Rattle.signed.proofs.SideLaws.{eq_of}

-- the sides of -n
minus-sides : (n : ℕ) → (up (neg_ℤ (pos n)) ≡ 0) × (down (neg_ℤ (pos n)) ≡ n)
unfolding up down
minus-sides zero = (refl, refl)
minus-sides (suc n) = (refl, refl)

-- each side times d
pub times-sides : (z : ℤ) (d : ℕ) → (up (z *ℤ pos d) ≡ up z * d) × (down (z *ℤ pos d) ≡ down z * d)
unfolding up down
times-sides (pos n) d = (refl, omega arith)
times-sides (negsuc n) d = omega (arith, minus-sides (suc n * d))

-- a factor keeps the order, and is divided out of it
module _ (a b : ℤ) (d : ℕ) where
  pub lt-times : 1 ≤ d → Lt a b → Lt (a *ℤ pos d) (b *ℤ pos d)
  lt-times p h = omega (arith, times-sides a d, times-sides b d, mul-lt-mul_of_pos_right h p)

  pub le-times : Le a b → Le (a *ℤ pos d) (b *ℤ pos d)
  le-times h = omega (arith, times-sides a d, times-sides b d, mul-le-mul_right d h)

  pub times-lt : Lt (a *ℤ pos d) (b *ℤ pos d) → Lt a b
  times-lt h = lt_of_mul-lt-mul_right d (omega (arith, times-sides a d, times-sides b d))

  pub times-le : 1 ≤ d → Le (a *ℤ pos d) (b *ℤ pos d) → Le a b
  times-le p h = le_of_mul-le-mul_right (omega (arith, times-sides a d, times-sides b d)) p

-- times one factor and then another
pub times-times : (z : ℤ) (d e : ℕ) → z *ℤ pos d *ℤ pos e ≡ z *ℤ pos (d * e)
times-times z d e =
    let s = times-sides z d in
    let t = times-sides (z *ℤ pos d) e in
    eq_of _ _
    (omega (arith, t.0 ∙ ap (λ (n : ℕ). n * e) s.0, t.1 ∙ ap (λ (n : ℕ). n * e) s.1, times-sides z (d * e)))

pub times-swap : (z : ℤ) (d e : ℕ) → z *ℤ pos d *ℤ pos e ≡ z *ℤ pos e *ℤ pos d
times-swap z d e = times-times z d e ∙ ap (λ (n : ℕ). z *ℤ pos n) (mul_comm d e) ∙ sym (times-times z e d)

-- n / d and k / e are equal: whatever lies below or above the one lies so of the other
module _ (z n k : ℤ) (d e : ℕ) (s : n *ℤ pos e ≡ k *ℤ pos d) where
  pub lt-equal : 1 ≤ e → Lt (z *ℤ pos d) n → Lt (z *ℤ pos e) k
  lt-equal p h = times-lt _ k d (rw (times-swap z e d, ← s) (lt-times (z *ℤ pos d) n e p h))

  pub gt-equal : 1 ≤ e → Lt n (z *ℤ pos d) → Lt k (z *ℤ pos e)
  gt-equal p h = times-lt k _ d (rw (times-swap z e d, ← s) (lt-times n (z *ℤ pos d) e p h))

  pub le-equal : 1 ≤ d → Le (z *ℤ pos d) n → Le (z *ℤ pos e) k
  le-equal p h = times-le _ k d p (rw (times-swap z e d, ← s) (le-times (z *ℤ pos d) n e h))

  pub ge-equal : 1 ≤ d → Le n (z *ℤ pos d) → Le k (z *ℤ pos e)
  ge-equal p h = times-le k _ d p (rw (times-swap z e d, ← s) (le-times n (z *ℤ pos d) e h))
