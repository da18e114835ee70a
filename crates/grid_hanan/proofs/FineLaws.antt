-- A net drawn d times as large: different numbers stay different, what is clear stays clear, and costs are d times as much.
-- Assumes nothing.
use mathlib.Core.Path.{◌≡◌, refl, sym, ap, ap₂, ◌∙◌}
use mathlib.Core.Bool.{true, false, not, ◌&&◌, ◌||◌}
use mathlib.Core.List.{List, [], ◌∷◌, map}
use Prim.Native.Nat.{ℕ, ◌+◌, ◌*◌, ◌≤◌}
use native.Mathlib.Nat.{add-mul, zero-mul, mul_comm, mul_assoc}
use native.Mathlib.Omega.{arith}
use lib.IntN.{ℤ, pos, ◌*ℤ◌}
use lib.Signed.{lt_z, le_z}
use Rattle.lists.specs.Any.{any}
use Rattle.lists.specs.Total.{total}
use Rattle.lists.proofs.TestLaws.{by}
use Rattle.signed.specs.Sides.{up, down, Le}
use Rattle.signed.specs.Order.{z_min, z_max}
use Rattle.signed.proofs.SideLaws.{z_lt-true, z_lt-false, z_le-true, z_le-false, lt-z_lt, le-z_lt, le-z_le, lt-z_le, eq_of, signed}
use Rattle.joined.specs.Pairs.{moved_pair}
use Rattle.joined.specs.Cost.{lengths}
use Rattle.plane.specs.declared.Place.{Place}
use Rattle.plane.specs.declared.Macro.{Macro}
use Rattle.plane.specs.declared.Weights.{Weights}
use Rattle.plane.specs.Distance.{apart}
use Rattle.plane.specs.Cost.{cost}
use Rattle.plane.specs.Macro.{span_meets, meets, clear}
use Rattle.plane.proofs.DistanceLaws.{apart-comm, apart-ordered}
use Rattle.lines.specs.Edges.{Edge}
use Rattle.interior.proofs.ScaleLaws.{times-sides, lt-times, le-times, times-le}
use Rattle.grid_hanan.specs.Fine.{fine_place, fine_macro}

module _ (d : ℕ) (some : 1 ≤ d) where
  abbrev large : ℤ → ℤ
  large z = z *ℤ pos d

  -- Numbers

  lt-fine : (a b : ℤ) → lt_z (large a) (large b) ≡ lt_z a b
  lt-fine a b =
      by (lt_z a b) (λ t. lt-z_lt (large a) (large b) (lt-times a b d some (z_lt-true a b t)) ∙ sym t)
      (λ t. le-z_lt (large a) (large b) (le-times b a d (z_lt-false a b t)) ∙ sym t)

  le-fine : (a b : ℤ) → le_z (large a) (large b) ≡ le_z a b
  le-fine a b =
      by (le_z a b) (λ t. le-z_le (large a) (large b) (le-times a b d (z_le-true a b t)) ∙ sym t)
      (λ t. lt-z_le (large a) (large b) (lt-times b a d some (z_le-false a b t)) ∙ sym t)

  min-fine : (a b : ℤ) → z_min (large a) (large b) ≡ large (z_min a b)
  unfolding z_min
  min-fine a b =
      by (le_z a b) (λ t. let s : le_z (large a) (large b) ≡ true = le-fine a b ∙ t in rw (z_min, s, t) refl)
      (λ t. let s : le_z (large a) (large b) ≡ false = le-fine a b ∙ t in rw (z_min, s, t) refl)

  max-fine : (a b : ℤ) → z_max (large a) (large b) ≡ large (z_max a b)
  unfolding z_max
  max-fine a b =
      by (le_z a b) (λ t. let s : le_z (large a) (large b) ≡ true = le-fine a b ∙ t in rw (z_max, s, t) refl)
      (λ t. let s : le_z (large a) (large b) ≡ false = le-fine a b ∙ t in rw (z_max, s, t) refl)

  pub large-same : (a b : ℤ) → large a ≡ large b → a ≡ b
  large-same a b e =
      let h : Le (large a) (large b) = rw e (omega signed) in
      let k : Le (large b) (large a) = rw e (omega signed) in
      eq_of a b (omega (signed, times-le a b d some h, times-le b a d some k))

  ordered-fine : (a b : ℤ) → Le a b → apart (large a) (large b) ≡ apart a b * d
  ordered-fine a b h =
      let e : (up a + down b + apart a b) * d ≡ (up b + down a) * d = ap (λ (n : ℕ). n * d) (apart-ordered a b h) in
      omega (
        arith,
        e,
        apart-ordered (large a) (large b) (le-times a b d h),
        times-sides a d,
        times-sides b d,
        add-mul (up a + down b) (apart a b) d,
        add-mul (up a) (down b) d,
        add-mul (up b) (down a) d,
      )

  apart-fine : (a b : ℤ) → apart (large a) (large b) ≡ apart a b * d
  apart-fine a b =
      by (le_z a b) (λ t. ordered-fine a b (z_le-true a b t))
      (λ t. apart-comm (large a) (large b) ∙ ordered-fine b a (omega (signed, t)) ∙ ap (λ (n : ℕ). n * d) (apart-comm b a))

  -- What is clear

  span-fine : (a b l r : ℤ) → span_meets (large a) (large b) (large l) (large r) ≡ span_meets a b l r
  unfolding span_meets
  span-fine a b l r =
      ap₂ ◌&&◌ (ap (λ (z : ℤ). lt_z z (large r)) (min-fine a b) ∙ lt-fine (z_min a b) r)
      (ap (lt_z (large l)) (max-fine a b) ∙ lt-fine l (z_max a b))

  any-fine : (a b : Place) (ms : List Macro) → any (meets (fine_place d a) (fine_place d b)) (map (fine_macro d) ms) ≡ any (meets a b) ms
  unfolding any meets
  any-fine a b [] = refl
  any-fine a b (m ∷ ms) =
      ap₂ ◌||◌ (ap₂ ◌&&◌ (span-fine a.x b.x m.left m.right) (span-fine a.y b.y m.bottom m.top)) (any-fine a b ms)

  pub clear-fine : (a b : Place) (ms : List Macro) → clear (fine_place d a) (fine_place d b) (map (fine_macro d) ms) ≡ clear a b ms
  unfolding clear
  clear-fine a b ms = ap not (any-fine a b ms)

  -- What it costs

  cost-fine : (w : Weights) (a b : Place) → cost w (fine_place d a) (fine_place d b) ≡ cost w a b * d
  unfolding cost
  cost-fine w a b =
      ap₂ ◌+◌
      (ap (λ (n : ℕ). n * w.across) (apart-fine a.x b.x) ∙ turn (apart a.x b.x) w.across)
      (ap (λ (n : ℕ). n * w.along) (apart-fine a.y b.y) ∙ turn (apart a.y b.y) w.along)
      ∙ sym (add-mul (apart a.x b.x * w.across) (apart a.y b.y * w.along) d)
    where
      turn : (m k : ℕ) → m * d * k ≡ m * k * d
      turn m k = mul_assoc m d k ∙ ap (λ (n : ℕ). m * n) (mul_comm d k) ∙ sym (mul_assoc m k d)

  pub lengths-fine : (w : Weights) (F : List Edge) → lengths (cost w) (map (moved_pair (fine_place d)) F) ≡ lengths (cost w) F * d
  unfolding lengths total
  lengths-fine w [] = sym (zero-mul d)
  lengths-fine w ((a, b) ∷ F) =
      ap₂ ◌+◌ (cost-fine w a b) (lengths-fine w F) ∙ sym (add-mul (cost w a b) (lengths (cost w) F) d)
