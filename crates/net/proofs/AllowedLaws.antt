-- What passes a test is allowed in words, and the other way: of one place, of one macro, and of weights and loads.
-- Assumes nothing.
use mathlib.Core.Path.{◌≡◌, ap}
use mathlib.Core.Bool.{false, not}
use Prim.Native.Nat.{◌≤◌}
use native.Mathlib.Omega.{arith}
use borrow.Author.Tests.{not-false}
use lib.IntN.{ℤ, pos}
use lib.Signed.{lt_z}
use Rattle.signed.specs.Sides.{up, down}
use Rattle.signed.proofs.SideLaws.{z_lt-false, le-z_lt, eq_of, up_pos, down_pos, one_side, signed}
use Rattle.lists.proofs.TestLaws.{or-none, or-neither}
use Rattle.plane.specs.declared.Place.{Place}
use Rattle.plane.specs.declared.Macro.{Macro}
use Rattle.plane.specs.Cost.{Positive}
use Rattle.net.specs.Bounds.{load_bound, weight_bound}
use Rattle.net.specs.declared.Weighing.{Weighing}
use Rattle.net.specs.Net.{Net, weights_of}
use Rattle.net.specs.Tests.{out_of_range, place_out, no_load, not_upright, no_weight, weights_wrong}
use Rattle.net.specs.Allowed.{PlaceInRange, MacroInRange, Upright, Weighted, Allowed}
use Rattle.net.proofs.RangeLaws.{macro_out}

-- the entries' own tests
pub upright-of : (m : Macro) → not_upright m ≡ false → Upright m
unfolding not_upright
upright-of m e =
    let r = or-none (not (lt_z m.left m.right)) (not (lt_z m.bottom m.top)) e in
    record { across = not-false _ r.0; along = not-false _ r.1 }

pub of-upright : (m : Macro) → Upright m → not_upright m ≡ false
unfolding not_upright
of-upright m u = or-neither _ _ (ap not u.across) (ap not u.along)

pub place_of : (p : Place) → place_out p ≡ false → PlaceInRange p
place_of p e = let r = or-none (out_of_range p.x) (out_of_range p.y) e in record { x = r.0; y = r.1 }

pub of-place : (p : Place) → PlaceInRange p → place_out p ≡ false
of-place p r = or-neither _ _ r.x r.y

pub macro-of : (m : Macro) → macro_out m ≡ false → MacroInRange m
macro-of m e =
    let a = or-none (out_of_range m.left) _ e in
    let b = or-none (out_of_range m.bottom) _ a.1 in
    let c = or-none (out_of_range m.right) _ b.1 in
    record { left = a.0; bottom = b.0; right = c.0; top = c.1 }

pub of-macro : (m : Macro) → MacroInRange m → macro_out m ≡ false
of-macro m r = or-neither _ _ r.left (or-neither _ _ r.bottom (or-neither _ _ r.right r.top))

-- C18: what passes for a weight is from 1 to 8, and all that is
module _ (z : ℤ) where
  pub weight-within : no_weight z ≡ false → (1 ≤ up z) × (up z ≤ weight_bound)
  unfolding no_weight
  weight-within e =
      let r = or-none (lt_z z (pos 1)) (lt_z (pos weight_bound) z) e in
      let low = z_lt-false z (pos 1) r.0 in
      let high = z_lt-false (pos weight_bound) z r.1 in
      (omega (signed, low, up_pos 1, down_pos 1, one_side z), omega (signed, high, up_pos weight_bound, down_pos weight_bound, one_side z))

  -- so it is a natural number
  pub weight_is : no_weight z ≡ false → z ≡ pos (up z)
  weight_is e = eq_of z (pos (up z)) (omega (arith, weight-within e, one_side z, up_pos (up z), down_pos (up z)))

  within-weight : 1 ≤ up z → up z ≤ weight_bound → no_weight z ≡ false
  unfolding no_weight
  within-weight h k =
      or-neither _ _ (le-z_lt z (pos 1) (omega (signed, h, up_pos 1, down_pos 1, one_side z)))
      (le-z_lt (pos weight_bound) z (omega (signed, k, up_pos weight_bound, down_pos weight_bound)))

-- C13: what passes for a load is a natural number, and small
module _ (z : ℤ) where
  pub load-within : no_load z ≡ false → (down z ≡ 0) × (up z ≤ load_bound)
  unfolding no_load
  load-within e =
      let r = or-none (lt_z z (pos 0)) (lt_z (pos load_bound) z) e in
      let low = z_lt-false z (pos 0) r.0 in
      let high = z_lt-false (pos load_bound) z r.1 in
      (omega (signed, low, up_pos 0, down_pos 0, one_side z), omega (signed, high, up_pos load_bound, down_pos load_bound, one_side z))

  pub load_is : no_load z ≡ false → z ≡ pos (up z)
  load_is e = eq_of z (pos (up z)) (omega (arith, load-within e, one_side z, up_pos (up z), down_pos (up z)))

-- C18, of both
module _ (w : Weighing) where
  pub weights-within : weights_wrong w ≡ false → Weighted (weights_of w)
  unfolding weights_wrong
  weights-within e =
      let r = or-none (no_weight w.first) (no_weight w.second) e in
      let a = weight-within w.first r.0 in
      let b = weight-within w.second r.1 in
      record { positive = record { across = a.0; along = b.0 }; across = a.1; along = b.1 }

  pub within-weights : Weighted (weights_of w) → weights_wrong w ≡ false
  unfolding weights_wrong
  within-weights h =
      or-neither _ _ (within-weight w.first h.positive.across h.across)
      (within-weight w.second h.positive.along h.along)

-- allowed weights are positive
pub allowed-positive : {net : Net} → Allowed net → Positive net.weights
allowed-positive a = a.weighted.positive
