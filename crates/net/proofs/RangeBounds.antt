-- A coordinate in range lies within a million of zero on either side, so two places in range are at most twice that
-- apart along either axis, and the weights of an allowed net bound what metal between them costs.
-- Assumes nothing.
use mathlib.Core.Path.{◌≡◌, refl}
use mathlib.Core.Bool.{false}
use Prim.Native.Nat.{◌*◌, ◌≤◌}
use native.Mathlib.Omega.{arith}
use lib.IntN.{ℤ, pos, neg_ℤ}
use lib.Signed.{lt_z}
use Rattle.lists.proofs.TestLaws.{or-none}
use Rattle.signed.specs.Sides.{up, down}
use Rattle.signed.proofs.SideLaws.{z_lt-false, up_pos, down_pos, one_side, signed}
use Rattle.plane.specs.declared.Place.{Place}
use Rattle.plane.specs.Distance.{apart}
use Rattle.plane.proofs.DistanceLaws.{apart-sides}
use Rattle.plane.proofs.CostLaws.{cost-parts}
use Rattle.net.specs.Bounds.{coordinate_bound, cost_bound}
use Rattle.net.specs.Net.{Net, cost_in}
use Rattle.net.specs.Tests.{out_of_range}
use Rattle.net.specs.Allowed.{PlaceInRange, Allowed}

-- N4: a coordinate is at most 1,000,000 from 0
pub record Near (z : ℤ) : Type 0 where
  pub above : up z ≤ coordinate_bound
  pub below : down z ≤ coordinate_bound

least-sides : (up (neg_ℤ (pos coordinate_bound)) ≡ 0) × (down (neg_ℤ (pos coordinate_bound)) ≡ coordinate_bound)
unfolding up down
least-sides = (refl, refl)

pub in-range-near : (z : ℤ) → out_of_range z ≡ false → Near z
unfolding out_of_range
in-range-near z e =
    let r = or-none (lt_z z (neg_ℤ (pos coordinate_bound))) (lt_z (pos coordinate_bound) z) e in
    let low = z_lt-false z (neg_ℤ (pos coordinate_bound)) r.0 in
    let high = z_lt-false (pos coordinate_bound) z r.1 in
    record {
      above = omega (signed, high, one_side z, up_pos coordinate_bound, down_pos coordinate_bound);
      below = omega (signed, low, one_side z, least-sides);
    }

apart-near : (a b : ℤ) → Near a → Near b → apart a b ≤ coordinate_bound * 2
apart-near a b m n = omega (signed, apart-sides a b)

pub cost-in-range : {net : Net} → Allowed net → (a b : Place) → PlaceInRange a → PlaceInRange b → cost_in net a b ≤ cost_bound
cost-in-range {net} h a b r s =
    let across = apart-near _ _ (in-range-near _ r.x) (in-range-near _ s.x) in
    let along = apart-near _ _ (in-range-near _ r.y) (in-range-near _ s.y) in
    omega (arith, cost-parts net.weights a b across along, h.weighted.across, h.weighted.along)
