-- What the check has counted: the code's struct of an allowed net says the net's numbers, and its weights are those handed over.
-- Assumes nothing.
use mathlib.Core.Path.{◌≡◌, sym, ap, subst}
use mathlib.Core.List.{List}
use Prim.Native.Nat.{◌+◌, ◌*◌, ◌≤◌}
use native.Mathlib.Omega.{arith}
use lib.IntN.{ℤ}
use Rattle.lent.specs.Told.{given}
use Rattle.plane.proofs.FlatLaws.{length-macros}
use Rattle.net.specs.declared.Net.{Net as Counts}
use Rattle.net.specs.Bounds.{pin_bound, macro_bound, point_bound}
use Rattle.net.specs.Pins.{pin_count, macro_count}
use Rattle.net.specs.declared.Weighing.{Weighing}
use Rattle.net.specs.Net.{net_of, net_with, handed}
use Rattle.net.specs.Counts.{point_count as counted_points}
use Rattle.net.specs.Allowed.{Allowed}
use Rattle.net.proofs.PinLaws.{length-pins}
use Rattle.checks.specs.Check.{checked}
use Rattle.checks.proofs.GivenLaws.{given-allowed, given-counts, handed-back}
use Rattle.made.specs.Counted.{Counted}

-- what the check gives is what was counted, of an allowed net
module _ (w : Weighing) (pins macros : List ℤ) {n : Counts} (g : checked w pins macros ≡ given n) where
  counted : Counted n w pins macros
  counted =
      let a = given-allowed w pins macros g in
      record { counts = given-counts w pins macros g; whole = a.0; allowed = a.1 }

  -- by the weights that it gives
  pub counted_of : Counted n (handed n.weights) pins macros
  counted_of = subst (λ (z : Weighing). Counted n z pins macros) (sym (handed-back w pins macros g)) counted

module _ {n : Counts} {w : Weighing} {pins macros : List ℤ} (c : Counted n w pins macros) where
  -- the net of its weights
  pub as-net : net_with n.weights pins macros ≡ net_of w pins macros
  as-net = ap (λ (k : Counts). net_with k.weights pins macros) c.counts

  pub as-allowed : Allowed (net_with n.weights pins macros)
  as-allowed = subst Allowed (sym as-net) c.allowed

  -- its numbers
  pub as-pins : n.pins ≡ pin_count pins
  as-pins = ap (λ (k : Counts). k.pins) c.counts

  pub as-points : counted_points n ≡ pin_count pins + macro_count macros * 4
  as-points = ap counted_points c.counts

  pub counts-few : (n.pins ≤ pin_bound) × (n.macros ≤ macro_bound)
  counts-few = (
    omega (arith, as-pins, c.allowed.few-pins, length-pins pins),
    omega (arith, ap (λ (k : Counts). k.macros) c.counts, c.allowed.few-macros, length-macros macros),
  )

  pub points-few : pin_count pins + macro_count macros * 4 ≤ point_bound
  points-few = omega (arith, c.allowed.few-pins, length-pins pins, c.allowed.few-macros, length-macros macros)
