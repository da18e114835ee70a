-- Weights as they are and as they are handed over: each gives back the other, and allowed weights pass.
-- Assumes nothing.
use mathlib.Core.Path.{◌≡◌, refl, sym, ap₂}
use mathlib.Core.Bool.{false}
use Rattle.signed.specs.Sides.{up}
use Rattle.lists.proofs.TestLaws.{or-none}
use Rattle.plane.specs.declared.Weights.{Weights}
use Rattle.net.specs.declared.Weighing.{Weighing}
use Rattle.net.specs.Net.{weighing, weights_of, handed}
use Rattle.net.specs.Tests.{no_weight, weights_wrong}
use Rattle.net.specs.Allowed.{Weighted}
use Rattle.net.proofs.AllowedLaws.{weight_is, within-weights}

pub weights-handed : (w : Weights) → weights_of (handed w) ≡ w
unfolding up
weights-handed w = refl

pub handed-weights : (w : Weighing) → weights_wrong w ≡ false → handed (weights_of w) ≡ w
unfolding weights_wrong
handed-weights w e =
    let r = or-none (no_weight w.first) (no_weight w.second) e in
    ap₂ weighing (sym (weight_is w.first r.0)) (sym (weight_is w.second r.1))

-- weights from 1 to 8 pass
pub weighted-passes : (w : Weights) → Weighted w → weights_wrong (handed w) ≡ false
unfolding up
weighted-passes w h = within-weights (handed w) h
