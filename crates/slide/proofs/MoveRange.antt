-- A bar that moves in a round stays in range: each of its points, and the distance.
-- Assumes nothing.
use mathlib.Core.Path.{◌≡◌, sym, ap, ◌∙◌}
use mathlib.Core.Bool.{Bool, true}
use mathlib.Core.Logic.{inl, inr}
use mathlib.Core.List.{List, ◌∷◌}
use Prim.Native.Nat.{◌*◌, ◌≤◌}
use native.Mathlib.Omega.{arith}
use lib.IntN.{ℤ, pos, ◌-ℤ◌}
use Rattle.lists.specs.Member.{◌∈◌}
use Rattle.lists.proofs.TestLaws.{by, either}
use Rattle.signed.specs.Sides.{up, down}
use Rattle.signed.proofs.SideLaws.{up_pos, down_pos, one_side, sub-sides}
use Rattle.plane.specs.declared.Place.{Place}
use Rattle.joined.specs.Joined.{Link}
use Rattle.net.specs.Net.{Net}
use Rattle.net.specs.Bounds.{coordinate_bound}
use Rattle.net.specs.Allowed.{PlaceInRange}
use Rattle.net.proofs.RangeBounds.{Near, in-range-near}
use Rattle.slide.specs.declared.Side.{Side}
use Rattle.slide.specs.declared.Side.TheVariants.{Above, Below, Right, Left}
use Rattle.slide.specs.declared.Move.{Move}
use Rattle.slide.specs.Side.{across, moved}
use Rattle.slide.specs.Bend.{Edge}
use Rattle.slide.specs.Bar.{on_bar}
use Rattle.slide.specs.Slide.{tree_points, moves, move_of, choice}
use Rattle.slide.specs.Promise.{State}
use Rattle.slide.proofs.BarLaws.{is-bar, is-allowed}
use Rattle.slide.proofs.RangeLaws.{leads, moved-within}
use Rattle.slide.proofs.InRange.{least_place, greatest_place, range-box, box-in-range}
use Rattle.slide.proofs.RoundLaws.{on-itself, one-bar, first-on-bar, no-saving, moves-parts, distance-stays, distance-moves}
use Rattle.slide.proofs.RoundLaws.{choice-has}
use Rattle.slide.proofs.StateLaws.{range-within}

turned-near : (z : ℤ) → Near z → Near (pos 0 -ℤ z)
turned-near z n =
    let u : up (pos 0) ≡ 0 = up_pos 0 in
    let d : down (pos 0) ≡ 0 = down_pos 0 in
    record {
      above = omega (arith, n, sub-sides (pos 0) z, one_side (pos 0 -ℤ z), one_side z, u, d);
      below = omega (arith, n, sub-sides (pos 0) z, one_side (pos 0 -ℤ z), one_side z, u, d);
    }

across-near : (s : Side) (p : Place) → PlaceInRange p → Near (across s p)
unfolding across
across-near Above p r = in-range-near p.y r.y
across-near Below p r = turned-near p.y (in-range-near p.y r.y)
across-near Right p r = in-range-near p.x r.x
across-near Left p r = turned-near p.x (in-range-near p.x r.x)

-- the distance is at most that of two coordinates, and the bar's points stay in range
pub record Carries (T : List Edge) (m : Move) : Type 0 where
  pub near : m.distance ≤ coordinate_bound * 2
  pub in-range : (p : Place) → on_bar m.side T m.first p ≡ true → PlaceInRange p → PlaceInRange (moved m.side m.distance p)

module _ {net : Net} {T : List Edge} (t : State net T) where
  ends-in-range : {p q : Place} → Link T p q → PlaceInRange p × PlaceInRange q
  ends-in-range (inl m) = t.in-range _ m
  ends-in-range (inr m) = let r = t.in-range _ m in (r.1, r.0)

  move-carries : (s : Side) (e : Edge) → e ∈ T → ((move_of net T s e).saving ≡ 0 → ⊥) → Carries T (move_of net T s e)
  unfolding move_of
  move-carries s e m saves =
      by (moves net T s e)
      (λ h.
      let p = moves-parts net T s e h in
      let r = distance-moves net T s e h in
      either (λ z. absurd (saves (no-saving s (on_bar s T e.0) net T _ z)))
      (λ ok.
      let on = on_bar s T e.0 in
      let X = tree_points net T in
      let bar = is-bar s net X T e.0 t.sound.inside (t.sound.inside e.0 e.1 m).0 p.0 in
      let far = is-allowed bar t.lines e.0 (on-itself s T e.0) _ r.0 ok in
      let g = leads s T on (omega (arith, p.1)) in
      let ends = ends-in-range g.edge in
      let a = across-near s g.near ends.0 in
      let b = across-near s g.away ends.1 in
      record {
        near = omega (arith, a, b, far.short g.near g.away g.edge g.point g.rises);
        in-range = λ q k i.
            box-in-range _
            (moved-within bar far g least_place greatest_place (range-within T t.in-range) q
            (sym (ap (λ (o : Place → Bool). o q) (one-bar s T e.0 _ (first-on-bar s T X e.0))) ∙ k)
            (range-box q i));
      })
      r.1)
      (λ h. absurd (saves (no-saving s (on_bar s T e.0) net T _ (distance-stays net T s e h))))

pub choice-carries : {net : Net} {e : Edge} {L : List Edge} → State net (e ∷ L) → ((choice net (e ∷ L) e L).saving ≡ 0 → ⊥) →
    Carries (e ∷ L) (choice net (e ∷ L) e L)
choice-carries {net} {e} {L} t =
    choice-has net (λ m. (m.saving ≡ 0 → ⊥) → Carries (e ∷ L) m) e L (move-carries t)
