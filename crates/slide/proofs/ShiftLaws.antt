-- What a shift makes of each edge: it stays axis-parallel and clear, and its cost falls by the distance if it hangs on the side, rises by
-- it if it hangs on the other, and stays otherwise.
-- Assumes nothing.
use mathlib.Core.Path.{◌≡◌, refl, sym, ap, ap₂, ◌∙◌}
use mathlib.Core.Bool.{Bool, true, false, ◌&&◌, or_comm}
use mathlib.Core.Logic.{inl, inr}
use mathlib.Core.List.{List, [], ◌∷◌}
use Prim.Native.Nat.{ℕ, ◌+◌, ◌*◌, ◌≤◌}
use native.Mathlib.Nat.{mul-add}
use native.Mathlib.Omega.{arith}
use lib.IntN.{ℤ}
use lib.Signed.{lt_z}
use Rattle.lists.specs.Member.{◌∈◌, here}
use Rattle.lists.proofs.TestLaws.{by}
use Rattle.signed.specs.Sides.{up, down, Lt, Le}
use Rattle.signed.proofs.SideLaws.{lt-z_lt, le-z_lt, eq_of, signed}
use Rattle.plane.specs.declared.Place.{Place}
use Rattle.plane.specs.Distance.{apart}
use Rattle.plane.specs.Macro.{clear}
use Rattle.plane.specs.Box.{InBox}
use Rattle.plane.proofs.DistanceLaws.{apart-ordered, apart-comm, apart-self}
use Rattle.plane.proofs.MacroLaws.{clear_comm}
use Rattle.plane.proofs.BoxLaws.{last-in-box, clear_within}
use Rattle.joined.specs.Joined.{Link}
use Rattle.net.specs.Net.{Net, cost_in}
use Rattle.slide.specs.declared.Side.{Side}
use Rattle.slide.specs.Side.{along, across, moved, weight, weight_along}
use Rattle.slide.specs.Bend.{Edge, straight}
use Rattle.slide.specs.Bar.{ahead, behind}
use Rattle.slide.specs.Slide.{shift}
use Rattle.slide.specs.Bars.{IsBar, Allowed}
use Rattle.slide.proofs.GlueLaws.{UprightAll, glue}
use Rattle.plane.proofs.CostLaws.{cost-comm}
use Rattle.slide.proofs.BendLaws.{straight-comm}
use Rattle.slide.proofs.AcrossLaws.{along-moved, across-moved, in-box, cost-by, upright-line, level-line, line-straight}
use Rattle.slide.proofs.EdgeLaws.{shift-on, shift-off, Hangs, Hanging, rises, falls, hang, Kind, bar, first, second, other}

-- Le of equal numbers
pub le-eq : (a b : ℤ) → a ≡ b → Le a b
le-eq a b e = rw e (omega signed)

module _ {s : Side} {on : Place → Bool} {net : Net} {X : List Place} {T : List Edge} (c : IsBar s net X T on)
    (upright : UprightAll net.macros) {f l : Place} {d : ℕ} (w : Allowed s net X T on f l d) where
  -- the box that is swept holds each point of the bar, before and after
  pub start-in-box : (p : Place) → on p ≡ true → InBox p f (moved s d l)
  start-in-box p e =
      let h = w.covers p e in
      let k = across-moved s d l in
      let up_to_lem = c.flat p e ∙ sym (c.flat f w.first_on) in
      let level = c.flat p e ∙ sym (c.flat l w.last_on) in
      in-box s p f (moved s d l) h.0 (rw (along-moved s d l) h.1) (le-eq _ _ (sym up_to_lem))
      (let g = ap up level in let i = ap down level in omega (signed, k))

  pub moved-in-box : (p : Place) → on p ≡ true → InBox (moved s d p) f (moved s d l)
  moved-in-box p e =
      let h = w.covers p e in
      let k = across-moved s d l in
      let j = across-moved s d p in
      let up_to_lem = c.flat p e ∙ sym (c.flat f w.first_on) in
      let level = c.flat p e ∙ sym (c.flat l w.last_on) in
      let p0 = ap up up_to_lem in
      let p1 = ap down up_to_lem in
      let g = ap up level in
      let i = ap down level in
      in-box s (moved s d p) f (moved s d l)
      (rw (along-moved s d p) h.0) (rw (along-moved s d p, along-moved s d l) h.1) (omega (signed, j)) (omega (signed, k, j))

  -- a hanging edge
  module _ (a b : Place) where
    hung-clear : Link T a b → Hanging s on a b → clear a b net.macros ≡ true → clear (moved s d a) b net.macros ≡ true
    hung-clear e (rises h k) o =
        let j = across-moved s d a in
        let t = w.short a b e h.near k in
        clear_within (moved s d a) b a b
        (in-box s (moved s d a) a b
        (le-eq _ _ (sym (along-moved s d a))) (le-eq _ _ (along-moved s d a ∙ h.line)) (omega (arith, j)) (omega (arith, j, t)))
        (last-in-box a b) net.macros o
    hung-clear e (falls h k) o =
        let j = across-moved s d a in
        let lower : clear b a net.macros ≡ true = clear_comm b a net.macros ∙ o in
        let upper : clear a (moved s d a) net.macros ≡ true =
        clear_within a (moved s d a) f (moved s d l) (start-in-box a h.near) (moved-in-box a h.near) net.macros w.empty
        in
        let i : InBox a b (moved s d a) =
        in-box s a b (moved s d a)
        (le-eq _ _ (sym h.line)) (le-eq _ _ (sym (along-moved s d a))) (omega (arith, k)) (omega (arith, j))
        in
        clear_comm (moved s d a) b net.macros
        ∙ glue net.macros upright b a (moved s d a) i lower upper
        (upright-line s b (moved s d a) (sym h.line ∙ sym (along-moved s d a)))

  pub shift-clear : (a b : Place) → (a, b) ∈ T → Kind s on a b → clear a b net.macros ≡ true → clear (shift s on d a) (shift s on d b)
      net.macros ≡ true
  shift-clear a b m (bar e g q) o =
      rw (shift-on s on d a e, shift-on s on d b g)
      (clear_within (moved s d a) (moved s d b) f (moved s d l) (moved-in-box a e) (moved-in-box b g) net.macros w.empty)
  shift-clear a b m (first h) o =
      rw (shift-on s on d a (hang s on h).near, shift-off s on d b (hang s on h).away) (hung-clear a b (inl m) h o)
  shift-clear a b m (second h) o =
      rw (shift-off s on d a (hang s on h).away, shift-on s on d b (hang s on h).near)
      (clear_comm a (moved s d b) net.macros ∙ hung-clear b a (inr m) h (clear_comm b a net.macros ∙ o))
  shift-clear a b m (other e g) o = rw (shift-off s on d a e, shift-off s on d b g) o

-- Axis-parallel

module _ (s : Side) (on : Place → Bool) (d : ℕ) where
  pub moved-level : (a b : Place) → across s a ≡ across s b → across s (moved s d a) ≡ across s (moved s d b)
  moved-level a b q =
      let g = ap up q in
      let i = ap down q in
      eq_of _ _ (omega (signed, across-moved s d a, across-moved s d b))

  moved-upright : (a b : Place) → along s a ≡ along s b → straight (moved s d a, b) ≡ true
  moved-upright a b q = line-straight _ _ (upright-line s (moved s d a) b (along-moved s d a ∙ q))

  pub shift-straight : (a b : Place) → Kind s on a b → straight (a, b) ≡ true → straight (shift s on d a, shift s on d b) ≡ true
  shift-straight a b (bar e g q) o =
      rw (shift-on s on d a e, shift-on s on d b g) (line-straight _ _ (level-line s (moved s d a) (moved s d b) (moved-level a b q)))
  shift-straight a b (first h) o =
      rw (shift-on s on d a (hang s on h).near, shift-off s on d b (hang s on h).away) (moved-upright a b (hang s on h).line)
  shift-straight a b (second h) o =
      rw (shift-off s on d a (hang s on h).away, shift-on s on d b (hang s on h).near)
      (straight-comm a (moved s d b) ∙ moved-upright b a (hang s on h).line)
  shift-straight a b (other e g) o = rw (shift-off s on d a e, shift-off s on d b g) o

-- The cost

-- whichever end is named first
ahead-comm : (s : Side) (on : Place → Bool) (a b : Place) → ahead s on (a, b) ≡ ahead s on (b, a)
unfolding ahead
ahead-comm s on a b = or_comm (on a && lt_z (across s a) (across s b)) (on b && lt_z (across s b) (across s a))

behind-comm : (s : Side) (on : Place → Bool) (a b : Place) → behind s on (a, b) ≡ behind s on (b, a)
unfolding behind
behind-comm s on a b = or_comm (on a && lt_z (across s b) (across s a)) (on b && lt_z (across s a) (across s b))

module _ (net : Net) (s : Side) (on : Place → Bool) (d : ℕ) where
  -- what becomes of the cost of an edge
  pub data Change (a b : Place) : Type 0 where
    less : ahead s on (a, b) ≡ true → behind s on (a, b) ≡ false →
        cost_in net (shift s on d a) (shift s on d b) + weight net s * d ≡ cost_in net a b → Change a b
    more : ahead s on (a, b) ≡ false → behind s on (a, b) ≡ true →
        cost_in net (shift s on d a) (shift s on d b) ≡ cost_in net a b + weight net s * d → Change a b
    none : ahead s on (a, b) ≡ false → behind s on (a, b) ≡ false →
        cost_in net (shift s on d a) (shift s on d b) ≡ cost_in net a b → Change a b

  change-comm : (a b : Place) → Change b a → Change a b
  change-comm a b (less h k e) =
      less (ahead-comm s on a b ∙ h) (behind-comm s on a b ∙ k)
      (rw (cost-comm net.weights a b, cost-comm net.weights (shift s on d a) (shift s on d b)) e)
  change-comm a b (more h k e) =
      more (ahead-comm s on a b ∙ h) (behind-comm s on a b ∙ k)
      (rw (cost-comm net.weights a b, cost-comm net.weights (shift s on d a) (shift s on d b)) e)
  change-comm a b (none h k e) =
      none (ahead-comm s on a b ∙ h) (behind-comm s on a b ∙ k)
      (rw (cost-comm net.weights a b, cost-comm net.weights (shift s on d a) (shift s on d b)) e)

  -- the tests of an edge that hangs from a
  module _ (a b : Place) (h : Hangs s on a b) where
    tests-up : Lt (across s a) (across s b) → (ahead s on (a, b) ≡ true) × (behind s on (a, b) ≡ false)
    unfolding ahead behind
    tests-up k =
        let x = lt-z_lt (across s a) (across s b) k in
        let y : lt_z (across s b) (across s a) ≡ false = le-z_lt (across s b) (across s a) (omega (arith, k)) in
        (rw (h.near, h.away, x) refl, rw (h.near, h.away, y) refl)

    tests-down : Lt (across s b) (across s a) → (ahead s on (a, b) ≡ false) × (behind s on (a, b) ≡ true)
    unfolding ahead behind
    tests-down k =
        let x = lt-z_lt (across s b) (across s a) k in
        let y : lt_z (across s a) (across s b) ≡ false = le-z_lt (across s a) (across s b) (omega (arith, k)) in
        (rw (h.near, h.away, y) refl, rw (h.near, h.away, x) refl)

    -- the cost, once one end has moved
    cost-moved : cost_in net (moved s d a) b ≡ weight_along net s * apart (along s a) (along s b) + weight net s * apart
        (across s (moved s d a)) (across s b)
    cost-moved = cost-by net s (moved s d a) b ∙ rw (along-moved s d a) refl

  hang-change : (a b : Place) → (Lt (across s a) (across s b) → d + (up (across s a) + down (across s b)) ≤ up (across s b) + down
      (across s a)) →
      Hanging s on a b → Change a b
  hang-change a b short (rises h k) =
      let t = tests-up a b h k in
      let j = across-moved s d a in
      let i = short k in
      let e : apart (across s (moved s d a)) (across s b) + d ≡ apart (across s a) (across s b) =
      omega (
        arith,
        apart-ordered (across s a) (across s b) (omega (arith, k)),
        apart-ordered (across s (moved s d a)) (across s b) (omega (arith, i, j)),
      )
      in
      let g = ap (λ (n : ℕ). weight net s * n) e in
      less t.0 t.1
      (rw (shift-on s on d a h.near, shift-off s on d b h.away)
      (omega (arith, cost-moved a b h, cost-by net s a b, mul-add (weight net s) (apart (across s (moved s d a)) (across s b)) d)))
  hang-change a b short (falls h k) =
      let t = tests-down a b h k in
      let j = across-moved s d a in
      let e : apart (across s (moved s d a)) (across s b) ≡ apart (across s a) (across s b) + d =
      omega (
        arith,
        apart-ordered (across s b) (across s a) (omega (arith, k)),
        apart-comm (across s a) (across s b),
        apart-ordered (across s b) (across s (moved s d a)) (omega (arith, k, j)),
        apart-comm (across s (moved s d a)) (across s b),
      )
      in
      let g = ap (λ (n : ℕ). weight net s * n) e in
      more t.0 t.1
      (rw (shift-on s on d a h.near, shift-off s on d b h.away)
      (omega (arith, cost-moved a b h, cost-by net s a b, mul-add (weight net s) (apart (across s a) (across s b)) d)))

  -- edges of the bar cost what they did
  bar-cost : (a b : Place) → across s a ≡ across s b → cost_in net (moved s d a) (moved s d b) ≡ cost_in net a b
  bar-cost a b q =
      cost-by net s (moved s d a) (moved s d b)
      ∙ ap₂ (λ (m n : ℕ). weight_along net s * m + weight net s * n)
      (ap₂ apart (along-moved s d a) (along-moved s d b))
      (ap (apart (across s (moved s d a))) (sym (moved-level s on d a b q)) ∙ apart-self _ ∙ sym
      (ap (apart (across s a)) (sym q) ∙ apart-self _))
      ∙ sym (cost-by net s a b)

  level-tests : (a b : Place) → across s a ≡ across s b → (ahead s on (a, b) ≡ false) × (behind s on (a, b) ≡ false)
  unfolding ahead behind
  level-tests a b q =
      let x : lt_z (across s a) (across s b) ≡ false = rw q (le-z_lt (across s b) (across s b) (omega arith)) in
      let y : lt_z (across s b) (across s a) ≡ false = rw q (le-z_lt (across s b) (across s b) (omega arith)) in (
        rw (x, y) (by (on a) (λ e. by (on b) (λ g. rw (e, g) refl) (λ g. rw (e, g) refl))
            (λ e. by (on b) (λ g. rw (e, g) refl) (λ g. rw (e, g) refl))),
        rw (x, y) (by (on a) (λ e. by (on b) (λ g. rw (e, g) refl) (λ g. rw (e, g) refl))
            (λ e. by (on b) (λ g. rw (e, g) refl) (λ g. rw (e, g) refl))),
      )

  off-tests : (a b : Place) → on a ≡ false → on b ≡ false → (ahead s on (a, b) ≡ false) × (behind s on (a, b) ≡ false)
  unfolding ahead behind
  off-tests a b e g = (rw (e, g) refl, rw (e, g) refl)

  pub change : (a b : Place) → ((p q : Place) → Link ((a, b) ∷ []) p q → on p ≡ true → Lt (across s p) (across s q) →
      d + (up (across s p) + down (across s q)) ≤ up (across s q) + down (across s p)) → Kind s on a b → Change a b
  change a b short (bar e g q) =
      let t = level-tests a b q in none t.0 t.1 (rw (shift-on s on d a e, shift-on s on d b g) (bar-cost a b q))
  change a b short (first h) = hang-change a b (short a b (inl (here refl)) (hang s on h).near) h
  change a b short (second h) = change-comm a b (hang-change b a (short b a (inr (here refl)) (hang s on h).near) h)
  change a b short (other e g) =
      let t = off-tests a b e g in none t.0 t.1 (rw (shift-off s on d a e, shift-off s on d b g) refl)
