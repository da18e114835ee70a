-- Each edge with an end on the bar is an edge of the bar or hangs from it, on one side or the other; and what a shift makes of each kind.
-- Assumes nothing.
use mathlib.Core.Path.{◌≡◌, refl, sym, ◌∙◌}
use mathlib.Core.Bool.{Bool, true, false, ◌||◌}
use mathlib.Core.Logic.{◌⊎◌, inl, inr}
use mathlib.Core.List.{List}
use Prim.Native.Nat.{ℕ}
use lib.Signed.{lt_z}
use Rattle.lists.specs.Member.{◌∈◌}
use Rattle.lists.proofs.TestLaws.{by, differ, either}
use Rattle.signed.specs.Sides.{Lt}
use Rattle.signed.proofs.SideLaws.{z_lt-true, z_lt-false, eq_of, signed}
use Rattle.plane.specs.declared.Place.{Place}
use Rattle.joined.specs.Joined.{Link}
use Rattle.net.specs.Net.{Net}
use Rattle.slide.specs.declared.Side.{Side}
use Rattle.slide.specs.Side.{along, across, moved}
use Rattle.slide.specs.Bend.{Edge, straight}
use Rattle.slide.specs.Bar.{level, of_bar, hangs}
use Rattle.slide.specs.Slide.{shift}
use Rattle.slide.specs.Bars.{IsBar}
use Rattle.slide.proofs.BendLaws.{straight-comm}
use Rattle.slide.proofs.AcrossLaws.{upright-or-level, true-level, level-true}

module _ (s : Side) (on : Place → Bool) (d : ℕ) where
  pub shift-on : (p : Place) → on p ≡ true → shift s on d p ≡ moved s d p
  unfolding shift
  shift-on p e = rw (shift, e) refl

  pub shift-off : (p : Place) → on p ≡ false → shift s on d p ≡ p
  unfolding shift
  shift-off p e = rw (shift, e) refl

module _ (s : Side) (on : Place → Bool) where
  -- an edge that hangs from its end a on the bar: its other end is not on the bar, and at right angles to it
  pub record Hangs (a b : Place) : Type 0 where
    pub near : on a ≡ true
    pub away : on b ≡ false
    pub line : along s a ≡ along s b

  -- on the side or on the other
  pub data Hanging (a b : Place) : Type 0 where
    rises : Hangs a b → Lt (across s a) (across s b) → Hanging a b
    falls : Hangs a b → Lt (across s b) (across s a) → Hanging a b

  pub hang : {a b : Place} → Hanging a b → Hangs a b
  hang (rises h k) = h
  hang (falls h k) = h

  -- of the bar, hanging from the first end or from the second, or with no end on the bar
  pub data Kind (a b : Place) : Type 0 where
    bar : on a ≡ true → on b ≡ true → across s a ≡ across s b → Kind a b
    first : Hanging a b → Kind a b
    second : Hanging b a → Kind a b
    other : on a ≡ false → on b ≡ false → Kind a b

  module _ {net : Net} {X : List Place} {T : List Edge} (c : IsBar s net X T on) where
    -- an end on the bar, the other not
    hangs-from : (a b : Place) → Link T a b → straight (a, b) ≡ true → on a ≡ true → on b ≡ false → Hanging a b
    hangs-from a b l u e f =
        let apart : across s a ≡ across s b → ⊥ = λ q. differ e (agree l q ∙ f) in
        let h : Hangs a b =
        record { near = e; away = f; line = either (λ q. q) (λ q. absurd (apart q)) (upright-or-level s a b u) }
        in
        by (lt_z (across s a) (across s b)) (λ k. rises h (z_lt-true _ _ k)) λ k.
        by (lt_z (across s b) (across s a)) (λ m. falls h (z_lt-true _ _ m)) λ m.
        absurd (apart (eq_of _ _ (omega (signed, z_lt-false (across s a) (across s b) k, z_lt-false (across s b) (across s a) m))))
      where
        agree : Link T a b → across s a ≡ across s b → on a ≡ on b
        agree (inl m) q = c.closed a b m q
        agree (inr m) q = sym (c.closed b a m (sym q))

    pub kind : (a b : Place) → (a, b) ∈ T → straight (a, b) ≡ true → Kind a b
    kind a b m u =
        by (on a)
        (λ e. by (on b) (λ f. bar e f (c.flat a e ∙ sym (c.flat b f))) (λ f. first (hangs-from a b (inl m) u e f)))
        (λ e. by (on b) (λ f. second (hangs-from b a (inr m) (straight-comm b a ∙ u) f e)) (λ f. other e f))

    -- each edge with an end on the bar is of the bar or hangs from it
    pub at-bar : (a b : Place) → (a, b) ∈ T → straight (a, b) ≡ true → (on a || on b) ≡ true →
        (of_bar s on (a, b) || hangs s on (a, b)) ≡ true
    unfolding of_bar hangs
    at-bar a b m u h = at (kind a b m u)
      where
        slant : Hangs a b ⊎ Hangs b a → level s (a, b) ≡ true → ⊥
        slant (inl k) e = differ k.near (c.closed a b m (level-true s a b e) ∙ k.away)
        slant (inr k) e = differ (c.closed a b m (level-true s a b e) ∙ k.near) k.away

        hung : Hangs a b ⊎ Hangs b a → (of_bar s on (a, b) || hangs s on (a, b)) ≡ true
        hung k = by (level s (a, b)) (λ e. absurd (slant k e)) (λ e. rw (e, h) refl)

        at : Kind a b → (of_bar s on (a, b) || hangs s on (a, b)) ≡ true
        at (bar e f q) = rw (true-level s a b q, e, f) refl
        at (first k) = hung (inl (hang k))
        at (second k) = hung (inr (hang k))
        at (other e f) = differ h (rw (e, f) refl)
