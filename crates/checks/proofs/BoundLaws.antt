-- The check of a machine with bounds of its own: more entries than they allow are 11 and 12, and two machines whose bounds both allow the
-- lists answer alike. Nothing else of the check has the bounds in it.
-- Assumes nothing.
use mathlib.Core.Path.{◌≡◌, refl, sym, ◌∙◌}
use mathlib.Core.Bool.{Bool, true, false, not, ◌||◌}
use mathlib.Core.List.{List}
use Prim.Native.Nat.{◌%◌, ◌≤◌, ◌<◌}
use borrow.Author.Tests.{lt-ltb, le-ltb, ltb-true, ltb-false}
use lib.Dec.{eqb, ltb}
use lib.IntN.{ℤ}
use lib.ListN.{length}
use Rattle.lists.proofs.TestLaws.{by, or-none}
use Rattle.lent.specs.Told.{refused, given}
use Rattle.lent.proofs.AfterLaws.{told-apart}
use Rattle.net.specs.Bounds.{Bounds, pin_width, macro_width}
use Rattle.net.specs.Pins.{pin_count, macro_count}
use Rattle.net.specs.declared.Weighing.{Weighing}
use Rattle.net.specs.declared.Net.{Net as Counts}
use Rattle.net.specs.Tests.{pins_miscounted_within, macros_miscounted_within}
use Rattle.checks.specs.Check.{checked_within}

or-last : (p q : Bool) → q ≡ true → (p || q) ≡ true
or-last p q e = by p (λ t. rw t refl) (λ t. rw (t, e) refl)

-- pins that are counted right within some bounds are so within any that allow as many
pub pins-within : (b c : Bounds) (pins : List ℤ) → pins_miscounted_within c pins ≡ false → pin_count pins ≤ b.pins
    → pins_miscounted_within b pins ≡ false
unfolding pins_miscounted_within
pins-within b c pins e h =
    let r = or-none (not (eqb (length pins % pin_width) 0)) _ e in
    let s = or-none (eqb (pin_count pins) 0) _ r.1 in
    rw (r.0, s.0, le-ltb b.pins (pin_count pins) h) refl

module _ (b : Bounds) (w : Weighing) (pins macros : List ℤ) where
  -- C11
  pins-wrong : pins_miscounted_within b pins ≡ true → checked_within b w pins macros ≡ refused 11
  unfolding checked_within
  pins-wrong e = rw e refl

  pub pins-above : b.pins < pin_count pins → checked_within b w pins macros ≡ refused 11
  unfolding pins_miscounted_within
  pins-above h =
      pins-wrong (or-last (not (eqb (length pins % pin_width) 0)) _ (or-last (eqb (pin_count pins) 0) _ (lt-ltb b.pins (pin_count pins) h)))

  -- C12
  pub macros-above : pins_miscounted_within b pins ≡ false → b.macros < macro_count macros → checked_within b w pins macros ≡ refused 12
  unfolding macros_miscounted_within checked_within
  macros-above e h =
      rw (e, or-last (not (eqb (length macros % macro_width) 0)) _ (lt-ltb b.macros (macro_count macros) h)) refl

  -- so a net that it allows has no more
  pub given-within : (net : Counts) → checked_within b w pins macros ≡ given net
      → (pin_count pins ≤ b.pins) × (macro_count macros ≤ b.macros)
  given-within net e = (
    by (ltb b.pins (pin_count pins)) (λ t. told-apart 11 net (sym (pins-above (ltb-true b.pins (pin_count pins) t)) ∙ e))
        (ltb-false b.pins (pin_count pins)),
    by (pins_miscounted_within b pins) (λ t. told-apart 11 net (sym (pins-wrong t) ∙ e)) (λ f.
        by (ltb b.macros (macro_count macros))
        (λ t. told-apart 12 net (sym (macros-above f (ltb-true b.macros (macro_count macros) t)) ∙ e))
        (ltb-false b.macros (macro_count macros))),
  )

-- the tests are the same where neither bound is passed
module _ (b c : Bounds) (w : Weighing) (pins macros : List ℤ) where
  pub same_check : (pin_count pins ≤ b.pins) × (pin_count pins ≤ c.pins) → (macro_count macros ≤ b.macros) × (macro_count macros ≤ c.macros)
      → checked_within b w pins macros ≡ checked_within c w pins macros
  unfolding pins_miscounted_within macros_miscounted_within checked_within
  same_check p m =
      rw (
        le-ltb b.pins (pin_count pins) p.0,
        le-ltb c.pins (pin_count pins) p.1,
        le-ltb b.macros (macro_count macros) m.0,
        le-ltb c.macros (macro_count macros) m.1,
      ) refl
