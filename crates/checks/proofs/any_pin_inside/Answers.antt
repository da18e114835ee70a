-- `checks::any_pin_inside` meets its contract: a hit ends the scan, a miss leaves the rest, and at the end nothing is left.
-- Assumes nothing.
use Rattle.std.proofs.Common.{◌≡◌, ◌∙◌, sym, ap, arith}
use Rattle.lists.proofs.AnyLaws.{any-hit, any-miss, any-end}
use mathlib.Core.Bool.{Bool, not}
use mathlib.Core.List.{List}
use lib.IntN.{ℤ}
use Rattle.plane.specs.declared.Place.{Place}
use Rattle.plane.specs.Macro.{clear}
use Rattle.plane.specs.Flat.{macros_of}
use Rattle.plane.proofs.MacroLaws.{clear-of-itself}
use Rattle.net.specs.Tests.{inside_any}
use Rattle.net.proofs.PinLaws.{pins-next, pins-end}
use Rattle.checks.proofs.any_pin_inside.Goals as goal

-- what `is_clear` says of a pin, seen as the test
told : (macros : List ℤ) (p q : Place) (free : Bool) → free ≡ clear p p (macros_of macros) → p ≡ q → not free ≡ inside_any (macros_of macros) q
unfolding inside_any
told macros p q free e at =
    ap not e ∙ ap (λ (p : Place). not (clear p p (macros_of macros))) at ∙ clear-of-itself q (macros_of macros)

pub returns-then-not-is_clear : goal.returns-then-not-is_clear
returns-then-not-is_clear c =
    sym
    (c.loop-i.invariant
    ∙ any-hit (inside_any _) _ _ _ (pins-next c.args.pins.now c.loop-i.i (omega arith))
    (sym (told c.args.macros.now c.pin_at-p.result _ _ c.is_clear.ensures c.pin_at-p.ensures) ∙ ap not c.if-not-is_clear.true))

pub loop-i-preserved : goal.loop-i-preserved
loop-i-preserved c =
    c.loop-i.invariant
    ∙ any-miss (inside_any _) _ _ _ (pins-next c.args.pins.now c.loop-i.i (omega arith))
    (sym (told c.args.macros.now c.pin_at-p.result _ _ c.is_clear.ensures c.pin_at-p.ensures) ∙ ap not c.if-not-is_clear.false)

pub returns : goal.returns
returns c = sym (c.loop-i.invariant ∙ any-end (inside_any _) _ (pins-end c.args.pins.now c.loop-i.i (omega arith)))
