-- `checks::any_overlap` meets its contract: each macro is compared with those after it, until two meet.
-- Assumes nothing.
use Rattle.std.proofs.Common.{refl, ◌≡◌, ◌∙◌, sym, ap, arith, ◌+◌, ℕ, drop}
use mathlib.Core.Bool.{Bool, true, false}
use mathlib.Core.List.{List}
use lib.IntN.{ℤ}
use Rattle.lists.specs.Any.{any}
use Rattle.lists.proofs.AnyLaws.{any-hit, any-miss, any-end, two-hit, two-miss, two-end}
use Rattle.plane.specs.declared.Macro.{Macro}
use Rattle.plane.specs.Macro.{interiors_meet}
use Rattle.plane.specs.Flat.{macros_of}
use Rattle.plane.proofs.FlatLaws.{macros-next, macros-end}
use Rattle.checks.proofs.any_overlap.Goals as goal

-- what is found of a macro, whose sides are known
first : (macros : List ℤ) (i : ℕ) (m n : Macro) (t : Bool) → m ≡ n → any (interiors_meet m) (drop (i + 1) (macros_of macros)) ≡ t
    → any (interiors_meet n) (drop (i + 1) (macros_of macros)) ≡ t
first macros i m n t at e = ap (λ (k : Macro). any (interiors_meet k) (drop (i + 1) (macros_of macros))) (sym at) ∙ e

pub returns-then-interiors_meet : goal.returns-then-interiors_meet
returns-then-interiors_meet c =
    let s = c.args.macros.now in
    let met = sym (c.interiors_meet.ensures ∙ ap (interiors_meet c.macro_at-m.result) c.macro_at.ensures) ∙ c.if-interiors_meet.true in
    let some = first s c.search.i _ _ true c.macro_at-m.ensures
    (c.loop-j.invariant.1 ∙ any-hit (interiors_meet c.macro_at-m.result) _ _ _ (macros-next s c.loop-j.j (omega arith)) met)
    in
    sym (c.search.invariant.1 ∙ two-hit interiors_meet _ _ _ (macros-next s c.search.i (omega arith)) some)

pub loop-j-preserved : goal.loop-j-preserved
loop-j-preserved c =
    let s = c.args.macros.now in (
      c.loop-j.invariant.0,
      c.loop-j.invariant.1
          ∙ any-miss (interiors_meet c.macro_at-m.result) _ _ _ (macros-next s c.loop-j.j (omega arith))
          (sym (c.interiors_meet.ensures ∙ ap (interiors_meet c.macro_at-m.result) c.macro_at.ensures) ∙ c.if-interiors_meet.false),
    )

pub search-init : goal.search-init
search-init c = (refl, refl)

pub loop-j-init : goal.loop-j-init
loop-j-init c = (c.search.invariant.0, refl)

pub search-preserved : goal.search-preserved
search-preserved c =
    let s = c.args.macros.now in
    let none = first s c.search.i _ _ false c.macro_at-m.ensures
    (c.loop-j.invariant.1 ∙ any-end (interiors_meet c.macro_at-m.result) _ (macros-end s c.loop-j.j (omega arith)))
    in
    (c.loop-j.invariant.0, c.search.invariant.1 ∙ two-miss interiors_meet _ _ _ (macros-next s c.search.i (omega arith)) none)

pub returns-after-search : goal.returns-after-search
returns-after-search c =
    c.search.invariant.0
    ∙ sym (c.search.invariant.1 ∙ two-end interiors_meet _ (macros-end c.args.macros.now c.search.i (omega arith)))
