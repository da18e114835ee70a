-- Steps along the grid: turned round, and by cases. What is alike for a step and the same step turned round need be shown only of steps to
-- the right and upwards. And where more lines are added, the sides of macros are still lines.
-- Assumes nothing.
use mathlib.Core.Path.{◌≡◌, sym, ◌∙◌}
use mathlib.Core.Bool.{true}
use mathlib.Core.Logic.{inl, inr}
use mathlib.Core.List.{List}
use lib.IntN.{ℤ}
use Rattle.lists.specs.Member.{◌∈◌, Among}
use Rattle.lists.proofs.TestLaws.{either}
use Rattle.plane.specs.declared.Place.{Place}
use Rattle.plane.specs.declared.Macro.{Macro}
use Rattle.plane.specs.Macro.{clear}
use Rattle.plane.proofs.MacroLaws.{clear_comm}
use Rattle.lines.specs.Lines.{Sides, Neighbours, GridStep, across, along}

pub sides-among : {xs ys us vs : List ℤ} {ms : List Macro} → Among xs us → Among ys vs → Sides xs ys ms → Sides us vs ms
sides-among h k s = record {
  left = λ m i. h m.left (s.left m i);
  right = λ m i. h m.right (s.right m i);
  bottom = λ m i. k m.bottom (s.bottom m i);
  top = λ m i. k m.top (s.top m i);
}

module _ {xs ys : List ℤ} {ms : List Macro} where
  pub step_back : {a b : Place} → GridStep xs ys ms a b → GridStep xs ys ms b a
  step_back {a} {b} (across n e m h) = across (either inr inl n) (sym e) (rw (← e) m) (clear_comm b a ms ∙ h)
  step_back {a} {b} (along n e m h) = along (either inr inl n) (sym e) (rw (← e) m) (clear_comm b a ms ∙ h)

module _ (xs ys : List ℤ) (ms : List Macro) (P : Place → Place → Type 0) where
  -- what is to be shown of steps to the right, and upwards
  pub record StepCases : Type 0 where
    pub turned : (a b : Place) → P a b → P b a
    pub level : (a b : Place) → Neighbours xs a.x b.x → a.y ≡ b.y → a.y ∈ ys → clear a b ms ≡ true → P a b
    pub upright : (a b : Place) → Neighbours ys a.y b.y → a.x ≡ b.x → a.x ∈ xs → clear a b ms ≡ true → P a b

  pub step-cases : StepCases → (a b : Place) → GridStep xs ys ms a b → P a b
  step-cases c a b (across (inl n) e m h) = c.level a b n e m h
  step-cases c a b (across (inr n) e m h) = c.turned b a (c.level b a n (sym e) (rw (← e) m) (clear_comm b a ms ∙ h))
  step-cases c a b (along (inl n) e m h) = c.upright a b n e m h
  step-cases c a b (along (inr n) e m h) = c.turned b a (c.upright b a n (sym e) (rw (← e) m) (clear_comm b a ms ∙ h))
