-- What is promised of the delays of a tree, whatever computes them.
use Rattle.std.specs.Prelude.{◌≡◌, List, ◌∷◌, ℕ, Float}
use Rattle.lists.specs.Member.{Among, Once}
use Rattle.plane.specs.declared.Place.{Place}
use Rattle.plane.specs.Distance.{distance}
use Rattle.floats.specs.declared.Technology.{Technology}
use Rattle.floats.specs.Float.{zero}
use Rattle.elmore.specs.Rooted.{Branches, none, branch, visited, rooted}
use Rattle.elmore.specs.Elmore.{delay_of_child}
use Rattle.delay.specs.Answer.{delay_of}

-- Y5, at every child that hangs from p: its delay is made of its parent's
abbrev pub Follows : {A : Type 0} → (A → A → ℕ) → (A → ℕ) → Technology → (A → Float) → A → Branches A → Type 0
Follows apart load t delay p none = Unit {0}
Follows apart load t delay p (branch c below beside) =
    (delay c ≡ delay_of_child apart load t p (delay p) c below)
    × (Follows apart load t delay c below × Follows apart load t delay p beside)

-- for a tree of edges over the points X (`timed`, proofs/TimedLaws.antt)
pub record Timed (X : List Place) (es : List (Place × Place)) (load : Place → ℕ) (t : Technology) (driver : Place) : Type 0 where
  -- Y2: each point hangs once from the driver, and none is left out
  pub each-once : Once (driver ∷ visited (rooted es driver))
  pub none_left : Among X (driver ∷ visited (rooted es driver))
  -- Y6: the driver's own delay is 0
  pub driver-zero : delay_of es load t driver driver ≡ zero
  -- Y5: each child's delay is made of its parent's
  pub follows : Follows distance load t (delay_of es load t driver) driver (rooted es driver)
