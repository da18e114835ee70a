-- What is asked of an edge and a third point, test by test.
-- Assumes nothing.
use mathlib.Core.Path.{◌≡◌, refl, sym, ◌∙◌}
use mathlib.Core.Bool.{false}
use mathlib.Core.List.{List}
use Prim.Native.Nat.{ℕ, ◌+◌, ◌-◌, ◌≤◌, ◌<◌}
use native.Mathlib.Omega.{arith}
use lib.Dec.{ltb}
use lib.IntN.{ℤ}
use borrow.Author.Tests.{lt-ltb, le-ltb, ltb-true, ltb-false}
use Rattle.lists.specs.Turns.{seek}
use Rattle.lists.proofs.TestLaws.{by}
use Rattle.plane.specs.declared.Place.{Place}
use Rattle.plane.specs.declared.Macro.{Macro}
use Rattle.plane.specs.declared.Weights.{Weights}
use Rattle.near.specs.Box.{box_cost}
use Rattle.triples.specs.Triple.{taken, dropped, may_gain}

pub dropped-is : (pts : List ℤ) (n a b u : ℕ) (s : Place) (i : ℕ) → i ≡ seek (taken pts a b u s) 0 n → ltb i n ≡ dropped pts n a b u s
unfolding dropped
dropped-is pts n a b u s i e = rw e refl

-- What can be gained

pub may-gain-not : (w : Weights) (m : Macro) (p : Place) (f g x : ℕ) → x ≤ g + f → false ≡ may_gain w m p f g x
unfolding may_gain
may-gain-not w m p f g x h = sym (le-ltb (g + (box_cost w m p + f)) x (omega arith))

pub may-gain-is : (w : Weights) (m : Macro) (p : Place) (f g x : ℕ) → f + g < x → ltb (box_cost w m p) (x - f - g) ≡ may_gain w m p f g x
unfolding may_gain
may-gain-is w m p f g x h =
    let d = box_cost w m p in
    by (ltb d (x - f - g))
    (λ t. t ∙ sym (lt-ltb (g + (d + f)) x (omega (arith, ltb-true d (x - f - g) t))))
    (λ t. t ∙ sym (le-ltb (g + (d + f)) x (omega (arith, ltb-false d (x - f - g) t))))
