-- The answer, refusal by refusal; and the table that the passes leave.
-- Assumes nothing.
use mathlib.Core.Path.{◌≡◌, refl, ap, ◌∙◌}
use mathlib.Core.Bool.{Bool, true, false}
use mathlib.Core.List.{List}
use Prim.Native.Nat.{ℕ, ◌≤◌, ◌<◌}
use lib.IntN.{ℤ}
use lib.ListN.{replicate}
use lib.Ieee.{Float, binary64, of_bits}
use borrow.Author.Tests.{lt-ltb, le-ltb}
use Rattle.lists.specs.Any.{any}
use Rattle.lent.specs.Told.{refused, given}
use Rattle.tree.specs.Table.{tree_bound}
use Rattle.floats.specs.declared.Technology.{Technology}
use Rattle.floats.specs.Mark.{Delay}
use Rattle.floats.specs.Float as float
use Rattle.elmore.specs.Elmore.{delays}
use Rattle.floats.specs.Mark.{is_mark, usable}
use Rattle.delay.specs.Answer.{unless_marked, delayed}
use Rattle.elmore.specs.Table.{hung, apart_in, load_in, stored}
use Rattle.delay.specs.Table.{table_from}
use Rattle.floats.proofs.MarkLaws.{zero_bits}

-- What is said before there is a tree

module _ (room m : ℕ) (t : Technology) (found : Bool) (marks : List Delay) where
  pub delayed-space : room < m → delayed room m t found marks ≡ refused 21
  unfolding delayed
  delayed-space h = rw (lt-ltb room m h) refl

  module _ (enough : m ≤ room) where
    pub delayed-technology : usable t ≡ false → delayed room m t found marks ≡ refused 38
    unfolding delayed
    delayed-technology u = rw (le-ltb room m enough, u) refl

    module _ (fair : usable t ≡ true) where
      pub delayed-driver : found ≡ false → delayed room m t found marks ≡ refused 39
      unfolding delayed
      delayed-driver f = rw (le-ltb room m enough, fair, f) refl

      pub delayed-passed : found ≡ true → delayed room m t found marks ≡ unless_marked m marks
      unfolding delayed
      delayed-passed f = rw (le-ltb room m enough, fair, f) refl

-- What the delays say

pub told-mark : (m : ℕ) (marks : List Delay) → any is_mark marks ≡ true → unless_marked m marks ≡ refused 40
unfolding unless_marked
told-mark m marks e = rw e refl

pub told-given : (m : ℕ) (marks : List Delay) → any is_mark marks ≡ false → unless_marked m marks ≡ given m
unfolding unless_marked
told-given m marks e = rw e refl

-- the table that the passes leave
pub table_is : (pts : List ℤ) (ks : List ℕ) (e : ℕ) (loads : List ℕ) (t : Technology) (d driver : ℕ) (table : List Float)
    → table
    ≡ stored (delays (apart_in pts) (load_in loads) t d (of_bits binary64 0) (hung ks e e d d)) (replicate tree_bound (of_bits binary64 0))
    → d ≡ driver → table ≡ table_from pts ks e loads t driver
unfolding table_from
table_is pts ks e loads t d driver table h g =
    h
    ∙ ap (λ (z : Float). stored (delays (apart_in pts) (load_in loads) t d z (hung ks e e d d)) (replicate tree_bound z)) zero_bits
    ∙ ap (λ (k : ℕ). stored (delays (apart_in pts) (load_in loads) t k float.zero (hung ks e e k k)) (replicate tree_bound float.zero)) g
