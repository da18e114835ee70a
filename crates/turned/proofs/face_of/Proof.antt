-- `turned::face_of` meets its contract, each answer by the law of its case.
-- Assumes nothing.
use mir.Syntax.{w32}
use mir.ValLaws.{to_z-of_z}
use Rattle.slide.specs.declared.Side.TheVariants.{Above, Below, Right, Left}
use Rattle.slide.specs.Stop.{starts, finishes, near_side, far_side}
use Rattle.plane.proofs.Fits.{MacroFits}
use Rattle.turned.proofs.CodeLaws.{face-is}
use borrow.Author.Rules.{rules}
use Rattle.turned.proofs.face_of.Statement.{statement}
use Rattle.turned.proofs.face_of.Tie as tie

fits : (s : tie.Start) → MacroFits s.args.m
fits s = record { left = search rules; bottom = search rules; right = search rules; top = search rules }

returns : tie.Need-returns-in-Above
unfolding starts finishes near_side far_side
returns c =
    let f = fits c.before.before.before.before.before.before.before.before.before in (
      face-is _ Above _ _ _ _ _ c.in-Above.is
          (rw (to_z-of_z w32 _ f.left) at c.raised.ensures.0)
          (rw (to_z-of_z w32 _ f.right) at c.raised-in-Above.ensures.0)
          (rw (to_z-of_z w32 _ f.bottom) at c.raised-in-Above-2.ensures.0)
          (rw (to_z-of_z w32 _ f.top) at c.raised-in-Above-3.ensures.0),
      c.raised-in-Above-2.ensures.1,
    )

returns-2 : tie.Need-returns-in-Below
unfolding starts finishes near_side far_side
returns-2 c =
    let f = fits c.before.before.before.before.before.before.before.before.before in (
      face-is _ Below _ _ _ _ _ c.in-Below.is
          (rw (to_z-of_z w32 _ f.left) at c.raised-in-Below.ensures.0)
          (rw (to_z-of_z w32 _ f.right) at c.raised-in-Below-2.ensures.0)
          (rw (to_z-of_z w32 _ f.top) at c.turned.ensures.0)
          (rw (to_z-of_z w32 _ f.bottom) at c.turned-in-Below.ensures.0),
      c.turned.ensures.1,
    )

returns-3 : tie.Need-returns-in-Right
unfolding starts finishes near_side far_side
returns-3 c =
    let f = fits c.before.before.before.before.before.before.before.before.before in (
      face-is _ Right _ _ _ _ _ c.in-Right.is
          (rw (to_z-of_z w32 _ f.bottom) at c.raised-in-Right.ensures.0)
          (rw (to_z-of_z w32 _ f.top) at c.raised-in-Right-2.ensures.0)
          (rw (to_z-of_z w32 _ f.left) at c.raised-in-Right-3.ensures.0)
          (rw (to_z-of_z w32 _ f.right) at c.raised-in-Right-4.ensures.0),
      c.raised-in-Right-3.ensures.1,
    )

returns-4 : tie.Need-returns-in-Left
unfolding starts finishes near_side far_side
returns-4 c =
    let f = fits c.before.before.before.before.before.before.before.before.before in (
      face-is _ Left _ _ _ _ _ c.in-Left.is
          (rw (to_z-of_z w32 _ f.bottom) at c.raised-in-Left.ensures.0)
          (rw (to_z-of_z w32 _ f.top) at c.raised-in-Left-2.ensures.0)
          (rw (to_z-of_z w32 _ f.right) at c.turned-in-Left.ensures.0)
          (rw (to_z-of_z w32 _ f.left) at c.turned-in-Left-2.ensures.0),
      c.turned-in-Left.ensures.1,
    )

pub face_of_spec : {M : Type 1} → statement M
face_of_spec =
    tie.close
    (tie.spec
    (λ c. search rules) (λ c κs. search rules) (λ c κs. search rules) (λ c κs. search rules) (λ c κs. search rules)
    (λ c. search rules) (λ c κs. search rules) (λ c κs. search rules) (λ c κs. search rules) (λ c κs. search rules)
    (λ c. search rules) (λ c κs. search rules) (λ c κs. search rules) (λ c κs. search rules) (λ c κs. search rules)
    (λ c. search rules) (λ c κs. search rules) (λ c κs. search rules) (λ c κs. search rules) (λ c κs. search rules)
    returns returns-2 returns-3
    returns-4)
