-- `turned::spot_of` meets its contract, each answer by the law of its case.
-- Assumes nothing.
use mir.Syntax.{w32}
use mir.ValLaws.{to_z-of_z}
use Rattle.slide.specs.declared.Side.TheVariants.{Above, Below, Right, Left}
use Rattle.slide.specs.Side.{along, across}
use Rattle.plane.proofs.Fits.{PlaceFits}
use Rattle.turned.proofs.CodeLaws.{spot_is}
use borrow.Author.Rules.{rules}
use Rattle.turned.proofs.spot_of.Statement.{statement}
use Rattle.turned.proofs.spot_of.Tie as tie

fits : (s : tie.Start) → PlaceFits s.args.p
fits s = record { x = search rules; y = search rules }

returns : tie.Need-returns-in-Above
unfolding along across
returns c = (
  spot_is _ Above _ _ _ c.in-Above.is
      (rw (to_z-of_z w32 _ (fits c.before.before.before.before.before).x) at c.raised.ensures.0)
      (rw (to_z-of_z w32 _ (fits c.before.before.before.before.before).y) at c.raised-in-Above.ensures.0),
  c.raised-in-Above.ensures.1,
)

returns-2 : tie.Need-returns-in-Below
unfolding along across
returns-2 c = (
  spot_is _ Below _ _ _ c.in-Below.is
      (rw (to_z-of_z w32 _ (fits c.before.before.before.before.before).x) at c.raised-in-Below.ensures.0)
      (rw (to_z-of_z w32 _ (fits c.before.before.before.before.before).y) at c.turned.ensures.0),
  c.turned.ensures.1,
)

returns-3 : tie.Need-returns-in-Right
unfolding along across
returns-3 c = (
  spot_is _ Right _ _ _ c.in-Right.is
      (rw (to_z-of_z w32 _ (fits c.before.before.before.before.before).y) at c.raised-in-Right.ensures.0)
      (rw (to_z-of_z w32 _ (fits c.before.before.before.before.before).x) at c.raised-in-Right-2.ensures.0),
  c.raised-in-Right-2.ensures.1,
)

returns-4 : tie.Need-returns-in-Left
unfolding along across
returns-4 c = (
  spot_is _ Left _ _ _ c.in-Left.is
      (rw (to_z-of_z w32 _ (fits c.before.before.before.before.before).y) at c.raised-in-Left.ensures.0)
      (rw (to_z-of_z w32 _ (fits c.before.before.before.before.before).x) at c.turned-in-Left.ensures.0),
  c.turned-in-Left.ensures.1,
)

pub spot_of_spec : {M : Type 1} → statement M
spot_of_spec =
    tie.close
    (tie.spec
    (λ c. search rules) (λ c κs. search rules) (λ c κs. search rules) (λ c. search rules) (λ c κs. search rules)
    (λ c κs. search rules) (λ c. search rules) (λ c κs. search rules) (λ c κs. search rules) (λ c. search rules)
    (λ c κs. search rules) (λ c κs. search rules) returns returns-2 returns-3
    returns-4)
