-- `bends::is_straight` meets its contract: two i32 have the same bits exactly when they are equal.
-- Assumes nothing.
use borrow.Author.Rules.{rules}
use borrow.Author.Tests.{eq-eqb, ne_eqb}
use mathlib.Core.Path.{◌≡◌, sym, ◌∙◌}
use lib.Dec.{eqb}
use mir.Syntax.{w32}
use mir.Val.{of_z}
use Rattle.signed.specs.Order.{z_eq}
use Rattle.signed.proofs.Bits.{flag-eq}
use Rattle.plane.proofs.Fits.{PlaceFits}
use Rattle.slide.specs.Bend.{straight}
use Rattle.bends.proofs.is_straight.Statement.{statement}
use Rattle.bends.proofs.is_straight.Tie as tie

module _ (s : tie.Start) where
  of-a : PlaceFits s.args.a
  of-a = record { x = search rules; y = search rules }

  of-b : PlaceFits s.args.b
  of-b = record { x = search rules; y = search rules }

  across : eqb (of_z w32 s.args.a.x) (of_z w32 s.args.b.x) ≡ z_eq s.args.a.x s.args.b.x
  across = flag-eq w32 _ _ of-a.x of-b.x

  along : eqb (of_z w32 s.args.a.y) (of_z w32 s.args.b.y) ≡ z_eq s.args.a.y s.args.b.y
  along = flag-eq w32 _ _ of-a.y of-b.y

returns : tie.Need-returns-then-a-b
unfolding straight
returns c =
    let s = c.before.before.before.before.before in
    rw (sym (across s) ∙ eq-eqb _ _ c.if-a-b.true) (eq-eqb _ _ c.if-a-b.true)

returns-2 : tie.Need-returns-else-a-b
unfolding straight
returns-2 c =
    let d = c in
    let s = d.before.before.before.before.before.before.before.before.before in
    rw (sym (across s) ∙ ne_eqb _ _ d.if-a-b.false) (along s)

pub is_straight_spec : {M : Type 1} → statement M
is_straight_spec = tie.close (tie.spec returns returns-2)
