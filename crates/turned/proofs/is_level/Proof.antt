-- `turned::is_level` meets its contract, each answer by the law of its case.
-- Assumes nothing.
use mathlib.Core.Path.{ap, ap₂, ◌∙◌}
use Rattle.turned.specs.Turned.{level_at, spot}
use lib.Dec.{eqb}
use Prim.Native.Nat.{ℕ}
use Rattle.plane.specs.Flat.{place_at}
use Rattle.turned.specs.declared.Spot.{Spot}
use borrow.Author.Rules.{rules}
use Rattle.turned.proofs.is_level.Statement.{statement}
use Rattle.turned.proofs.is_level.Tie as tie

returns : tie.Need-returns
unfolding level_at
returns c =
    let s = c in
    let at : ℕ → Spot = λ (i : ℕ). spot s.args.s (place_at s.args.pts.now i) in
    ap₂ (λ (p q : Spot). eqb p.across q.across) (c.spot_at-p.ensures.0
    ∙ ap at c.first_end.ensures.0) (c.spot_at-q.ensures.0
    ∙ ap at c.second_end.ensures.0)

pub is_level_spec : {M : Type 1} → statement M
is_level_spec =
    tie.close
    (tie.spec (λ c κs. search rules) (λ c κs. search rules) (λ c κs. search rules) (λ c κs. search rules) returns)
