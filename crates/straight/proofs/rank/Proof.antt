-- `straight::rank` meets its contract: where a place stands among points in order is its rank.
-- Assumes nothing.
use mathlib.Core.Path.{ap, ◌∙◌}
use mathlib.Core.List.{List}
use Rattle.lists.specs.Sorted.{position}
use Rattle.plane.specs.declared.Place.{Place}
use Rattle.plane.specs.Place.{before}
use Rattle.sorted.proofs.NumberLaws.{rank-position}
use Rattle.straight.proofs.RunLaws.{points-are}
use Rattle.straight.proofs.rank.Statement.{statement}
use Rattle.straight.proofs.rank.Tie as tie

returns : tie.Need-returns
returns c =
    let e = c.args in (
      c.rank.ensures.0
          ∙ rank-position e.pts.now e.p e.n
          ∙ ap (λ (l : List Place). position before l e.p) (points-are e.pts.now e.n),
      c.rank.ensures.1,
    )

pub rank_spec : {M : Type 1} → statement M
rank_spec = tie.close (tie.spec (λ c κs. c.requires) returns)
