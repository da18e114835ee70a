-- The row of x at y.
use Rattle.std.proofs.Common.{ℕ, ap, get_or}
use Rattle.longest.proofs.RowLaws.{fresh_start}
use Rattle.bounds.proofs.long_cost.Goals as goal

pub returns : goal.returns
returns c t told =
    let r = c.row_of.ensures.by_index t told (fresh_start _ c.requires.tied) in
    ap (λ (z : ℕ). get_or c.args.el.now z 0) (c.cut_at-l.ensures.by_index _ r).0
