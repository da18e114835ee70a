-- The row of s at both ends of the edge gives L, and the offer of s is what it gains.
use Rattle.std.proofs.Common.{ap}
use Rattle.candidates.specs.declared.Best.{Best}
use Rattle.candidates.proofs.BoundLaws.{cut-from}
use Rattle.candidates.proofs.candidate.raised.Goals as goal

pub returns-clause-by_index : goal.returns-clause-by_index
returns-clause-by_index c t told row =
    let e = c.requires.k_lt_tree_bound.1.1.ends c.args.k in
    let all = c.requires.tied.1 in
    let p = c.cut_at-p.ensures.by_index _ row in
    let q = c.cut_at-q.ensures.by_index _ p.1 in (
      q.1,
      ap (λ (z : Best). z.gain)
          (c.offer-c.ensures t
          (cut-from _ _ t told _ _ _ _ _ _ (all _ e.0) (all _ e.1) (all _ c.requires.k_lt_tree_bound.0.1) p.0 q.0 c.shorter-l.ensures.0)),
    )
