use Rattle.std.proofs.Common.{sym, ap, ◌∙◌, arith}
use Rattle.turned.specs.declared.Seen.{Seen}
use Rattle.turned.specs.Turned.{seen_edge}
use Rattle.turned.proofs.StepLaws.{up_start, up-end, none_next, some_passes}
use Rattle.reach.specs.Passing.{ends_at, seen_by, is_far}
use Rattle.reach.proofs.is_far_end.Goals as goal

pub loop-k-init : goal.loop-k-init
loop-k-init c = up_start _ _

pub seen_edge-t-requires : goal.seen_edge-t-requires
seen_edge-t-requires c = (omega arith, c.requires.1.small c.loop-k.k)

pub returns-then-ends_at : goal.returns-then-ends_at
unfolding is_far
returns-then-ends_at c =
    let s = c.args in
    let is = c.ends_at.ensures ∙ ap (λ (t : Seen). ends_at t s.bar.most s.c) c.seen_edge-t.ensures.0 in
    some_passes (λ j. ends_at (seen_edge (seen_by s.pts.now s.keys.now s.lab.now s.bar) j) s.bar.most s.c) c.loop-k.k s.e (omega arith)
    (sym is ∙ c.if-ends_at.true)

pub loop-k-preserved : goal.loop-k-preserved
loop-k-preserved c =
    let s = c.args in
    let is = c.ends_at.ensures ∙ ap (λ (t : Seen). ends_at t s.bar.most s.c) c.seen_edge-t.ensures.0 in
    none_next (λ j. ends_at (seen_edge (seen_by s.pts.now s.keys.now s.lab.now s.bar) j) s.bar.most s.c) c.loop-k.k c.loop-k.invariant
    (sym is ∙ c.if-ends_at.false)

pub returns : goal.returns
unfolding is_far
returns c = up-end _ _ _ _ _ c.loop-k.invariant (omega arith) (omega arith)
