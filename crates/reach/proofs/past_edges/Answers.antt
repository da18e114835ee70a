use Rattle.std.proofs.Common.{sym, ap, ◌∙◌, arith}
use Rattle.turned.specs.declared.Seen.{Seen}
use Rattle.turned.proofs.StepLaws.{up_start, up_next}
use Rattle.reach.specs.Passing.{seen_by, past}
use Rattle.reach.proofs.HopelessLaws.{edges-end, edges-stop}
use Rattle.reach.proofs.past_edges.Goals as goal

pub loop-k-init : goal.loop-k-init
loop-k-init c = up_start _ _

pub returns-then-is_hopeless : goal.returns-then-is_hopeless
returns-then-is_hopeless c =
    edges-stop _ _ _ _ _ _ _ c.loop-k.invariant (omega arith) (sym c.is_hopeless.ensures ∙ c.if-is_hopeless.true)

pub seen_edge-t-requires : goal.seen_edge-t-requires
seen_edge-t-requires c = (omega (arith, c.requires), c.requires.1.small c.loop-k.k)

pub loop-k-preserved : goal.loop-k-preserved
loop-k-preserved c =
    let s = c.args in
    up_next _ _ _ _ _ c.loop-k.invariant
    (c.past-way.ensures
    ∙ ap (λ (t : Seen). past (seen_by s.pts.now s.keys.now s.lab.now s.bar) s.z.edges s.bar t c.loop-k.way) c.seen_edge-t.ensures.0)

pub returns : goal.returns
returns c = edges-end _ _ _ _ _ _ _ c.loop-k.invariant (omega arith) (omega arith)
