-- `router::graph` meets its contract: the refusals of the check first, then what the graph of an allowed net says.
-- Assumes nothing.
use Rattle.std.proofs.Common.{◌≡◌, ◌∙◌, refl, sym, ap, length, [], arith}
use mathlib.Core.Path.{subst}
use Rattle.net.specs.declared.Weighing.{Weighing}
use Rattle.net.specs.Answer.{told_by}
use Rattle.checks.specs.Check.{checked}
use Rattle.checks.proofs.GivenLaws.{handed-back}
use Rattle.answers.proofs.AnswerLaws.{only-refused, only-given}
use Rattle.made.proofs.CountedLaws.{counted_of}
use Rattle.answers.specs.Graph.{graph_given, graphed}
use Rattle.answers.proofs.GraphLaws.{graphed-refused, graphed-allowed}
use Rattle.router.specs.Call.{GraphCall}
use Rattle.router.proofs.CallLaws.{told-passed, two-refused, two-as}
use Rattle.router.proofs.graph.Goals as goal

pub graph-requires : goal.graph-requires
unfolding told_by
graph-requires c = counted_of _ _ _ (sym c.in_ok-net.ensures)

pub returns-in_err-net : goal.returns-in_err-net
unfolding told_by
returns-in_err-net c =
    let a = c.args in
    two-refused (told-passed _ _ _ c.from_residual.ensures.1)
    (graphed-refused a.w a.pins.now a.macros.now (length a.vertices.now) (length a.edges.now) _ (sym c.in_err-net.ensures))

pub returns : goal.returns
unfolding told_by
returns c =
    let a = c.args in
    let allowed = sym c.in_ok-net.ensures in
    two-as (sym (graphed-allowed a.w a.pins.now a.macros.now (length a.vertices.now) (length a.edges.now) _ allowed))
    (subst (λ (z : Weighing). GraphCall graph_given z a.pins.now a.macros.now a.vertices.now a.edges.now c.graph.result
    c.graph.new.vertices c.graph.new.edges) (handed-back _ _ _ allowed) c.graph.ensures)
