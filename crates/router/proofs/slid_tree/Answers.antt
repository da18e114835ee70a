-- `router::slid_tree` meets its contract: the refusals of the check first, then what the slid tree of an allowed net says.
-- Assumes nothing.
use Rattle.std.proofs.Common.{◌≡◌, ◌∙◌, refl, sym, ap, length, [], arith}
use mathlib.Core.Path.{subst}
use Rattle.net.specs.declared.Weighing.{Weighing}
use Rattle.net.specs.Answer.{told_by}
use Rattle.checks.specs.Check.{checked}
use Rattle.checks.proofs.GivenLaws.{handed-back}
use Rattle.answers.proofs.AnswerLaws.{only-refused, only-given}
use Rattle.made.proofs.CountedLaws.{counted_of}
use Rattle.answers.specs.Slid.{slid_given, slid_tree}
use Rattle.router.specs.Call.{SlidCall}
use Rattle.router.proofs.CallLaws.{told-passed, gives-refused, gives_as}
use Rattle.router.proofs.slid_tree.Goals as goal

pub slid_tree-requires : goal.slid_tree-requires
unfolding told_by
slid_tree-requires c = counted_of _ _ _ (sym c.in_ok-net.ensures)

pub returns-in_err-net : goal.returns-in_err-net
unfolding slid_tree told_by
returns-in_err-net c =
    let a = c.args in
    gives-refused (told-passed _ _ _ c.from_residual.ensures.1) (only-refused (checked a.w a.pins.now a.macros.now) (slid_given a.w a.pins.now a.macros.now (length a.edges.now)) _ (sym c.in_err-net.ensures))

pub returns : goal.returns
unfolding slid_tree told_by
returns c =
    let a = c.args in
    let allowed = sym c.in_ok-net.ensures in
    gives_as (sym (only-given (checked a.w a.pins.now a.macros.now) (slid_given a.w a.pins.now a.macros.now (length a.edges.now)) _ allowed))
    (subst (λ (z : Weighing). SlidCall slid_given z a.pins.now a.macros.now a.edges.now c.slid_tree.result c.slid_tree.new.edges) (handed-back _ _ _ allowed) c.slid_tree.ensures)
