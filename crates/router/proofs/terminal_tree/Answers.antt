-- `router::terminal_tree` meets its contract: the refusals of the check first, then what the terminal tree of an allowed net says.
-- Assumes nothing.
use Rattle.std.proofs.Common.{◌≡◌, ◌∙◌, refl, sym, ap, length, [], arith}
use mathlib.Core.Path.{subst}
use Rattle.net.specs.declared.Weighing.{Weighing}
use Rattle.net.specs.Answer.{told_by}
use Rattle.checks.specs.Check.{checked}
use Rattle.checks.proofs.GivenLaws.{handed-back}
use Rattle.answers.proofs.AnswerLaws.{only-refused, only-given}
use Rattle.made.proofs.CountedLaws.{counted_of}
use Rattle.answers.specs.Terminal.{terminal_given, terminal_tree}
use Rattle.router.specs.Call.{TerminalCall}
use Rattle.router.proofs.CallLaws.{told-passed, gives-refused, gives_as}
use Rattle.router.proofs.terminal_tree.Goals as goal

pub terminal_tree-requires : goal.terminal_tree-requires
unfolding told_by
terminal_tree-requires c = counted_of _ _ _ (sym c.in_ok-net.ensures)

pub returns-in_err-net : goal.returns-in_err-net
unfolding terminal_tree told_by
returns-in_err-net c =
    let a = c.args in
    gives-refused (told-passed _ _ _ c.from_residual.ensures.1) (only-refused (checked a.w a.pins.now a.macros.now) (terminal_given a.w a.pins.now a.macros.now (length a.paths.now)) _ (sym c.in_err-net.ensures))

pub returns : goal.returns
unfolding terminal_tree told_by
returns c =
    let a = c.args in
    let allowed = sym c.in_ok-net.ensures in
    gives_as (sym (only-given (checked a.w a.pins.now a.macros.now) (terminal_given a.w a.pins.now a.macros.now (length a.paths.now)) _ allowed))
    (subst (λ (z : Weighing). TerminalCall terminal_given z a.pins.now a.macros.now a.paths.now c.terminal_tree.result c.terminal_tree.new.paths) (handed-back _ _ _ allowed) c.terminal_tree.ensures)
