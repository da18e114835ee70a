-- `router::grid_distances` meets its contract: the refusals of the check first, then what the distances of an allowed net say.
-- Assumes nothing.
use Rattle.std.proofs.Common.{◌≡◌, ◌∙◌, refl, sym, ap, length, [], arith}
use mathlib.Core.Path.{subst}
use Rattle.net.specs.declared.Weighing.{Weighing}
use Rattle.net.specs.Answer.{told_by}
use Rattle.checks.specs.Check.{checked}
use Rattle.checks.proofs.GivenLaws.{handed-back}
use Rattle.answers.proofs.AnswerLaws.{only-refused, only-given}
use Rattle.made.proofs.CountedLaws.{counted_of}
use Rattle.answers.specs.Distances.{distances_given, grid_distances}
use Rattle.router.specs.Call.{DistancesCall}
use Rattle.router.proofs.CallLaws.{told-passed, square-refused, square-as}
use Rattle.router.proofs.grid_distances.Goals as goal

pub grid_distances-requires : goal.grid_distances-requires
unfolding told_by
grid_distances-requires c = counted_of _ _ _ (sym c.in_ok-net.ensures)

pub returns-in_err-net : goal.returns-in_err-net
unfolding grid_distances told_by
returns-in_err-net c =
    let a = c.args in
    square-refused (told-passed _ _ _ c.from_residual.ensures.1) (only-refused (checked a.w a.pins.now a.macros.now) (distances_given a.w a.pins.now a.macros.now (length a.table.now)) _ (sym c.in_err-net.ensures))

pub returns : goal.returns
unfolding grid_distances told_by
returns c =
    let a = c.args in
    let allowed = sym c.in_ok-net.ensures in
    square-as (sym (only-given (checked a.w a.pins.now a.macros.now) (distances_given a.w a.pins.now a.macros.now (length a.table.now)) _ allowed))
    (subst (λ (z : Weighing). DistancesCall distances_given z a.pins.now a.macros.now a.table.now c.grid_distances.result c.grid_distances.new.table) (handed-back _ _ _ allowed) c.grid_distances.ensures)
