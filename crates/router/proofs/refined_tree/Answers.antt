-- `router::refined_tree` meets its contract: what both trees say, without the terminal tree's total.
-- Assumes nothing.
use Rattle.std.proofs.Common.{◌∙◌}
use Rattle.router.proofs.CallLaws.{told-passed, refined-alone, alone-given, alone-refused}
use Rattle.router.proofs.refined_tree.Goals as goal

pub returns-in_err-both : goal.returns-in_err-both
returns-in_err-both c =
    refined-alone c.args.w c.args.pins.now c.args.macros.now c.in_err-both.ensures _
    (told-passed _ _ _ c.from_residual.ensures.1 ∙ alone-refused _)

pub returns : goal.returns
returns c = refined-alone c.args.w c.args.pins.now c.args.macros.now c.in_ok-both.ensures _ (alone-given _)
