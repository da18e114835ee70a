-- `results::metal` meets its contract: the refiner's answer is the refined tree, whose metal is no more than its total, which fits.
-- Assumes nothing.
use mathlib.Core.Path.{refl}
use native.Mathlib.Omega.{arith}
use Rattle.results.proofs.RefinedLaws.{total-low, metal-low, answer-metal, metal-asks}
use Rattle.results.proofs.metal.Statement.{statement}
use Rattle.results.proofs.metal.Tie as tie

refine-requires : tie.Need-refine-tree-requires
refine-requires c κs = (c.requires, (refl, refl))

abbrev start : tie.After-refine-tree → tie.Start
start c = c.before.before.before

metal-requires : tie.Need-metal-requires
metal-requires c κs = let r = c.before.before in metal-asks (start r).requires.allowed r.refine-tree.ensures.0

returns : tie.Need-returns
returns c =
    let r = c.before.before.before in
    let a = (start r).requires.allowed in
    let is = answer-metal a r.refine-tree.ensures.0 c.metal.ensures in
    (is, omega (arith, is, metal-low a, total-low a))

pub metal_spec : {M : Type 1} → statement M
metal_spec = tie.close (tie.spec refine-requires metal-requires returns)
