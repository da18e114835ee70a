use Rattle.std.proofs.Common.{◌∙◌, eqb, ◌*◌, arith}
use Rattle.links.specs.Links.{has_picked}
use Rattle.links.proofs.LinkLaws.{any-four}
use Rattle.links.proofs.has_picked.Goals as goal

pub returns : goal.returns
unfolding has_picked
returns c =
    c.contains.ensures.value ∙ any-four (λ y. eqb y c.args.b) c.args.picked.now (c.args.a * 4) (omega arith)
