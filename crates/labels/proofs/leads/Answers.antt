use Rattle.std.proofs.Common.{ap, ap₂, ℕ, ◌&&◌, eqb, get_or}
use Rattle.labels.specs.Labelling.{leads}
use Rattle.labels.proofs.leads.Goals as goal

pub returns : goal.returns
unfolding leads
returns c =
    let lab = c.args.lab.now in
    ap₂ ◌&&◌ c.is_level.ensures (ap (λ (i : ℕ). eqb (get_or lab i 0) i) c.first_end-a.ensures.0)
