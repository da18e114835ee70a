use Rattle.std.proofs.Common.{◌∙◌, ap, ℕ, replicate}
use Rattle.sweeps.proofs.fill.Goals as goal

pub returns : goal.returns
returns c = c.fill.ensures.after (λ y e. e) ∙ ap (λ (n : ℕ). replicate n c.args.x) c.requires
