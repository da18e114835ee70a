use Rattle.std.proofs.Common.{◌≡◌, ◌≤◌, ℕ, refl, length, take, length-take-le}
use Rattle.std.proofs.lemmas.List.{length-replicate}
use Rattle.lent.specs.Over.{over}
use Rattle.best.proofs.clear.Goals as goal

pub returns : goal.returns
unfolding over
returns c =
    let filled = c.fill.ensures.after (λ y e. e) in
    let room : c.args.n ≤ length c.args.work.now = c.requires in
    let long : length (take c.args.n c.args.work.now) ≡ c.args.n = length-take-le c.args.n c.args.work.now room in
    rw (filled, long, length-replicate {A = ℕ} c.args.n 0) refl
