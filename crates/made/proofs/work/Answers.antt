-- A table that is filled holds one number throughout.
use Rattle.std.proofs.Common.{◌≡◌, length, arith}
use Rattle.forest.specs.Bounds.{point_bound}
use Rattle.made.proofs.work.Goals as goal

pub terminal_tree-requires-clause-fresh : goal.terminal_tree-requires-clause-fresh
terminal_tree-requires-clause-fresh c =
    let far = c.fill.ensures.after (λ y e. e) in
    let up = c.fill-2.ensures.after (λ y e. e) in
    let via = c.fill-3.ensures.after (λ y e. e) in
    let n : length c.args.t.now.far ≡ point_bound = omega arith in
    let m : length c.args.t.now.up ≡ point_bound = omega arith in
    let k : length c.args.t.now.via ≡ point_bound = omega arith in
    rw (far, up, via, n, m, k) c.requires.fresh
