-- i points before are found among the first j of now.
use Rattle.std.proofs.Common.{◌<◌}
use Rattle.std.specs.Option.{IfSome, unwrap_or}
use Rattle.bounds.proofs.NumberLaws.{Finding}
use Rattle.bounds.proofs.numbers.Given as goal

abbrev pub invariant-loop-j : goal.invariant-loop-j
invariant-loop-j l = IfSome l.fresh (λ k. k < l.n) × Finding l.old l.m l.pts l.n (unwrap_or l.fresh l.n) l.i l.j l.at
