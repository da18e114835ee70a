-- `router::allowed::lower_bound` meets its contract: 21 where too little work is lent, and where there is room the bound.
-- Assumes nothing.
use Rattle.std.proofs.Common.{refl, length}
use mathlib.Core.Path.{subst}
use Rattle.net.specs.Answer.{number, told_by}
use Rattle.net.specs.Net.{Net, handed}
use Rattle.bound.specs.Bound.{Bound}
use Rattle.answers.proofs.BoundLaws.{bound-short, bound-enough, bound-room}
use Rattle.made.proofs.CountedLaws.{as-net, as-allowed}
use Rattle.router.proofs.CallLaws.{bound-refused, bound-given}
use Rattle.router.proofs.allowed.lower_bound.Goals as goal

pub returns-then-left-rows : goal.returns-then-left-rows
unfolding told_by number
returns-then-left-rows c =
    let a = c.args in
    bound-refused refl
    (bound-short (handed a.net.weights) a.pins.now a.macros.now (length a.left.now) (length a.rows.now) 0 c.if-left-rows.true)

pub lower_bound-requires : goal.lower_bound-requires
lower_bound-requires c =
    let a = c.args in
    record {
      allowed = as-allowed c.requires;
      arc_bound_in_bounds = bound-room (length a.left.now) (length a.rows.now) c.if-left-rows.false;
    }

pub returns : goal.returns
unfolding told_by
returns c =
    let a = c.args in
    let n = c.lower_bound.result in
    bound-given (subst (λ (z : Net). Bound z n) (as-net c.requires) c.lower_bound.ensures.bound) refl
    (bound-enough (handed a.net.weights) a.pins.now a.macros.now (length a.left.now) (length a.rows.now) n c.if-left-rows.false)
    c.lower_bound.ensures.left_after.0 c.lower_bound.ensures.left_after.1
