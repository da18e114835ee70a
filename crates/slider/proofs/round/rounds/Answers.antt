use Rattle.std.proofs.Common.{sym, ap, ◌∙◌, subst, List, ◌<◌, arith}
use Rattle.net.specs.Net.{net_with}
use Rattle.slide.specs.Bend.{Edge}
use Rattle.slide.specs.Slide.{rounds}
use Rattle.slide.specs.Promise.{State}
use Rattle.settled.specs.Settled.{edges_of}
use Rattle.slider.proofs.RoundLaws.{round-state}
use Rattle.slider.proofs.TurnLaws.{few-edges, turn-next, turn_last, turn_end}
use Rattle.slider.proofs.round.rounds.Goals as goal

pub returns-in_default : goal.returns-in_default
returns-in_default c =
    let s = c.args in
    let net = net_with s.w s.pins.now s.macros.now in
    let T = edges_of c.loop.list c.loop.count in
    let still = c.in_default.ensures in
    let few = few-edges s.w s.pins.now s.macros.now c.loop.list c.loop.count c.loop.invariant.1.0 in
    (still.1 ∙ turn_last net s.n c.loop.counter _ T c.loop.invariant.1.1 still.0, omega (arith, few))

pub loop-preserved : goal.loop-preserved
loop-preserved c =
    let s = c.args in
    let net = net_with s.w s.pins.now s.macros.now in
    let T = edges_of c.loop.list c.loop.count in
    let moved = c.in-Some.ensures in
    let more : c.loop.counter < s.n = omega arith in (
      c.round.auto.list ∙ c.loop.invariant.0,
      (
        subst (λ (U : List Edge). State net U) (sym moved.1) (round-state net T c.loop.invariant.1.0),
        ap (rounds net _) moved.1 ∙ turn-next net s.n c.loop.counter _ T c.loop.invariant.1.1 more,
      ),
    )

pub returns : goal.returns
returns c =
    let s = c.args in
    let net = net_with s.w s.pins.now s.macros.now in
    let few = few-edges s.w s.pins.now s.macros.now c.loop.list c.loop.count c.loop.invariant.1.0 in
    (turn_end net s.n c.loop.counter _ _ c.loop.invariant.1.1 (omega arith), omega (arith, few))
