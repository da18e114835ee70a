use Rattle.std.proofs.Common.{refl, sym, ◌∙◌, arith}
use Rattle.net.specs.Net.{net_with}
use Rattle.settled.specs.Settled.{edges_of}
use Rattle.slider.proofs.RoundLaws.{rounds-still}
use Rattle.slider.proofs.FoundLaws.{found_none, found_some, found-movable, found-edges}
use Rattle.slider.proofs.TurnLaws.{fresh, few-pins, settle-asks, listed, ranged, found}
use Rattle.slider.proofs.round.round.Goals as goal

pub settle-z-requires : goal.settle-z-requires
settle-z-requires c =
    let s = c.args in
    let a = settle-asks s.w s.pins.now s.macros.now s.list.now s.e c.requires.state c.requires.list_len in record {
      e_le_straight_bound = a.0;
      pins_bound = a.1;
      pts_len = (refl, refl);
    }

pub choice-chosen-requires : goal.choice-chosen-requires
choice-chosen-requires c =
    let s = c.args in
    let few = few-pins s.w s.pins.now s.macros.now s.list.now s.e c.requires.state in
    let m = c.pin_count.ensures in record {
      held = (c.settle-z.ensures.held, (omega (arith, m, few), omega (arith, m)));
      fresh = (fresh, fresh);
    }

pub returns-then-best-eq0 : goal.returns-then-best-eq0
returns-then-best-eq0 c =
    let s = c.args in
    let T = edges_of s.list.now s.e in
    let z = c.settle-z in
    let ch = c.choice-chosen in
    let here =
    found s.w s.pins.now s.macros.now s.list.now s.e c.requires.state z.new.pts z.new.keys z.result.points z.result.edges z.ensures
    c.pin_count.result c.pin_count.ensures _ _ _ ch.ensures.rows_after.0 ch.ensures.rows_after.1 ch.ensures.value in
    let none = found_none T here c.if-best-eq0.true in
    (none, sym (rounds-still (net_with s.w s.pins.now s.macros.now) 1 T none))

pub make-requires : goal.make-requires
make-requires c =
    let s = c.args in
    let T = edges_of s.list.now s.e in
    let z = c.settle-z in
    let ch = c.choice-chosen in
    let held = z.ensures.held in
    let here =
    found s.w s.pins.now s.macros.now s.list.now s.e c.requires.state z.new.pts z.new.keys z.result.points z.result.edges z.ensures
    c.pin_count.result c.pin_count.ensures _ _ _ ch.ensures.rows_after.0 ch.ensures.rows_after.1 ch.ensures.value in record {
      points_le_straight_bound = (held.few, (held.fewer, held.within));
      movable = (
        found-movable T c.requires.state here c.if-best-eq0.false
            (ranged s.w s.pins.now s.macros.now s.list.now s.e c.requires.state z.new.pts z.new.keys z.result.points z.result.edges
            z.ensures),
        c.requires.list_len,
      );
    }

pub returns : goal.returns
returns c =
    let s = c.args in
    let T = edges_of s.list.now s.e in
    let z = c.settle-z in
    let ch = c.choice-chosen in
    let here =
    found s.w s.pins.now s.macros.now s.list.now s.e c.requires.state z.new.pts z.new.keys z.result.points z.result.edges z.ensures
    c.pin_count.result c.pin_count.ensures _ _ _ ch.ensures.rows_after.0 ch.ensures.rows_after.1 ch.ensures.value in (
      found_some T here c.if-best-eq0.false,
      c.make.ensures
          ∙ found-edges T c.requires.state here c.if-best-eq0.false z.new.keys z.result.edges z.ensures.held.within
          (listed s.w s.pins.now s.macros.now s.list.now s.e c.requires.state z.new.pts z.new.keys z.result.points z.result.edges
          z.ensures),
    )
