use Rattle.std.proofs.Common.{◌≡◌, refl, ◌∙◌, ◌*◌, None, length, arith}
use Rattle.settled.proofs.SettledLaws.{edges-in-order}
use Rattle.straight.specs.Table.{straight_bound}
use Rattle.slider.proofs.SlidLaws.{bent-to, edges-given, bend-asks, slid-given-back, few-room, start-state, slid-rounds}
use Rattle.slider.proofs.slide.Goals as goal

pub bend_tree-requires : goal.bend_tree-requires
bend_tree-requires c =
    let s = c.args in
    let asks = bend-asks s.w s.pins.now s.macros.now s.edges.now s.e c.requires.slidable c.requires.edges_len in
    record { e_in_bounds = asks.0; e_len_bound = asks.1 }

pub returns-in_default : goal.returns-in_default
returns-in_default c =
    let s = c.args in
    slid-given-back s.w s.pins.now s.macros.now s.edges.now s.e c.requires.slidable None _ c.in_default.ensures refl

pub sort_edges-start-requires : goal.sort_edges-start-requires
sort_edges-start-requires c =
    let s = c.args in
    let to = bent-to _ c.in-Some.bent c.bend_tree.new.out c.in-Some.ensures in
    let wide : length c.bend_tree.new.out ≡ straight_bound * 4 = c.bend_tree.auto.out in
    let few = few-room s.w s.pins.now s.macros.now s.edges.now s.e c.requires.slidable c.in-Some.bent c.bend_tree.new.out to in
    (omega (arith, few, wide), omega (arith, few))

pub rounds-count-requires-clause-state : goal.rounds-count-requires-clause-state
rounds-count-requires-clause-state c =
    let s = c.args in
    start-state s.w s.pins.now s.macros.now s.edges.now s.e c.requires.slidable c.in-Some.bent c.bend_tree.new.out
    (bent-to _ c.in-Some.bent c.bend_tree.new.out c.in-Some.ensures) _ _ (edges-in-order c.sort_edges-start.ensures)

pub returns : goal.returns
returns c =
    let s = c.args in
    edges-given c.rounds-count.new.list _ _ c.rounds-count.result c.give.ensures
    ∙ c.rounds-count.ensures.0
    ∙ slid-rounds s.w s.pins.now s.macros.now s.edges.now s.e c.requires.slidable c.in-Some.bent c.bend_tree.new.out
    (bent-to _ c.in-Some.bent c.bend_tree.new.out c.in-Some.ensures) _ _ (edges-in-order c.sort_edges-start.ensures)
