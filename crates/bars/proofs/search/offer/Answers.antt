use Rattle.std.proofs.Common.{◌≡◌, ◌∙◌}
use Rattle.hanging.specs.Hanging.{hang}
use Rattle.hanging.proofs.TallyLaws.{read_back}
use Rattle.turned.specs.Turned.{view}
use Rattle.moves.specs.Moving.{held, last_on}
use Rattle.bars.proofs.CodeLaws.{move-is, offer-judged, offer-equal, offer-weak, offer-held, offer-taken, offer-left}
use Rattle.bars.proofs.search.offer.Goals as goal
use Rattle.bars.proofs.search.offer.Goals.{then-not-is_better-via-then-not-is_better, then-not-is_better-via-else-not-is_better+then-is_held}

pub returns-then-h : goal.returns-then-h
returns-then-h c =
    let z = c.args.z in
    let seen = view c.args.pts.now c.args.keys.now c.args.lab.now c.args.s c.args.l in
    let h = c.hang_at-h.result in
    let known : h ≡ hang seen z.edges = c.hang_at-h.ensures ∙ read_back c.requires.points_le_straight_bound.0.1 c.requires.coded in
    offer-equal seen z h known _ _ _ c.if-h.true

pub returns-then-not-is_better : goal.returns-then-not-is_better
unfolding held
returns-then-not-is_better c =
    let z = c.args.z in
    let seen = view c.args.pts.now c.args.keys.now c.args.lab.now c.args.s c.args.l in
    let h = c.hang_at-h.result in
    let known : h ≡ hang seen z.edges = c.hang_at-h.ensures ∙ read_back c.requires.points_le_straight_bound.0.1 c.requires.coded in
    elim c.then-not-is_better.branch [
      | then-not-is_better-via-then-not-is_better w ↦
          offer-weak seen z h known _ _ _ c.if-h.false _
          (move-is seen z h known _ _ _ c.weight_of.ensures.0 c.point_at.ensures) _ c.is_better.ensures w.if-not-is_better.true
      | then-not-is_better-via-else-not-is_better+then-is_held w ↦
          offer-held seen z h known _ _ _ c.if-h.false _
          (move-is seen z h known _ _ _ c.weight_of.ensures.0 c.point_at.ensures) _ c.is_better.ensures w.if-not-is_better.false _ w.is_held.ensures
          w.if-is_held.true
    ]

pub returns-then-is_better : goal.returns-then-is_better
unfolding held last_on
returns-then-is_better c =
    let z = c.args.z in
    let seen = view c.args.pts.now c.args.keys.now c.args.lab.now c.args.s c.args.l in
    let h = c.hang_at-h.result in
    let known : h ≡ hang seen z.edges = c.hang_at-h.ensures ∙ read_back c.requires.points_le_straight_bound.0.1 c.requires.coded in
    offer-taken seen z h known _ _ _ c.if-h.false _
    (move-is seen z h known _ _ _ c.weight_of.ensures.0 c.point_at.ensures) _ c.is_better.ensures c.if-not-is_better.false _ c.is_held.ensures
    c.if-is_held.false _ _ (move-is seen z h known _ _ _ c.weight_of.ensures.0 c.point_at.ensures)
    (offer-judged seen z h known _ c.args.c _ _ _ _ c.weight_of.ensures.0 c.bar_of.ensures c.reach-d.ensures.near c.needed.ensures) _
    c.is_better-2.ensures c.if-is_better.true

pub returns-else-is_better : goal.returns-else-is_better
unfolding held last_on
returns-else-is_better c =
    let z = c.args.z in
    let seen = view c.args.pts.now c.args.keys.now c.args.lab.now c.args.s c.args.l in
    let h = c.hang_at-h.result in
    let known : h ≡ hang seen z.edges = c.hang_at-h.ensures ∙ read_back c.requires.points_le_straight_bound.0.1 c.requires.coded in
    offer-left seen z h known _ _ _ c.if-h.false _
    (move-is seen z h known _ _ _ c.weight_of.ensures.0 c.point_at.ensures) _ c.is_better.ensures c.if-not-is_better.false _ c.is_held.ensures
    c.if-is_held.false _ _ (move-is seen z h known _ _ _ c.weight_of.ensures.0 c.point_at.ensures)
    (offer-judged seen z h known _ c.args.c _ _ _ _ c.weight_of.ensures.0 c.bar_of.ensures c.reach-d.ensures.near c.needed.ensures) _
    c.is_better-2.ensures c.if-is_better.false
