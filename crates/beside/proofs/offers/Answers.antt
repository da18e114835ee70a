use Rattle.std.proofs.Common.{◌-◌, ◌<◌, ◌≤◌, ◌∙◌, refl, sym, subst, get_or, arith}
use Rattle.tree.specs.Table.{first_end, second_end}
use Rattle.candidates.specs.declared.Best.{Best}
use Rattle.candidates.proofs.NearLaws.{turns-back, turns-from}
use Rattle.longest.proofs.RowLaws.{fresh_start}
use Rattle.near.proofs.BoxLaws.{box-is, box-sides}
use Rattle.lists.proofs.TurnLaws.{turns_next}
use Rattle.beside.specs.Beside.{offers}
use Rattle.beside.proofs.BesideLaws.{offer-zero, offer-far, offer-beyond, offer-more}
use Rattle.beside.proofs.offers.Goals as goal
use Rattle.beside.proofs.offers.Goals.{then-f-gt0+then-may_gain, else-f-gt0}
use Rattle.beside.proofs.offers.Goals.{else-f-gt0-via-then-f-gt0+else-may_gain, else-f-gt0-via-else-f-gt0}

-- no vertex can gain
pub returns-then-most-c : goal.returns-then-most-c
unfolding offers
returns-then-most-c c =
    let q = get_or c.args.keys.now c.args.k 0 in
    let edge = box-is c.args.pts.now (first_end q) (second_end q) _ _ _ c.place_at.ensures c.place_at-2.ensures c.box_of-m.ensures in
    sym (turns-back _ c.args.v 0 c.args.c
    (λ u h k. offer-beyond _ _ _ _ _ _ _ _ _ _ _ _ _ u c.args.c c.args.most c.requires.low_2.0 _ edge
    c.args.c.gain (omega arith) (omega (arith, c.if-most-c.true))))

pub to-last-requires-clause-le : goal.to-last-requires-clause-le
to-last-requires-clause-le c =
    let q = get_or c.args.keys.now c.args.k 0 in
    box-sides _ _ _ (box-is c.args.pts.now (first_end q) (second_end q) _ _ _ c.place_at.ensures c.place_at-2.ensures c.box_of-m.ensures)

pub start-requires : goal.start-requires
start-requires c =
    let w = c.requires.k_lt_e.1.1.ends c.args.k in
    let h = c.requires.low_2.1 in
    (h.tied, ((h.all _ w.0, h.all _ w.1), refl))

pub loop-u-init : goal.loop-u-init
loop-u-init c =
    let q = get_or c.args.keys.now c.args.k 0 in
    let edge = box-is c.args.pts.now (first_end q) (second_end q) _ _ _ c.place_at.ensures c.place_at-2.ensures c.box_of-m.ensures in
    let h = c.requires.low_2.1 in
    let m = c.start.ensures in (
      (m.begun, m.by_index _ h.told (fresh_start _ h.tied) (h.paired c.args.k c.requires.k_lt_e.0.0)),
      (
        turns-from _ c.from-first.result c.args.v c.args.c c.from-first.ensures.0
            (λ u k. offer-beyond _ _ _ _ _ _ _ _ _ _ _ _ _ u c.args.c c.args.most c.requires.low_2.0 _ edge
            c.args.c.gain (omega arith) (c.from-first.ensures.1 u k)),
        omega arith,
      ),
    )

pub loop-u-preserved : goal.loop-u-preserved
loop-u-preserved c =
    let low : c.loop-u.u < c.args.v = omega (arith, c.loop-u-test.true, c.to-last.ensures.0) in
    let kept = c.loop-u.invariant in
    elim c.if-f-gt0.branch [
      | then-f-gt0+then-may_gain w ↦
          let m = w.cut_at-l.ensures in
          let k = m.by_index _ kept.0.1 in
          let e = w.offer-found.ensures _ c.args.seat.now w.if-f-gt0.true refl k.0 in
          rw (w.row-is, w.found-is) (
            (m.upper_bound.1, k.1),
            (
              turns_next _ _ _ _ _ _ kept.1.0 low e,
              omega (
                arith,
                kept.1.1,
                subst (λ (z : Best). c.loop-u.found.gain ≤ z.gain) (sym e) (offer-more _ _ _ _ _ _ _ _ _ _ _ _ _ _ _),
              ),
            ),
          )
      | else-f-gt0 w ↦
          rw (w.row-is, w.found-is) (
            kept.0,
            (
              turns_next _ _ _ _ _ _ kept.1.0 low (elim w.else-f-gt0.branch [
                | else-f-gt0-via-then-f-gt0+else-may_gain x ↦
                    offer-far _ _ _ _ _ _ _ _ _ _ _ _ _ _ _ _ c.requires.low_2.0 _ _ _ c.place_at.ensures c.place_at-2.ensures
                    x.place_at-then-f-gt0.ensures _ _ c.box_of-m.ensures x.may_gain.ensures x.if-may_gain.false
                | else-f-gt0-via-else-f-gt0 x ↦ offer-zero _ _ _ _ _ _ _ _ _ _ _ _ _ _ _ x.if-f-gt0.false
              ]),
              kept.1.1,
            ),
          )
    ]

pub returns : goal.returns
unfolding offers
returns c =
    let q = get_or c.args.keys.now c.args.k 0 in
    let edge = box-is c.args.pts.now (first_end q) (second_end q) _ _ _ c.place_at.ensures c.place_at-2.ensures c.box_of-m.ensures in
    let i = c.loop-u.invariant in
    sym (turns-back _ (c.args.v - c.loop-u.u) c.loop-u.u c.loop-u.found
    (λ v h k. offer-beyond _ _ _ _ _ _ _ _ _ _ _ _ _ v c.loop-u.found c.args.most c.requires.low_2.0 _ edge c.args.c.gain i.1.1
    (c.to-last.ensures.1 v (omega (arith, h, c.loop-u-test.false)) (omega (arith, h, k)))))
    ∙ i.1.0
