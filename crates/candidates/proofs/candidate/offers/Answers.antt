-- A point too far from the box of the edge changes nothing: one that is asked, and all before the first and after the last near one.
use Rattle.std.proofs.Common.{◌-◌, ◌<◌, ◌≤◌, ◌∙◌, sym, subst, get_or, arith}
use Rattle.lists.proofs.TurnLaws.{turns_next}
use Rattle.tree.specs.Table.{tree_bound, first_end, second_end}
use Rattle.near.proofs.BoxLaws.{box-is, box-sides}
use Rattle.longest.proofs.HungLaws.{same_length}
use Rattle.longest.proofs.RowLaws.{fresh_start}
use Rattle.candidates.specs.declared.Best.{Best}
use Rattle.candidates.specs.Candidate.{offers}
use Rattle.candidates.proofs.CandidateLaws.{offer-far}
use Rattle.candidates.proofs.NearLaws.{turns-back, turns-from, offer-more, offer-beyond}
use Rattle.candidates.proofs.candidate.offers.Goals as goal
use Rattle.candidates.proofs.candidate.offers.Goals.{then-may_gain, else-may_gain}

pub returns-then-most-c : goal.returns-then-most-c
unfolding offers
returns-then-most-c c =
    let q = get_or c.args.keys.now c.args.k 0 in
    let box = box-is c.args.pts.now (first_end q) (second_end q) _ _ _ c.point_at.ensures c.point_at-2.ensures c.box_of-m.ensures in
    sym (turns-back _ c.args.n 0 c.args.c
    (λ u h k. offer-beyond _ _ _ _ _ _ _ _ _ u c.args.c _ box c.args.most c.requires.low.0 c.args.c.gain
    (omega arith) (omega (arith, c.if-most-c.true))))

pub to-last-requires-clause-le : goal.to-last-requires-clause-le
to-last-requires-clause-le c = box-sides _ _ _ c.box_of-m.ensures

pub start-requires : goal.start-requires
start-requires c =
    let w = c.requires.k_lt_e.1.1.ends c.args.k in
    let h = c.requires.low.1 in
    (h.tied, ((h.all _ w.0, h.all _ w.1), same_length tree_bound tree_bound))

pub loop-u-init : goal.loop-u-init
loop-u-init c =
    let q = get_or c.args.keys.now c.args.k 0 in
    let box = box-is c.args.pts.now (first_end q) (second_end q) _ _ _ c.point_at.ensures c.point_at-2.ensures c.box_of-m.ensures in
    let h = c.requires.low.1 in
    let m = c.start.ensures in (
      (omega (arith, c.from-first.ensures.0, c.to-last.ensures.0), c.to-last.ensures.0),
      (
        (m.begun, m.by_index _ h.told (fresh_start _ h.tied) (h.paired c.args.k c.requires.k_lt_e.0.0)),
        (
          turns-from _ c.from-first.result c.args.n c.args.c c.from-first.ensures.0
              (λ u k. offer-beyond _ _ _ _ _ _ _ _ _ u c.args.c _ box c.args.most c.requires.low.0 c.args.c.gain
              (omega arith) (c.from-first.ensures.1 u k)),
          omega arith,
        ),
      ),
    )

pub loop-u-preserved : goal.loop-u-preserved
loop-u-preserved c =
    let q = get_or c.args.keys.now c.args.k 0 in
    let box = box-is c.args.pts.now (first_end q) (second_end q) _ _ _ c.point_at.ensures c.point_at-2.ensures c.box_of-m.ensures in
    let i = c.loop-u.invariant in
    let h : c.loop-u.u < c.args.n = omega (arith, c.loop-u-test.true, i.0.1) in
    elim c.if-may_gain.branch [
      | then-may_gain w ↦
          let m = w.cut_at-l.ensures in
          let k = m.by_index _ i.1.0.1 in
          let e = w.offer-found.ensures _ k.0 in
          rw (w.row-is, w.found-is) (
            (omega arith, i.0.1),
            (
              (m.upper_bound.1, k.1),
              (
                turns_next _ _ _ _ _ _ i.1.1.0 h e,
                omega (arith, i.1.1.1, subst (λ (z : Best). c.loop-u.found.gain ≤ z.gain) (sym e) (offer-more _ _ _ _ _ _ _ _ _ _ _)),
              ),
            ),
          )
      | else-may_gain w ↦
          rw (w.row-is, w.found-is) (
            (omega arith, i.0.1),
            (
              i.1.0,
              (
                turns_next _ _ _ _ _ _ i.1.1.0 h
                    (offer-far _ _ _ _ _ _ _ _ _ _ _ _ box _ c.point_at-in-loop-u.ensures _ c.requires.low.0 _ c.may_gain.ensures
                    w.if-may_gain.false),
                i.1.1.1,
              ),
            ),
          )
    ]

pub returns : goal.returns
unfolding offers
returns c =
    let q = get_or c.args.keys.now c.args.k 0 in
    let box = box-is c.args.pts.now (first_end q) (second_end q) _ _ _ c.point_at.ensures c.point_at-2.ensures c.box_of-m.ensures in
    let i = c.loop-u.invariant in
    sym (turns-back _ (c.args.n - c.loop-u.u) c.loop-u.u c.loop-u.found
    (λ v h k. offer-beyond _ _ _ _ _ _ _ _ _ v c.loop-u.found _ box c.args.most c.requires.low.0 c.args.c.gain i.1.1.1
    (c.to-last.ensures.1 v (omega (arith, h, c.loop-u-test.false)) (omega (arith, h, k)))))
    ∙ i.1.1.0
