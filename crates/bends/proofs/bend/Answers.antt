use Rattle.std.proofs.Common.{◌≡◌, refl, sym, ap, ap₂, ◌∙◌, ◌+◌, ◌*◌, ◌≤◌, ◌<◌, length, arith}
use Rattle.std.proofs.lemmas.List.Edits.{sets}
use Rattle.lent.specs.Entries.{entries}
use Rattle.plane.specs.declared.Place.{Place}
use Rattle.plane.specs.Flat.{place_from}
use Rattle.graph.specs.Numbers.{edge_numbers, edge_from}
use Rattle.slide.specs.Bend.{Edge, straight}
use Rattle.settled.specs.Settled.{edges_of}
use Rattle.settled.proofs.EntryScan.{entries_next, entries-end}
use Rattle.bends.specs.Bending.{corner_of}
use Rattle.bends.proofs.BendingLaws.{bending-none, bending-straight, bending-on, bending-gives_back, bending-end}
use Rattle.bends.proofs.bend.Goals as goal
use Rattle.bends.proofs.bend.Goals.{then-is_straight, else-is_straight+in_ok-at}

pub loop-i-init : goal.loop-i-init
loop-i-init c = record {
  points = omega arith;
  edges = omega arith;
  places = refl;
  lines = refl;
  bending =
      bending-none (entries place_from 2 c.args.pts.now c.args.n) (edges_of c.args.edges.now c.args.e) _ _ c.args.n
      (omega (arith, c.requires.1.0)) refl;
}

pub loop-i-preserved : goal.loop-i-preserved
loop-i-preserved c =
    let s = c.args.edges.now in
    let inv = c.loop-i.invariant in
    let x = edge_from s (c.loop-i.i * 4) in
    let more : c.loop-i.i < c.args.e = omega arith in
    let next = entries_next edge_from 4 s c.args.e c.loop-i.i more in
    let read : ◌≡◌ {A = Edge} (c.first_of-a.result, c.second_of-b.result) x =
    ap₂ (λ (a b : Place). (a, b)) c.first_of-a.ensures c.second_of-b.ensures in
    let told : c.is_straight.result ≡ straight x = c.is_straight.ensures ∙ ap straight read in
    let few : c.loop-i.at.points * 2 + 2 ≤ length c.args.pts.now = omega (arith, c.requires.1.0) in
    let room : c.loop-i.at.edges * 4 + 8 ≤ length c.args.out.now = omega (arith, c.requires.1.1) in
    elim c.if-is_straight.branch [
      | then-is_straight w ↦
          let put = w.put_straight-at in
          rw (w.pts-is, w.out-is, w.at-is ∙ put.ensures.0) (record {
            points = omega arith;
            edges = omega arith;
            places = inv.places;
            lines = put.auto.out ∙ inv.lines;
            bending =
                bending-straight _ _ _ _ inv.bending x _ next refl (sym told ∙ w.if-is_straight.true) (omega (arith, room)) _
                (put.ensures.1 ∙ ap (λ (y : Edge). sets c.loop-i.out (c.loop-i.at.edges * 4) (edge_numbers y)) read);
          })
      | else-is_straight+in_ok-at w ↦
          let put = w.bend_slanted in
          let on =
          bending-on _ _ _ _ inv.bending x _ next refl (sym told ∙ w.if-is_straight.false) few room
          (corner_of (entries place_from 2 c.loop-i.pts c.loop-i.at.points) x) refl _ _ _ (rw read at w.in_ok-at.ensures) in
          rw (w.pts-is, w.out-is, w.at-is ∙ on.0) (record {
            points = omega arith;
            edges = omega arith;
            places = put.auto.pts ∙ inv.places;
            lines = put.auto.out ∙ inv.lines;
            bending = on.1;
          })
    ]

pub returns-in_err-at : goal.returns-in_err-at
returns-in_err-at c =
    let s = c.args.edges.now in
    let x = edge_from s (c.loop-i.i * 4) in
    let more : c.loop-i.i < c.args.e = omega arith in
    let next = entries_next edge_from 4 s c.args.e c.loop-i.i more in
    let read : ◌≡◌ {A = Edge} (c.first_of-a.result, c.second_of-b.result) x =
    ap₂ (λ (a b : Place). (a, b)) c.first_of-a.ensures c.second_of-b.ensures in
    let told : c.is_straight.result ≡ straight x = c.is_straight.ensures ∙ ap straight read in
    rw c.from_residual.ensures
    (bending-gives_back _ _ _ _ c.loop-i.invariant.bending x _ next refl (sym told ∙ c.if-is_straight.false)
    (corner_of (entries place_from 2 c.loop-i.pts c.loop-i.at.points) x) refl _ _ (rw read at c.in_err-at.ensures))

pub returns : goal.returns
returns c =
    bending-end _ _ _ _ c.loop-i.invariant.bending (entries-end edge_from 4 c.args.edges.now c.args.e c.loop-i.i (omega arith))
