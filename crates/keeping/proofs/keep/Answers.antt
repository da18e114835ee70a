use Rattle.std.proofs.Common.{◌≡◌, ◌<◌, get_or, sym, ◌∙◌, arith, length-take}
use Rattle.std.proofs.lemmas.List.{get_or-take}
use Rattle.forest.proofs.EdgeLaws.{all_left, entries_next, entries-end}
use Rattle.keeping.proofs.KeptLaws.{keep-none, keep-pass, keep-more, keep-end, merged-length}
use Rattle.keeping.proofs.keep.Goals as goal
use Rattle.keeping.proofs.keep.Goals.{then-a-b, else-a-b}

pub loop-j-init : goal.loop-j-init
loop-j-init c = record { few = omega arith; room = c.requires.group_len.0; keeping = rw (all_left c.args.n) (keep-none _ _ _ _) }

pub loop-j-preserved : goal.loop-j-preserved
loop-j-preserved c =
    let i = c.loop-j.j-index in
    let h : i < c.args.n = omega (arith, length-take c.args.n c.args.order.now) in
    let is : get_or c.args.order.now i 0 ≡ c.from-k.result =
    sym (c.from-k.ensures ∙ get_or-take c.args.n c.args.order.now i 0 h)
    in
    let next = rw is at (entries_next i c.args.n c.args.order.now h) in
    let inv = c.loop-j.invariant in
    elim c.if-a-b.branch [
      | then-a-b w ↦ rw (w.group-is, w.kept-is, w.count-is) (record {
        few = omega arith;
        room = merged-length _ _ _ _ _ w.merge.ensures inv.room;
        keeping = keep-more _ _ _ _ _ _ _ _ inv.keeping _ _ next _ _ c.group_at-a.ensures c.group_at-b.ensures _ w.if-a-b.true w.merge.ensures
            (omega (arith, c.requires.group_len.1, c.requires.named.1.1));
      })
      | else-a-b w ↦ rw (w.group-is, w.kept-is, w.count-is) (record {
        few = omega arith;
        room = inv.room;
        keeping = keep-pass _ _ _ _ _ _ _ _ inv.keeping _ _ next _ _ c.group_at-a.ensures c.group_at-b.ensures w.if-a-b.false;
      })
    ]

pub returns-clause-listed : goal.returns-clause-listed
returns-clause-listed c =
    keep-end _ _ _ _ _ _ _ _ c.loop-j.invariant.keeping (entries-end _ _ _ (omega (arith, length-take c.args.n c.args.order.now)))
