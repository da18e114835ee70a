-- A step up keeps the way that is known, and at the first point it is the whole way.
use Rattle.std.proofs.Common.{◌<◌, ◌∙◌, length, get_or, length-set, refl}
use Rattle.longest.proofs.RowLaws.{known-here, chain-start, chain-step, chain-end}
use Rattle.longest.proofs.climb.Goals as goal

pub loop-v-preserved : goal.loop-v-preserved
loop-v-preserved c =
    let g = c.loop-v-test.true in
    let i = c.loop-v.invariant in
    let tied = c.requires.0 in
    let up = tied.up c.loop-v.v g in
    let m = c.longer-l.ensures in
    let u = get_or c.args.onto.now c.loop-v.v 0 in
    let j : u < length c.loop-v.row = rw i.0.1.0 (tied.low u up.0) in (
      (
        (up.0, m.1),
        (length-set c.loop-v.row u c.longer-l.result ∙ i.0.1.0, known-here c.loop-v.row u c.longer-l.result j m.1),
      ),
      λ t told z. chain-step _ _ tied t told _ _ _ _ _ _ g i.0.1.0 m.0 m.1 refl (i.1 t told z),
    )

pub returns-clause-by_index : goal.returns-clause-by_index
returns-clause-by_index c t told fresh =
    chain-end _ _ c.requires.0 t told _ _ _ _ c.loop-v-test.false
    (c.loop-v.invariant.1 t told (chain-start _ _ c.requires.0 t told _ c.args.row.now c.requires.1.0 c.requires.1.1 fresh))
