use Rattle.std.proofs.Common.{◌∙◌, refl, sym, get_or, arith}
use Rattle.beside.proofs.BesideLaws.{Spots, weigh-low, weigh-no, weigh-yes}
use Rattle.beside.proofs.weigh.Goals as goal
use Rattle.beside.proofs.weigh.Goals.{else-c-gain-via-then-c-gain+else-is_free, else-c-gain-via-else-c-gain}

pub returns-then-is_free : goal.returns-then-is_free
returns-then-is_free c =
    let spots : Spots c.args.w c.args.pts.now c.args.vertices.now c.args.far.now c.args.a c.args.b c.args.u c.place_at.result
    c.place_at-2.result c.place_at-r.result c.middle_place-s.result c.cost.result (get_or c.args.far.now c.args.u 0) =
    record {
      one = c.place_at.ensures;
      two = c.place_at-2.ensures;
      three = c.place_at-r.ensures;
      mid = c.middle_place-s.ensures;
      metal = c.cost.ensures.0;
      far = refl;
    } in
    weigh-yes _ _ _ _ _ _ _ _ _ _ _ _ _ _ _ _ _ _ _ _ spots _ c.saturating_sub-gain.ensures (omega arith)
    (sym c.is_free.ensures ∙ c.if-is_free.true)

pub returns-else-c-gain : goal.returns-else-c-gain
returns-else-c-gain c =
    let spots : Spots c.args.w c.args.pts.now c.args.vertices.now c.args.far.now c.args.a c.args.b c.args.u c.place_at.result
    c.place_at-2.result c.place_at-r.result c.middle_place-s.result c.cost.result (get_or c.args.far.now c.args.u 0) =
    record {
      one = c.place_at.ensures;
      two = c.place_at-2.ensures;
      three = c.place_at-r.ensures;
      mid = c.middle_place-s.ensures;
      metal = c.cost.ensures.0;
      far = refl;
    } in
    elim c.else-c-gain.branch [
      | else-c-gain-via-then-c-gain+else-is_free w ↦
          weigh-no _ _ _ _ _ _ _ _ _ _ _ _ _ _ _ _ _ _ _ _ spots (sym w.is_free.ensures ∙ w.if-is_free.false)
      | else-c-gain-via-else-c-gain w ↦ weigh-low _ _ _ _ _ _ _ _ _ _ _ _ _ _ _ _ _ _ _ _ spots (omega arith)
    ]
