use Rattle.std.proofs.Common.{◌∙◌, refl, sym, ap}
use Rattle.tree.specs.Table.{tree}
use Rattle.beside.specs.declared.Choice.{Choice}
use Rattle.refiner.proofs.ReadyLaws.{made_labels, made-nearing, made-seated, chosen-in, exchanged-in, exchangeable}
use Rattle.refiner.proofs.round.round.Goals as goal

pub seats-requires-clause-below : goal.seats-requires-clause-below
seats-requires-clause-below c =
    let m = made_labels _ (tree c.args.pts.now c.args.n c.args.keys.now c.args.e) c.requires.fits.0 c.requires.fits.1
    c.sources-s.ensures.result_after c.sources-s.ensures.upper_bound.1 c.forest.ensures.root_after c.forest.ensures.via_after in
    m.rooted

pub found-c-requires-clause-v_le_point_bound : goal.found-c-requires-clause-v_le_point_bound
found-c-requires-clause-v_le_point_bound c = (
  c.requires.fits.1,
  made-seated _ (tree c.args.pts.now c.args.n c.args.keys.now c.args.e) c.requires.fits.0 c.requires.fits.1
      c.sources-s.ensures.result_after c.sources-s.ensures.upper_bound.1 c.forest.ensures.root_after c.forest.ensures.via_after
      c.seats.ensures c.requires.roomy,
)

pub found-c-requires-clause-low : goal.found-c-requires-clause-low
found-c-requires-clause-low c =
    let m = made_labels _ (tree c.args.pts.now c.args.n c.args.keys.now c.args.e) c.requires.fits.0 c.requires.fits.1
    c.sources-s.ensures.result_after c.sources-s.ensures.upper_bound.1 c.forest.ensures.root_after c.forest.ensures.via_after in (
      m.low,
      made-nearing _ (tree c.args.pts.now c.args.n c.args.keys.now c.args.e) c.requires.fits.0 c.requires.fits.1
          c.sources-s.ensures.result_after c.sources-s.ensures.upper_bound.1 c.forest.ensures.root_after c.forest.ensures.via_after,
    )

pub returns-then-c-eq0-clause-turned : goal.returns-then-c-eq0-clause-turned
returns-then-c-eq0-clause-turned c =
    let q = chosen-in _ (tree c.args.pts.now c.args.n c.args.keys.now c.args.e) c.requires.fits.0 c.requires.fits.1
    c.sources-s.ensures.result_after c.sources-s.ensures.upper_bound.1 c.forest.ensures.root_after c.forest.ensures.via_after
    c.seats.ensures _ _ _ c.found-c.ensures.value in
    record { gain = ap (λ (x : Choice). x.best.gain) (sym q) ∙ c.if-c-eq0.true; same = refl }

pub exchanged-requires : goal.exchanged-requires
exchanged-requires c =
    exchangeable _ (tree c.args.pts.now c.args.n c.args.keys.now c.args.e) c.requires.fits.0 c.requires.fits.1
    c.sources-s.ensures.result_after c.sources-s.ensures.upper_bound.1 c.forest.ensures.root_after c.forest.ensures.via_after
    c.seats.ensures _ _ _ c.found-c.ensures.value c.requires.roomy c.if-c-eq0.false

pub returns-clause-turned : goal.returns-clause-turned
returns-clause-turned c =
    let q = chosen-in _ (tree c.args.pts.now c.args.n c.args.keys.now c.args.e) c.requires.fits.0 c.requires.fits.1
    c.sources-s.ensures.result_after c.sources-s.ensures.upper_bound.1 c.forest.ensures.root_after c.forest.ensures.via_after
    c.seats.ensures _ _ _ c.found-c.ensures.value in
    let x = c.exchanged.ensures in
    record {
      gain = λ z. c.if-c-eq0.false (ap (λ (y : Choice). y.best.gain) q ∙ z);
      moved =
          x.0 ∙ exchanged-in _ (tree c.args.pts.now c.args.n c.args.keys.now c.args.e) c.requires.fits.0 c.requires.fits.1
          c.sources-s.ensures.result_after c.sources-s.ensures.upper_bound.1 c.forest.ensures.root_after c.forest.ensures.via_after
          c.seats.ensures _ _ _ c.found-c.ensures.value;
      few = x.1.0;
      within = x.1.1;
    }
