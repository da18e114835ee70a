-- Its calls are the definitions' stages, and each leaves what the next one asks.
use Rattle.std.proofs.Common.{refl, arith}
use Rattle.forest.specs.Bounds.{edge_bound}
use Rattle.forest.proofs.EdgeLaws.{below-replicate}
use Rattle.keeping.proofs.WholeLaws.{light, ordered, kept-listed, kept-inside, lengths-listed}
use Rattle.keeping.proofs.kept_paths.Goals as goal

pub sort_bridges-n-requires-clause-below : goal.sort_bridges-n-requires-clause-below
sort_bridges-n-requires-clause-below c = (below-replicate edge_bound edge_bound 0 (omega arith), refl)

pub keep-count-requires-clause-named : goal.keep-count-requires-clause-named
keep-count-requires-clause-named c =
    let fits = c.requires.fits.0 in
    let o = c.sort_bridges-n.ensures in
    (ordered _ _ _ fits _ _ _ c.weigh.ensures o.listed, (c.requires.fits.1.1, omega (arith, o.upper_bound, fits.count)))

pub measure-total-requires-clause-n_le_edge_bound : goal.measure-total-requires-clause-n_le_edge_bound
measure-total-requires-clause-n_le_edge_bound c =
    let fits = c.requires.fits.0 in
    let o = c.sort_bridges-n.ensures in
    let k = c.keep-count.ensures in (
      omega (arith, k.upper_bound, o.upper_bound, fits.count),
      (kept-inside _ _ _ fits _ _ _ c.weigh.ensures o.listed _ c.number.ensures _ _ _ k.listed, c.requires.kept_len.1),
    )

pub measure-total-requires-clause-below : goal.measure-total-requires-clause-below
measure-total-requires-clause-below c =
    light _ _ _ c.requires.fits.0 _ _ _ c.weigh.ensures c.sort_bridges-n.ensures.listed c.requires.falls c.requires.fits.1.0

pub returns : goal.returns
returns c =
    let fits = c.requires.fits.0 in
    let o = c.sort_bridges-n.ensures.listed in
    let k = c.keep-count.ensures.listed in
    let m = c.measure-total.ensures in
    let lengths = lengths-listed _ _ _ fits _ _ _ c.weigh.ensures o _ c.number.ensures _ _ _ k _ _ _ m.listed m.value in
    record {
      listed = kept-listed _ _ _ fits _ _ _ c.weigh.ensures o _ c.number.ensures _ _ _ k;
      listed_2 = lengths.0;
      total_value = lengths.1;
    }
