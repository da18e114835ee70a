-- It is the forest and what is kept by it.
use Rattle.forest.proofs.ForestLaws.{made-fine, made-falls}
use Rattle.keeping.proofs.WholeLaws.{whole}
use Rattle.keeping.proofs.kept_tree.Goals as goal

pub kept_paths-requires-clause-fits : goal.kept_paths-requires-clause-fits
kept_paths-requires-clause-fits c =
    let q = c.requires.fits in
    let f = c.forest.ensures in
    let fine = made-fine _ _ _ _ _ _ q.0 q.1.0 q.1.1.1 f.root_after f.via_after in
    (q.0, (fine.low, fine.rooted))

pub kept_paths-requires-clause-falls : goal.kept_paths-requires-clause-falls
kept_paths-requires-clause-falls c =
    let q = c.requires.fits in
    let f = c.forest.ensures in
    made-falls _ _ _ _ _ _ q.0 q.1.0 q.1.1.1 f.root_after f.via_after

pub returns : goal.returns
returns c =
    let f = c.forest.ensures in
    let k = c.kept_paths.ensures in
    let all = whole _ _ _ _ _ f.root_after f.via_after _ _ _ _ _ _ k.listed (k.listed_2, k.total_value) in
    record { root_after = all.0; via_after = all.1.0; listed = all.1.1.0; listed_2 = all.1.1.1.0; total_value = all.1.1.1.1 }
