-- The kept bridges, and the terminal tree as a whole.
use Rattle.std.specs.Prelude.{List, map, ℕ}
use Rattle.lists.specs.Total.{total}
use Rattle.joined.specs.Table.{kept_by}
use Rattle.forest.specs.Bounds.{point_bound}
use Rattle.forest.specs.Edges.{Graph, from}
use Rattle.forest.specs.Labels.{Labels, labelled}
use Rattle.forest.specs.Parents.{Parents, parented}
use Rattle.bridges.specs.Bridges.{roots_of, path_length, bridges}

-- T13: a bridge is kept where those kept before it do not join its two roots. Pins have the same group when they are joined; at first each
-- vertex is its own group.
unfoldable pub kept_bridges : Graph → Labels → Parents → List ℕ
kept_bridges g t p = kept_by (roots_of g t) (bridges g t p) (from 0 point_bound)

-- T15: the length of each kept path, every edge of it counted
unfoldable pub kept_lengths : Graph → Labels → Parents → List ℕ
kept_lengths g t p = map (path_length g t.fars p) (kept_bridges g t p)

-- The labels, the parents, the kept bridges with the lengths of their paths, and the total, their sum (T16)
pub record Terminal : Type 0 where
  pub labels : Labels
  pub parents : Parents
  pub bridges : List ℕ
  pub lengths : List ℕ
  pub total : ℕ

-- the terminal tree of a graph of n vertices with these pins
unfoldable pub terminal : Graph → ℕ → List ℕ → Terminal
terminal g n pins =
    let t = labelled g n pins in
    let p = parented g n t in
    record { labels = t; parents = p; bridges = kept_bridges g t p; lengths = kept_lengths g t p; total = total (kept_lengths g t p) }
