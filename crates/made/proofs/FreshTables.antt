-- The tables that an operation lends for a terminal tree are as it asks for them, and then hold the ground to refine on.
-- Assumes nothing.
use mathlib.Core.Path.{◌≡◌, refl}
use Prim.Native.Nat.{◌*◌}
use lib.IntN.{pos}
use lib.ListN.{replicate}
use Rattle.forest.specs.Bounds.{point_bound, edge_bound, unreached}
use Rattle.forest.specs.Edges.{graph}
use Rattle.net.specs.Net.{Net}
use Rattle.terminal.specs.declared.TerminalTree.{TerminalTree}
use Rattle.terminal.specs.Tables.{Tables, tables, Fresh, Worked}
use Rattle.beside.specs.Beside.{ground}
use Rattle.refined.specs.Ground.{ground_of}

-- the tables that are lent
pub fresh : Fresh
    (tables (replicate (point_bound * 2) (pos 0)) (replicate (edge_bound * 4) (pos 0)) (replicate edge_bound 0) (replicate edge_bound 0)
    (replicate edge_bound 0) (replicate point_bound 0) (replicate point_bound unreached) (replicate point_bound 0)
    (replicate point_bound point_bound) (replicate point_bound edge_bound) (replicate edge_bound 0) (replicate edge_bound 0))
fresh = record {
  points = refl;
  links = refl;
  ones = refl;
  twos = refl;
  spans = refl;
  pins = refl;
  no_label = refl;
  no-parent = refl;
  kept = refl;
  longs = refl;
}

-- once the terminal tree is worked out in them, they hold the ground to refine on
pub worked-ground : {net : Net} {lent t : Tables} {r : TerminalTree} → lent.points ≡ replicate (point_bound * 2) (pos 0) →
    Worked net lent t r → ground t.points r.points (graph t.ones t.twos t.spans r.edges) ≡ ground_of net
unfolding ground_of
worked-ground h w = rw (w.vertices-are, w.vertex-count, w.graph_is, h) refl
