-- Worked nets (E3, E4, E6) as numbered graphs, and ties: by computing the definitions.
-- Assumes nothing.
use mathlib.Core.Path.{◌≡◌, refl}
use mathlib.Core.List.{List, [], ◌∷◌}
use Prim.Native.Nat.{ℕ}
use lib.ListN.{take}
use Rattle.lists.specs.Sorted.{first_then, put, sorted}
use Rattle.lists.specs.Those.{those}
use Rattle.lists.specs.Total.{total}
use Rattle.joined.specs.Table.{changed, kept_by}
use Rattle.forest.specs.Bounds.{point_bound, edge_bound, unreached}
use Rattle.forest.specs.Edges.{Graph, graph, from, filled}
use Rattle.forest.specs.Labels.{better, gains, offer, relax_edge, moves, relax, changes, settled, starts, labelled}
use Rattle.forest.specs.Parents.{leads, nearer, through, parent_among, parent, adopted, parented, way_of, way}
use Rattle.bridges.specs.Bridges.{one_root, path, path_length, path_lengths, earlier, bridges_from, bridges}
use Rattle.keeping.specs.Kept.{kept_bridges, kept_lengths, terminal}

-- the labels and the parents of a graph of n vertices, those of the vertices alone
pub record Forest : Type 0 where
  pub far : List ℕ
  pub root : List ℕ
  pub parent : List ℕ
  pub edge : List ℕ

unfoldable pub forest : Graph → ℕ → List ℕ → Forest
unfolding
    labelled settled changes moves relax relax_edge offer gains better starts
    parented adopted parent parent_among through nearer leads filled from
forest g n pins =
    let t = labelled g n pins in
    let p = parented g n t in
    record { far = take n t.fars; root = take n t.roots; parent = take n p.ups; edge = take n p.vias }

-- the kept bridges, their lengths and the total
pub record Tree : Type 0 where
  pub kept : List ℕ
  pub lengths : List ℕ
  pub total : ℕ

unfoldable pub tree : Graph → ℕ → List ℕ → Tree
unfolding
    labelled settled changes moves relax relax_edge offer gains better starts parented adopted parent parent_among through nearer leads
    filled from
    way_of way one_root path path_length path_lengths earlier first_then put sorted those bridges_from bridges
    kept_by changed kept_bridges kept_lengths total terminal
tree g n pins =
    let r = terminal g n pins in
    record { kept = r.bridges; lengths = r.lengths; total = r.total }

-- E3: eight graph edges; one path, of length 14, below the macro
unfoldable pub around_one : Graph
around_one =
    graph (0 ∷ 0 ∷ 1 ∷ 1 ∷ 2 ∷ 3 ∷ 3 ∷ 4 ∷ []) (1 ∷ 2 ∷ 2 ∷ 3 ∷ 4 ∷ 4 ∷ 5 ∷ 5 ∷ []) (6 ∷ 7 ∷ 5 ∷ 2 ∷ 2 ∷ 5 ∷ 6 ∷ 7 ∷ []) 8

-- E4: terminal 9; the second path is one of two of length 5
unfoldable pub three_pins : Graph
three_pins = graph (0 ∷ 0 ∷ 1 ∷ []) (1 ∷ 2 ∷ 2 ∷ []) (5 ∷ 4 ∷ 5 ∷ []) 3

-- E6: one path, below the macro; the one along the top is as long
unfoldable pub on_sides : Graph
on_sides = graph (0 ∷ 0 ∷ 1 ∷ 2 ∷ 3 ∷ 4 ∷ []) (1 ∷ 3 ∷ 2 ∷ 5 ∷ 4 ∷ 5 ∷ []) (1 ∷ 1 ∷ 1 ∷ 1 ∷ 1 ∷ 1 ∷ []) 6

-- a ring of four with pins 0 and 3: vertices 1 and 2 have two nearest pins each
unfoldable pub ring : Graph
ring = graph (0 ∷ 0 ∷ 1 ∷ 2 ∷ []) (1 ∷ 2 ∷ 3 ∷ 3 ∷ []) (1 ∷ 1 ∷ 1 ∷ 1 ∷ []) 4

-- pin 4 and two ways of length 2 from vertex 0 to it, over 2 and over 1; vertex 3 stands apart
unfoldable pub two_ways : Graph
two_ways = graph (0 ∷ 0 ∷ 1 ∷ 2 ∷ []) (2 ∷ 1 ∷ 4 ∷ 4 ∷ []) (1 ∷ 1 ∷ 1 ∷ 1 ∷ []) 4

-- three pins 0, 2, 4 in a row with the vertices 1 and 3 between them: bridges 1 and 3 are both of length 4
unfoldable pub row : Graph
row = graph (0 ∷ 1 ∷ 2 ∷ 3 ∷ []) (1 ∷ 2 ∷ 3 ∷ 4 ∷ []) (1 ∷ 3 ∷ 2 ∷ 2 ∷ []) 4

pub record Table : Type 0 where
  pub one-pin : tree (graph [] [] [] 0) 1 (0 ∷ []) ≡ record { kept = []; lengths = []; total = 0 }
  pub around-one : tree around_one 6 (0 ∷ 5 ∷ []) ≡ record { kept = 3 ∷ []; lengths = 14 ∷ []; total = 14 }
  pub three-pins : tree three_pins 3 (0 ∷ 1 ∷ 2 ∷ []) ≡ record { kept = 1 ∷ 0 ∷ []; lengths = 4 ∷ 5 ∷ []; total = 9 }
  pub on-sides : tree on_sides 6 (1 ∷ 4 ∷ []) ≡ record { kept = 1 ∷ []; lengths = 3 ∷ []; total = 3 }
  -- the smaller root on a tie
  pub smaller-root :
      forest ring 4 (0 ∷ 3 ∷ [])
      ≡ record {
        far = 0 ∷ 1 ∷ 1 ∷ 0 ∷ [];
        root = 0 ∷ 0 ∷ 0 ∷ 3 ∷ [];
        parent = point_bound ∷ 0 ∷ 0 ∷ point_bound ∷ [];
        edge = edge_bound ∷ 0 ∷ 1 ∷ edge_bound ∷ [];
      }
  -- the smaller parent on a tie, and a vertex that no pin reaches
  pub smaller-parent :
      forest two_ways 5 (4 ∷ [])
      ≡ record {
        far = 2 ∷ 1 ∷ 1 ∷ unreached ∷ 0 ∷ [];
        root = 4 ∷ 4 ∷ 4 ∷ 0 ∷ 4 ∷ [];
        parent = 1 ∷ 4 ∷ 4 ∷ point_bound ∷ point_bound ∷ [];
        edge = 1 ∷ 2 ∷ 3 ∷ edge_bound ∷ edge_bound ∷ [];
      }
  -- the earlier edge on a tie
  pub earlier-edge : tree row 5 (0 ∷ 2 ∷ 4 ∷ []) ≡ record { kept = 1 ∷ 3 ∷ []; lengths = 4 ∷ 4 ∷ []; total = 8 }

pub worked-trees : Table
unfolding tree forest around_one three_pins on_sides ring two_ways row
worked-trees = record {
  one-pin = refl;
  around-one = refl;
  three-pins = refl;
  on-sides = refl;
  smaller-root = refl;
  smaller-parent = refl;
  earlier-edge = refl;
}
