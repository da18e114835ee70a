-- The unions of the kept paths of worked nets, by computing the definitions.
-- Assumes nothing.
use mathlib.Core.Path.{◌≡◌, refl}
use mathlib.Core.List.{List, [], ◌∷◌}
use Prim.Native.Nat.{ℕ, ◌*◌}
use lib.IntN.{ℤ, pos, negsuc}
use lib.ListN.{take}
use Rattle.lists.specs.Any.{any}
use Rattle.lists.specs.Sorted.{put, sorted, first_then, position}
use Rattle.lists.specs.Those.{those}
use Rattle.lists.specs.Total.{total}
use Rattle.signed.specs.Order.{z_min, z_max}
use Rattle.lent.specs.Over.{over}
use Rattle.lent.specs.Entries.{flat}
use Rattle.joined.specs.Table.{changed, kept_by}
use Rattle.plane.specs.Place.{before}
use Rattle.plane.specs.Distance.{apart}
use Rattle.plane.specs.Cost.{cost, plain}
use Rattle.plane.specs.Macro.{span_meets, meets, clear}
use Rattle.plane.specs.Flat.{macros_of}
use Rattle.net.specs.WorkedNets.{Lists, one_pin, around_one, three_pins}
use Rattle.net.specs.Pins.{pin_places}
use Rattle.net.specs.Net.{net_with}
use Rattle.graph.specs.Vertices.{corners_of, corners, vertices}
use Rattle.picks.specs.Pick.{within, nearer as nearer_place, better as better_pick, pick_from, pick}
use Rattle.graph.specs.Edges.{edge_of, before_edge, edge_of_pick, picks_of, all_picks, edges}
use Rattle.forest.specs.Edges.{Graph, graph, from, filled}
use Rattle.forest.specs.Labels.{better, gains, offer, relax_edge, moves, relax, changes, settled, starts, labelled}
use Rattle.forest.specs.Parents.{leads, nearer, through, parent_among, parent, adopted, parented, way_of, way}
use Rattle.bridges.specs.Bridges.{one_root, path, path_length, path_lengths, earlier, bridges_from, bridges}
use Rattle.keeping.specs.Kept.{kept_bridges, kept_lengths, terminal}
use Rattle.terminal.specs.Number.{numbered, pin_numbers}
use Rattle.terminal.specs.Tree.{tree_of}
use Rattle.tree.specs.Table.{key, Tree}
use Rattle.union.specs.Union.{listed, kept_edges, union_edges, union_points, start_of, union_of}

-- a tree's points and edges, without the zeros behind them
unfoldable shown : Tree → List ℤ × List ℕ
shown t = (take (t.count * 2) t.points, take t.edges.size t.edges.keys)

-- the union of a net; to unfold this is to unfold all that it rests on
unfoldable pub union : Lists → List ℤ × List ℕ
unfolding any put sorted first_then position those total z_min z_max over flat changed kept_by before apart cost span_meets meets clear
    pin_places macros_of corners_of corners vertices within nearer_place better_pick pick_from pick edge_of before_edge edge_of_pick picks_of all_picks
    edges from filled better gains offer relax_edge moves relax changes settled starts labelled leads nearer through parent_among parent
    adopted parented way_of way one_root path path_length path_lengths earlier bridges_from bridges kept_bridges kept_lengths terminal numbered
    pin_numbers tree_of listed kept_edges union_edges union_points start_of union_of shown
union lists = shown (union_of (net_with plain lists.pins lists.macros))

-- A graph whose kept paths share an edge: the pins 0, 2 and 3 hang on the vertex 1, 1 away from pin 0 and 5 from the others. The tree's
-- two paths both go over edge 0.
star : Graph
star = graph (0 ∷ 1 ∷ 1 ∷ []) (1 ∷ 2 ∷ 3 ∷ []) (1 ∷ 5 ∷ 5 ∷ []) 3

-- its kept paths' edges one path after the other, those of the union, and its points
unfoldable pub shared : List ℕ × List ℕ × List ℕ
unfolding star any put sorted first_then those total flat changed kept_by from filled better gains offer relax_edge moves relax changes
    settled starts labelled leads nearer through parent_among parent adopted parented way_of way one_root path path_length path_lengths earlier
    bridges_from bridges kept_bridges kept_lengths terminal listed kept_edges union_edges union_points
shared =
    let pins : List ℕ = 0 ∷ 2 ∷ 3 ∷ [] in
    let t = terminal star 4 pins in (
      kept_edges star t.labels.fars t.parents t.bridges,
      union_edges star t.labels.fars t.parents t.bridges,
      union_points star t.labels.fars t.parents t.bridges 4 pins,
    )

pub record Table : Type 0 where
  -- E1: no edges; its one point is the pin
  pub one-pin : union one_pin ≡ (pos 5 ∷ pos 5 ∷ [], [])
  pub three-pins : union three_pins ≡ (pos 0 ∷ pos 0 ∷ pos 2 ∷ pos 3 ∷ pos 4 ∷ pos 0 ∷ [], key 0 1 ∷ key 0 2 ∷ [])
  -- along the bottom of the macro; the two corners at its top are no points
  pub around-one :
      union around_one
      ≡ (pos 0 ∷ pos 0 ∷ pos 4 ∷ negsuc 1 ∷ pos 6 ∷ negsuc 1 ∷ pos 10 ∷ pos 0 ∷ [], key 0 1 ∷ key 1 2 ∷ key 2 3 ∷ [])
  -- R1, each edge once: edge 0 is on both kept paths
  pub shared-edge : shared ≡ (0 ∷ 1 ∷ 0 ∷ 2 ∷ [], 0 ∷ 1 ∷ 2 ∷ [], 0 ∷ 1 ∷ 2 ∷ 3 ∷ [])

pub worked : Table
unfolding union shared
worked = record {
  one-pin = refl;
  three-pins = refl;
  around-one = refl;
  shared-edge = refl;
}
