-- The tree that refining starts with: rules R1 and R2.
use Rattle.std.specs.Prelude.{Bool, List, [], ◌∷◌, ◌++◌, map, ℕ, ◌*◌, ltb, eqb, pos, length, get_or, replicate}
use Rattle.lists.specs.Any.{any}
use Rattle.lists.specs.Sorted.{position}
use Rattle.lists.specs.Those.{those}
use Rattle.lent.specs.Over.{over}
use Rattle.lent.specs.Entries.{flat}
use Rattle.plane.specs.declared.Place.{Place}
use Rattle.net.specs.Net.{Net}
use Rattle.graph.specs.Spanning.{vertices_of}
use Rattle.graph.specs.Numbers.{place_numbers}
use Rattle.forest.specs.Edges.{Graph, one, two, from}
use Rattle.forest.specs.Parents.{Parents}
use Rattle.bridges.specs.Bridges.{path}
use Rattle.terminal.specs.Number.{vertex_at, pin_numbers}
use Rattle.terminal.specs.Tree.{graph_of, tree_of}
use Rattle.tree.specs.Table.{tree_bound, key, Tree, tree}

-- a number stands in a list
unfoldable pub listed : ℕ → List ℕ → Bool
listed k l = any (eqb k) l

-- the two ends of an edge
abbrev pub both_ends : List ℕ → List ℕ → ℕ → List ℕ
both_ends ones twos k = get_or ones k 0 ∷ (get_or twos k 0 ∷ [])

-- the edge of two numbers as the key of where they stand in a list that ascends
abbrev pub key_in : List ℕ → ℕ → ℕ → ℕ
key_in l a b = key (position ltb l a) (position ltb l b)

-- the kept paths are those of the bridges ks, by the distances `fars` and the parents p
module _ (g : Graph) (fars : List ℕ) (p : Parents) (ks : List ℕ) where
  -- the edges of the kept paths, one path after the other
  unfoldable pub kept_edges : List ℕ
  kept_edges = flat (path g fars p) ks

  -- R1: the edges of the kept paths, each once
  unfoldable pub union_edges : List ℕ
  union_edges = those (λ k. listed k kept_edges) (from 0 g.count)

  -- R2: the pins and the ends of these edges, those of the n vertices
  unfoldable pub union_points : ℕ → List ℕ → List ℕ
  union_points n pins = those (λ v. listed v (pins ++ flat (both_ends g.ones g.twos) union_edges)) (from 0 n)

  -- its points by their places, in order, and its edges by where their ends stand among the points, in order: both at the front of a fresh
  -- table of the refiner
  unfoldable pub start_of : (ℕ → Place) → ℕ → List ℕ → Tree
  start_of places n pins =
      tree
      (over (flat place_numbers (map places (union_points n pins))) (replicate (tree_bound * 2) (pos 0)))
      (length (union_points n pins))
      (over (map (λ k. key_in (union_points n pins) (one g k) (two g k)) union_edges) (replicate tree_bound 0))
      (length union_edges)

-- the union of the kept paths of a net
unfoldable pub union_of : Net → Tree
union_of net =
    let vs = vertices_of net in
    let t = tree_of net in
    start_of (graph_of net) t.labels.fars t.parents t.bridges (vertex_at vs) (length vs) (pin_numbers vs net.pins)
