-- Roots, parents and ways, said of places: rules T6 to T8. The tables give each vertex a distance, a root and a parent; these records say
-- which.
use Rattle.std.specs.Prelude.{◌≡◌, false, List, [], ◌∷◌, ℕ, ◌+◌, ◌≤◌}
use Rattle.lists.specs.Member.{◌∈◌, Once}
use Rattle.joined.specs.Joined.{Link}
use Rattle.joined.specs.Way.{Way, long}
use Rattle.plane.specs.declared.Place.{Place}
use Rattle.plane.specs.Place.{before}
use Rattle.net.specs.Net.{Net, cost_in}
use Rattle.graph.specs.Spanning.{vertices_of, spanning}
use Rattle.forest.specs.Labels.{far}
use Rattle.forest.specs.Parents.{up}
use Rattle.terminal.specs.Number.{number_of, vertex_at}
use Rattle.terminal.specs.Tree.{tree_of, root_of}

module _ (net : Net) where
  -- how far a vertex is from its root along the graph, and its parent
  unfoldable pub far_of : Place → ℕ
  far_of v = far (tree_of net).labels (number_of (vertices_of net) v)

  unfoldable pub parent_of : Place → Place
  parent_of v = vertex_at (vertices_of net) (up (tree_of net).parents (number_of (vertices_of net) v))

  -- T6: the root of a vertex is the pin nearest to it along the graph, of several the smallest
  pub record NearestRoot (v : Place) : Type 0 where
    pub is-pin : root_of net v ∈ net.pins
    pub points : List Place
    pub walk : Way (spanning net) v points (root_of net v)
    pub walk-long : long (cost_in net) v points ≡ far_of v
    pub nearest : (p : Place) (qs : List Place) → p ∈ net.pins → Way (spanning net) v qs p → far_of v ≤ long (cost_in net) v qs
    pub smallest : (p : Place) (qs : List Place) → p ∈ net.pins → Way (spanning net) v qs p → long (cost_in net) v qs ≡ far_of v →
        before p (root_of net v) ≡ false

  -- T7: w is a neighbour with the same root, and a shortest way to that root goes on from it
  pub record Through (v w : Place) : Type 0 where
    pub link : Link (spanning net) v w
    pub same-root : root_of net w ≡ root_of net v
    pub points : List Place
    pub way : Way (spanning net) w points (root_of net v)
    pub shortest : cost_in net v w + long (cost_in net) w points ≡ far_of v

  -- T7: the parent of a vertex that is no pin is the smallest such neighbour
  pub record SmallestParent (v : Place) : Type 0 where
    pub through : Through v (parent_of v)
    pub smallest : (w : Place) → Through v w → before w (parent_of v) ≡ false

  -- T8: a way goes from parent to parent and ends at the root: the places after it on its way
  pub data WayUp : Place → List Place → Type 0 where
    arrived : {v : Place} → v ∈ net.pins → WayUp v []
    upward : {v : Place} {qs : List Place} → (v ∈ net.pins → ⊥) → WayUp (parent_of v) qs → WayUp v (parent_of v ∷ qs)

  -- such a way: it leads to the root, loop-free and as long as the vertex is far from it
  pub record HomeWay (v : Place) : Type 0 where
    pub points : List Place
    pub up : WayUp v points
    pub way : Way (spanning net) v points (root_of net v)
    pub once : Once (v ∷ points)
    pub long-is : long (cost_in net) v points ≡ far_of v
