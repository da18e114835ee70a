-- The terminal tree of a net: roots, parents, ways, bridges and kept paths, over the edges G of a net's graph.
-- That the paths are terminal paths (T2), a joining and none shorter, is D3 and stands in Demand.antt.
use Rattle.std.specs.Prelude.{◌≡◌, Bool, false, List, [], ◌∷◌, ℕ, ◌+◌, ◌≤◌, ltb}
use Rattle.lists.specs.Member.{◌∈◌}
use Rattle.lists.specs.Sorted.{first_then, Ascending}
use Rattle.joined.specs.Joined.{Link}
use Rattle.joined.specs.Way.{Way, long, turned}
use Rattle.joined.specs.Keep.{Keeping}
use Rattle.plane.specs.declared.Place.{Place}
use Rattle.plane.specs.Place.{before}
use Rattle.net.specs.Net.{Net, cost_in}
use Rattle.rules.specs.Edges.{Edge, edge_before}

-- Paths

-- a path of the tree: the bridge that it stands for, its first pin, the places after that one by one, and its last pin
pub record Path : Type 0 where
  pub bridge : Edge
  pub start : Place
  pub points : List Place
  pub finish : Place

-- the two pins that a path joins
abbrev pub path_ends : Path → Place × Place
path_ends k = (k.start, k.finish)

-- T4: its cost, every edge of it counted
abbrev pub path_cost : Net → Path → ℕ
path_cost net k = long (cost_in net) k.start k.points

-- C64: what is given for a path: its bridge and its cost
abbrev pub given_for : Net → Path → Edge × ℕ
given_for net k = (k.bridge, path_cost net k)

-- T11, T12: the cheaper path is taken first, and of equal ones the one with the smaller bridge
abbrev pub taken_first : Net → Path → Path → Bool
taken_first net j k = first_then ltb edge_before (path_cost net j, j.bridge) (path_cost net k, k.bridge)

module _ (net : Net) (G : List Edge) where
  -- Roots, parents and ways

  -- T6: p is the root of v: the nearest pin along the graph, and of those the smallest
  pub record Root (v p : Place) : Type 0 where
    pub pin : p ∈ net.pins
    pub points : List Place
    pub way : Way G v points p
    pub nearest : (q : Place) (qs : List Place) → q ∈ net.pins → Way G v qs q → long (cost_in net) v points ≤ long (cost_in net) v qs
    pub smallest : (q : Place) (qs : List Place) → q ∈ net.pins → Way G v qs q → long (cost_in net) v qs ≡ long (cost_in net) v points →
        before q p ≡ false

  -- T7: w is a neighbour of v with the same root, and a shortest way from v to that root goes over it
  pub record Through (v w : Place) : Type 0 where
    pub link : Link G v w
    pub root : Place
    pub own : Root v root
    pub same : Root w root
    pub points : List Place
    pub way : Way G w points root
    pub shortest : (qs : List Place) → Way G v qs root → cost_in net v w + long (cost_in net) w points ≤ long (cost_in net) v qs

  -- T7: p is the parent of v: the smallest such neighbour
  pub record Parent (v p : Place) : Type 0 where
    pub through : Through v p
    pub smallest : (w : Place) → Through v w → before w p ≡ false

  -- T8: the places after v on its way to its root: parent after parent, until a pin
  pub data Up : Place → List Place → Type 0 where
    arrived : {v : Place} → v ∈ net.pins → Up v []
    upward : {v p : Place} {qs : List Place} → (v ∈ net.pins → ⊥) → Parent v p → Up p qs → Up v (p ∷ qs)

  -- Bridges

  -- T9, T10: k is the path of a bridge: an edge between vertices of different roots; from one root down the way of the first end, over the
  -- bridge, and up the way of the second end to the other root
  pub record Bridge (k : Path) : Type 0 where
    pub edge : k.bridge ∈ G
    pub start-root : Root k.bridge.0 k.start
    pub finish-root : Root k.bridge.1 k.finish
    pub apart : k.start ≡ k.finish → ⊥
    pub first : List Place
    pub first-up : Up k.bridge.0 first
    pub second : List Place
    pub second-up : Up k.bridge.1 second
    pub points-are : k.points ≡ turned k.bridge.0 first (k.bridge.1 ∷ second)

  -- T13, T14: ks are the paths of the terminal tree, in the order kept: each bridge is offered in its turn, and kept exactly when its two
  -- roots are not joined by those kept before
  pub record Terminal (ks : List Path) : Type 0 where
    pub offered : List Path
    pub bridges : (k : Path) → k ∈ offered → Bridge k
    pub all : (e : Edge) → e ∈ G → (p q : Place) → Root e.0 p → Root e.1 q → (p ≡ q → ⊥) →
        (k : Path) × ((k ∈ offered) × (k.bridge ≡ e))
    pub in-turn : Ascending (taken_first net) offered
    pub keeps : Keeping path_ends [] offered ks
