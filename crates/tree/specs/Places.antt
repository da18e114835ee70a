-- A tree's tables read as places: its points, its edges as pairs of them, and what is kept of them from the start to the end.
use Rattle.std.specs.Prelude.{◌≡◌, true, List, [], ◌∷◌, ℕ, zero, suc, ◌<◌, ℤ, get_or}
use Rattle.lists.specs.Member.{Among}
use Rattle.plane.specs.declared.Place.{Place}
use Rattle.plane.specs.declared.Weights.{Weights}
use Rattle.plane.specs.Cost.{cost}
use Rattle.plane.specs.Macro.{clear}
use Rattle.plane.specs.Flat.{place_at}
use Rattle.plane.specs.Rank.{InOrder}
use Rattle.net.specs.Net.{Net}
use Rattle.joined.specs.Tree as joined
use Rattle.tree.specs.Table.{first_end, second_end, Tree, Within}
use Rattle.tree.specs.Sum.{sum_over}

-- the first n of a sequence, the last of them first
unfoldable pub listing : {A : Type 0} → (ℕ → A) → ℕ → List A
listing f zero = []
listing f (suc n) = f n ∷ listing f n

-- the ends of the edge of a key
abbrev pub ends_of : List ℤ → ℕ → Place × Place
ends_of pts k = (place_at pts (first_end k), place_at pts (second_end k))

-- what it costs
abbrev pub key_cost : Weights → List ℤ → ℕ → ℕ
key_cost w pts k = cost w (ends_of pts k).0 (ends_of pts k).1

abbrev pub points_of : List ℤ → ℕ → List Place
points_of pts n = listing (place_at pts) n

abbrev pub edges_of : List ℤ → List ℕ → ℕ → List (Place × Place)
edges_of pts ks e = listing (λ i. ends_of pts (get_or ks i 0)) e

-- N16, the smaller place first and edges in order: the numbers of points are in the order of places, so keys have the smaller number first
-- and rise, each edge once
pub record Ranked (ks : List ℕ) (e : ℕ) : Type 0 where
  pub upward : (i : ℕ) → i < e → first_end (get_or ks i 0) < second_end (get_or ks i 0)
  pub rising : (i j : ℕ) → i < j → j < e → get_or ks i 0 < get_or ks j 0

-- C66: the total, the costs of the edges added up
abbrev pub tree_total : Weights → Tree → ℕ
tree_total w t = sum_over (key_cost w t.points) t.edges.keys t.edges.size

-- a tree over its points in order, with all pins of the net, every edge clear of its macros
pub record Sound (net : Net) (t : Tree) : Type 0 where
  pub ordered : InOrder t.points t.count
  pub within : Within t.count t.edges.keys
  pub whole : joined.TreeOn (points_of t.points t.count) (edges_of t.points t.edges.keys t.edges.size)
  pub free : (i : ℕ) → i < t.edges.size → clear (ends_of t.points (get_or t.edges.keys i 0)).0
      (ends_of t.points (get_or t.edges.keys i 0)).1 net.macros ≡ true
  pub pinned : Among net.pins (points_of t.points t.count)
