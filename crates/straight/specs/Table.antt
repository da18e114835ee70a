-- The tables of a tree of axis-parallel edges, read as places. The record is that of crate tree; the bound is twice its bound.
use Rattle.std.specs.Prelude.{List, [], ◌∷◌, ℕ, zero, suc, ◌+◌, ◌*◌, ◌/◌, ◌%◌, ◌≤◌, ◌<◌, ℤ, get_or}
use Rattle.plane.specs.declared.Place.{Place}
use Rattle.plane.specs.Flat.{place_at}
use Rattle.plane.specs.Rank.{InOrder}
use Rattle.tree.specs.Table.{tree_bound, Tree}

-- at most 2(n + m) points after bending
abbrev pub straight_bound : ℕ
straight_bound = tree_bound * 2

-- keys of edges are below this
abbrev pub key_bound : ℕ
key_bound = straight_bound * straight_bound

-- the edge of points a and b, a before b, and its ends
abbrev pub key : ℕ → ℕ → ℕ
key a b = a * straight_bound + b

abbrev pub first_end : ℕ → ℕ
first_end k = k / straight_bound

abbrev pub second_end : ℕ → ℕ
second_end k = k % straight_bound

abbrev pub ends_of : List ℤ → ℕ → Place × Place
ends_of pts k = (place_at pts (first_end k), place_at pts (second_end k))

-- n values of a sequence from number i on
unfoldable pub run : {A : Type 0} → (ℕ → A) → ℕ → ℕ → List A
run f i zero = []
run f i (suc n) = f i ∷ run f (suc i) n

-- the edge of number i
abbrev pub edge_at : List ℤ → List ℕ → ℕ → Place × Place
edge_at pts ks i = ends_of pts (get_or ks i 0)

-- the first n points and the first e edges of tables, in their order
abbrev pub points_in : List ℤ → ℕ → List Place
points_in pts n = run (place_at pts) 0 n

abbrev pub edges_in : List ℤ → List ℕ → ℕ → List (Place × Place)
edges_in pts ks e = run (edge_at pts ks) 0 e

-- the points and the edges of a tree
abbrev pub points : Tree → List Place
points t = points_in t.points t.count

abbrev pub edges : Tree → List (Place × Place)
edges t = edges_in t.points t.edges.keys t.edges.size

-- every entry of a table is a key; every one has its ends below a number
pub record Small (ks : List ℕ) : Type 0 where
  pub small : (i : ℕ) → get_or ks i 0 < key_bound

pub record Within (n : ℕ) (ks : List ℕ) : Type 0 where
  pub ends : (i : ℕ) → (first_end (get_or ks i 0) < n) × (second_end (get_or ks i 0) < n)

-- what is asked of the tables: the points in order, each place once, the keys rising, their ends among the points
pub record Held (t : Tree) : Type 0 where
  pub few : t.count ≤ straight_bound
  pub fewer : t.edges.size ≤ straight_bound
  pub ordered : InOrder t.points t.count
  pub within : Within t.count t.edges.keys
  pub rising : (i j : ℕ) → i < j → j < t.edges.size → get_or t.edges.keys i 0 < get_or t.edges.keys j 0
