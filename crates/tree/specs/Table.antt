-- The tables of a tree: its points, and its edges by the numbers of their ends.
use Rattle.std.specs.Prelude.{ℕ, ◌+◌, ◌*◌, ◌/◌, ◌%◌, ◌≤◌, ◌<◌, List, ℤ, get_or, set}
use Rattle.plane.specs.declared.Place.{Place}
-- N24: at most n + m = 768 points of the refined tree
pub use Rattle.net.specs.Bounds.{tree_bound}

-- keys of edges, and entries of a table of all pairs of points, are below this
abbrev pub pair_bound : ℕ
pair_bound = tree_bound * tree_bound

-- N16: the edge of points a and b, a before b, is the number `key a b`. Numbers of points are in the order of places, so keys are in the
-- order of edges.
abbrev pub key : ℕ → ℕ → ℕ
key a b = a * tree_bound + b

abbrev pub first_end : ℕ → ℕ
first_end k = k / tree_bound

abbrev pub second_end : ℕ → ℕ
second_end k = k % tree_bound

-- a place written as the point i of a table of points
abbrev pub set_point : List ℤ → ℕ → Place → List ℤ
set_point pts i q = set (set pts (i * 2) q.x) (i * 2 + 1) q.y

-- a table of edges and how many there are
pub record Row : Type 0 where
  pub keys : List ℕ
  pub size : ℕ

abbrev pub row : List ℕ → ℕ → Row
row ks e = record { keys = ks; size = e }

-- the tree: the places of its points, in order, two numbers each, and how many there are; its edges, in order
pub record Tree : Type 0 where
  pub points : List ℤ
  pub count : ℕ
  pub edges : Row

abbrev pub tree : List ℤ → ℕ → List ℕ → ℕ → Tree
tree p n ks e = record { points = p; count = n; edges = row ks e }

-- entries of a table are below a number, are at most a number, have both ends below a number
pub record Small (n : ℕ) (xs : List ℕ) : Type 0 where
  pub small : (i : ℕ) → get_or xs i 0 < n

pub record Low (n : ℕ) (xs : List ℕ) : Type 0 where
  pub low : (i : ℕ) → get_or xs i 0 ≤ n

abbrev pub In : ℕ → ℕ → Type 0
In n k = (first_end k < n) × (second_end k < n)

pub record Within (n : ℕ) (ks : List ℕ) : Type 0 where
  pub ends : (i : ℕ) → In n (get_or ks i 0)
