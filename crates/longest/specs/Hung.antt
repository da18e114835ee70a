-- What hangs on what. The table of longest edges is of all pairs of points; these rows, in proportion to the points, say the same.
--
-- A point v that is hung hangs on the point `onto` by the edge `link`, and was hung at the turn `turn`, the first point at turn 1. A point
-- that is not hung has turn 0.
use Rattle.std.specs.Prelude.{◌≡◌, ◌⊎◌, List, ℕ, suc, ◌≤◌, ◌<◌, length, get_or}
use Rattle.tree.specs.Table.{tree_bound, pair_bound, key, first_end, second_end, Small, Within}
use Rattle.longest.specs.Longest.{longer, no_edge, Reach, reached, start, longest}

pub record Ties : Type 0 where
  pub onto : List ℕ
  pub link : List ℕ
  pub turn : List ℕ

abbrev pub ties : List ℕ → List ℕ → List ℕ → Ties
ties o l t = record { onto = o; link = l; turn = t }

abbrev pub onto_of : Ties → ℕ → ℕ
onto_of s v = get_or s.onto v 0

abbrev pub link_of : Ties → ℕ → ℕ
link_of s v = get_or s.link v 0

abbrev pub turn_of : Ties → ℕ → ℕ
turn_of s v = get_or s.turn v 0

-- rows with room for every point; at each turn one point is hung, on one that was hung before
pub record Tied (s : Ties) : Type 0 where
  pub wide : length s.onto ≡ tree_bound
  pub long : length s.link ≡ tree_bound
  pub room : length s.turn ≡ tree_bound
  pub points : Small tree_bound s.onto
  pub edges : Small tree_bound s.link
  pub low : (v : ℕ) → 0 < turn_of s v → v < tree_bound
  pub alone : (v w : ℕ) → 0 < turn_of s v → turn_of s v ≡ turn_of s w → v ≡ w
  pub up : (v : ℕ) → 1 < turn_of s v → (0 < turn_of s (onto_of s v)) × (turn_of s (onto_of s v) < turn_of s v)

-- the longest edge on the way from v to w
abbrev pub top_of : List ℕ → ℕ → ℕ → ℕ
top_of t v w = get_or t (key v w) 0

-- the table t of longest edges is that of these rows: from v to what was hung before it the way goes over the edge by which v hangs
pub record Woven (el : List ℕ) (s : Ties) (t : List ℕ) : Type 0 where
  pub self : (v : ℕ) → 0 < turn_of s v → top_of t v v ≡ no_edge
  pub even : (v w : ℕ) → 0 < turn_of s v → 0 < turn_of s w → top_of t v w ≡ top_of t w v
  pub step : (v w : ℕ) → 0 < turn_of s w → turn_of s w < turn_of s v → top_of t v w ≡ longer el (top_of t (onto_of s v) w) (link_of s v)

-- the edge k has the ends v and w
abbrev pub Joins : List ℕ → ℕ → ℕ → ℕ → Type 0
Joins ks k v w =
    ((first_end (get_or ks k 0) ≡ v) × (second_end (get_or ks k 0) ≡ w)) ⊎ ((first_end (get_or ks k 0) ≡ w) × (second_end (get_or ks k 0) ≡ v))

-- the rows after c turns, and what is reached then
pub record Hung (ks el : List ℕ) (e n c : ℕ) (s : Ties) (r : Reach) : Type 0 where
  pub tied : Tied s
  pub woven : Woven el s r.top
  pub room : length r.seen ≡ tree_bound
  pub sized : length r.top ≡ pair_bound
  pub first : turn_of s 0 ≡ 1
  pub off : (v : ℕ) → turn_of s v ≡ 0 → get_or r.seen v 0 ≡ 0
  pub on : (v : ℕ) → 0 < turn_of s v → get_or r.seen v 0 ≡ 1
  pub low : (v : ℕ) → 0 < turn_of s v → v < n
  pub late : (v : ℕ) → turn_of s v ≤ c
  pub ends : (v : ℕ) → 1 < turn_of s v → (link_of s v < e) × Joins ks (link_of s v) v (onto_of s v)

-- the later of a and b hangs on the other
abbrev pub Paired : Ties → ℕ → ℕ → Type 0
Paired s a b = ((onto_of s b ≡ a) × (turn_of s a < turn_of s b)) ⊎ ((onto_of s a ≡ b) × (turn_of s b < turn_of s a))

-- the table t is that of these rows, and no edge costs nothing and has the last number
pub record Told (el : List ℕ) (s : Ties) (t : List ℕ) : Type 0 where
  pub none : get_or el no_edge 0 ≡ 0
  pub small : Small tree_bound t
  pub woven : Woven el s t

-- all points hang, and every edge hangs one
pub record Hanging (ks el : List ℕ) (e n : ℕ) (s : Ties) : Type 0 where
  pub tied : Tied s
  pub told : Told el s (longest ks el e n)
  pub all : (v : ℕ) → v < n → 0 < turn_of s v
  pub paired : (k : ℕ) → k < e → Paired s (first_end (get_or ks k 0)) (second_end (get_or ks k 0))
  pub ends : (v : ℕ) → 1 < turn_of s v → (link_of s v < e) × Joins ks (link_of s v) v (onto_of s v)

-- a tree of n points with e edges, all of whose points are reached, whatever edges cost
pub record Spanned (ks : List ℕ) (e n : ℕ) : Type 0 where
  pub size : suc e ≡ n
  pub few : n ≤ tree_bound
  pub within : Within n ks
  pub reaches : (el : List ℕ) → get_or el no_edge 0 ≡ 0 → (v : ℕ) → v < n → get_or (reached ks el e n start).seen v 0 ≡ 1

-- Rows of an edge: L for each point, filled in where it is asked

-- known at v
abbrev pub Known : List ℕ → ℕ → Type 0
Known row v = get_or row v 0 < tree_bound

-- known at the first point
pub record Begun (s : Ties) (row : List ℕ) : Type 0 where
  pub room : length row ≡ tree_bound
  pub first : (v : ℕ) → turn_of s v ≡ 1 → Known row v

-- nothing is known
abbrev pub Fresh : Ties → List ℕ → Type 0
Fresh s row = (v : ℕ) → 0 < turn_of s v → tree_bound ≤ get_or row v 0

-- what is known is f, and what is not is known from the point on which it hangs
pub record Row (el : List ℕ) (s : Ties) (f : ℕ → ℕ) (row : List ℕ) : Type 0 where
  pub right : (v : ℕ) → 0 < turn_of s v → Known row v → get_or row v 0 ≡ f v
  pub grows : (v : ℕ) → 0 < turn_of s v → tree_bound ≤ get_or row v 0 → f v ≡ longer el (f (onto_of s v)) (link_of s v)

-- known at x and at all that it hangs on: the longest edge on the way from x
pub record Climbed (s : Ties) (t : List ℕ) (x : ℕ) (row : List ℕ) : Type 0 where
  pub right : (v : ℕ) → 0 < turn_of s v → Known row v → (get_or row v 0 ≡ top_of t x v) × (turn_of s v ≤ turn_of s x)
  pub closed : (v : ℕ) → 1 < turn_of s v → Known row v → Known row (onto_of s v)
  pub here : Known row x

-- From one tree to the next

-- what the longest edge between v and w costs
abbrev pub tall : List ℕ → List ℕ → ℕ → ℕ → ℕ
tall el t v w = get_or el (top_of t v w) 0
