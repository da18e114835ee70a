-- Rules R3 to R16, as they are said of a tree: what a candidate is and what it gains, which one a round takes, and when pruning is done.
-- The definitions say how each is worked out; that they do what the rules say is proved of them.
use Rattle.std.specs.Prelude.{◌≡◌, true, ◌⊎◌, List, ℕ, ◌+◌, ◌≤◌, ◌<◌, get_or}
use Rattle.lists.specs.Member.{◌∈◌}
use Rattle.plane.specs.declared.Place.{Place}
use Rattle.plane.specs.Place.{before}
use Rattle.plane.specs.Macro.{clear}
use Rattle.plane.specs.Flat.{place_at}
use Rattle.net.specs.Net.{Net, cost_in}
use Rattle.joined.specs.Joined.{Alike}
use Rattle.joined.specs.Exchange.{Toward, steps}
use Rattle.candidates.specs.declared.Best.{Best}
use Rattle.tree.specs.Table.{first_end, second_end, Tree}
use Rattle.longest.specs.Longest.{costs, longest, cut_of}
use Rattle.candidates.specs.Candidate.{middle_of, found}
use Rattle.exchanges.specs.Exchange.{exchange}
use Rattle.tree.specs.Places.{ends_of, edges_of, key_cost}

-- the key of the edge k, and its ends a and b
abbrev pub key_at : Tree → ℕ → ℕ
key_at t k = get_or t.edges.keys k 0

abbrev pub end_a : Tree → ℕ → Place
end_a t k = (ends_of t.points (key_at t k)).0

abbrev pub end_b : Tree → ℕ → Place
end_b t k = (ends_of t.points (key_at t k)).1

-- what it costs
abbrev pub cost_at : Net → Tree → ℕ → ℕ
cost_at net t k = key_cost net.weights t.points (key_at t k)

-- the point v is an end of the edge k
abbrev pub EndOf : Tree → ℕ → ℕ → Type 0
EndOf t v k = (v ≡ first_end (key_at t k)) ⊎ (v ≡ second_end (key_at t k))

-- R5: s, the middle of the three places axis by axis
abbrev pub middle_at : Tree → ℕ → ℕ → Place
middle_at t k u = middle_of t.points (first_end (key_at t k)) (second_end (key_at t k)) u

-- the edge k and the point u are a candidate
pub record CandidateOf (net : Net) (t : Tree) (k u : ℕ) : Type 0 where
  -- R3: a tree edge (a, b) and a tree point u, neither a nor b, that is clear of one of them at least
  pub edge : k < t.edges.size
  pub point : u < t.count
  pub third : EndOf t u k → ⊥
  pub seen : (clear (place_at t.points u) (end_a t k) net.macros ≡ true)
      ⊎ (clear (place_at t.points u) (end_b t k) net.macros ≡ true)
  -- R6: it is not dropped: no other tree point stands at s
  pub kept : (i : ℕ) → i < t.count → (EndOf t i k → ⊥) → (i ≡ u → ⊥) → middle_at t k u ≡ place_at t.points i → ⊥

-- the edge j is a step of the way from the place x through the places ps
pub record StepOf (t : Tree) (x : Place) (ps : List Place) (j : ℕ) : Type 0 where
  pub edge : j < t.edges.size
  pub one : Place
  pub other : Place
  pub on : (one, other) ∈ steps x ps
  pub ends : Alike one other (end_a t j) (end_b t j)

-- R8: on that way the edge l is the longest, the one that costs most, of several the smallest
pub record LongestOn (net : Net) (t : Tree) (x : Place) (ps : List Place) (l : ℕ) : Type 0 where
  pub step : StepOf t x ps l
  pub longest : (j : ℕ) → StepOf t x ps j → cost_at net t j ≤ cost_at net t l
  pub smallest : (j : ℕ) → StepOf t x ps j → cost_at net t j ≡ cost_at net t l → l ≤ j

-- R8: the edge l is L, the longest on the way from u to the end of (a, b) that comes first
pub record CutAt (net : Net) (t : Tree) (k u l : ℕ) : Type 0 where
  pub way : Toward (edges_of t.points t.edges.keys t.edges.size) (place_at t.points u) (end_a t k) (end_b t k)
  pub longest : LongestOn net t (place_at t.points u) way.free.points l

-- L as it is worked out
abbrev pub cut_in : Net → Tree → ℕ → ℕ → ℕ
cut_in net t k u =
    let el = costs net.weights t.points t.edges.keys t.edges.size in
    cut_of el (longest t.edges.keys el t.edges.size t.count) (first_end (key_at t k)) (second_end (key_at t k)) u

-- the candidate of the edge k and the point u has the edge l as its L and the gain g, above zero
pub record Gains (net : Net) (t : Tree) (k u l g : ℕ) : Type 0 where
  pub candidate : CandidateOf net t k u
  pub cut : CutAt net t k u l
  -- R9: the gain is the cost of L minus that from s to u
  pub gain : g + cost_in net (middle_at t k u) (place_at t.points u) ≡ cost_at net t l
  pub above : 0 < g

-- R10: a round takes the greatest gain above zero, then the smallest edge, then the smallest point
pub record Takes (net : Net) (t : Tree) (c : Best) : Type 0 where
  pub taken : 0 < c.gain → Gains net t c.edge c.point c.cut c.gain
  pub greatest : (k u l g : ℕ) → Gains net t k u l g → g ≤ c.gain
  pub smallest : (k u l g : ℕ) → Gains net t k u l g → g ≡ c.gain → (c.edge ≤ k) × (k ≤ c.edge → c.point ≤ u)
  -- R15: with gain 0 there is none, so that the round is the last
  pub none : c.gain ≡ 0 → (k u l g : ℕ) → Gains net t k u l g → ⊥

-- the candidate that is found in a tree, and the tree with that candidate's exchange made
abbrev pub found_in : Net → Tree → Best
found_in net t = found net.weights net.macros t.points t.count t.edges.keys t.edges.size

abbrev pub exchanged : Net → Tree → Tree
exchanged net t = exchange (found_in net t) t.points t.count t.edges.keys t.edges.size

-- the order of numbers is that of edges (N16) and that of places (N15): the smallest is the one with the smallest number
pub record Numbered (t : Tree) : Type 0 where
  pub edges : (i j : ℕ) → i < j → j < t.edges.size →
      (before (end_a t i) (end_a t j) ≡ true) ⊎ ((end_a t i ≡ end_a t j) × (before (end_b t i) (end_b t j) ≡ true))
  pub places : (u v : ℕ) → u < v → v < t.count → before (place_at t.points u) (place_at t.points v) ≡ true

-- R16, its end: a point with an edge that is no pin has another edge too
pub record NoneLeft (pins : List Place) (t : Tree) : Type 0 where
  pub two : (v i : ℕ) → i < t.edges.size → EndOf t v i → (place_at t.points v ∈ pins → ⊥) →
      (j : ℕ) × ((j < t.edges.size) × ((j ≡ i → ⊥) × EndOf t v j))
