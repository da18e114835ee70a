-- The refined tree: from the union of the kept paths by rounds and pruning, in places and edges alone. A list of edges is read as a set; G
-- is that of the net's graph.
use Rattle.std.specs.Prelude.{◌≡◌, Bool, true, false, ◌⊎◌, ◌↔◌, List, [], ◌∷◌, ℕ, zero, suc, ◌+◌, ◌≤◌, ◌<◌, length}
use Rattle.std.proofs.Common.{inl, inr}
use Rattle.lists.specs.Member.{◌∈◌}
use Rattle.lists.specs.Sorted.{first_then, Ascending}
use Rattle.joined.specs.Cost.{lengths}
use Rattle.joined.specs.Joined.{Alike}
use Rattle.joined.specs.Way.{Way, long, On}
use Rattle.joined.specs.Exchange.{Toward, steps}
use Rattle.joined.specs.OneTree.{Point, OneTree}
use Rattle.plane.specs.declared.Place.{Place}
use Rattle.plane.specs.Place.{before}
use Rattle.plane.specs.Middle.{middle_place}
use Rattle.plane.specs.Macro.{clear}
use Rattle.net.specs.Net.{Net, cost_in}
use Rattle.rules.specs.Edges.{Edge, edge_before, edge_cost, Same}
use Rattle.rules.specs.Spanning.{Vertex}
use Rattle.rules.specs.Terminal.{Path}

-- The start

-- R1: e is an edge of one of the paths, written smaller place first
pub record OnSome (ks : List Path) (e : Edge) : Type 0 where
  pub smaller : before e.0 e.1 ≡ true
  pub path : Path
  pub among : path ∈ ks
  pub on : On e.0 e.1 path.start path.points

-- R1: T is the union of the paths
abbrev pub Union : List Path → List Edge → Type 0
Union ks T = (e : Edge) → (e ∈ T) ↔ OnSome ks e

-- Points beside the tree. R2: the points of a tree are the pins and the ends of its edges (`Point`).

-- R23: a shortest way of the graph from x through qs to y
abbrev pub Shortest : Net → List Edge → Place → List Place → Place → Type 0
Shortest net G x qs y = Way G x qs y × ((rs : List Place) → Way G x rs y → long (cost_in net) x qs ≤ long (cost_in net) x rs)

-- R23: at each step it goes on to the smallest next vertex that still lies on a shortest way
abbrev pub Lowest : Net → List Edge → Place → List Place → Place → Type 0
Lowest net G x [] v = Unit {0}
Lowest net G x (y ∷ qs) v =
    ((z : Place) (rs : List Place) → Shortest net G x (z ∷ rs) v → before z y ≡ false) × Lowest net G y qs v

-- R23: a vertex u that is no tree point is joined to the tree point v, itself a vertex, that is nearest along the graph, the smallest on a
-- tie, by this way through the places qs, of which v is the last
pub record Beside (net : Net) (G T : List Edge) (u v : Place) (qs : List Place) : Type 0 where
  pub vertex : Vertex net u
  pub off : Point net.pins T u → ⊥
  pub point : Point net.pins T v
  pub itself : Vertex net v
  pub way : Way G u qs v
  pub nearest : (w : Place) (rs : List Place) → Point net.pins T w → Vertex net w → Way G u rs w →
      long (cost_in net) u qs ≤ long (cost_in net) u rs
  pub smallest : (w : Place) (rs : List Place) → Point net.pins T w → Vertex net w → Way G u rs w →
      long (cost_in net) u rs ≡ long (cost_in net) u qs → before w v ≡ false
  pub lowest : Lowest net G u qs v

-- u is a tree point, v is u and there is no way; or u is beside the tree. k says whether it is
abbrev pub Reach : Net → List Edge → List Edge → Bool → Place → Place → List Place → Type 0
Reach net G T k u v qs =
    ((k ≡ false) × (Point net.pins T u × ((v ≡ u) × (qs ≡ [])))) ⊎ ((k ≡ true) × Beside net G T u v qs)

-- Candidates

-- R3, R4, R23: an edge (a, b) and a point u that is clear of a or of b, on the tree or beside it
pub record Candidate (net : Net) (G T : List Edge) (k : Bool) (a b u v : Place) (qs : List Place) : Type 0 where
  pub edge : (a, b) ∈ T
  pub reach : Reach net G T k u v qs
  -- R3: on the tree, u is neither a nor b;  R24: beside it, v is
  pub not_first : v ≡ a → ⊥
  pub not_second : v ≡ b → ⊥
  pub seen : (clear u a net.macros ≡ true) ⊎ (clear u b net.macros ≡ true)
  -- R5, R6: s is the place of no further tree point;  R24: nor of a point of the way but u
  pub kept : (w : Place) → Point net.pins T w → (w ≡ a → ⊥) → (w ≡ b → ⊥) → (w ≡ u → ⊥) → middle_place a b u ≡ w → ⊥
  pub away : (w : Place) → w ∈ qs → middle_place a b u ≡ w → ⊥

-- R7: e is a step of the way from x through the places qs
pub record Step (T : List Edge) (x : Place) (qs : List Place) (e : Edge) : Type 0 where
  pub edge : e ∈ T
  pub one : Place
  pub other : Place
  pub on : (one, other) ∈ steps x qs
  pub ends : Alike one other e.0 e.1

-- R8: l is the longest edge of that way, and of those the smallest
pub record Longest (net : Net) (T : List Edge) (x : Place) (qs : List Place) (l : Edge) : Type 0 where
  pub step : Step T x qs l
  pub longest : (e : Edge) → Step T x qs e → edge_cost net e ≤ edge_cost net l
  pub smallest : (e : Edge) → Step T x qs e → edge_cost net e ≡ edge_cost net l → edge_before e l ≡ false

-- R8: l is L, the longest edge on the loop-free way from v to whichever of a and b comes first on it
pub record Cut (net : Net) (T : List Edge) (a b v : Place) (l : Edge) : Type 0 where
  pub way : Toward T v a b
  pub longest : Longest net T v way.free.points l

-- R9, R25: the candidate has l as its L, and its gain, L's cost less that of s and u and less the way's, is g, above zero
pub record Gain (net : Net) (G T : List Edge) (k : Bool) (a b u v : Place) (qs : List Place) (l : Edge) (g : ℕ) : Type 0 where
  pub candidate : Candidate net G T k a b u v qs
  pub cut : Cut net T a b v l
  pub gain : g + (cost_in net (middle_place a b u) u + long (cost_in net) u qs) ≡ edge_cost net l
  pub above : 0 < g

-- Rounds

-- R26: on the tree first
unfoldable pub on_first : Bool → Bool → Bool
on_first false true = true
on_first false false = false
on_first true k = false

-- R10, R26: then the smallest (a, b), then the smallest u
abbrev pub earlier : Bool × (Edge × Place) → Bool × (Edge × Place) → Bool
earlier = first_then on_first (first_then edge_before before)

-- R10, R11: the candidate that a round takes: the greatest gain, then the first in this order
pub record Takes (net : Net) (G T : List Edge) (k : Bool) (a b u v : Place) (qs : List Place) (l : Edge) (g : ℕ) : Type 0 where
  pub taken : Gain net G T k a b u v qs l g
  pub greatest : (j : Bool) (c d w x : Place) (rs : List Place) (m : Edge) (h : ℕ) → Gain net G T j c d w x rs m h → h ≤ g
  pub first : (j : Bool) (c d w x : Place) (rs : List Place) (m : Edge) → Gain net G T j c d w x rs m g →
      earlier (j, ((c, d), w)) (k, ((a, b), u)) ≡ false

-- R13: e joins s with x, smaller place first; so never a place with itself
abbrev pub Lays : Place → Place → Edge → Type 0
Lays s x e = (before e.0 e.1 ≡ true) × Alike e.0 e.1 s x

-- R12, R13: e is there after the round: it was, and is neither (a, b) nor L, or it joins s with a, b or u;  R27: or it is a step of the way
abbrev pub After : List Edge → List Edge → Place → Place → Place → List Place → Edge → Edge → Type 0
After G T a b u qs l e =
    ((e ∈ T) × ((e ≡ (a, b) → ⊥) × (e ≡ l → ⊥))) ⊎
    (Lays (middle_place a b u) a e ⊎ (Lays (middle_place a b u) b e ⊎ (Lays (middle_place a b u) u e ⊎ Step G u qs e)))

-- a round leads from the edges T to the edges U
pub record Round (net : Net) (G T U : List Edge) : Type 0 where
  pub k : Bool
  pub a : Place
  pub b : Place
  pub u : Place
  pub v : Place
  pub qs : List Place
  pub l : Edge
  pub g : ℕ
  pub takes : Takes net G T k a b u v qs l g
  pub edges : (e : Edge) → (e ∈ U) ↔ After G T a b u qs l e

-- no candidate has a gain above zero
abbrev pub NoGain : Net → List Edge → List Edge → Type 0
NoGain net G T = (k : Bool) (a b u v : Place) (qs : List Place) (l : Edge) (g : ℕ) → Gain net G T k a b u v qs l g → ⊥

-- R15: at most m rounds lead from T to U; where there is no gain the rounds are over
abbrev pub Rounds : Net → List Edge → ℕ → List Edge → List Edge → Type 0
Rounds net G zero T U = Same T U
Rounds net G (suc m) T U = (NoGain net G T × Same T U) ⊎ ((X : List Edge) × (Round net G T X × Rounds net G m X U))

-- R20: the edges before each round, and those after the last, are one tree: its points are the pins and the ends of its edges
abbrev pub TreesThrough : (net : Net) (G : List Edge) (m : ℕ) (T U : List Edge) → Rounds net G m T U → Type 0
TreesThrough net G zero T U r = OneTree net.pins T
TreesThrough net G (suc m) T U (inl r) = OneTree net.pins T
TreesThrough net G (suc m) T U (inr (X, (r, more))) = OneTree net.pins T × TreesThrough net G m X U more

-- R14: each round makes the sum of the edges, each counted once, smaller by its gain
abbrev pub FallsThrough : (net : Net) (G : List Edge) (m : ℕ) (T U : List Edge) → Rounds net G m T U → Type 0
FallsThrough net G zero T U r = Unit {0}
FallsThrough net G (suc m) T U (inl r) = Unit {0}
FallsThrough net G (suc m) T U (inr (X, (r, more))) =
    ((before after : List Edge) → Ascending edge_before before → Ascending edge_before after → Same T before → Same X after →
    lengths (cost_in net) after + r.g ≡ lengths (cost_in net) before) × FallsThrough net G m X U more

-- Pruning

abbrev pub EndOf : Place → Edge → Type 0
EndOf v e = (v ≡ e.0) ⊎ (v ≡ e.1)

-- R16: v is no pin and e is its only edge
pub record Loose (net : Net) (T : List Edge) (v : Place) (e : Edge) : Type 0 where
  pub free : v ∈ net.pins → ⊥
  pub edge : e ∈ T
  pub end : EndOf v e
  pub single : (f : Edge) → f ∈ T → EndOf v f → f ≡ e

-- R16, R17: such points go with their edges, one after another, in any order
pub data Strips (net : Net) : List Edge → List Edge → Type 0 where
  same : {T U : List Edge} → Same T U → Strips net T U
  strip : {T U R : List Edge} (v : Place) (e : Edge) → Loose net T v e →
      ((f : Edge) → (f ∈ U) ↔ ((f ∈ T) × (f ≡ e → ⊥))) → Strips net U R → Strips net T R

-- R16: until there is none
pub record Prunes (net : Net) (T R : List Edge) : Type 0 where
  pub strips : Strips net T R
  pub none : (v : Place) (e : Edge) → Loose net R v e → ⊥

-- The refined tree

-- R15, R16: from the edges T at most as many rounds as there are pins, and pruning, lead to the edges R
pub record Refines (net : Net) (G T R : List Edge) : Type 0 where
  pub rounded : List Edge
  pub rounds : Rounds net G (length net.pins) T rounded
  pub prunes : Prunes net rounded R

-- R1 to R18, R23 to R27: rs are the edges, in order, of the refined tree of the kept paths ks
pub record Refined (net : Net) (G : List Edge) (ks : List Path) (rs : List Edge) : Type 0 where
  pub start : List Edge
  pub union : Union ks start
  pub refines : Refines net G start rs
  pub in_order : Ascending edge_before rs
