-- What holds of the tree after bending, after each round and in the end: rule M15.
use Rattle.std.specs.Prelude.{◌≡◌, true, false, List, [], ◌∷◌, ℕ, zero, suc, ◌+◌, ◌*◌, ◌≤◌, ◌<◌, length}
use Rattle.lists.specs.Member.{◌∈◌, Among}
use Rattle.lists.specs.Sorted.{first_then, Ascending}
use Rattle.plane.specs.declared.Place.{Place}
use Rattle.plane.specs.declared.Macro.{Macro}
use Rattle.plane.specs.Place.{before}
use Rattle.plane.specs.Macro.{clear}
use Rattle.plane.specs.Box.{InBox}
use Rattle.net.specs.Net.{Net, cost_in}
use Rattle.net.specs.Bounds.{tree_bound}
use Rattle.net.specs.Allowed.{PlaceInRange, Allowed}
use Rattle.joined.specs.Joined.{Link, Inside}
use Rattle.joined.specs.Tree.{TreeOn}
use Rattle.joined.specs.OneTree.{OneTree}
use Rattle.joined.specs.Cost.{lengths}
use Rattle.slide.specs.declared.Side.{Side}
use Rattle.slide.specs.declared.Move.{Move}
use Rattle.slide.specs.Side.{weight}
use Rattle.slide.specs.Bend.{Edge, straight, bent, given_back, bends}
use Rattle.slide.specs.Bar.{on_bar}
use Rattle.slide.specs.Sweep.{surplus}
use Rattle.slide.specs.Slide.{tree_points, in_their_order, move_of, better, choice, make}

-- R21: every edge is clear;  M2: or straight
abbrev pub Clear : List Macro → List Edge → Type 0
Clear ms T = (a b : Place) → (a, b) ∈ T → clear a b ms ≡ true

abbrev pub Straight : List Edge → Type 0
Straight T = (a b : Place) → (a, b) ∈ T → straight (a, b) ≡ true

-- N16: every edge has its smaller place first
abbrev pub Smaller : List Edge → Type 0
Smaller T = (a b : Place) → (a, b) ∈ T → before a b ≡ true

-- every end lies in the box of two places: the range of coordinates, say
abbrev pub Within : Place → Place → List Edge → Type 0
Within lo hi T = (a b : Place) → (a, b) ∈ T → InBox a lo hi × InBox b lo hi

-- R16: every point with a single edge is a pin: an end of an edge that is no pin has an edge to another place too
abbrev pub EndsPins : List Place → List Edge → Type 0
EndsPins pins T = (x z : Place) → Link T x z → (x ∈ pins → ⊥) → (y : Place) × (Link T x y × (y ≡ z → ⊥))

-- one tree over X with all pins, clear, its loose ends pins
pub record Sound (net : Net) (X : List Place) (T : List Edge) : Type 0 where
  pub tree : TreeOn X T
  pub inside : Inside X T
  pub pinned : Among net.pins X
  pub free : Clear net.macros T
  pub ends : EndsPins net.pins T

-- Before and after

-- what is asked of the refined tree's edges, and kept
pub record Given (net : Net) (T : List Edge) : Type 0 where
  -- R20: one tree that holds all pins
  pub one : OneTree net.pins T
  -- R21: the two ends of each edge are clear of each other
  pub free : Clear net.macros T
  -- N16: each edge smaller place first, and edges in order
  pub smaller : Smaller T
  pub ordered : Ascending (first_then before before) T
  -- R16: every point with a single edge is a pin
  pub ends : EndsPins net.pins T

-- what code that slides asks for: such edges of an allowed net, few enough for its tables, in range
pub record Slidable (net : Net) (T : List Edge) : Type 0 where
  pub allowed : Allowed net
  pub given : Given net T
  pub few : length T < tree_bound
  pub in-range : (e : Edge) → e ∈ T → PlaceInRange e.0 × PlaceInRange e.1

-- what such code has of the edges before each round
pub record State (net : Net) (T : List Edge) : Type 0 where
  pub allowed : Allowed net
  pub sound : Sound net (tree_points net T) T
  pub lines : Straight T
  pub smaller : Smaller T
  pub ordered : Ascending (first_then before before) T
  -- and one point more
  pub few : suc (length T) < tree_bound * 2
  pub in-range : (e : Edge) → e ∈ T → PlaceInRange e.0 × PlaceInRange e.1

-- M11 to M13: the round from the edges T to the edges U, by the move m
pub record Round (net : Net) (m : Move) (T U : List Edge) : Type 0 where
  -- no bar has a better move
  pub best : (s : Side) (e : Edge) → e ∈ T → better (move_of net T s e) m ≡ false
  -- it saves distance times surplus times weight, and the cost falls by just that
  pub saving : m.saving ≡ m.distance * surplus m.side (on_bar m.side T m.first) T * weight net m.side
  pub falls : lengths (cost_in net) U + m.saving ≡ lengths (cost_in net) T
  -- and still one tree holds all pins, clear and of straight edges
  pub one : OneTree net.pins U
  pub free : Clear net.macros U
  pub lines : Straight U

-- M14: each of the rounds from T on that saves is such a round
abbrev pub RoundsOf : Net → ℕ → List Edge → Type 0
RoundsOf net zero T = Unit {0}
RoundsOf net (suc n) [] = Unit {0}
RoundsOf net (suc n) (e ∷ L) =
    ((choice net (e ∷ L) e L).saving ≡ 0 → ⊥) →
    Round net (choice net (e ∷ L) e L) (e ∷ L) (make (choice net (e ∷ L) e L) (e ∷ L))
    × RoundsOf net n (make (choice net (e ∷ L) e L) (e ∷ L))

-- M15: what is promised of the slid tree S of the edges T
pub record Promise (net : Net) (T S : List Edge) : Type 0 where
  pub given : Given net S
  -- no dearer than before
  pub cheaper : lengths (cost_in net) S ≤ lengths (cost_in net) T
  -- at most two edges for each
  pub few : length S ≤ length T + length T
  -- every edge is straight, unless the tree is given back as it was
  pub lines : (Y : List Place) (U : List Edge) → bends (tree_points net T) T ≡ bent Y U → Straight S
  pub back : bends (tree_points net T) T ≡ given_back → S ≡ T
  -- in each box that holds the tree before
  pub within : (lo hi : Place) → Within lo hi T → Within lo hi S
  -- and round by round
  pub rounds : (Y : List Place) (U : List Edge) → bends (tree_points net T) T ≡ bent Y U → RoundsOf net (length Y) (in_their_order U)
