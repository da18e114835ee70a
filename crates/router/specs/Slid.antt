-- What is promised of the slid tree (M1 to M15). What it is stands in `slide` (specs/Slide.antt).
use Rattle.std.specs.Prelude.{◌≡◌, true, ◌⊎◌, List, ℕ, ◌+◌, ◌*◌, ◌≤◌, ◌<◌, ℤ, length}
use Rattle.lists.specs.Member.{◌∈◌}
use Rattle.lists.specs.Sorted.{Ascending}
use Rattle.lent.specs.Told.{given}
use Rattle.plane.specs.declared.Place.{Place}
use Rattle.plane.specs.declared.Macro.{Macro}
use Rattle.plane.specs.Place.{before}
use Rattle.plane.specs.Macro.{clear}
use Rattle.plane.specs.Flat.{macros_of}
use Rattle.net.specs.Pins.{pin_count, pin_places}
use Rattle.net.specs.declared.Weighing.{Weighing}
use Rattle.net.specs.Net.{net_of}
use Rattle.net.specs.Allowed.{PlaceInRange}
use Rattle.checks.specs.Check.{checked}
use Rattle.joined.specs.OneTree.{OneTree}
use Rattle.slide.specs.Bend.{bent, given_back, bends}
use Rattle.slide.specs.Slide.{tree_points, in_their_order}
use Rattle.slide.specs.Promise.{RoundsOf}
use Rattle.rules.specs.Edges.{Edge, edge_before}
use Rattle.interior.specs.Interior.{PlanePoint, Interior, Box}
use Rattle.rules.specs.Refined.{Loose}
use Rattle.answers.specs.Slid.{slid_of, slid_total, slid_metal, slid_answer, slid_tree}
use Rattle.answers.specs.Graph.{point_count}
use Rattle.answers.specs.Refined.{laid_of, laid_total}

-- What is promised of the slid tree of an allowed net; the check is the only premise (`promised-slid`, proofs/SlidLaws.antt)
pub record PromisedSlid (w : Weighing) (pins macros : List ℤ) : Type 0 where
  -- D1b: with the space that is asked for it is given
  pub slid-given : (room : ℕ) → (point_count pins macros + pin_count pins) * 8 ≤ room
      → slid_tree w pins macros room ≡ given (slid_answer w pins macros)
  -- M15, R20: one tree that holds all pins
  pub one : OneTree (pin_places pins) (slid_of w pins macros)
  -- M15, R21: the two ends of each edge are clear of each other, so that no point with fractions either lies in its box and in an interior
  pub clear-edges : (e : Edge) → e ∈ slid_of w pins macros → clear e.0 e.1 (macros_of macros) ≡ true
  pub outside : (e : Edge) → e ∈ slid_of w pins macros → (m : Macro) → m ∈ macros_of macros → (q : PlanePoint) →
      Box e.0 e.1 q → Interior m q → ⊥
  -- N16: each edge smaller place first, and edges in order, so none twice
  pub smaller-first : (e : Edge) → e ∈ slid_of w pins macros → before e.0 e.1 ≡ true
  pub in_order : Ascending edge_before (slid_of w pins macros)
  -- M15: every point with a single edge is a pin
  pub ends-pins : (v : Place) (e : Edge) → Loose (net_of w pins macros) (slid_of w pins macros) v e → ⊥
  -- M2, M4: each edge is along one axis, unless two places for a bend are both taken; then the refined tree is given back as it was
  pub straight : (Y : List Place) (U : List Edge) → bends (tree_points (net_of w pins macros) (laid_of w pins macros)) (laid_of w pins macros)
      ≡ bent Y U → (e : Edge) → e ∈ slid_of w pins macros → (e.0.x ≡ e.1.x) ⊎ (e.0.y ≡ e.1.y)
  pub back : bends (tree_points (net_of w pins macros) (laid_of w pins macros)) (laid_of w pins macros) ≡ given_back
      → slid_of w pins macros ≡ laid_of w pins macros
  -- M15: no dearer than the refined tree;  M11 to M14: each round takes the best move, and the cost falls by what that saves
  pub no-dearer : slid_total w pins macros ≤ laid_total w pins macros
  pub rounds : (Y : List Place) (U : List Edge) → bends (tree_points (net_of w pins macros) (laid_of w pins macros)) (laid_of w pins macros)
      ≡ bent Y U → RoundsOf (net_of w pins macros) (length Y) (in_their_order U)
  -- R22: its metal is no more than its total
  pub metal-low : slid_metal w pins macros ≤ slid_total w pins macros
  -- N4: every end is in the range of coordinates
  pub in-range : (e : Edge) → e ∈ slid_of w pins macros → PlaceInRange e.0 × PlaceInRange e.1
  -- C81: 8(n + m) numbers hold its edges
  pub few : length (slid_of w pins macros) * 4 < (point_count pins macros + pin_count pins) * 8
