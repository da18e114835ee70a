-- D2h: what two calls have in common that have the same weights, of which the second has the net of the first shifted, its lists in any
-- order, and is lent as much. It speaks of the answers, and of what each lent list holds after the call, refused or not.
use Rattle.std.specs.Prelude.{◌≡◌, false, List, map, ℕ, ℤ, pos, length, replicate, Float}
use Rattle.lists.specs.Any.{any}
use Rattle.lent.specs.Told.{code}
use Rattle.lent.specs.Over.{after}
use Rattle.lent.specs.Entries.{flat}
use Rattle.plane.specs.declared.Place.{Place}
use Rattle.net.specs.declared.Weighing.{Weighing}
use Rattle.net.specs.Net.{net_of, cost_in}
use Rattle.net.specs.Tests.{out_of_range}
use Rattle.checks.specs.Check.{checked}
use Rattle.graph.specs.Numbers.{place_numbers, edge_numbers}
use Rattle.terminal.specs.Tree.{path_numbers}
use Rattle.joined.specs.Cost.{lengths}
use Rattle.grid.specs.Distance.{Square}
use Rattle.floats.specs.declared.Technology.{Technology}
use Rattle.floats.specs.Mark.{finites}
use Rattle.parts.specs.Bounds.{work_bound}
use Rattle.best.specs.Tree.{BestTree}
use Rattle.bought.specs.Edges.{edges_of}
use Rattle.rules.specs.Edges.{Edge}
use Rattle.rules.specs.Moved.{moved_edge}
use Rattle.site.specs.Sites.{Shifted}
use Rattle.site.specs.Shift.{shift}
use Rattle.answers.specs.Graph.{net_vertices, net_edges, graphed}
use Rattle.answers.specs.Terminal.{paths_of, terminal_tree}
use Rattle.answers.specs.Refined.{laid_of, refined_tree}
use Rattle.answers.specs.Both.{both_trees}
use Rattle.answers.specs.Slid.{slid_of, slid_tree}
use Rattle.answers.specs.Wires.{wires_of, wired}
use Rattle.answers.specs.Distances.{grid_distances}
use Rattle.answers.specs.Price.{net_price}
use Rattle.answers.specs.Bought.{checked_tree}
use Rattle.answers.specs.Delay.{delays_of, pin_delays}
use Rattle.answers.specs.Best.{best_tree}

-- a path as it is given, with its bridge shifted and its length as it was
abbrev pub shift_path : ℤ → ℤ → Edge × ℕ → Edge × ℕ
shift_path dx dy k = (moved_edge (shift dx dy) k.0, k.1)

-- the edges of a bought-in tree, shifted, in range both times
pub record ShiftedEdges (dx dy : ℤ) (edges edges' : List ℤ) : Type 0 where
  pub many : length edges ≡ length edges'
  pub are : edges_of edges' ≡ map (moved_edge (shift dx dy)) (edges_of edges)
  pub here : any out_of_range edges ≡ false
  pub there : any out_of_range edges' ≡ false

pub record SameOnSite (dx dy : ℤ) (w : Weighing) (pins pins' macros macros' : List ℤ) : Type 0 where
  pub check : checked w pins macros ≡ checked w pins' macros'
  pub graph : (v e : ℕ) → graphed w pins macros v e ≡ graphed w pins' macros' v e
  pub vertices : (v e : ℕ) (lent : List ℤ) →
      after (graphed w pins macros v e) (flat place_numbers (map (shift dx dy) (net_vertices w pins macros))) lent
      ≡ after (graphed w pins' macros' v e) (flat place_numbers (net_vertices w pins' macros')) lent
  pub edges : (v e : ℕ) (lent : List ℤ) →
      after (graphed w pins macros v e) (flat edge_numbers (map (moved_edge (shift dx dy)) (net_edges w pins macros))) lent
      ≡ after (graphed w pins' macros' v e) (flat edge_numbers (net_edges w pins' macros')) lent
  pub terminal : (room : ℕ) → terminal_tree w pins macros room ≡ terminal_tree w pins' macros' room
  pub paths : (room : ℕ) (lent : List ℤ) →
      after (terminal_tree w pins macros room) (flat path_numbers (map (shift_path dx dy) (paths_of w pins macros))) lent
      ≡ after (terminal_tree w pins' macros' room) (flat path_numbers (paths_of w pins' macros')) lent
  pub refined : (room : ℕ) → refined_tree w pins macros room ≡ refined_tree w pins' macros' room
  pub laid : (room : ℕ) (lent : List ℤ) →
      after (refined_tree w pins macros room) (flat edge_numbers (map (moved_edge (shift dx dy)) (laid_of w pins macros))) lent
      ≡ after (refined_tree w pins' macros' room) (flat edge_numbers (laid_of w pins' macros')) lent
  pub both : (room : ℕ) → both_trees w pins macros room ≡ both_trees w pins' macros' room
  pub both-laid : (room : ℕ) (lent : List ℤ) →
      after (both_trees w pins macros room) (flat edge_numbers (map (moved_edge (shift dx dy)) (laid_of w pins macros))) lent
      ≡ after (both_trees w pins' macros' room) (flat edge_numbers (laid_of w pins' macros')) lent
  pub slid : (room : ℕ) → slid_tree w pins macros room ≡ slid_tree w pins' macros' room
  pub slid-edges : (room : ℕ) (lent : List ℤ) →
      after (slid_tree w pins macros room) (flat edge_numbers (map (moved_edge (shift dx dy)) (slid_of w pins macros))) lent
      ≡ after (slid_tree w pins' macros' room) (flat edge_numbers (slid_of w pins' macros')) lent
  pub wires : (room : ℕ) → wired w pins macros room ≡ wired w pins' macros' room
  pub drawn : (room : ℕ) (lent : List ℤ) →
      after (wired w pins macros room) (flat edge_numbers (map (moved_edge (shift dx dy)) (wires_of w pins macros))) lent
      ≡ after (wired w pins' macros' room) (flat edge_numbers (wires_of w pins' macros')) lent
  pub price : (bands : List ℕ) → net_price w pins macros bands ≡ net_price w pins' macros' bands
  pub distances : (room : ℕ) → grid_distances w pins macros room ≡ grid_distances w pins' macros' room
  pub table : (t u : List ℕ) → Square (net_of w pins macros) t → Square (net_of w pins' macros') u → (room : ℕ) (lent : List ℤ) →
      after (grid_distances w pins macros room) (map pos t) lent ≡ after (grid_distances w pins' macros' room) (map pos u) lent
  pub bought : (edges edges' : List ℤ) → ShiftedEdges dx dy edges edges' →
      checked_tree w pins macros edges ≡ checked_tree w pins' macros' edges'
  -- delays from the driver's place, shifted
  pub delay : (driver : Place) (t : Technology) (room : ℕ) →
      pin_delays w pins macros driver t room ≡ pin_delays w pins' macros' (shift dx dy driver) t room
  pub delays : (driver : Place) (t : Technology) (room : ℕ) (lent : List Float) →
      after (pin_delays w pins macros driver t room) (finites (delays_of w pins macros driver t)) lent
      ≡ after (pin_delays w pins' macros' (shift dx dy driver) t room) (finites (delays_of w pins' macros' (shift dx dy driver) t)) lent
  -- which best trees T and U are given is left to the program; the refusal, the work and what the trees cost are the same
  pub best : (T U : List Edge) (work room : ℕ) → code (best_tree w pins macros work room T) ≡ code (best_tree w pins' macros' work room U)
  pub best-work : (T U : List Edge) (work room : ℕ) (lent : List ℕ)
      → after (best_tree w pins macros work room T) (replicate work_bound 0) lent
      ≡ after (best_tree w pins' macros' work room U) (replicate work_bound 0) lent
  pub best-cost : (T U : List Edge) → BestTree (net_of w pins macros) T → BestTree (net_of w pins' macros') U →
      lengths (cost_in (net_of w pins macros)) T ≡ lengths (cost_in (net_of w pins' macros')) U

-- The theorem, of any two calls; ../proofs/EverySite.antt has the proof
pub record OnEverySite : Type 0 where
  pub every-site : (dx dy : ℤ) (w : Weighing) (pins pins' macros macros' : List ℤ) → Shifted dx dy pins pins' macros macros'
      → SameOnSite dx dy w pins pins' macros macros'
