-- D2b: what two calls have in common that have the same weights, and lists with the same entries in another order; and D2g: or with other
-- loads [11]. It speaks of the answers, and of what each lent list holds after the call, refused or not.
use Rattle.std.specs.Prelude.{◌≡◌, ℕ, ℤ, pos, replicate}
use mathlib.Core.List.{List, Perm, map}
use Rattle.lent.specs.Told.{given, code}
use Rattle.lent.specs.Over.{after}
use Rattle.lent.specs.Entries.{flat}
use Rattle.net.specs.declared.Weighing.{Weighing}
use Rattle.net.specs.declared.Net.{Net as Counts}
use Rattle.net.specs.Pins.{pin_places}
use Rattle.net.specs.Net.{net_of, cost_in}
use Rattle.net.specs.Order.{SamePins, SameMacros}
use Rattle.checks.specs.Check.{checked}
use Rattle.graph.specs.Numbers.{place_numbers, edge_numbers}
use Rattle.terminal.specs.Tree.{path_numbers}
use Rattle.joined.specs.Cost.{lengths}
use Rattle.grid.specs.Distance.{Square}
use Rattle.lines.specs.Edges.{Edge}
use Rattle.parts.specs.Bounds.{work_bound}
use Rattle.best.specs.Tree.{BestTree}
use Rattle.bought.specs.Rearranged.{SameEdges}
use Rattle.bound.specs.Bound.{Bound}
use Rattle.answers.specs.Graph.{net_vertices, net_edges, graphed}
use Rattle.answers.specs.Terminal.{paths_of, terminal_tree}
use Rattle.answers.specs.Refined.{laid_of, refined_tree}
use Rattle.answers.specs.Both.{both_trees}
use Rattle.answers.specs.Slid.{slid_of, slid_tree}
use Rattle.answers.specs.Wires.{wires_of, wired}
use Rattle.answers.specs.Distances.{grid_distances}
use Rattle.answers.specs.Price.{net_price}
use Rattle.answers.specs.Bought.{checked_tree}
use Rattle.answers.specs.Best.{best_tree}
use Rattle.answers.specs.Bound.{lower_bound}

pub record SameForBoth (w : Weighing) (pins pins' macros macros' : List ℤ) : Type 0 where
  pub check : checked w pins macros ≡ checked w pins' macros'
  pub graph : (v e : ℕ) → graphed w pins macros v e ≡ graphed w pins' macros' v e
  pub vertices : (v e : ℕ) (lent : List ℤ) → after (graphed w pins macros v e) (flat place_numbers (net_vertices w pins macros)) lent
      ≡ after (graphed w pins' macros' v e) (flat place_numbers (net_vertices w pins' macros')) lent
  pub edges : (v e : ℕ) (lent : List ℤ) → after (graphed w pins macros v e) (flat edge_numbers (net_edges w pins macros)) lent
      ≡ after (graphed w pins' macros' v e) (flat edge_numbers (net_edges w pins' macros')) lent
  pub terminal : (room : ℕ) → terminal_tree w pins macros room ≡ terminal_tree w pins' macros' room
  pub paths : (room : ℕ) (lent : List ℤ) → after (terminal_tree w pins macros room) (flat path_numbers (paths_of w pins macros)) lent
      ≡ after (terminal_tree w pins' macros' room) (flat path_numbers (paths_of w pins' macros')) lent
  pub refined : (room : ℕ) → refined_tree w pins macros room ≡ refined_tree w pins' macros' room
  pub laid : (room : ℕ) (lent : List ℤ) → after (refined_tree w pins macros room) (flat edge_numbers (laid_of w pins macros)) lent
      ≡ after (refined_tree w pins' macros' room) (flat edge_numbers (laid_of w pins' macros')) lent
  pub both : (room : ℕ) → both_trees w pins macros room ≡ both_trees w pins' macros' room
  pub both-laid : (room : ℕ) (lent : List ℤ) → after (both_trees w pins macros room) (flat edge_numbers (laid_of w pins macros)) lent
      ≡ after (both_trees w pins' macros' room) (flat edge_numbers (laid_of w pins' macros')) lent
  pub slid : (room : ℕ) → slid_tree w pins macros room ≡ slid_tree w pins' macros' room
  pub slid-edges : (room : ℕ) (lent : List ℤ) → after (slid_tree w pins macros room) (flat edge_numbers (slid_of w pins macros)) lent
      ≡ after (slid_tree w pins' macros' room) (flat edge_numbers (slid_of w pins' macros')) lent
  pub wires : (room : ℕ) → wired w pins macros room ≡ wired w pins' macros' room
  pub drawn : (room : ℕ) (lent : List ℤ) → after (wired w pins macros room) (flat edge_numbers (wires_of w pins macros)) lent
      ≡ after (wired w pins' macros' room) (flat edge_numbers (wires_of w pins' macros')) lent
  pub price : (bands : List ℕ) → net_price w pins macros bands ≡ net_price w pins' macros' bands
  pub distances : (room : ℕ) → grid_distances w pins macros room ≡ grid_distances w pins' macros' room
  pub table : (t u : List ℕ) → Square (net_of w pins macros) t → Square (net_of w pins' macros') u → (room : ℕ) (lent : List ℤ) →
      after (grid_distances w pins macros room) (map pos t) lent ≡ after (grid_distances w pins' macros' room) (map pos u) lent
  -- and the edges of a bought-in tree in any order, each from either end
  pub bought : (edges edges' : List ℤ) → SameEdges edges edges' → checked_tree w pins macros edges ≡ checked_tree w pins' macros' edges'
  -- L15: which best trees T and U are given is left to the program; the refusal, the work and what the trees cost are the same
  pub best : (T U : List Edge) (work room : ℕ) → code (best_tree w pins macros work room T) ≡ code (best_tree w pins' macros' work room U)
  pub best-work : (T U : List Edge) (work room : ℕ) (lent : List ℕ)
      → after (best_tree w pins macros work room T) (replicate work_bound 0) lent
      ≡ after (best_tree w pins' macros' work room U) (replicate work_bound 0) lent
  pub best-cost : (T U : List Edge) → BestTree (net_of w pins macros) T → BestTree (net_of w pins' macros') U
      → lengths (cost_in (net_of w pins macros)) T ≡ lengths (cost_in (net_of w pins' macros')) U
  -- U6: the lower bound is the same number, and so are its refusals
  pub bound : (left rows n : ℕ) → lower_bound w pins macros left rows n ≡ lower_bound w pins' macros' left rows n
  pub bound-number : (m n : ℕ) → Bound (net_of w pins macros) m → Bound (net_of w pins' macros') n → m ≡ n

-- The theorems, of any two calls; ../proofs/EveryOrder.antt has the proof
pub record ByPlaces : Type 0 where
  -- D2b: the same entries in another order, allowed or not
  pub every-order : (w : Weighing) (pins pins' macros macros' : List ℤ) → SamePins pins pins' → SameMacros macros macros'
      → SameForBoth w pins pins' macros macros'
  -- D2g: two allowed nets that differ in loads alone [11]
  pub loads-alone : (w : Weighing) (pins pins' macros : List ℤ) {net net' : Counts} → checked w pins macros ≡ given net
      → checked w pins' macros ≡ given net' → pin_places pins ≡ pin_places pins' → SameForBoth w pins pins' macros macros
  -- and so where the order of the lists is another too
  pub whatever-loads : (w : Weighing) (pins pins' macros macros' : List ℤ) {net net' : Counts} → checked w pins macros ≡ given net
      → checked w pins' macros' ≡ given net' → Perm (pin_places pins) (pin_places pins') → SameMacros macros macros'
      → SameForBoth w pins pins' macros macros'
