-- What is promised of the best tree (L11 to L14, L17, L18). What it is stands in `best` (specs/Tree.antt); which one is given, where
-- several cost the same, is left to the program (L12): so each promise is of any best tree T.
use Rattle.std.specs.Prelude.{◌≡◌, List, ℕ, ◌*◌, ◌≤◌, ◌<◌, ℤ, pos, length}
use Rattle.lists.specs.Member.{◌∈◌}
use Rattle.lent.specs.Told.{given}
use Rattle.lent.specs.Entries.{flat}
use Rattle.joined.specs.Cost.{lengths}
use Rattle.plane.specs.declared.Macro.{Macro}
use Rattle.plane.specs.Distance.{distance}
use Rattle.plane.specs.Flat.{macros_of}
use Rattle.net.specs.Pins.{pin_count, macro_count}
use Rattle.net.specs.declared.Weighing.{Weighing}
use Rattle.net.specs.Net.{net_of, cost_in}
use Rattle.graph.specs.Numbers.{edge_numbers}
use Rattle.lines.specs.Bounds.{grid_macros}
use Rattle.lines.specs.Edges.{Edge}
use Rattle.bought.specs.Passes.{Passes}
use Rattle.interior.specs.Interior.{PlanePoint, Interior, Box}
use Rattle.grid_hanan.specs.Metal.{LeastMetal}
use Rattle.grid_hanan.specs.Fine.{LeastInFractions}
use Rattle.parts.specs.Bounds.{best_pins, work_bound}
use Rattle.best.specs.Tree.{JoinsPins, BestTree}
use Rattle.answers.specs.Best.{best_numbers, best_answer, best_tree}
use Rattle.answers.specs.Refined.{laid_total}
use Rattle.answers.specs.Slid.{slid_total}
use Rattle.answers.specs.Bought.{checked_tree, sums_of}

-- What is promised of the best tree of an allowed net, whichever is given; the check is the only premise (`promised-best`,
-- promises/proofs/BestPromise.antt). Of a net of up to five pins and sixteen macros there is one: the contract of router::best_tree names
-- it (`GivesBest`, specs/Call.antt).
pub record PromisedBest (w : Weighing) (pins macros : List ℤ) : Type 0 where
  -- D1b: a net of that size is given one, where there is room for it
  pub best-given : pin_count pins ≤ best_pins → macro_count macros ≤ grid_macros → (work room : ℕ) → work_bound ≤ work
      → best_numbers pins macros ≤ room → (T : List Edge) → best_tree w pins macros work room T ≡ given (best_answer w pins macros T)
  -- L11: no edges of the grid that join all pins cost less, whether they are a tree or not
  pub least : (T : List Edge) → BestTree (net_of w pins macros) T → (F : List Edge) → JoinsPins (net_of w pins macros) F
      → lengths (cost_in (net_of w pins macros)) T ≤ lengths (cost_in (net_of w pins macros)) F
  -- L12: so all best trees cost the same
  pub alike : (T U : List Edge) → BestTree (net_of w pins macros) T → BestTree (net_of w pins macros) U
      → lengths (cost_in (net_of w pins macros)) T ≡ lengths (cost_in (net_of w pins macros)) U
  -- L13: what is asked of a bought-in tree (V3 to V6), and the check passes it with the cost and the metal that it was given with
  pub passes : (T : List Edge) → BestTree (net_of w pins macros) T → Passes (net_of w pins macros) T
  pub checks : pin_count pins ≤ best_pins → macro_count macros ≤ grid_macros → (T : List Edge) → BestTree (net_of w pins macros) T
      → checked_tree w pins macros (flat edge_numbers T) ≡ given (sums_of w pins macros T)
  -- R21: no point with fractions either lies in an edge's box and in an interior
  pub outside : (T : List Edge) → BestTree (net_of w pins macros) T → (e : Edge) → e ∈ T → (m : Macro) → m ∈ macros_of macros
      → (q : PlanePoint) → Box e.0 e.1 q → Interior m q → ⊥
  -- L17: its cost is the least of all metal that joins the pins, anywhere in the plane
  pub metal : (T : List Edge) → BestTree (net_of w pins macros) T
      → LeastMetal (net_of w pins macros) (lengths (cost_in (net_of w pins macros)) T)
  -- L18: and that of metal in steps of any fraction of a unit
  pub fractions : (T : List Edge) → BestTree (net_of w pins macros) T
      → LeastInFractions (net_of w pins macros) (lengths (cost_in (net_of w pins macros)) T)
  -- L14, L17: so the refined tree is never cheaper, nor the slid tree, nor any list that the check of bought-in trees passes
  pub refined : (T : List Edge) → BestTree (net_of w pins macros) T → lengths (cost_in (net_of w pins macros)) T ≤ laid_total w pins macros
  pub slid : (T : List Edge) → BestTree (net_of w pins macros) T → lengths (cost_in (net_of w pins macros)) T ≤ slid_total w pins macros
  pub bought : (T : List Edge) → BestTree (net_of w pins macros) T → (edges : List ℤ) (cost laid : ℕ)
      → checked_tree w pins macros edges ≡ given (pos cost, pos laid) → lengths (cost_in (net_of w pins macros)) T ≤ cost
  -- R22: its metal is no more than its cost
  pub metal-low : (T : List Edge) → BestTree (net_of w pins macros) T → lengths distance T ≤ lengths (cost_in (net_of w pins macros)) T
  -- C87: 4(m + 2k)² numbers hold its edges
  pub few : (T : List Edge) → BestTree (net_of w pins macros) T → length T * 4 < best_numbers pins macros
