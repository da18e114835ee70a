-- What is promised of the lower bound (U6, U7, C89). What it is stands in `bound` (specs/Bound.antt), which has one solution: so each
-- promise is of any n that is the net's bound, and the contract of router::lower_bound names the one given (`GivesBound`).
use Rattle.std.specs.Prelude.{◌≡◌, List, ℕ, ◌≤◌, ℤ, pos}
use Rattle.lent.specs.Told.{given}
use Rattle.joined.specs.Cost.{lengths}
use Rattle.net.specs.declared.Weighing.{Weighing}
use Rattle.net.specs.Net.{net_of, cost_in}
use Rattle.lines.specs.Edges.{Edge}
use Rattle.grid_hanan.specs.Metal.{UnitMetal}
use Rattle.best.specs.Tree.{JoinsPins, BestTree}
use Rattle.sweeps.specs.Tables.{wide_crossings, arc_bound}
use Rattle.bound.specs.Bound.{Bound}
use Rattle.answers.specs.Refined.{laid_total}
use Rattle.answers.specs.Slid.{slid_total}
use Rattle.answers.specs.Bought.{checked_tree}
use Rattle.answers.specs.Bound.{lower_bound}

-- for an allowed net; the check is the only premise (`promised-bound`, ../proofs/BoundPromise.antt)
pub record PromisedBound (w : Weighing) (pins macros : List ℤ) : Type 0 where
  -- D1b: it is given where there is room for the work
  pub bound-given : (left rows n : ℕ) → arc_bound ≤ left → wide_crossings ≤ rows → lower_bound w pins macros left rows n ≡ given n
  -- U6: one number
  pub one : (m n : ℕ) → Bound (net_of w pins macros) m → Bound (net_of w pins macros) n → m ≡ n
  -- U7: no edges of the grid that join all pins cost less, nor does any metal in clear unit steps
  pub grid : (n : ℕ) → Bound (net_of w pins macros) n → (F : List Edge) → JoinsPins (net_of w pins macros) F
      → n ≤ lengths (cost_in (net_of w pins macros)) F
  pub metal : (n : ℕ) → Bound (net_of w pins macros) n → (U : List Edge) → UnitMetal (net_of w pins macros) U
      → n ≤ lengths (cost_in (net_of w pins macros)) U
  -- U7: so no tree is cheaper: not the refined one, the slid one or a best one, nor any list that the check of bought-in trees passes
  pub refined : (n : ℕ) → Bound (net_of w pins macros) n → n ≤ laid_total w pins macros
  pub slid : (n : ℕ) → Bound (net_of w pins macros) n → n ≤ slid_total w pins macros
  pub best : (n : ℕ) → Bound (net_of w pins macros) n → (T : List Edge) → BestTree (net_of w pins macros) T
      → n ≤ lengths (cost_in (net_of w pins macros)) T
  pub bought : (n : ℕ) → Bound (net_of w pins macros) n → (edges : List ℤ) (cost laid : ℕ)
      → checked_tree w pins macros edges ≡ given (pos cost, pos laid) → n ≤ cost
