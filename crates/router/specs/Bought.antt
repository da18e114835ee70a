-- What is promised of the check of a bought-in tree (V3 to V9). What passes stands in `bought` (specs/Passes.antt).
use Rattle.std.specs.Prelude.{◌≡◌, false, List, [], ◌≤◌, ℤ, pos, length}
use Rattle.lists.specs.Any.{any}
use Rattle.lists.specs.Member.{◌∈◌}
use Rattle.lent.specs.Told.{refused, given}
use Rattle.lent.specs.Entries.{flat}
use Rattle.joined.specs.Joined.{Link, others}
use Rattle.plane.specs.declared.Place.{Place}
use Rattle.net.specs.declared.Weighing.{Weighing}
use Rattle.net.specs.Pins.{pin_count, pin_places}
use Rattle.net.specs.Net.{net_of}
use Rattle.net.specs.Tests.{out_of_range}
use Rattle.net.specs.Allowed.{PlaceInRange}
use Rattle.checks.specs.Check.{checked}
use Rattle.graph.specs.Numbers.{edge_numbers}
use Rattle.bought.specs.Bounds.{bought_bound}
use Rattle.bought.specs.Edges.{Edge, edges_of}
use Rattle.bought.specs.Passes.{Passes}
use Rattle.bought.specs.Rearranged.{SameEdges}
use Rattle.bought.specs.Verdict.{edges_miscounted}
use Rattle.answers.specs.Bought.{checked_tree, sums_of}
use Rattle.answers.specs.Refined.{laid_of, laid_total, metal_of}
use Rattle.answers.specs.Slid.{slid_of, slid_total, slid_metal}

-- C33 does not apply
pub record Listed (edges : List ℤ) : Type 0 where
  pub counted : edges_miscounted edges ≡ false
  pub in-range : any out_of_range edges ≡ false

-- What is promised of the check for an allowed net; the check of the net is the only premise (`promised-check`,
-- promises/proofs/BoughtLaws.antt)
pub record PromisedCheck (w : Weighing) (pins macros : List ℤ) : Type 0 where
  -- V3 to V6: unless 33 applies, a list passes exactly when it does in words, and is then given its cost and its metal
  pub passes : (edges : List ℤ) → Listed edges → Passes (net_of w pins macros) (edges_of edges)
      → checked_tree w pins macros edges ≡ given (sums_of w pins macros (edges_of edges))
  pub only : (edges : List ℤ) {a : ℤ × ℤ} → checked_tree w pins macros edges ≡ given a
      → Listed edges × Passes (net_of w pins macros) (edges_of edges)
  -- V3: where there is an edge, every pin is an end of one
  pub held : (T : List Edge) → Passes (net_of w pins macros) T → {e : Edge} → e ∈ T → (p : Place) → p ∈ pin_places pins
      → (z : Place) × Link T p z
  -- V4: an edge given twice, from either end, is 35, unless 33 or 34 applies
  pub twice : (edges : List ℤ) (a b : Place) (l : Link (edges_of edges) a b) → Link (others l) a b
      → Listed edges → (checked_tree w pins macros edges ≡ refused 34 → ⊥) → checked_tree w pins macros edges ≡ refused 35
  -- V7: a lone pin with no edge passes, and with an edge never does
  pub lone : pin_count pins ≡ 1 → checked_tree w pins macros [] ≡ given (pos 0, pos 0)
  pub lone-only : pin_count pins ≡ 1 → (edges : List ℤ) {e : Edge} → e ∈ edges_of edges → {a : ℤ × ℤ}
      → checked_tree w pins macros edges ≡ given a → ⊥
  -- V8: the order of the edges does not matter, nor from which end each is given
  pub rearranged : (edges edges' : List ℤ) → SameEdges edges edges' → checked_tree w pins macros edges ≡ checked_tree w pins macros edges'
  -- V9: any edges in range, few enough, that pass in words pass as the numbers given for them
  pub numbers : (T : List Edge) → ((e : Edge) → e ∈ T → PlaceInRange e.0 × PlaceInRange e.1) → length T ≤ bought_bound
      → Passes (net_of w pins macros) T → checked_tree w pins macros (flat edge_numbers T) ≡ given (sums_of w pins macros T)
  -- V9: the refined tree passes, with the cost and the metal that it was given with
  pub refined : checked_tree w pins macros (flat edge_numbers (laid_of w pins macros))
      ≡ given (pos (laid_total w pins macros), pos (metal_of w pins macros))
  -- V9: and so does the slid tree
  pub slid : checked_tree w pins macros (flat edge_numbers (slid_of w pins macros))
      ≡ given (pos (slid_total w pins macros), pos (slid_metal w pins macros))
