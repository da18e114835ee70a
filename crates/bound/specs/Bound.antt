-- U5: the bound of a net, the greatest number of four sweeps over its pins along the grid, towards each of the four sides of the die.
use Rattle.std.specs.Prelude.{◌≡◌, List, reverse, ℕ, max}
use Rattle.lists.specs.Sorted.{sorted}
use Rattle.joined.specs.Joined.{Link}
use Rattle.plane.specs.declared.Place.{Place}
use Rattle.net.specs.Net.{Net, cost_in}
use Rattle.lines.specs.declared.Axis.{Axis}
use Rattle.lines.specs.declared.Axis.TheVariants.{Across, Along}
use Rattle.lines.specs.Edges.{grid_edges}
use Rattle.sweeps.specs.Sweep.{Swept}
use Rattle.bound.specs.Order.{towards}

-- a sweep over a net's pins in this order
abbrev pub SweptPins : Net → List Place → ℕ → Type 0
SweptPins net pins n = Swept (Link (grid_edges net)) (cost_in net) pins n

-- the greater of two sweeps along an axis: from its end to its start, and from its start to its end
pub record BothWays (net : Net) (axis : Axis) (n : ℕ) : Type 0 where
  pub back : ℕ
  pub forth : ℕ
  pub to_start : SweptPins net (reverse (sorted (towards axis) net.pins)) back
  pub to_end : SweptPins net (sorted (towards axis) net.pins) forth
  pub greater : n ≡ max back forth

-- and of both axes
pub record Bound (net : Net) (n : ℕ) : Type 0 where
  pub across : ℕ
  pub along : ℕ
  pub by-x : BothWays net Across across
  pub by-y : BothWays net Along along
  pub greatest : n ≡ max across along
