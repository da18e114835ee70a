-- L17: metal anywhere in the plane that joins a net's pins, and what it costs at least.
use Rattle.std.specs.Prelude.{◌≡◌, List, ℕ, ◌≤◌}
use Rattle.joined.specs.Joined.{Link, Joins}
use Rattle.joined.specs.Pairs.{Each}
use Rattle.joined.specs.Cost.{lengths}
use Rattle.net.specs.Net.{Net, cost_in}
use Rattle.lines.specs.Lines.{UnitStep}
use Rattle.lines.specs.Edges.{Edge, grid_edges}

-- steps of one unit, each clear of the interiors, on the die or off it, along the net's lines or not, that join all pins
pub record UnitMetal (net : Net) (U : List Edge) : Type 0 where
  pub units : Each (UnitStep net.macros) U
  pub joins : Joins net.pins U

-- edges of the grid that join all pins for at most so much
pub record GridMetal (net : Net) (most : ℕ) : Type 0 where
  pub edges : List Edge
  pub on-grid : Each (Link (grid_edges net)) edges
  pub joins : Joins net.pins edges
  pub within : lengths (cost_in net) edges ≤ most

-- n is the least cost of all metal that joins the pins
pub record LeastMetal (net : Net) (n : ℕ) : Type 0 where
  pub metal : List Edge
  pub is-metal : UnitMetal net metal
  pub costs : lengths (cost_in net) metal ≡ n
  pub least : (U : List Edge) → UnitMetal net U → n ≤ lengths (cost_in net) U
