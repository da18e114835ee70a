-- N6: the net's bounds, named here once for the definitions, and as constants of `Net` for the code. The proofs of the tests and of the
-- code on tables fail where the two differ.
use Rattle.std.specs.Prelude.{ℕ, ◌+◌, ◌*◌}

-- N5: from 1 pin to 128, and up to 128 macros
abbrev pub pin_bound : ℕ
pin_bound = 128

abbrev pub macro_bound : ℕ
macro_bound = 128

-- The two as one value: what a machine takes at most. The check, the writer and the reader are defined for any, so that another machine is
-- the same definitions with other numbers.
pub record Bounds : Type 0 where
  pub pins : ℕ
  pub macros : ℕ

-- those of this release
abbrev pub today : Bounds
today = record { pins = pin_bound; macros = macro_bound }

-- N4: coordinates are at most this far from 0, on both sides
abbrev pub coordinate_bound : ℕ
coordinate_bound = 1000000

-- N28: a pin's load is from 0 to this [11]
abbrev pub load_bound : ℕ
load_bound = 1000000

-- a unit of metal costs from 1 to this, along either axis
abbrev pub weight_bound : ℕ
weight_bound = 8

-- N2, N3: numbers of a pin and of a macro in the flat lists
abbrev pub pin_width : ℕ
pin_width = 3

abbrev pub macro_width : ℕ
macro_width = 4

-- N7, N23, N24: what follows from them. The points of a graph are the pins and four corners a macro (640), each picks at most four
-- (2,560), and refining brings at most one point a round (768).
abbrev pub point_bound : ℕ
point_bound = pin_bound + macro_bound * 4

abbrev pub edge_bound : ℕ
edge_bound = point_bound * 4

abbrev pub tree_bound : ℕ
tree_bound = point_bound + pin_bound

-- What metal between two places costs: along either axis they are at most twice the bound of coordinates apart (32,000,000 in all).
abbrev pub cost_bound : ℕ
cost_bound = coordinate_bound * 4 * weight_bound
