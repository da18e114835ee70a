-- L2: how large a net's grid may be. Sixteen pins and sixteen macros are named here once for the definitions, and as constants of `Grid`
-- for the code; the rest follows from them and from the net's own bounds.
use Rattle.std.specs.Prelude.{ℕ, ◌+◌, ◌*◌}
use Rattle.net.specs.Bounds.{cost_bound}

abbrev pub grid_pins : ℕ
grid_pins = 16

abbrev pub grid_macros : ℕ
grid_macros = 16

-- lines along one axis: one a pin and two a macro (48)
abbrev pub line_bound : ℕ
line_bound = grid_pins + grid_macros * 2

-- crossings, a row of `line_bound` for each line across (2,304); and twice as many segments, one across and one along from each
abbrev pub crossing_bound : ℕ
crossing_bound = line_bound * line_bound

abbrev pub segment_bound : ℕ
segment_bound = crossing_bound * 2

-- above what all edges of the grid cost together: a number that stands for no way (1,536,000,001)
abbrev pub unreached : ℕ
unreached = line_bound * cost_bound + 1
