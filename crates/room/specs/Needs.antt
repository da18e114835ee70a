-- C21: how many numbers an operation must be lent, by the net's n points and m pins.
use Rattle.std.specs.Prelude.{ℕ, ◌+◌, ◌*◌}

-- C61: the graph's vertices, two numbers each, and its edges, four numbers each
abbrev pub vertex_need : ℕ → ℕ
vertex_need n = n * 2

abbrev pub link_need : ℕ → ℕ
link_need n = n * 16

-- C63: the terminal tree's paths, five numbers each
abbrev pub path_need : ℕ → ℕ
path_need m = m * 5

-- C65: the refined tree's edges, four numbers each
abbrev pub edge_need : ℕ → ℕ → ℕ
edge_need n m = (n + m) * 4

-- C67, C81: its wires, two an edge; the slid tree's edges are no more than these
abbrev pub wire_need : ℕ → ℕ → ℕ
wire_need n m = (n + m) * 8
