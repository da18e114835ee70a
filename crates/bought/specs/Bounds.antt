-- The bounds of a list of edges that is lent: rule V1. The first is a number of its own; it follows from no bound of the net.
use Rattle.std.specs.Prelude.{ℕ, ◌+◌, ◌*◌}
use Rattle.net.specs.Bounds.{pin_bound}

-- C33: at most so many edges
abbrev pub bought_bound : ℕ
bought_bound = 1535

-- pins, and two ends an edge
abbrev pub point_limit : ℕ
point_limit = pin_bound + bought_bound * 2
