-- The bounds of the router's own tables, those of `Net`; and what no sum of costs along a way reaches.
use Rattle.std.specs.Prelude.{ℕ, ◌+◌, ◌*◌}
use Rattle.net.specs.Bounds as net

-- N23: at most 640 points and 2,560 edges
abbrev pub point_bound : ℕ
point_bound = net.point_bound

abbrev pub edge_bound : ℕ
edge_bound = net.edge_bound

-- the length of an edge at most: what metal between two places of the die costs
abbrev pub cost_bound : ℕ
cost_bound = net.cost_bound

-- The distance of a vertex that no source has reached. Above every length of a way: a way has fewer edges than there are points.
abbrev pub unreached : ℕ
unreached = point_bound * cost_bound

-- A path's length at most, whatever the graph: an edge, and from each of its ends a way to a root.
abbrev pub path_bound : ℕ
path_bound = unreached * 2 + cost_bound
