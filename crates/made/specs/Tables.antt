-- The tables that a terminal tree is worked out in, as lists.
use Rattle.std.specs.Prelude.{replicate}
use Rattle.forest.specs.Bounds.{point_bound, edge_bound, unreached}
use Rattle.terminal.specs.Tables.{Tables as Lists, tables}
use Rattle.made.specs.declared.Tables.{Tables}

-- as they are lent: no vertex is reached, and none has a parent
abbrev pub begun : Tables → Lists
begun t =
    tables t.vertices t.edges t.ea t.eb t.el t.pin (replicate point_bound unreached) t.root (replicate point_bound point_bound)
    (replicate point_bound edge_bound) t.kept t.long

-- as they are then
abbrev pub worked_in : Tables → Lists
worked_in t = tables t.vertices t.edges t.ea t.eb t.el t.pin t.far t.root t.up t.via t.kept t.long
