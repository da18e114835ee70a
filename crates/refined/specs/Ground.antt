-- The ground that an allowed net's tree is refined on: its spanning graph, as the router's tables hold it.
use Rattle.std.specs.Prelude.{◌*◌, pos, length, replicate}
use Rattle.lent.specs.Over.{over}
use Rattle.lent.specs.Entries.{flat}
use Rattle.net.specs.Net.{Net}
use Rattle.graph.specs.Spanning.{vertices_of}
use Rattle.graph.specs.Numbers.{place_numbers}
use Rattle.forest.specs.Bounds.{point_bound}
use Rattle.terminal.specs.Tree.{graph_of}
use Rattle.beside.specs.Beside.{Ground, ground}

unfoldable pub ground_of : Net → Ground
ground_of net =
    ground (over (flat place_numbers (vertices_of net)) (replicate (point_bound * 2) (pos 0))) (length (vertices_of net)) (graph_of net)
