-- Edges and paths go where a map of the plane takes their places.
use Rattle.std.specs.Prelude.{map}
use Rattle.joined.specs.Pairs.{moved_pair}
use Rattle.plane.specs.declared.Place.{Place}
use Rattle.rules.specs.Edges.{Edge}
use Rattle.rules.specs.Terminal.{Path}

abbrev pub moved_edge : (Place → Place) → Edge → Edge
moved_edge f e = moved_pair f e

abbrev pub moved_path : (Place → Place) → Path → Path
moved_path f k = record { bridge = moved_edge f k.bridge; start = f k.start; points = map f k.points; finish = f k.finish }
