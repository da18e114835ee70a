-- The spanning graph of a net: its vertices, and the edges that its weights and its macros give them.
use Rattle.std.specs.Prelude.{List}
use Rattle.plane.specs.declared.Place.{Place}
use Rattle.net.specs.Net.{Net}
use Rattle.graph.specs.Vertices.{vertices}
use Rattle.graph.specs.Edges.{edges}

abbrev pub vertices_of : Net → List Place
vertices_of net = vertices net.pins net.macros

abbrev pub spanning : Net → List (Place × Place)
spanning net = edges net.weights net.macros (vertices_of net)
