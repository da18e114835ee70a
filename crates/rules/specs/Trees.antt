-- The trees of a net, all together: what a buyer must believe is this file and the three that it names.
use Rattle.std.specs.Prelude.{◌≡◌, List}
use Rattle.plane.specs.declared.Place.{Place}
use Rattle.net.specs.Net.{Net}
use Rattle.rules.specs.Edges.{Edge}
use Rattle.rules.specs.Spanning.{Spanning}
use Rattle.rules.specs.Terminal.{Path, Terminal}
use Rattle.rules.specs.Refined.{Refined}

-- vs, es: vertices and edges of the spanning graph;  ks: the kept paths;  rs: the edges of the refined tree
pub record Trees (net : Net) (vs : List Place) (es : List Edge) (ks : List Path) (rs : List Edge) : Type 0 where
  pub spanning : Spanning net vs es
  pub terminal : Terminal net es ks
  pub refined : Refined net es ks rs

-- two such fours of lists are the same
pub record Equal (vs ws : List Place) (es fs : List Edge) (ks js : List Path) (rs qs : List Edge) : Type 0 where
  pub vertices : vs ≡ ws
  pub edges : es ≡ fs
  pub paths : ks ≡ js
  pub refined : rs ≡ qs
