-- A list of edges that passes, in words: rules V3 to V6. Points are the pins and the ends of the edges, and one tree is what it is for the
-- refined tree (R20, joined/specs/OneTree), so that every pin is among the points.
use Rattle.std.specs.Prelude.{◌≡◌, true, List}
use Rattle.lists.specs.Member.{◌∈◌}
use Rattle.joined.specs.Joined.{Link, others}
use Rattle.joined.specs.OneTree.{OneTree}
use Rattle.plane.specs.declared.Place.{Place}
use Rattle.plane.specs.Macro.{clear}
use Rattle.net.specs.Net.{Net}
use Rattle.bought.specs.Edges.{Edge}

-- v has one edge and no other
pub record Single (T : List Edge) (v : Place) : Type 0 where
  pub other : Place
  pub link : Link T v other
  pub alone : (w : Place) → Link (others link) v w → ⊥

pub record Passes (net : Net) (T : List Edge) : Type 0 where
  -- V3: every pin is among the points, and points and edges form one tree
  pub one : OneTree net.pins T
  -- V4: no edge is given twice, from either end
  pub once : (a b : Place) (l : Link T a b) → Link (others l) a b → ⊥
  -- V5: every edge joins two different places, clear of each other
  pub apart : (e : Edge) → e ∈ T → e.0 ≡ e.1 → ⊥
  pub free : (e : Edge) → e ∈ T → clear e.0 e.1 net.macros ≡ true
  -- V6: every point with a single edge is a pin
  pub pinned : (v : Place) → Single T v → v ∈ net.pins
