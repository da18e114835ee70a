-- L13: what is asked of a bought-in tree beside one tree, clear edges and none twice: a point with a single edge is a pin.
-- Assumes nothing.
use mathlib.Core.List.{List}
use Rattle.lists.specs.Member.{◌∈◌}
use Rattle.lists.proofs.MemberLaws.{is-in}
use Rattle.joined.specs.Joined.{Link, others}
use Rattle.plane.specs.declared.Place.{Place}
use Rattle.plane.proofs.PlaceOrder.{place_same}
use Rattle.net.specs.Net.{Net}
use Rattle.lines.specs.Edges.{Edge}
use Rattle.best.specs.Tree.{IsBest}

pub best-pinned : (net : Net) (O : List Edge) → IsBest net O → (v w : Place) (l : Link O v w) → ((z : Place) → Link (others l) v z → ⊥) →
    v ∈ net.pins
best-pinned net O b v w l alone = at (is-in place_same v net.pins)
  where
    at : Dec (v ∈ net.pins) → v ∈ net.pins
    at (yes m) = m
    at (no n) = let r = b.two v w l n in absurd (alone r.0 r.1)
