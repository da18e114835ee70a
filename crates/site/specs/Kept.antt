-- What the trees are made by, and what a shift must keep of it: the order that settles every tie, lengths, and the table of places that
-- every tree starts from. None of them may know where on the die it is: a tie settled by the distance from one place of the die, or a place
-- of the table's own, would make another tree on another site.
use Rattle.std.specs.Prelude.{◌≡◌, Bool, List, map, ℤ}
use Rattle.plane.specs.declared.Place.{Place}
use Rattle.plane.specs.Place.{before}
use Rattle.plane.specs.Distance.{distance}
use Rattle.net.specs.Net.{Net}
use Rattle.graph.specs.Spanning.{vertices_of}
use Rattle.net.specs.Allowed.{Allowed}
use Rattle.site.specs.Shift.{shift, shift_net}

-- N18: of two places that do as well, the first in this order
unfoldable pub tie : Place → Place → Bool
tie p q = before p q

-- G1: pins and corners, in order
unfoldable pub table : Net → List Place
table net = vertices_of net

pub record Kept (dx dy : ℤ) : Type 0 where
  pub ties : (p q : Place) → tie (shift dx dy p) (shift dx dy q) ≡ tie p q
  pub lengths : (p q : Place) → distance (shift dx dy p) (shift dx dy q) ≡ distance p q
  pub tables : (net : Net) → Allowed net → Allowed (shift_net dx dy net) → table (shift_net dx dy net) ≡ map (shift dx dy) (table net)
