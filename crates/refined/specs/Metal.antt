-- R22: the metal to lay for edges, their plain lengths added up, whatever the weights. Metal that crosses or overlaps counts in full.
use Rattle.std.specs.Prelude.{List, ℕ}
use Rattle.plane.specs.declared.Place.{Place}
use Rattle.plane.specs.Distance.{distance}
use Rattle.joined.specs.Cost.{lengths}

abbrev pub metal : List (Place × Place) → ℕ
metal es = lengths distance es
