-- A place and an edge as the numbers that are given (C62): two for a place, four for an edge.
use Rattle.std.specs.Prelude.{List, [], ◌∷◌, ℕ, ◌+◌, ℤ}
use Rattle.plane.specs.declared.Place.{Place}
use Rattle.plane.specs.Flat.{place_from}
pub use Rattle.plane.specs.Flat.{place_numbers}

abbrev pub edge_numbers : Place × Place → List ℤ
edge_numbers e = e.0.x ∷ (e.0.y ∷ (e.1.x ∷ (e.1.y ∷ [])))

-- the edge that begins at the number k of a flat list
abbrev pub edge_from : List ℤ → ℕ → Place × Place
edge_from s k = (place_from s k, place_from s (k + 2))
