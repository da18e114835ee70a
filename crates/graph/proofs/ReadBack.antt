-- Vertices are read back from the front of a table in which they stand.
-- Assumes nothing.
use mathlib.Core.Path.{◌≡◌, refl, sym, ap, ap₂, ◌∙◌}
use mathlib.Core.List.{List, [], ◌∷◌}
use Prim.Native.Nat.{ℕ, ◌*◌}
use lib.IntN.{ℤ}
use lib.ListN.{length, take}
use Rattle.lent.specs.Over.{over}
use Rattle.lent.specs.Entries.{flat}
use Rattle.lent.proofs.OverLaws.{take-over}
use Rattle.lent.proofs.EntryTable.{length-flat}
use Rattle.plane.specs.declared.Place.{Place}
use Rattle.plane.specs.Flat.{places_of, place_from, flat_places}
use Rattle.plane.proofs.FlatLaws.{places-flat}
use Rattle.graph.specs.Numbers.{place_numbers}
use Rattle.graph.proofs.WidthLaws.{place-width}

-- places in a flat list, either way of saying it
flat-places : (ps : List Place) → flat place_numbers ps ≡ flat_places ps
unfolding flat flat_places
flat-places [] = refl
flat-places (p ∷ ps) = ap (λ (l : List ℤ). p.x ∷ (p.y ∷ l)) (flat-places ps)

pub vertices-back : (vs : List Place) (lent table : List ℤ) (n : ℕ) → table ≡ over (flat place_numbers vs) lent → n ≡ length vs
    → places_of (take (n * 2) table) ≡ vs
vertices-back vs lent table n t e =
    let long : n * 2 ≡ length (flat place_numbers vs) = ap (λ (k : ℕ). k * 2) e
    ∙ sym (length-flat place_numbers place_from 2 place-width vs) in
    ap places_of (ap₂ take long t ∙ take-over (flat place_numbers vs) lent ∙ flat-places vs) ∙ places-flat vs
