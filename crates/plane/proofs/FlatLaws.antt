-- Entries of flat lists: the next one and the end of a scan, how many there are, and what was made flat read back.
-- Assumes nothing.
use mathlib.Core.Path.{◌≡◌, refl, ap}
use mathlib.Core.List.{List, [], ◌∷◌}
use Prim.Native.Nat.{ℕ, ◌+◌, ◌*◌, ◌/◌, ◌≤◌, ◌<◌}
use native.Mathlib.Omega.{arith}
use lib.IntN.{ℤ, pos}
use lib.ListN.{length, drop}
use Rattle.lists.proofs.EntryLaws.{twos-next, twos-end, length-twos, fours-next, fours-end, length-fours}
use Rattle.plane.specs.declared.Place.{Place}
use Rattle.plane.specs.Place.{place}
use Rattle.plane.specs.Macro.{macro}
use Rattle.plane.specs.Flat.{places_of, macros_of, place_at, macro_at, flat_places}

-- Places

pub places-next : (s : List ℤ) (i : ℕ) → i * 2 + 2 ≤ length s → drop i (places_of s) ≡ place_at s i ∷ drop (i + 1) (places_of s)
unfolding places_of
places-next = twos-next (pos 0) place

pub places-end : (s : List ℤ) (i : ℕ) → length s < i * 2 + 2 → drop i (places_of s) ≡ []
unfolding places_of
places-end = twos-end (pos 0) place

pub length-places : (s : List ℤ) → length (places_of s) ≡ length s / 2
unfolding places_of
length-places = length-twos place

pub places-flat : (ps : List Place) → places_of (flat_places ps) ≡ ps
unfolding places_of flat_places
places-flat [] = refl
places-flat (p ∷ ps) = ap (λ (l : List Place). p ∷ l) (places-flat ps)

pub length-flat-places : (ps : List Place) → length (flat_places ps) ≡ length ps * 2
unfolding flat_places
length-flat-places [] = refl
length-flat-places (p ∷ ps) = omega (arith, length-flat-places ps)

-- Macros

pub macros-next : (s : List ℤ) (i : ℕ) → i * 4 + 4 ≤ length s → drop i (macros_of s) ≡ macro_at s i ∷ drop (i + 1) (macros_of s)
unfolding macros_of
macros-next = fours-next (pos 0) macro

pub macros-end : (s : List ℤ) (i : ℕ) → length s < i * 4 + 4 → drop i (macros_of s) ≡ []
unfolding macros_of
macros-end = fours-end (pos 0) macro

pub length-macros : (s : List ℤ) → length (macros_of s) ≡ length s / 4
unfolding macros_of
length-macros = length-fours macro
