-- `decoded::put_bare` meets its contract.
-- Assumes nothing.
use Rattle.std.proofs.Common.{◌≡◌, ℕ, ◌≤◌, ◌<◌, ◌+◌, ◌*◌, ◌/◌, List, [], ◌∷◌, map, length, drop, ℤ, refl, sym, ap, ◌∙◌, arith}
use Rattle.std.proofs.lemmas.List.Edits.{sets}
use Rattle.lent.specs.Over.{over}
use Rattle.lent.specs.Entries.{flat}
use Rattle.plane.specs.declared.Place.{Place}
use Rattle.plane.specs.Flat.{places_of, place_at}
use Rattle.plane.proofs.FlatLaws.{places-next, places-end, length-places}
use Rattle.net.specs.Bounds.{pin_width}
use Rattle.net.specs.Pins.{pin_from, pin_numbers, bare, flat_pins}
use Rattle.net.proofs.WidthLaws.{pin-width}
use Rattle.net.proofs.PinLaws.{length-flat-pins}
use Rattle.blocks.specs.Sizes.{place_width}
use Rattle.blocks.proofs.FillLaws.{fill_more, fill-all, map-drop}
use Rattle.decoded.proofs.put_bare.Goals as goal

-- the pins at these places
abbrev entries_at : List ℤ → List (Place × ℤ)
entries_at places = map bare (places_of places)

-- the next of them, and the end
next : (s : List ℤ) (i : ℕ) → i < length s / place_width → drop i (entries_at s) ≡ bare (place_at s i) ∷ drop (i + 1) (entries_at s)
next s i h =
    sym (map-drop bare i (places_of s))
    ∙ ap (map bare) (places-next s i (omega arith))
    ∙ ap (λ (l : List (Place × ℤ)). bare (place_at s i) ∷ l) (map-drop bare (i + 1) (places_of s))

end : (s : List ℤ) (i : ℕ) → length s / place_width ≤ i → drop i (entries_at s) ≡ []
end s i h = sym (map-drop bare i (places_of s)) ∙ ap (map bare) (places-end s i (omega arith))

-- how many numbers all of them have
all-long : (s : List ℤ) → length (flat_pins (places_of s)) ≡ length s / place_width * pin_width
all-long s = length-flat-pins (places_of s) ∙ ap (λ (n : ℕ). n * pin_width) (length-places s)

pub loop-i-init : goal.loop-i-init
unfolding over flat
loop-i-init c = refl

pub put_bare_pin-requires : goal.put_bare_pin-requires
put_bare_pin-requires c = omega (arith, all-long c.args.places.now)

pub loop-i-preserved : goal.loop-i-preserved
loop-i-preserved c =
    let s = c.args.places.now in
    let i = c.loop-i.i in
    c.put_bare_pin.ensures
    ∙ ap (λ (p : Place). sets c.loop-i.pins (i * pin_width) (pin_numbers (bare p))) c.place_at.ensures
    ∙ fill_more pin_numbers pin_from pin_width pin-width (entries_at s) i _ _ _ _ (next s i (omega arith)) c.loop-i.invariant
    (omega (arith, all-long s))

pub returns : goal.returns
unfolding flat_pins
returns c =
    let s = c.args.places.now in
    fill-all pin_numbers pin_from pin_width pin-width (entries_at s) c.loop-i.i _ _ (end s c.loop-i.i (omega arith)) c.loop-i.invariant
