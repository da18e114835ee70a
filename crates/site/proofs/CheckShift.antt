-- The check of a shifted net in range is that of the net: counts and weights are the same, and every other test speaks of differences.
-- Assumes nothing.
use mathlib.Core.Path.{◌≡◌, refl, sym, ap, ap₂, ◌∙◌, subst}
use mathlib.Core.Bool.{Bool, false, not, cond, ◌||◌}
use mathlib.Core.List.Perm
use mathlib.Core.List.{List, Perm, map}
use Prim.Native.Nat.{ℕ, ◌*◌}
use native.Mathlib.Omega.{arith}
use lib.IntN.{ℤ}
use lib.ListN.{length, length-map}
use lib.Signed.{lt_z}
use Rattle.lists.specs.Any.{any, any_two}
use Rattle.lists.proofs.TestLaws.{or-none}
use Rattle.lists.proofs.AnyLaws.{any-agree, any_none, two_none, none-two}
use Rattle.lists.proofs.MapLaws.{of_map}
use Rattle.lists.proofs.AnyOrder.{any-perm, two-perm, length-perm}
use Rattle.plane.specs.declared.Place.{Place}
use Rattle.plane.specs.declared.Macro.{Macro}
use Rattle.plane.specs.Place.{same_place}
use Rattle.plane.specs.Macro.{inside, interiors_meet}
use Rattle.plane.specs.Flat.{macros_of}
use Rattle.plane.proofs.PlaceLaws.{same-comm}
use Rattle.plane.proofs.MacroLaws.{interiors-comm}
use Rattle.plane.proofs.FlatLaws.{length-macros}
use Rattle.net.proofs.PinLaws.{length-pins, pin-numbers, entry-places}
use Rattle.net.proofs.RangeLaws.{macro_out, range-of-macros}
use Rattle.net.specs.Net.{net_of}
use Rattle.net.specs.Allowed.{PlaceInRange, MacroInRange, Upright, Allowed}
use Rattle.net.specs.declared.Weighing.{Weighing}
use Rattle.net.specs.Bounds.{pin_width}
use Rattle.net.specs.Pins.{pin_count, pin_places, pin_loads, pin_entries, macro_count}
use Rattle.net.specs.Tests.{pins_miscounted_within, macros_miscounted_within, out_of_range, place_out, no_load, pins_out_of_range, not_upright}
use Rattle.net.specs.Tests.{inside_any}
use Rattle.checks.specs.Check.{checked, checked_within}
use Rattle.site.specs.Shift.{shift, shift_entry, shift_macro, shift_net}
use Rattle.site.specs.Sites.{Shifted}
use Rattle.site.proofs.ShiftLaws.{lt-there, same-there, inside-there, interiors-there}
use Rattle.site.proofs.ListShift.{any-there, two-there}
use Rattle.site.proofs.BarShift.{map-map}

place_of : (p : Place) → place_out p ≡ false → PlaceInRange p
place_of p e = let r = or-none (out_of_range p.x) (out_of_range p.y) e in record { x = r.0; y = r.1 }

macro-of : (m : Macro) → macro_out m ≡ false → MacroInRange m
macro-of m e =
    let a = or-none (out_of_range m.left) _ e in
    let b = or-none (out_of_range m.bottom) _ a.1 in
    let c = or-none (out_of_range m.right) _ b.1 in
    record { left = a.0; bottom = b.0; right = c.0; top = c.1 }

inside-perm : (ms ns : List Macro) → Perm ms ns → (p : Place) → inside_any ms p ≡ inside_any ns p
unfolding inside_any
inside-perm ms ns q p = any-perm (inside p) ms ns q

module _ (dx dy : ℤ) where
  upright-there : (m : Macro) → not_upright (shift_macro dx dy m) ≡ not_upright m
  unfolding not_upright
  upright-there m = ap₂ (λ (s t : Bool). not s || not t) (lt-there dx m.left m.right) (lt-there dy m.bottom m.top)

  any-inside : (ms : List Macro) (p : Place) → inside_any (map (shift_macro dx dy) ms) (shift dx dy p) ≡ inside_any ms p
  unfolding inside_any
  any-inside ms p = any-there (shift_macro dx dy) (inside p) (inside (shift dx dy p)) (inside-there dx dy p) ms

  -- the places of shifted entries are the places of the entries, shifted
  pub places_of : (pins : List ℤ)
      → map (λ (e : Place × ℤ). e.0) (map (shift_entry dx dy) (pin_entries pins)) ≡ map (shift dx dy) (pin_places pins)
  places_of pins =
      map-map (shift_entry dx dy) (λ (e : Place × ℤ). e.0) (λ (e : Place × ℤ). e.0) (shift dx dy) (λ e. refl) (pin_entries pins)
      ∙ ap (map (shift dx dy)) (entry-places pins)

  module _ (w : Weighing) (pins pins' macros macros' : List ℤ) (s : Shifted dx dy pins pins' macros macros') where
    pub places-there : Perm (map (shift dx dy) (pin_places pins)) (pin_places pins')
    places-there = rw (sym (places_of pins), sym (entry-places pins')) (Perm.map (λ (e : Place × ℤ). e.0) s.pins-there)

    pub many-pins : pin_count pins ≡ pin_count pins'
    many-pins =
        sym (length-pins pins) ∙ sym (length-map (pin_places pins) (shift dx dy)) ∙ length-perm _ _ places-there ∙ length-pins pins'

    long-pins : length pins ≡ length pins'
    long-pins =
        sym (pin-numbers pins s.here.threes) ∙ ap (λ (n : ℕ). n * pin_width) many-pins ∙ pin-numbers pins' s.there.threes

    pub long-macros : length macros ≡ length macros'
    long-macros =
        let k : macro_count macros ≡ macro_count macros' =
        sym (length-macros macros) ∙ sym (length-map (macros_of macros) (shift_macro dx dy)) ∙ length-perm _ _ s.macros-there
        ∙ length-macros macros' in
        omega (arith, k, s.here.fours, s.there.fours)

    range : pins_out_of_range pins || any out_of_range macros ≡ pins_out_of_range pins' || any out_of_range macros'
    range = ap₂ ◌||◌ (s.here.pins-in ∙ sym s.there.pins-in) (s.here.macros-in ∙ sym s.there.macros-in)

    upright : any not_upright (macros_of macros) ≡ any not_upright (macros_of macros')
    upright =
        sym (any-there (shift_macro dx dy) not_upright not_upright upright-there (macros_of macros))
        ∙ any-perm not_upright _ _ s.macros-there

    apart : any_two same_place (pin_places pins) ≡ any_two same_place (pin_places pins')
    apart =
        sym (two-there (shift dx dy) same_place same_place (same-there dx dy) (pin_places pins))
        ∙ two-perm same_place same-comm _ _ places-there

    meeting : any_two interiors_meet (macros_of macros) ≡ any_two interiors_meet (macros_of macros')
    meeting =
        sym (two-there (shift_macro dx dy) interiors_meet interiors_meet (interiors-there dx dy) (macros_of macros))
        ∙ two-perm interiors_meet interiors-comm _ _ s.macros-there

    within : any (inside_any (macros_of macros)) (pin_places pins) ≡ any (inside_any (macros_of macros')) (pin_places pins')
    within =
        sym (any-there (shift dx dy) (inside_any (macros_of macros)) (inside_any (map (shift_macro dx dy) (macros_of macros)))
        (any-inside (macros_of macros)) (pin_places pins))
        ∙ any-perm (inside_any (map (shift_macro dx dy) (macros_of macros))) _ _ places-there
        ∙ any-agree (inside_any (map (shift_macro dx dy) (macros_of macros))) (inside_any (macros_of macros'))
        (inside-perm _ _ s.macros-there) (pin_places pins')

    pub check-there : checked w pins macros ≡ checked w pins' macros'
    unfolding checked_within pins_miscounted_within macros_miscounted_within
    check-there = rw (long-pins, many-pins, long-macros, range, upright, apart, meeting, within) refl

    -- the shifted net itself is allowed where the other is: its entries are the other's
    pub allowed-there : Allowed (net_of w pins macros) → Allowed (shift_net dx dy (net_of w pins macros))
    unfolding pins_out_of_range
    allowed-there a = record {
      some-pin = omega (arith, a.some-pin, length-map (pin_places pins) (shift dx dy));
      few-pins = omega (arith, a.few-pins, length-map (pin_places pins) (shift dx dy));
      few-macros = omega (arith, a.few-macros, length-map (macros_of macros) (shift_macro dx dy));
      weighted = a.weighted;
      pins-in-range = λ p i. place_of p (any_none place_out (map (shift dx dy) (pin_places pins)) pins-near p i);
      macros-in-range = λ m i. macro-of m (any_none macro_out (map (shift_macro dx dy) (macros_of macros)) macros-near m i);
      upright =
          λ m i.
          let r = of_map (shift_macro dx dy) (macros_of macros) i in
          let u = a.upright r.entry r.stands in
          subst Upright (sym r.is) (record {
            across = lt-there dx r.entry.left r.entry.right ∙ u.across;
            along = lt-there dy r.entry.bottom r.entry.top ∙ u.along;
          });
      pins-apart =
          two_none same_place (map (shift dx dy) (pin_places pins))
          (two-there (shift dx dy) same_place same_place (same-there dx dy) (pin_places pins)
          ∙ none-two same_place (pin_places pins) a.pins-apart);
      macros-apart =
          two_none interiors_meet (map (shift_macro dx dy) (macros_of macros))
          (two-there (shift_macro dx dy) interiors_meet interiors_meet (interiors-there dx dy) (macros_of macros)
          ∙ none-two interiors_meet (macros_of macros) a.macros-apart);
      pins-outside =
          λ p i m j.
          let r = of_map (shift dx dy) (pin_places pins) i in
          let t = of_map (shift_macro dx dy) (macros_of macros) j in
          ap₂ inside r.is t.is ∙ inside-there dx dy r.entry t.entry
          ∙ a.pins-outside r.entry r.stands t.entry t.stands;
    }
      where
        pins-near : any place_out (map (shift dx dy) (pin_places pins)) ≡ false
        pins-near =
            any-perm place_out _ _ places-there
            ∙ (or-none (any place_out (pin_places pins')) (any no_load (pin_loads pins')) s.there.pins-in).0

        macros-near : any macro_out (map (shift_macro dx dy) (macros_of macros)) ≡ false
        macros-near =
            any-perm macro_out _ _ s.macros-there ∙ sym (range-of-macros macros' s.there.fours) ∙ s.there.macros-in
