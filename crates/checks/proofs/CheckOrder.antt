-- The check gives the same answer for every order of the entries, whatever the lists: a list that is not whole is refused by its length,
-- and the tests of a whole one are searches of its entries. Of pins they are searches of places, and one of loads: so all loads in range
-- are alike to it [11].
-- Assumes nothing.
use mathlib.Core.Path.{◌≡◌, refl, sym, ap₂, ◌∙◌}
use mathlib.Core.Bool.{◌||◌}
use mathlib.Core.List.Perm
use mathlib.Core.List.{List, Perm}
use Prim.Native.Nat.{◌%◌}
use lib.IntN.{ℤ}
use lib.ListN.{length}
use Rattle.lists.specs.Any.{any}
use Rattle.lists.proofs.TestLaws.{by}
use Rattle.lists.proofs.AnyLaws.{any-agree}
use Rattle.lists.proofs.AnyOrder.{any-perm, two-perm}
use Rattle.plane.specs.declared.Place.{Place}
use Rattle.plane.specs.declared.Macro.{Macro}
use Rattle.plane.specs.Place.{same_place}
use Rattle.plane.specs.Macro.{inside, interiors_meet}
use Rattle.plane.specs.Flat.{macros_of}
use Rattle.plane.proofs.PlaceLaws.{same-comm}
use Rattle.plane.proofs.MacroLaws.{interiors-comm}
use Rattle.net.specs.Bounds.{macro_width}
use Rattle.net.specs.Pins.{pin_places}
use Rattle.net.specs.Tests.{pins_miscounted, pins_miscounted_within, macros_miscounted, macros_miscounted_within, out_of_range, place_out, no_load}
use Rattle.net.specs.Tests.{pins_out_of_range, not_upright, inside_any}
use Rattle.net.specs.declared.Weighing.{Weighing}
use Rattle.net.specs.Order.{SamePins, SamePlaces, SameMacros}
use Rattle.net.proofs.PinLaws.{same-pins, entry-places, entry-loads}
use Rattle.net.proofs.RangeLaws.{macro_out, range-of-macros}
use Rattle.net.proofs.CountLaws.{macros-counted}
use Rattle.checks.specs.Check.{checked, checked_within}
use Rattle.checks.proofs.CheckLaws.{refuse-11, refuse-12}

inside-perm : (ms ns : List Macro) → Perm ms ns → (p : Place) → inside_any ms p ≡ inside_any ns p
unfolding inside_any
inside-perm ms ns q p = any-perm (inside p) ms ns q

module _ (w : Weighing) (pins pins' macros macros' : List ℤ) (p : SamePlaces pins pins') (q : SameMacros macros macros') where
  same-pin-count : pins_miscounted pins ≡ pins_miscounted pins'
  unfolding pins_miscounted_within
  same-pin-count = rw (p.many, same-pins pins pins' p.many) refl

  same-macro-count : macros_miscounted macros ≡ macros_miscounted macros'
  unfolding macros_miscounted_within
  same-macro-count = rw q.many refl

  same-pin-range : pins_out_of_range pins ≡ pins_out_of_range pins'
  unfolding pins_out_of_range
  same-pin-range = ap₂ ◌||◌ (any-perm place_out _ _ p.order) p.loads

  -- of whole macros
  same-macro-range : length macros % macro_width ≡ 0 → any out_of_range macros ≡ any out_of_range macros'
  same-macro-range f =
      range-of-macros macros f ∙ any-perm macro_out _ _ q.order ∙ sym (range-of-macros macros' (rw q.many at f))

  insides : any (inside_any (macros_of macros)) (pin_places pins) ≡ any (inside_any (macros_of macros')) (pin_places pins')
  insides =
      any-perm (inside_any (macros_of macros)) _ _ p.order
      ∙ any-agree (inside_any (macros_of macros)) (inside_any (macros_of macros')) (inside-perm _ _ q.order) (pin_places pins')

  whole-order : length macros % macro_width ≡ 0 → checked w pins macros ≡ checked w pins' macros'
  unfolding checked_within
  whole-order f =
      rw (
        same-pin-count,
        same-macro-count,
        same-pin-range,
        same-macro-range f,
        any-perm not_upright _ _ q.order,
        two-perm same_place same-comm _ _ p.order,
        two-perm interiors_meet interiors-comm _ _ q.order,
        insides,
        same-pins pins pins' p.many,
        q.many,
      )
      refl

  pub check-order : checked w pins macros ≡ checked w pins' macros'
  check-order =
      by (pins_miscounted pins) (λ e. refuse-11 w pins macros e ∙ sym (refuse-11 w pins' macros' (sym same-pin-count ∙ e))) λ e.
      by (macros_miscounted macros)
      (λ f. refuse-12 w pins macros (record { passed = e }) f
      ∙ sym (refuse-12 w pins' macros' (record { passed = sym same-pin-count ∙ e }) (sym same-macro-count ∙ f)))
      λ f.
      whole-order (macros-counted macros f).whole

-- the same entries are at the same places
pub same-places : (pins pins' : List ℤ) → SamePins pins pins' → SamePlaces pins pins'
same-places pins pins' p = record {
  many = p.many;
  order = rw (sym (entry-places pins), sym (entry-places pins')) (Perm.map (λ (e : Place × ℤ). e.0) p.order);
  loads = rw (sym (entry-loads pins), sym (entry-loads pins'))
      (any-perm no_load _ _ (Perm.map (λ (e : Place × ℤ). e.1) p.order));
}
