-- A net is allowed by the check exactly when its lists hold whole entries and it is allowed in words; and what the check then gives is what
-- the lists hold.
-- Assumes nothing.
use mathlib.Core.Path.{◌≡◌, sym, ap, ◌∙◌}
use mathlib.Core.List.{List}
use lib.IntN.{ℤ}
use Rattle.lists.proofs.TestLaws.{or-none, or-neither}
use Rattle.lists.specs.Any.{any}
use Rattle.lists.proofs.AnyLaws.{any_none, none_any, two_none, none-two}
use Rattle.lent.specs.Told.{given}
use Rattle.plane.specs.Place.{same_place}
use Rattle.plane.specs.Macro.{inside, interiors_meet}
use Rattle.plane.specs.Flat.{macros_of}
use Rattle.plane.proofs.FlatLaws.{length-macros}
use Rattle.net.specs.declared.Weighing.{Weighing}
use Rattle.net.specs.declared.Net.{Net as Counts}
use Rattle.net.specs.Pins.{pin_places, pin_loads}
use Rattle.net.specs.Net.{net_of, handed}
use Rattle.net.specs.Counts.{counts_of}
use Rattle.net.specs.Tests.{place_out, no_load, pins_out_of_range, not_upright, inside_any}
use Rattle.net.specs.Allowed.{Whole, Allowed}
use Rattle.net.proofs.PinLaws.{length-pins}
use Rattle.net.proofs.CountLaws.{pins-counted, macros-counted, threes-whole, fours-whole}
use Rattle.net.proofs.RangeLaws.{macro_out, range-of-macros}
use Rattle.net.proofs.AllowedLaws.{upright-of, of-upright, place_of, of-place, macro-of, of-macro, weights-within, within-weights}
use Rattle.net.proofs.HandedLaws.{handed-weights}
use Rattle.checks.specs.Check.{checked}
use Rattle.checks.proofs.CheckLaws.{Past18, allow}
use Rattle.checks.proofs.PassedLaws.{passed-all}

-- an answer gives one thing
given-one : (v u : Counts) → given v ≡ given u → v ≡ u
given-one v u e = cc

module _ (w : Weighing) (pins macros : List ℤ) where
  -- what the check allows is allowed in words
  past-allowed : Past18 w pins macros → Whole pins macros × Allowed (net_of w pins macros)
  unfolding inside_any pins_out_of_range
  past-allowed p18 =
      let p17 = p18.past in
      let p16 = p17.past in
      let p15 = p16.past in
      let p14 = p15.past in
      let p13 = p14.past in
      let m = pins-counted pins p13.past.past.past.passed in
      let k = macros-counted macros p13.past.past.passed in
      let ranges = or-none (any place_out (pin_places pins)) (any no_load (pin_loads pins)) p13.past.passed in
      let in-pins = any_none place_out (pin_places pins) ranges.0 in
      let in-macros = any_none macro_out (macros_of macros) (sym (range-of-macros macros k.whole) ∙ p13.passed) in (
        record { threes = m.whole; fours = k.whole; loads = any_none no_load (pin_loads pins) ranges.1 },
        record {
          some-pin = rw (length-pins pins) m.some;
          few-pins = rw (length-pins pins) m.few;
          few-macros = rw (length-macros macros) k.few;
          weighted = weights-within w p18.passed;
          pins-in-range = λ p i. place_of p (in-pins p i);
          macros-in-range = λ n i. macro-of n (in-macros n i);
          upright = λ n i. upright-of n (any_none not_upright (macros_of macros) p14.passed n i);
          pins-apart = two_none same_place (pin_places pins) p15.passed;
          macros-apart = two_none interiors_meet (macros_of macros) p16.passed;
          pins-outside = λ p i n j. any_none (inside p) (macros_of macros)
              (any_none (inside_any (macros_of macros)) (pin_places pins) p17.passed p i) n j;
        },
      )

  -- and the other way
  allowed-past : Whole pins macros → Allowed (net_of w pins macros) → Past18 w pins macros
  unfolding inside_any pins_out_of_range
  allowed-past whole a =
      record {
        past =
            record {
              past = record {
                past = record {
                  past = record {
                    past = record {
                      past = record {
                        past = record {
                          past = record {
                            passed = threes-whole pins whole.threes (rw (length-pins pins) at a.some-pin)
                                (rw (length-pins pins) at a.few-pins);
                          };
                          passed = fours-whole macros whole.fours (rw (length-macros macros) at a.few-macros);
                        };
                        passed = or-neither _ _
                            (none_any place_out (pin_places pins) (λ p i. of-place p (a.pins-in-range p i)))
                            (none_any no_load (pin_loads pins) whole.loads);
                      };
                      passed = range-of-macros macros whole.fours ∙ none_any macro_out (macros_of macros)
                          (λ n i. of-macro n (a.macros-in-range n i));
                    };
                    passed = none_any not_upright (macros_of macros) (λ n i. of-upright n (a.upright n i));
                  };
                  passed = none-two same_place (pin_places pins) a.pins-apart;
                };
                passed = none-two interiors_meet (macros_of macros) a.macros-apart;
              };
              passed = none_any (inside_any (macros_of macros)) (pin_places pins)
                  (λ p i. none_any (inside p) (macros_of macros) (a.pins-outside p i));
            };
        passed = within-weights w a.weighted;
      }

  -- what the check gives is what the lists hold
  pub given-counts : {v : Counts} → checked w pins macros ≡ given v → v ≡ counts_of w pins macros
  given-counts {v} g = given-one v (counts_of w pins macros) (sym g ∙ allow w pins macros (passed-all w pins macros v g))

  -- the theorem, both ways
  pub given-allowed : {v : Counts} → checked w pins macros ≡ given v → Whole pins macros × Allowed (net_of w pins macros)
  given-allowed {v} g = past-allowed (passed-all w pins macros v g)

  pub allowed-given : Whole pins macros → Allowed (net_of w pins macros) → checked w pins macros
      ≡ given (counts_of w pins macros)
  allowed-given whole a = allow w pins macros (allowed-past whole a)

-- what the check gives says which weights were handed over
pub handed-back : (w : Weighing) (pins macros : List ℤ) {v : Counts} → checked w pins macros ≡ given v → handed v.weights ≡ w
handed-back w pins macros {v} g =
    ap (λ (n : Counts). handed n.weights) (given-counts w pins macros g) ∙ handed-weights w (passed-all w pins macros v g).passed
