-- With weights 1 and 1, as in the first release, which had none: no net is refused for its weights; every cost is a length, so that each
-- pick, root, bridge and gain is weighed as it was; the refined tree's total is the metal to lay; and where all loads are 0, which is what
-- pins without loads have now, a file has the same bytes. That the first release's own answers are given again is run:
-- harness/first-release.
use Rattle.std.specs.Prelude.{◌≡◌, false, List, ℤ}
use Rattle.lent.specs.Told.{code}
use Rattle.lent.specs.Entries.{flat}
use Rattle.plane.specs.declared.Place.{Place}
use Rattle.plane.specs.Distance.{distance}
use Rattle.plane.specs.Flat.{place_numbers}
use Rattle.net.specs.Pins.{pin_places}
use Rattle.net.specs.Net.{plainly, weights_of, net_of, cost_in}
use Rattle.checks.specs.Check.{checked}
use Rattle.encoded.specs.Layout.{loaded, file_bytes}
use Rattle.older.specs.FirstRelease.{first_file}
use Rattle.answers.specs.Refined.{laid_total, metal_of}

pub record AsFirst (pins macros : List ℤ) : Type 0 where
  -- C18
  pub not-18 : code (checked plainly pins macros) ≡ 18 → ⊥
  -- N26
  pub cost-is : (a b : Place) → cost_in (net_of plainly pins macros) a b ≡ distance a b
  -- R22
  pub metal-is : laid_total plainly pins macros ≡ metal_of plainly pins macros
  -- F19, F25
  pub file-is : loaded pins ≡ false → file_bytes (weights_of plainly) pins macros ≡ first_file (flat place_numbers (pin_places pins)) macros
