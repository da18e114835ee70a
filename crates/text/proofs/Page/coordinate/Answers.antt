-- `text::Page::coordinate` meets its contract: an i32 as an i64 is the same number.
-- Assumes nothing.
use Rattle.std.proofs.Common.{ℤ, [], ◌∷◌, ◌++◌, ap, ◌∙◌, w32, w64, rules}
use mir.ValLaws.{to_z-of_z}
use Rattle.text.specs.Text.{whole, space}
use Rattle.text.proofs.PutLaws.{wrote_as}
use Rattle.text.proofs.Page.coordinate.Goals as goal

pub returns : goal.returns
returns c =
    let same = to_z-of_z w64 _ (search rules) ∙ c.from.ensures ∙ to_z-of_z w32 _ c.ranges.z in
    record {
      wrote = wrote_as (ap (λ (z : ℤ). whole z ++ (space ∷ [])) same) c.number.ensures.wrote;
      within = c.number.ensures.within;
    }
