-- `text::Page::refused` meets its contract: the word, the number and the line's end.
-- Assumes nothing.
use Rattle.std.proofs.Common.{ℤ, ap, ◌∙◌, arith, w32, w64, rules}
use mir.ValLaws.{to_z-of_z}
use Rattle.text.specs.Text.{newline, line, refused_text}
use Rattle.text.proofs.PutLaws.{wrote_then, wrote_as}
use Rattle.text.proofs.LineLaws.{number}
use Rattle.text.proofs.Page.refused.Goals as goal

pub returns : goal.returns
unfolding refused_text line
returns c =
    let same = to_z-of_z w64 _ (search rules) ∙ c.from.ensures ∙ to_z-of_z w32 _ c.ranges.n in
    record {
      wrote = wrote_then c.bytes.ensures (wrote_as (ap (λ (z : ℤ). number z newline) same) c.number.ensures.wrote);
      within = omega (arith, c.bytes.ensures.put.moves, c.number.ensures.within);
    }
