-- `text::Page::edge` meets its contract: two places, and the cost between them with the line's end behind it.
-- Assumes nothing.
use Rattle.std.proofs.Common.{ℤ, ap, ◌∙◌, arith, w64, rules}
use mir.ValLaws.{to_z-of_z}
use Rattle.text.specs.Text.{newline}
use Rattle.text.proofs.PutLaws.{wrote_then, wrote_as}
use Rattle.text.proofs.LineLaws.{number, edge-line}
use Rattle.text.proofs.Page.edge.Goals as goal

pub returns : goal.returns
returns c =
    let a = c.args in
    let d = to_z-of_z w64 _ (search rules) ∙ c.cost.ensures in
    let l = wrote_as (ap (λ (z : ℤ). number z newline) d) c.number.ensures.wrote in
    record {
      wrote = wrote_as (edge-line a.w a.a a.b) (wrote_then (wrote_then c.place.ensures.wrote c.place-2.ensures.wrote) l);
      within = omega (arith, c.place.ensures.within, c.place-2.ensures.within, c.number.ensures.within);
    }
