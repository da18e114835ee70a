-- `text::Page::edges` meets its contract.
-- Assumes nothing.
use Rattle.std.proofs.Common.{◌≡◌, ℕ, refl, ap, ap₂, arith}
use Rattle.lent.specs.Entries.{flat, entries}
use Rattle.plane.specs.declared.Place.{Place}
use Rattle.graph.specs.Numbers.{edge_from}
use Rattle.text.specs.Text.{edge_line}
use Rattle.text.proofs.PutLaws.{wrote_then, wrote_as}
use Rattle.text.proofs.LineLaws.{lines_more, no_lines}
use Rattle.text.proofs.Page.edges.Goals as goal

pub loop-i-init : goal.loop-i-init
loop-i-init c = (omega arith, record { put = no_lines _ _ _ _; long = refl; same = refl })

pub loop-i-preserved : goal.loop-i-preserved
loop-i-preserved c =
    let a = c.args in
    let line =
    wrote_as (ap₂ (λ (u v : Place). edge_line a.w (u, v)) c.place_at-a.ensures c.place_at-b.ensures) c.edge.ensures.wrote
    in (
      omega (arith, c.edge.ensures.within, c.loop-i.invariant.0),
      wrote_as (lines_more a.w a.edges.now c.loop-i.i) (wrote_then c.loop-i.invariant.1 line),
    )

pub returns : goal.returns
returns c =
    let a = c.args in
    let e : c.loop-i.i ≡ a.count = omega arith in
    record {
      wrote = wrote_as (ap (λ (n : ℕ). flat (edge_line a.w) (entries edge_from 4 a.edges.now n)) e) c.loop-i.invariant.1;
      within = omega (arith, c.loop-i.invariant.0);
    }
