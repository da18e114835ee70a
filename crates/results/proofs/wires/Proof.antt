-- `results::wires` meets its contract: the wires given are those of the net's refined tree.
-- Assumes nothing.
use mathlib.Core.Path.{◌≡◌, refl, ap, ◌∙◌}
use mathlib.Core.List.{List}
use native.Mathlib.Omega.{arith}
use lib.ListN.{length}
use Rattle.lent.specs.Over.{over}
use Rattle.lent.specs.Entries.{flat}
use Rattle.plane.specs.declared.Place.{Place}
use Rattle.plane.proofs.FlatLaws.{length-macros}
use Rattle.net.proofs.PinLaws.{length-pins}
use Rattle.graph.specs.Numbers.{edge_numbers}
use Rattle.refined.specs.Wires.{wires}
use Rattle.results.proofs.RefinedLaws.{answer-edges, answer-small, answer-few}
use borrow.Author.Rules.{rules}
use Rattle.results.proofs.wires.Statement.{statement}
use Rattle.results.proofs.wires.Tie as tie

refine-requires : tie.Need-refine-tree-requires
refine-requires c κs = (c.requires.0, (refl, refl))

abbrev start : tie.After-refine-tree → tie.Start
start d = d.before.before.before

give-wires-requires : tie.Need-give_wires-requires
give-wires-requires c κs =
    let d = c.before.before.before in
    let s = start d in
    let few = answer-few s.requires.0.allowed d.refine-tree.ensures.0 in (
      d.refine-tree.ensures.0.few.1,
      (
        answer-small s.requires.0.allowed d.refine-tree.ensures.0,
        omega (arith, few, s.requires.1, length-pins s.args.pins.now, length-macros s.args.macros.now),
      ),
    )

returns : tie.Need-returns
returns c =
    let g = c in
    let d = g.before.before.before.before.before in
    let s = start d in
    let edges = answer-edges s.requires.0.allowed d.refine-tree.ensures.0 in (
      g.give_wires.ensures.0 ∙ ap (λ (es : List (Place × Place)). length (wires es)) edges,
      g.give_wires.ensures.1 ∙ ap (λ (es : List (Place × Place)). over (flat edge_numbers (wires es)) s.args.wires.now) edges,
    )

pub wires_spec : {M : Type 1} → statement M
wires_spec = tie.close (tie.spec refine-requires give-wires-requires (λ c. search rules) returns)
