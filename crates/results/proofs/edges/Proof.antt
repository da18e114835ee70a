-- `results::edges` meets its contract: the edges given are those of the net's refined tree, with both totals and the metal.
-- Assumes nothing.
use mathlib.Core.Path.{◌≡◌, refl, ap, ◌∙◌}
use mathlib.Core.List.{List}
use native.Mathlib.Omega.{arith}
use Rattle.lent.specs.Over.{over}
use Rattle.lent.specs.Entries.{flat}
use Rattle.plane.specs.declared.Place.{Place}
use Rattle.plane.proofs.FlatLaws.{length-macros}
use Rattle.net.specs.Net.{net_of, handed}
use Rattle.net.specs.Allowed.{Allowed}
use Rattle.net.proofs.PinLaws.{length-pins}
use Rattle.graph.specs.Numbers.{edge_numbers}
use Rattle.answers.specs.Terminal.{paths_total}
use Rattle.results.proofs.RefinedLaws.{answer-edges, answer-count, answer-total, answer-small, answer-few, answer-metal, metal-asks}
use borrow.Author.Rules.{rules}
use Rattle.results.proofs.edges.Statement.{statement}
use Rattle.results.proofs.edges.Tie as tie

refine-requires : tie.Need-refine-tree-requires
refine-requires c κs = (c.requires.0, (refl, refl))

abbrev start : tie.After-refine-tree → tie.Start
start d = d.before.before.before

abbrev allowed : (d : tie.After-refine-tree) →
    Allowed (net_of (handed (start d).args.net.weights) (start d).args.pins.now (start d).args.macros.now)
allowed d = (start d).requires.0.allowed

metal-requires : tie.Need-metal-metal-requires
metal-requires c κs = let d = c.before.before in metal-asks (allowed d) d.refine-tree.ensures.0

give-edges-requires : tie.Need-give_edges-requires
give-edges-requires c κs =
    let d = c.before.before.before.before.before.before in
    let s = start d in
    let few = answer-few (allowed d) d.refine-tree.ensures.0 in (
      omega (arith, d.refine-tree.ensures.0.few.1),
      (
        answer-small (allowed d) d.refine-tree.ensures.0,
        omega (arith, few, s.requires.1, length-pins s.args.pins.now, length-macros s.args.macros.now),
      ),
    )

returns : tie.Need-returns
unfolding paths_total
returns c =
    let l = c in
    let d = l.before.before.before.before.before.before.before.before in
    let w = d.refine-tree.ensures.0 in
    let a = (start d).args in (
      answer-count (allowed d) w,
      (
        answer-total (allowed d) w,
        (
          answer-metal (allowed d) w l.metal-metal.ensures,
          (
            d.refine-tree.ensures.1,
            c.give_edges.ensures
                ∙ ap (λ (es : List (Place × Place)). over (flat edge_numbers es) a.edges.now) (answer-edges (allowed d) w),
          ),
        ),
      ),
    )

pub edges_spec : {M : Type 1} → statement M
edges_spec = tie.close (tie.spec refine-requires metal-requires give-edges-requires (λ c. search rules) returns)
