-- `router::allowed::slide` meets its contract: the refined tree's edges, given into the table, are what the slider asks for.
-- Assumes nothing.
use mathlib.Core.Path.{◌≡◌, ◌∙◌}
use Prim.Native.Nat.{◌*◌}
use native.Mathlib.Omega.{arith}
use lib.ListN.{length}
use Rattle.net.specs.Net.{net_of, handed}
use Rattle.net.specs.Allowed.{Allowed}
use Rattle.laid.specs.Edges.{laid_bound}
use Rattle.results.proofs.RefinedLaws.{answer-small}
use Rattle.router.proofs.SlidTable.{table-slidable, table-slid}
use borrow.Author.Rules.{rules}
use Rattle.router.proofs.allowed.slide.Statement.{statement}
use Rattle.router.proofs.allowed.slide.Tie as tie

abbrev start : tie.After-refine-tree → tie.Start
start d = d.before.before.before

give-edges-requires : tie.Need-give_edges-requires
give-edges-requires c κs =
    let d = c.before.before.before in
    let w = d.refine-tree.ensures.0 in
    (omega (arith, w.few.1), (answer-small (start d).requires.0.allowed w, omega (arith, w.few.1, (start d).requires.1)))

abbrev refined : tie.After-give_edges → tie.After-refine-tree
refined g = g.before.before.before.before

-- the table is as long as it was
kept : (g : tie.After-give_edges) → length g.give_edges.new.lent ≡ laid_bound * 4
kept g = g.give_edges.auto.lent ∙ (start (refined g)).requires.1

slide-requires : tie.Need-slide-requires
slide-requires c κs =
    let g = c.before.before.before in
    let d = refined g in
    (table-slidable (start d).requires.0 d.refine-tree.ensures.0 _ (start d).args.table.now g.give_edges.ensures, kept g)

returns : tie.Need-returns
returns c =
    let g = c.before.before.before.before.before in
    let d = refined g in
    table-slid (start d).requires.0 d.refine-tree.ensures.0 _ (start d).args.table.now g.give_edges.ensures _ _
    c.slide.ensures

pub slide_spec : {M : Type 1} → statement M
slide_spec = tie.close (tie.spec (λ c κs. search rules) give-edges-requires slide-requires (λ c. search rules) returns)
