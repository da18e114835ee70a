-- `router::allowed::graph` meets its contract: where there is room, what is given is the graph.
-- Assumes nothing.
use Rattle.std.proofs.Common.{◌≡◌, ◌∙◌, ℕ, ◌≤◌, ◌<◌, ◌^◌, ℤ, pos, refl, sym, ap, ap₂, arith, length, to_z, w64}
use Rattle.lent.specs.Told.{given}
use Rattle.net.specs.Net.{handed}
use Rattle.net.specs.Answer.{number, told_by}
use Rattle.made.proofs.CountedLaws.{counts-few}
use Rattle.answers.proofs.GraphLaws.{graph-short, graph-fits, graph-room}
use Rattle.router.proofs.RoomLaws.{graph-asks}
use Rattle.router.proofs.CallLaws.{two-refused, two-given}
use Rattle.router.proofs.allowed.graph.Goals as goal

pub graph_short-requires : goal.graph_short-requires
graph_short-requires c = let few = counts-few c.requires in record { pins_le_pin_bound = few.0; macros_le_macro_bound = few.1 }

pub returns-then-graph_short : goal.returns-then-graph_short
unfolding told_by number
returns-then-graph_short c =
    let a = c.args in
    let short = c.graph_short.ensures ∙ graph-asks c.requires _ _ in
    two-refused refl
    (graph-short (handed a.net.weights) a.pins.now a.macros.now (length a.vertices.now) (length a.edges.now)
    (sym short ∙ c.if-graph_short.true))

pub graph-requires : goal.graph-requires
graph-requires c =
    let a = c.args in
    let short = c.graph_short.ensures ∙ graph-asks c.requires _ _ in
    record {
      counted = c.requires;
      macros_in_bounds =
          graph-room (handed a.net.weights) a.pins.now a.macros.now (length a.vertices.now) (length a.edges.now)
          (sym short ∙ c.if-graph_short.false);
    }

pub returns : goal.returns
unfolding told_by
returns c =
    let a = c.args in
    let short = c.graph_short.ensures ∙ graph-asks c.requires _ _ in
    let is = c.graph.ensures in
    two-given
    (ap₂ (λ (v w : ℕ). given (v, w)) is.vertices_value is.edges_value)
    (graph-fits (handed a.net.weights) a.pins.now a.macros.now (length a.vertices.now) (length a.edges.now)
    (sym short ∙ c.if-graph_short.false))
    is.vertices_after is.edges_after
