-- Each stage asks for what those before it give, and all together are the terminal tree.
use Rattle.std.proofs.Common.{refl, arith}
use Rattle.net.specs.Net.{net_with}
use Rattle.net.proofs.PinLaws.{length-pins}
use Rattle.terminal.specs.Tables.{Tables, tables}
use Rattle.terminal.proofs.WorkLaws.{Charted, vertices-fit, vertices-in-order, edges_fit, few-links, tree-asks, all-worked}
use Rattle.terminal.proofs.terminal_tree.Goals as goal
use Rattle.terminal.proofs.terminal_tree.Goals.{After-chart-size}

-- the tables as they are lent, and vertices and edges once they are charted
module _ (d : After-chart-size) where
  abbrev lent : Tables
  lent =
      let a = d.args in
      tables a.vertices.now a.edges.now a.ea.now a.eb.now a.el.now a.pin.now a.far.now a.root.now a.up.now a.via.now a.kept.now a.long.now

  charted :
      Charted (net_with d.args.w d.args.pins.now d.args.macros.now) lent d.chart-size.new.points d.chart-size.new.links
      d.chart-size.result.points d.chart-size.result.edges
  charted =
      let e = d.chart-size.ensures in
      record { vertex-count = e.points_value.0; edge_count = e.points_value.1; vertices-are = e.points_after; edges_are = e.links_after }

pub number_edges-requires : goal.number_edges-requires
number_edges-requires c =
    let a = c.requires.allowed in
    let f = c.requires.fresh in
    let h = charted (goal.at.number_edges-requires c).After-chart-size in
    record {
      e_in_bounds = (edges_fit a f h, vertices-fit a f h);
      ascending = vertices-in-order a f h;
      e_le_edge_bound = (few-links a f h, (f.ones, (f.twos, f.spans)));
    }

pub number_pins-m-requires : goal.number_pins-m-requires
number_pins-m-requires c =
    let a = c.requires.allowed in
    let f = c.requires.fresh in
    let h = charted (goal.at.number_pins-m-requires c).After-chart-size in
    record {
      pins_bound = (omega (arith, a.few-pins, length-pins c.args.pins.now), vertices-fit a f h);
      ascending = vertices-in-order a f h;
      numbers_len = f.pins;
    }

pub kept_tree-tree-requires-clause-fits : goal.kept_tree-tree-requires-clause-fits
kept_tree-tree-requires-clause-fits c =
    let h = charted (goal.at.kept_tree-tree-requires-clause-fits c).After-chart-size in
    tree-asks c.requires.allowed c.requires.fresh h c.number_edges.ensures c.number_pins-m.ensures

pub returns : goal.returns
returns c =
    let h = charted (goal.at.returns c).After-chart-size in
    let t = c.kept_tree-tree.ensures in
    all-worked c.requires.allowed c.requires.fresh h c.number_edges.ensures c.number_pins-m.ensures _ refl t.root_after t.via_after t.listed
    t.listed_2 t.total_value
