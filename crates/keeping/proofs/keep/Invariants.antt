-- What is kept so far is written, and with what the bridges that are left give from the present groups it is what all give.
use Rattle.std.proofs.Common.{◌≡◌, ◌-◌, ◌≤◌, length}
use Rattle.forest.specs.Bounds.{point_bound}
use Rattle.forest.specs.Edges.{entries}
use Rattle.bridges.specs.Bridges.{roots_in}
use Rattle.keeping.proofs.KeptLaws.{Keeping}
use Rattle.keeping.proofs.keep.Given as goal

abbrev pub invariant-loop-j : goal.invariant-loop-j
invariant-loop-j l = record {
  few : l.count ≤ l.j-index;
  room : length l.group ≡ point_bound;
  keeping : Keeping (roots_in l.ea l.eb l.root) (entries l.order 0 l.n) l.fn.group (entries l.order l.j-index (l.n - l.j-index)) l.group
      l.fn.kept l.kept l.count;
}
