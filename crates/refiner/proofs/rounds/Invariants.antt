-- The tree is ready for the rounds that are left, and they decide; what is known of the tree before is so.
use Rattle.std.proofs.Common.{◌≡◌, ◌-◌, true}
use Rattle.plane.specs.Flat.{macros_of}
use Rattle.net.specs.Net.{net_with}
use Rattle.forest.specs.Edges.{graph}
use Rattle.tree.specs.Table.{pair_bound, tree, Small}
use Rattle.bounds.specs.Carried.{Was}
use Rattle.beside.specs.Beside.{ground}
use Rattle.refiner.specs.Round.{rounds_in}
use Rattle.refiner.specs.Ready.{Ready}
use Rattle.refiner.proofs.rounds.Given as goal

abbrev pub invariant-loop-r : goal.invariant-loop-r
invariant-loop-r l =
    (Small pair_bound l.before × (l.known ≡ true → Was l.w (macros_of l.macros) l.old l.was.points l.before l.was.edges l.bound))
    × (Ready (net_with l.w l.pins l.macros) (ground l.vertices l.v (graph l.ea l.eb l.el l.f)) (tree l.pts l.z.points l.keys l.z.edges)
    (l.m - l.r)
    × (rounds_in l.w (macros_of l.macros) (ground l.vertices l.v (graph l.ea l.eb l.el l.f)) (l.m - l.r)
    (tree l.pts l.z.points l.keys l.z.edges)
    ≡ rounds_in l.w (macros_of l.macros) (ground l.vertices l.v (graph l.ea l.eb l.el l.f)) l.m
    (tree l.fn.pts l.n l.fn.keys l.e)))
