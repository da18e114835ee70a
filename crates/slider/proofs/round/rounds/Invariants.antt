use Rattle.std.proofs.Common.{◌≡◌, ◌-◌, length}
use Rattle.net.specs.Net.{net_with}
use Rattle.slide.specs.Slide.{rounds}
use Rattle.slide.specs.Promise.{State}
use Rattle.settled.specs.Settled.{edges_of}
use Rattle.slider.proofs.round.rounds.Given as goal

abbrev pub invariant-loop : goal.invariant-loop
invariant-loop l =
    (length l.list ≡ length l.initial.list)
    × (State (net_with l.w l.pins l.macros) (edges_of l.list l.count)
    × (rounds (net_with l.w l.pins l.macros) (l.n - l.counter) (edges_of l.list l.count)
    ≡ rounds (net_with l.w l.pins l.macros) l.n (edges_of l.initial.list l.initial.count)))
