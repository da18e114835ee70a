-- `router::allowed::time` meets its contract: the refined tree's tables and those of pins and loads are what `delay::delays` asks for, and
-- the marks of its table are those of the refined tree's edges.
-- Assumes nothing.
use mathlib.Core.Path.{◌≡◌, refl, ap, ◌∙◌}
use mathlib.Core.List.{List}
use Rattle.lists.proofs.AnyLaws.{none_any}
use Rattle.lent.specs.Over.{after}
use Rattle.net.specs.Net.{handed}
use Rattle.net.specs.Pins.{pin_loads}
use Rattle.net.specs.Tests.{no_load}
use Rattle.floats.specs.Mark.{Delay}
use Rattle.floats.specs.Mark.{finites}
use Rattle.delay.specs.Answer.{unless_marked, told_delays}
use Rattle.made.proofs.CountedLaws.{as-pins}
use Rattle.router.proofs.DelayLaws.{delays-asked, delays-marks}
use borrow.Author.Rules.{rules}
use Rattle.router.proofs.allowed.time.Statement.{statement}
use Rattle.router.proofs.allowed.time.Tie as tie

abbrev start : tie.After-refine-tree → tie.Start
start d = d.before.before.before.before

load-requires : tie.Need-load-requires
load-requires c κs =
    let d = c.before.before.before in
    let s = start d in
    ((d.refine-tree.ensures.0.few.0, none_any no_load (pin_loads s.args.pins.now) s.requires.0.whole.loads), (refl, refl))

abbrev loaded : tie.After-delays-arg-1 → tie.After-load
loaded q = q.before.before.before.before.before

abbrev refined : tie.After-delays-arg-1 → tie.After-refine-tree
refined q = (loaded q).before.before.before.before

delays-requires : tie.Need-delays-requires
delays-requires q κs =
    let d = refined q in
    let s = start d in
    delays-asked (handed s.args.net.weights) s.args.pins.now s.args.macros.now s.requires.0.allowed d.refine-tree.ensures.0
    (loaded q).load.ensures s.args.driver s.requires.1.1 s.args.t s.args.net.pins _ (as-pins s.requires.0) s.requires.1.0

returns : tie.Need-returns
returns c =
    let g = c in
    let q = g.before.before.before in
    let d = refined q in
    let s = start d in
    let is = delays-marks (handed s.args.net.weights) s.args.pins.now s.args.macros.now s.requires.0.allowed
    d.refine-tree.ensures.0 (loaded q).load.ensures s.args.driver s.requires.1.1 s.args.t s.args.net.pins _
    (as-pins s.requires.0) s.requires.1.0 in (
      g.delays.ensures.0 ∙ ap (unless_marked s.args.net.pins) is,
      g.delays.ensures.1
          ∙ ap (λ (marks : List Delay). after (told_delays g.delays.result) (finites marks) s.args.delays.now) is,
    )

pub time_spec : {M : Type 1} → statement M
time_spec = tie.close (tie.spec (λ c κs. search rules) load-requires delays-requires (λ c. search rules) returns)
