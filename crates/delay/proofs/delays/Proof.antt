-- `delay::delays` meets its contract: 40 where the search for a mark finds one, otherwise all delays are given, and only then is what is
-- lent written.
-- Assumes nothing.
use mathlib.Core.Path.{◌≡◌, refl, sym, ap, ◌∙◌}
use mathlib.Core.List.{List}
use Prim.Native.Nat.{ℕ, ◌<◌}
use native.Mathlib.Omega.{arith}
use borrow.Author.Rules.{rules}
use lib.Ieee.{Float}
use Rattle.lists.specs.Any.{any}
use Rattle.lent.specs.Over.{over, after}
use Rattle.net.specs.Answer.{number, told_by}
use Rattle.tree.specs.Table.{tree_bound}
use Rattle.floats.specs.Mark.{Delay}
use Rattle.floats.specs.Mark.{is_mark, finites, marks_from}
use Rattle.elmore.proofs.MemoLaws.{memo-none}
use Rattle.delay.specs.Table.{driver_in, table_from}
use Rattle.delay.proofs.ToldLaws.{told-mark, told-given, table_is}
use Rattle.delay.proofs.delays.Statement.{statement}
use Rattle.delay.proofs.delays.Tie as tie

-- what the contract speaks of: the driver's number, the table of delays, and the marks of the pins
abbrev driver : tie.Start → ℕ
driver s = driver_in s.args.pts.now s.args.pin.now s.args.z.points s.args.driver

abbrev table : tie.Start → List Float
table s = table_from s.args.pts.now s.args.keys.now s.args.z.edges s.args.loads.now s.args.t (driver s)

abbrev marks_by : tie.Start → List Float → List Delay
marks_by s x = marks_from x s.args.pin.now 0 s.args.z.points

abbrev marks : tie.Start → List Delay
marks s = marks_by s (table s)

abbrev start : tie.After-lay → tie.Start
start l = l.before.before.before.before.before.before

-- the driver's visit is inside the tables, and nothing is kept yet
lay-requires : tie.Need-lay-requires
lay-requires c κs =
    let f = c in
    let s = f in
    let low : f.find-d.result < tree_bound = omega (arith, f.find-d.ensures.0, s.requires.1.1, s.requires.0.0) in
    ((s.requires.0.1.0, record { point-low = low; parent-low = low; steps_low = s.requires.0.1.0 }), memo-none _ _ _ _ _ _)

-- the table that the passes leave, and what the search for a mark then finds
left : (l : tie.After-lay) → l.lay.new.table ≡ table (start l)
left l = table_is _ _ _ _ _ _ _ _ l.lay.ensures.0 l.find-d.ensures.0

found : (m : tie.After-has_mark) → m.has_mark.result ≡ any is_mark (marks (start m.before.before))
found m = let l = m.before.before in m.has_mark.ensures ∙ ap (λ (x : List Float). any is_mark (marks_by (start l) x)) (left l)

returns : tie.Need-returns-then-has_mark
unfolding told_by number after
returns c = let m = c.before in (sym (told-mark _ (marks (start m.before.before)) (sym (found m) ∙ c.if-has_mark.true)), refl)

returns-2 : tie.Need-returns
unfolding told_by after
returns-2 c =
    let g = c in
    let n = g in
    let m = n.before.before.before.before.before.before in
    let s = start m.before.before in (
      sym (told-given _ (marks s) (sym (found m) ∙ n.if-has_mark.false)),
      g.give.ensures ∙ ap (λ (x : List Float). over (finites (marks_by s x)) s.args.lent.now) (left m.before.before),
    )

pub delays_spec : {M : Type 1} → statement M
delays_spec =
    tie.close
    (tie.spec
    (λ c κs. search rules) lay-requires (λ c κs. search rules) returns (λ c κs. search rules) (λ c. search rules)
    returns-2)
