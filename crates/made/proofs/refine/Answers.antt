-- The union of the kept paths that the tables hold is what the refiner goes on from.
use Rattle.std.proofs.Common.{◌≡◌, refl, sym, subst, ◌∙◌}
use Rattle.net.specs.Net.{Net, net_of, handed}
use Rattle.net.specs.Pins.{pin_count}
use Rattle.net.proofs.PinLaws.{length-pins}
use Rattle.forest.specs.Edges.{graph}
use Rattle.tree.specs.Table.{Tree, tree}
use Rattle.beside.specs.Beside.{Ground, ground}
use Rattle.refiner.specs.Ready.{Ready}
use Rattle.refiner.specs.Refined.{Answer}
use Rattle.refined.specs.Ground.{ground_of}
use Rattle.refined.proofs.NetGround.{union-ready}
use Rattle.union.specs.Union.{union_of}
use Rattle.union.proofs.WorkedStart.{worked-startable, worked-start}
use Rattle.made.proofs.FreshTables.{worked-ground}
use Rattle.made.proofs.CountedLaws.{as-net}
use Rattle.made.proofs.refine.Goals as goal
use Rattle.made.proofs.refine.Goals.{After-start-start}

pub start-start-requires-clause-startable : goal.start-start-requires-clause-startable
start-start-requires-clause-startable c = worked-startable c.requires.counted.allowed c.work-tree.ensures

-- what the tables hold once the union is put into them, and the ground to refine on
module _ (d : After-start-start) where
  abbrev net : Net
  net = net_of (handed d.args.net.weights) d.args.pins.now d.args.macros.now

  abbrev put : Tree
  put = tree d.start-start.new.pts d.start-start.result.points d.start-start.new.keys d.start-start.result.edges

  abbrev held : Ground
  held = (let t = d.work-tree.new.t in ground t.vertices d.work-tree.result.points (graph t.ea t.eb t.el d.work-tree.result.edges))

  held-is : held ≡ ground_of net
  held-is = worked-ground refl d.work-tree.ensures

  union-is : put ≡ union_of net
  union-is = d.start-start.ensures ∙ worked-start d.requires.counted.allowed d.work-tree.ensures

pub refine-refined-requires : goal.refine-refined-requires
refine-refined-requires c =
    let d = (goal.at.refine-refined-requires c).After-start-start in
    let pins = c.args.pins.now in
    let m = pin_count pins in
    let n = net d in
    let ready = subst (Ready n (ground_of n) (union_of n)) (length-pins pins) (union-ready c.requires.counted.allowed) in
    let placed = subst (λ (t : Tree). Ready n (ground_of n) t m) (sym (union-is d)) ready in
    let grounded = subst (λ (g : Ground). Ready n g (put d) m) (sym (held-is d)) placed in
    subst (λ (k : Net). Ready k (held d) (put d) m) (sym (as-net c.requires.counted)) grounded

pub returns-clause-answer : goal.returns-clause-answer
returns-clause-answer c =
    let d = (goal.at.returns-clause-answer c).After-start-start in
    let points = c.refine-refined.new.pts in
    let keys = c.refine-refined.new.keys in
    let r = c.refine-refined.result in
    let n = net d in
    let named = subst (λ (k : Net). Answer k (held d) (put d) points keys r) (as-net c.requires.counted) c.refine-refined.ensures in
    let grounded = subst (λ (g : Ground). Answer n g (put d) points keys r) (held-is d) named in
    subst (λ (t : Tree). Answer n (ground_of n) t points keys r) (union-is d) grounded
