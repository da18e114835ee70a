-- `bends::bend_tree` meets its contract: the places that are looked at are the tree points.
-- Assumes nothing.
use mathlib.Core.Path.{◌≡◌, subst}
use mathlib.Core.List.{List}
use Prim.Native.Nat.{◌*◌}
use native.Mathlib.Omega.{arith}
use lib.ListN.{length}
use borrow.Author.Rules.{rules}
use Rattle.plane.specs.declared.Place.{Place}
use Rattle.net.specs.Pins.{pin_places}
use Rattle.slide.specs.Bend.{bends}
use Rattle.straight.specs.Table.{straight_bound}
use Rattle.settled.specs.Settled.{edges_of}
use Rattle.bends.specs.Bending.{BentBy}
use Rattle.settled.proofs.InsertLaws.{held-sorted}
use Rattle.settled.proofs.SettledLaws.{count-points}
use Rattle.bends.proofs.bend_tree.Statement.{statement}
use Rattle.bends.proofs.bend_tree.Tie as tie

bend-requires : tie.Need-bend-requires
bend-requires c κs =
    let d = c in
    let s = d in
    let long : length d.points-n.new.pts ≡ straight_bound * 2 = d.points-n.auto.pts in
    let many = count-points (pin_places s.args.pins.now) (edges_of s.args.edges.now s.args.e) _ _ _ d.points-n.ensures in
    (omega (arith, s.requires.0), (omega (arith, many, long, s.requires.1), omega (arith, s.requires.0)))

returns : tie.Need-returns
returns c =
    let b = c in
    let d = b in
    let s = d in
    subst
    (λ (X : List Place). BentBy (bends X (edges_of s.args.edges.now s.args.e)) b.bend.result b.bend.new.out)
    (held-sorted d.points-n.ensures) b.bend.ensures

pub bend_tree_spec : {M : Type 1} → statement M
bend_tree_spec =
    tie.close
    (tie.spec
    (λ c. search rules) (λ c κs. search rules) (λ c. search rules) bend-requires (λ c. search rules)
    returns)
