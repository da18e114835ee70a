-- `hanging::add_edge` meets its contract, by whether the ends are of one bar.
-- Assumes nothing.
use mathlib.Core.Path.{◌≡◌, ap}
use mathlib.Core.List.{List}
use Prim.Native.Nat.{ℕ}
use borrow.Author.Rules.{rules}
use lib.ListN.{get_or}
use Rattle.hanging.proofs.TallyLaws.{still-coded, one-bar, two-bars}
use Rattle.hanging.proofs.add_edge.Statement.{statement}
use Rattle.hanging.proofs.add_edge.Tie as tie

-- the label of a point, by another name of the point
labels : {i j : ℕ} (lab : List ℕ) → i ≡ j → get_or lab i 0 ≡ get_or lab j 0
labels lab e = ap (λ (k : ℕ). get_or lab k 0) e

add-requires : tie.Need-add-requires
add-requires c κs =
    let p = c.requires in
    let l = p.0.1.number c.first_end.result in
    ((p.0.0, l), p.1.each _ l)

add-requires-2 : tie.Need-add-requires-then-p-q
add-requires-2 c κs =
    let p = c.requires in
    let lab = c.args.lab.now in
    let f = c.first_end in
    let g = c.second_end in
    let l = p.0.1.number g.result in (
      (p.0.0, l),
      still-coded _ _ _ _ _ _ p.1 _ _ (labels lab f.ensures.0) (labels lab g.ensures.0) (p.0.1.number f.result) _
          c.add.ensures l c.if-p-q.true,
    )

returns : tie.Need-returns-then-p-q
returns c =
    let p = c.requires in
    let lab = c.args.lab.now in
    let f = c.first_end in
    let g = c.second_end in
    two-bars _ _ _ _ _ _ p.1 _ _ (labels lab f.ensures.0) (labels lab g.ensures.0) (p.0.1.number f.result) _
    c.add.ensures (p.0.1.number g.result) _ c.add-then-p-q.ensures

returns-2 : tie.Need-returns-else-p-q
returns-2 c =
    let p = c.requires in
    let lab = c.args.lab.now in
    let f = c.first_end in
    let g = c.second_end in
    one-bar _ _ _ _ _ _ p.1 _ _ (labels lab f.ensures.0) (labels lab g.ensures.0) (p.0.1.number f.result) _
    c.add.ensures c.if-p-q.false

pub add_edge_spec : {M : Type 1} → statement M
add_edge_spec =
    tie.close
    (tie.spec
    (λ c κs. search rules) (λ c. search rules) (λ c. search rules) (λ c κs. search rules) (λ c. search rules)
    (λ c. search rules) add-requires add-requires-2 returns
    returns-2)
