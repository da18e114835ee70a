-- `hanging::add` meets its contract: what hung is read, and with the edge more it is written again.
-- Assumes nothing.
use mathlib.Core.Path.{refl}
use native.Mathlib.Omega.{arith}
use borrow.Author.Rules.{rules}
use Rattle.hanging.proofs.TallyLaws.{was-few, now-few, added}
use Rattle.hanging.proofs.add.Statement.{statement}
use Rattle.hanging.proofs.add.Tie as tie

hung-requires : tie.Need-hung-requires
hung-requires c κs =
    let h = c in
    let s = h in
    let few = was-few _ _ s.args.hangs.now s.requires.0.0.0 s.requires.1 _ h.hang_at-h.ensures in
    (omega (arith, few, s.requires.0.0), omega (arith, few, s.requires.0.0))

code-requires : tie.Need-code-requires
code-requires c κs =
    let t = c in
    let h = t in
    let s = h in
    let few = now-few _ _ s.args.hangs.now s.requires.0.0.0 s.requires.1 _ h.hang_at-h.ensures _ t.seen_edge-t.ensures.0
    t.seen_edge-t.ensures.1.0 t.seen_edge-t.ensures.1.1 _ c.hung.ensures in
    ((omega (arith, few, s.requires.0.0), omega (arith, few, s.requires.0.0)), few.1)

returns : tie.Need-returns
returns c =
    let t = c in
    let h = t in
    let s = h in
    added _ _ s.args.hangs.now s.requires.0.0.0 s.requires.1 _ h.hang_at-h.ensures _ t.seen_edge-t.ensures.0
    t.seen_edge-t.ensures.1.0 t.seen_edge-t.ensures.1.1 _ c.hung.ensures _ _ c.code.ensures refl

pub add_spec : {M : Type 1} → statement M
add_spec =
    tie.close
    (tie.spec
    (λ c κs. search rules) (λ c κs. search rules) hung-requires code-requires (λ c. search rules) (λ c. search rules)
    returns)
