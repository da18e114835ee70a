use Rattle.std.proofs.Common.{sym, ap, ◌∙◌, refl, arith}
use Rattle.lists.proofs.AnyLaws.{any-hit, any-miss, any-end}
use Rattle.plane.specs.Place.{same_place}
use Rattle.plane.specs.Flat.{place_from}
use Rattle.slide.specs.Bend.{taken}
use Rattle.settled.proofs.EntryScan.{entries_next, entries-end}
use Rattle.bends.proofs.is_taken.Goals as goal

pub loop-i-init : goal.loop-i-init
unfolding taken
loop-i-init c = refl

pub returns-then-is_same_place : goal.returns-then-is_same_place
returns-then-is_same_place c =
    let a = c.args in
    let told = c.is_same_place.ensures ∙ ap (same_place a.c) c.place_at.ensures in
    sym (c.loop-i.invariant ∙ any-hit (same_place a.c) _ _ _ (entries_next place_from 2 a.pts.now a.n c.loop-i.i (omega arith))
    (sym told ∙ c.if-is_same_place.true))

pub loop-i-preserved : goal.loop-i-preserved
loop-i-preserved c =
    let a = c.args in
    let told = c.is_same_place.ensures ∙ ap (same_place a.c) c.place_at.ensures in
    c.loop-i.invariant ∙ any-miss (same_place a.c) _ _ _ (entries_next place_from 2 a.pts.now a.n c.loop-i.i (omega arith))
    (sym told ∙ c.if-is_same_place.false)

pub returns : goal.returns
returns c =
    let a = c.args in
    sym (c.loop-i.invariant ∙ any-end (same_place a.c) _ (entries-end place_from 2 a.pts.now a.n c.loop-i.i (omega arith)))
