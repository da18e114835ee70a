use Rattle.std.proofs.Common.{◌≤◌, ◌<◌, pos, length, refl, sym, ap, ◌∙◌, arith}
use Rattle.lent.specs.Entries.{entries}
use Rattle.plane.specs.Place.{place}
use Rattle.plane.specs.Flat.{place_from}
use Rattle.sorted.proofs.NumberLaws.{entry_at, place-entries}
use Rattle.terminal.specs.Number.{number_of}
use Rattle.terminal.proofs.FillLaws.{fill_none, fill_more, fill_end}
use Rattle.terminal.proofs.number_places.Goals as goal

pub loop-i-init : goal.loop-i-init
loop-i-init c = fill_none _ refl

pub loop-i-preserved : goal.loop-i-preserved
loop-i-preserved c =
    let a = c.args in
    let h = c.loop-i-test.true in
    let more : c.loop-i.i < length (entries place_from 2 a.places.now a.m) = omega (arith, place-entries a.places.now a.m, h) in
    let room : c.loop-i.i < length a.numbers.now = omega (arith, c.requires.m_le_point_bound, h) in
    let read = c.place_at.ensures ∙ sym (entry_at place_from 2 a.places.now a.m c.loop-i.i (place (pos 0) (pos 0)) h) in
    fill_more c.loop-i.invariant _ _ more room (c.number_of.ensures ∙ ap (number_of (entries place_from 2 a.vertices.now a.n)) read)

pub returns : goal.returns
returns c =
    let a = c.args in
    let all : length (entries place_from 2 a.places.now a.m) ≤ c.loop-i.i =
    omega (arith, place-entries a.places.now a.m, c.loop-i-test.false)
    in
    fill_end c.loop-i.invariant all
