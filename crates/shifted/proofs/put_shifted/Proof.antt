-- `shifted::put_shifted` meets its contract: both ends after the move, and the edge of them.
-- Assumes nothing.
use mathlib.Core.Path.{◌≡◌, ap, ap₂, ◌∙◌, subst}
use borrow.Author.Rules.{rules}
use lib.ListN.{get_or}
use Rattle.plane.specs.declared.Place.{Place}
use Rattle.slide.specs.Bend.{Edge}
use Rattle.slide.specs.Slide.{proper}
use Rattle.shifted.specs.Shift.{shifted_at, shifted_edge, PutIf}
use Rattle.shifted.proofs.put_shifted.Statement.{statement}
use Rattle.shifted.proofs.put_shifted.Tie as tie

shifted-point-requires : tie.Need-shifted_point-a-requires
shifted-point-requires c κs = (c.first_end.ensures.1, rw c.first_end.ensures.0 c.requires.1.0)

shifted-point-requires-2 : tie.Need-shifted_point-b-requires
shifted-point-requires-2 c κs = (c.second_end.ensures.1, rw c.second_end.ensures.0 c.requires.1.1)

returns : tie.Need-returns
returns c =
    let b = c in
    let a = b in
    let s = a in
    let at = shifted_at s.args.m s.args.pts.now s.args.lab.now in
    let ends : (a.shifted_point-a.result, b.shifted_point-b.result)
    ≡ shifted_edge s.args.m s.args.pts.now s.args.lab.now (get_or s.args.keys.now s.args.k 0) =
    ap₂ (λ (p q : Place). (p, q))
    (a.shifted_point-a.ensures ∙ ap at a.first_end.ensures.0)
    (b.shifted_point-b.ensures ∙ ap at b.second_end.ensures.0) in
    subst
    (λ (x : Edge).
    PutIf (proper x) x s.args.out.now s.args.count c.put_proper.new.out c.put_proper.result)
    ends c.put_proper.ensures

pub put_shifted_spec : {M : Type 1} → statement M
put_shifted_spec =
    tie.close
    (tie.spec
    (λ c κs. search rules) shifted-point-requires (λ c κs. search rules) shifted-point-requires-2 (λ c κs. search rules)
    (λ c. search rules)
    returns)
