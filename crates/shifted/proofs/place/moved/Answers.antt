use Rattle.std.proofs.Common.{ap, ◌∙◌, rules, SFits, w32, to_z, of_z}
use Rattle.std.proofs.lemmas.Int.{to_z-of_z}
use Rattle.shifted.proofs.PlaceLaws.{fits-above, fits_below, fits-right, fits-left, is-above, is_below, is_right, is-left}
use Rattle.shifted.proofs.place.moved.Goals as goal

pub raised-requires : goal.raised-requires
raised-requires c =
    let f : SFits w32 c.args.p.y = search rules in
    (c.requires.small, rw (to_z-of_z w32 _ f) (fits-above _ _ _ c.in-Above.is c.requires))

pub lowered-requires : goal.lowered-requires
lowered-requires c =
    let f : SFits w32 c.args.p.y = search rules in
    (c.requires.small, rw (to_z-of_z w32 _ f) (fits_below _ _ _ c.in-Below.is c.requires))

pub raised-requires-in-Right : goal.raised-requires-in-Right
raised-requires-in-Right c =
    let f : SFits w32 c.args.p.x = search rules in
    (c.requires.small, rw (to_z-of_z w32 _ f) (fits-right _ _ _ c.in-Right.is c.requires))

pub lowered-requires-in-Left : goal.lowered-requires-in-Left
lowered-requires-in-Left c =
    let f : SFits w32 c.args.p.x = search rules in
    (c.requires.small, rw (to_z-of_z w32 _ f) (fits-left _ _ _ c.in-Left.is c.requires))

pub returns-in-Above : goal.returns-in-Above
returns-in-Above c =
    let x : SFits w32 c.args.p.x = search rules in
    let y : SFits w32 c.args.p.y = search rules in
    is-above _ _ _ c.in-Above.is _ _ (to_z-of_z w32 _ x)
    (ap (λ v. to_z w32 (of_z w32 v)) (rw (to_z-of_z w32 _ y) at c.raised.ensures) ∙ to_z-of_z w32 _ (fits-above _ _ _ c.in-Above.is c.requires))

pub returns-in-Below : goal.returns-in-Below
returns-in-Below c =
    let x : SFits w32 c.args.p.x = search rules in
    let y : SFits w32 c.args.p.y = search rules in
    is_below _ _ _ c.in-Below.is _ _ (to_z-of_z w32 _ x)
    (ap (λ v. to_z w32 (of_z w32 v)) (rw (to_z-of_z w32 _ y) at c.lowered.ensures) ∙ to_z-of_z w32 _ (fits_below _ _ _ c.in-Below.is c.requires))

pub returns-in-Right : goal.returns-in-Right
returns-in-Right c =
    let x : SFits w32 c.args.p.x = search rules in
    let y : SFits w32 c.args.p.y = search rules in
    is_right _ _ _ c.in-Right.is _ _ (ap (λ v. to_z w32 (of_z w32 v)) (rw (to_z-of_z w32 _ x) at c.raised-in-Right.ensures) ∙ to_z-of_z w32 _ (fits-right _ _ _ c.in-Right.is c.requires))
    (to_z-of_z w32 _ y)

pub returns-in-Left : goal.returns-in-Left
returns-in-Left c =
    let x : SFits w32 c.args.p.x = search rules in
    let y : SFits w32 c.args.p.y = search rules in
    is-left _ _ _ c.in-Left.is _ _ (ap (λ v. to_z w32 (of_z w32 v)) (rw (to_z-of_z w32 _ x) at c.lowered-in-Left.ensures) ∙ to_z-of_z w32 _ (fits-left _ _ _ c.in-Left.is c.requires))
    (to_z-of_z w32 _ y)
