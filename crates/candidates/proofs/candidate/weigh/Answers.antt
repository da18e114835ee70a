-- A candidate that beats the best so far and is allowed takes its place, and no other does.
use Rattle.std.proofs.Common.{◌∙◌, sym, arith}
use Rattle.candidates.proofs.CandidateLaws.{weigh-low, weigh-no, weigh-yes}
use Rattle.candidates.proofs.candidate.weigh.Goals as goal
use Rattle.candidates.proofs.candidate.weigh.Goals.{else-c-gain-via-then-c-gain+else-is_allowed, else-c-gain-via-else-c-gain}

pub returns-then-is_allowed : goal.returns-then-is_allowed
returns-then-is_allowed c =
    weigh-yes _ _ _ _ _ _ _ _ _ _ _ _ _ _ _ _
    (record {
      one = c.point_at.ensures;
      two = c.point_at-2.ensures;
      three = c.point_at-r.ensures;
      mid = c.middle_place-s.ensures;
      far = c.cost-d.ensures.0;
    }) _ c.saturating_sub-gain.ensures (omega arith) (sym c.is_allowed.ensures ∙ c.if-is_allowed.true)

pub returns-else-c-gain : goal.returns-else-c-gain
returns-else-c-gain c =
    elim c.else-c-gain.branch [
      | else-c-gain-via-then-c-gain+else-is_allowed w ↦
          weigh-no _ _ _ _ _ _ _ _ _ _ _ _ _ _ _ _
          (record {
            one = c.point_at.ensures;
            two = c.point_at-2.ensures;
            three = c.point_at-r.ensures;
            mid = c.middle_place-s.ensures;
            far = c.cost-d.ensures.0;
          }) (sym w.is_allowed.ensures ∙ w.if-is_allowed.false)
      | else-c-gain-via-else-c-gain w ↦
          weigh-low _ _ _ _ _ _ _ _ _ _ _ _ _ _ _ _
          (record {
            one = c.point_at.ensures;
            two = c.point_at-2.ensures;
            three = c.point_at-r.ensures;
            mid = c.middle_place-s.ensures;
            far = c.cost-d.ensures.0;
          }) (omega arith)
    ]
