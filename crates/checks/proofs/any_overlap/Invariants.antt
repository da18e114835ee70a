-- No pair is found as long as the loops go on. Of the first macro of a pair those that are left decide, and so of the second.
use Rattle.std.proofs.Common.{◌≡◌, ◌+◌, drop, false}
use Rattle.lists.specs.Any.{any, any_two}
use Rattle.plane.specs.Macro.{interiors_meet}
use Rattle.plane.specs.Flat.{macros_of}
use Rattle.checks.proofs.any_overlap.Given as goal

abbrev pub invariant-search : goal.invariant-search
invariant-search l = (l.found ≡ false) × (any_two interiors_meet (macros_of l.macros) ≡ any_two interiors_meet (drop l.i (macros_of l.macros)))

abbrev pub invariant-loop-j : goal.invariant-loop-j
invariant-loop-j l =
    (l.found ≡ false)
    × (any (interiors_meet l.m) (drop (l.i + 1) (macros_of l.macros)) ≡ any (interiors_meet l.m) (drop l.j (macros_of l.macros)))
