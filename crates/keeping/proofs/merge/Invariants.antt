use Rattle.std.proofs.Common.{◌≡◌, ◌++◌, map, take, drop}
use Rattle.joined.specs.Table.{changed}
use Rattle.keeping.proofs.merge.Given as goal

abbrev pub invariant-loop-x : goal.invariant-loop-x
invariant-loop-x l = l.group ≡ map (changed l.a l.b) (take l.x-index l.fn.group) ++ drop l.x-index l.fn.group
