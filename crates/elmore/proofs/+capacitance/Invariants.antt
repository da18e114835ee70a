-- The steps left below the point fall with each call. The children still to come, added to the sum so far, make the capacitance of the
-- point, and the memo's entries are right.
use Rattle.std.proofs.Common.{◌≡◌}
use Rattle.elmore.specs.Elmore.{gathered, capacitance}
use Rattle.elmore.specs.Table.{hung, apart_in, load_in}
use Rattle.elmore.specs.Memo.{Memo}
use Rattle.elmore.proofs.TableLaws.{pending}
use Rattle.elmore.proofs.+capacitance.Given as goal

abbrev pub decreases-capacitance : goal.decreases-capacitance
decreases-capacitance l = l.v.left

abbrev pub invariant-loop-k : goal.invariant-loop-k
invariant-loop-k l =
    (gathered (apart_in l.pts) (load_in l.loads) l.t l.p l.sum (pending l.keys l.v.up l.p l.e (hung l.keys l.e l.left l.p) l.k)
    ≡ capacitance (apart_in l.pts) (load_in l.loads) l.t l.p (hung l.keys l.e l.v.left l.v.up l.p))
    × Memo l.pts l.keys l.e l.loads l.t l.held l.whose
