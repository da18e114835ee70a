-- The steps left below the point fall with each call. The delays of the children still to come, stored over the table as it is, make the
-- table that the contract names, and the memo's entries are right.
use Rattle.std.proofs.Common.{◌≡◌}
use Rattle.elmore.specs.Elmore.{delays}
use Rattle.elmore.specs.Table.{hung, apart_in, load_in, stored}
use Rattle.elmore.specs.Memo.{Memo}
use Rattle.elmore.proofs.TableLaws.{pending}
use Rattle.elmore.proofs.+lay.Given as goal

abbrev pub decreases-lay : goal.decreases-lay
decreases-lay l = l.v.left

abbrev pub invariant-loop-k : goal.invariant-loop-k
invariant-loop-k l =
    (stored (delays (apart_in l.pts) (load_in l.loads) l.t l.p l.d (pending l.keys l.v.up l.p l.e (hung l.keys l.e l.left l.p) l.k)) l.table
    ≡ stored (delays (apart_in l.pts) (load_in l.loads) l.t l.p l.d (hung l.keys l.e l.v.left l.v.up l.p)) l.initial.table)
    × Memo l.pts l.keys l.e l.loads l.t l.held l.whose
