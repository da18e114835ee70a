-- The rooted tree by numbers of points, as the code goes down it: the children of a point are found by a scan of the table of edges, which
-- is in the order of edges, so that they come in the order of places.
use Rattle.std.specs.Prelude.{ℕ, zero, suc, ◌+◌, true, false, cond, List, [], ◌∷◌, ℤ, ◌==◌, nat_lt, slice_index, slice_set, Float}
use Rattle.plane.specs.Flat.{place_at}
use Rattle.plane.specs.Distance.{distance}
use Rattle.tree.specs.Table.{tree_bound, first_end, second_end}
use Rattle.elmore.specs.Rooted.{Branches, none, sprout}

-- the other end of the edge of a key at p, or no point's number
unfoldable pub other_end : ℕ → ℕ → ℕ
other_end k p = cond (first_end k == p) (second_end k) (cond (second_end k == p) (first_end k) tree_bound)

-- the child that the edge leads to from p, whose parent is `up`, or no point's number
unfoldable pub child_at : ℕ → ℕ → ℕ → ℕ
child_at k up p = cond (other_end k p == up) tree_bound (other_end k p)

-- the children of p by n edges from number i on
unfoldable pub children_from : List ℕ → ℕ → ℕ → ℕ → ℕ → List ℕ
children_from ks up p i zero = []
children_from ks up p i (suc n) =
    elim (nat_lt (child_at (slice_index ks i) up p) tree_bound) [
      | true ↦ child_at (slice_index ks i) up p ∷ children_from ks up p (i + 1) n
      | false ↦ children_from ks up p (i + 1) n
    ]

-- what hangs from p by the first e edges, down to n steps below it
unfoldable pub hung : List ℕ → ℕ → ℕ → ℕ → ℕ → Branches ℕ
hung ks e zero up p = none
hung ks e (suc n) up p = sprout (hung ks e n p) (children_from ks up p 0 e)

-- how long an edge is; the load of a point
abbrev pub apart_in : List ℤ → ℕ → ℕ → ℕ
apart_in pts a b = distance (place_at pts a) (place_at pts b)

abbrev pub load_in : List ℕ → ℕ → ℕ
load_in loads p = slice_index loads p

-- delays stored in a table, each at its point's number
unfoldable pub stored : List (ℕ × Float) → List Float → List Float
stored [] table = table
stored (x ∷ l) table = stored l (slice_set table x.0 x.1)
