-- A tree of edges between places, rooted at one of its points: rules Y1 and Y2.
use Rattle.std.specs.Prelude.{ℕ, zero, suc, true, false, not, List, [], ◌∷◌, ◌++◌, length}
use Rattle.lists.specs.Those.{those}
use Rattle.lists.specs.Sorted.{put}
use Rattle.plane.specs.declared.Place.{Place}
use Rattle.plane.specs.Place.{before, same_place}

-- what hangs from a point: nothing, or a child, what hangs from that child, and the children after it
pub data Branches (A : Type 0) : Type 0 where
  none : Branches A
  branch : A → Branches A → Branches A → Branches A

-- children in their order, each with what `below` says hangs from it
unfoldable pub sprout : {A : Type 0} → (A → Branches A) → List A → Branches A
sprout below [] = none
sprout below (c ∷ cs) = branch c (below c) (sprout below cs)

-- the points that hang there, each child after its parent
unfoldable pub visited : {A : Type 0} → Branches A → List A
visited none = []
visited (branch c below beside) = c ∷ (visited below ++ visited beside)

-- the same tree with other names of its points
unfoldable pub renamed : {A B : Type 0} → (A → B) → Branches A → Branches B
renamed f none = none
renamed f (branch c below beside) = branch (f c) (renamed f below) (renamed f beside)

-- what holds of every point that hangs there
abbrev pub Every : {A : Type 0} → (A → Type 0) → Branches A → Type 0
Every P none = Unit {0}
Every P (branch c below beside) = P c × (Every P below × Every P beside)

-- Y1: the other ends of the edges at p, in the order of places, in whatever order the edges come
unfoldable pub neighbours : List (Place × Place) → Place → List Place
neighbours [] p = []
neighbours (e ∷ es) p =
    elim (same_place e.0 p) [
      | true ↦ put before e.1 (neighbours es p)
      | false ↦ elim (same_place e.1 p) [ true ↦ put before e.0 (neighbours es p) | false ↦ neighbours es p ]
    ]

-- Y1: the children of p are its neighbours but its parent `up`
unfoldable pub children : List (Place × Place) → Place → Place → List Place
children es up p = those (λ q. not (same_place q up)) (neighbours es p)

-- what hangs from p, whose parent is `up`, down to n steps below it
unfoldable pub hanging : List (Place × Place) → ℕ → Place → Place → Branches Place
hanging es zero up p = none
hanging es (suc n) up p = sprout (hanging es n p) (children es up p)

-- Y2: the whole tree, no part of which is further from the driver than there are edges. The driver has no parent; no edge joins it to
-- itself, so it may stand for its own.
unfoldable pub rooted : List (Place × Place) → Place → Branches Place
rooted es driver = hanging es (length es) driver driver
