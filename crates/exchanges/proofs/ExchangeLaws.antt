-- Laws of one exchange on the tables.
-- Assumes nothing.
use mathlib.Core.Path.{◌≡◌, refl}
use mathlib.Core.Bool.{Bool, not}
use mathlib.Core.List.{List, [], ◌∷◌}
use Prim.Native.Nat.{ℕ, zero, suc, ◌+◌, ◌*◌, ◌≤◌, ◌<◌}
use native.Mathlib.Omega.{arith}
use lib.IntN.{ℤ}
use lib.ListN.{get_or, set}
use borrow.Author.Tests.{lt-ltb, le-ltb}
use Rattle.plane.specs.declared.Place.{Place}
use Rattle.plane.specs.Flat.{place_at}
use Rattle.plane.specs.Place.{before}
use Rattle.plane.specs.Rank.{later}
use Rattle.exchanges.specs.Exchange.{bump, bump_at, closed, drop_two, lay, lays, star}
use Rattle.tree.specs.Table.{Row, first_end, tree_bound, second_end}

pub drop-less : (n k l : ℕ) (xs ys zs : List ℕ) → k < l → ys ≡ closed l (n + 1) xs → zs ≡ closed k n ys → zs ≡ drop_two n k l xs
unfolding drop_two
drop-less n k l xs ys zs h e f = rw (drop_two, lt-ltb _ _ h, f, e) refl

pub drop_more : (n k l : ℕ) (xs ys zs : List ℕ) → l ≤ k → ys ≡ closed k (n + 1) xs → zs ≡ closed l n ys → zs ≡ drop_two n k l xs
unfolding drop_two
drop_more n k l xs ys zs h e f = rw (drop_two, le-ltb _ _ h, f, e) refl

pub later-is : (pts : List ℤ) (s p : Place) (i : ℕ) (t : Bool) → p ≡ place_at pts i → before p s ≡ t → later pts s i ≡ not t
unfolding later
later-is pts s p i t e f = rw (← e, f) refl

pub bump-lt : (p i : ℕ) → i < p → i ≡ bump p i
unfolding bump
bump-lt p i h = rw (bump, lt-ltb _ _ h) refl

pub bump-ge : (p i : ℕ) → p ≤ i → i + 1 ≡ bump p i
unfolding bump
bump-ge p i h = rw (bump, le-ltb _ _ h) refl

pub lay-three-is : (p a b u : ℕ) (r s t w : Row) → s ≡ lay p a r → t ≡ lay p b s → w ≡ lay p u t → w ≡ lays (star p a b u) r
unfolding lays
lay-three-is p a b u r s t w e f g = rw (g, f, e) refl

set_past : (xs : List ℕ) (i j x : ℕ) → i < j → get_or (set xs i x) j 0 ≡ get_or xs j 0
set_past [] i j x h = refl
set_past (y ∷ ys) i zero x h = absurd (let z : ⊥ = omega arith in z)
set_past (y ∷ ys) zero (suc j) x h = refl
set_past (y ∷ ys) (suc i) (suc j) x h = set_past ys i j x (omega arith)

-- entries that are still to come are as they were
pub ahead : (p i : ℕ) (xs ys : List ℕ) → ys ≡ bump_at p i xs → (m j : ℕ) → i < j → get_or xs j 0 < m → get_or ys j 0 < m
unfolding bump_at
ahead p i xs ys e m j h l = rw (e, set_past xs i j (bump p (first_end (get_or xs i 0)) * tree_bound + bump p (second_end (get_or xs i 0))) h) l
