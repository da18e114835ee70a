-- What loops over a list of edges go by: the next entry and the end, for ends at a place, for sums and for groups.
-- Assumes nothing.
use mathlib.Core.Path.{◌≡◌, refl, ap}
use mathlib.Core.Bool.{true, false}
use mathlib.Core.List.{List, [], ◌∷◌, map}
use Prim.Native.Nat.{ℕ, zero, suc, ◌+◌}
use native.Mathlib.Omega.{arith}
use lib.ListN.{length, drop, get_or}
use Rattle.lists.specs.Member.{◌∈◌, here, there}
use Rattle.lists.specs.Total.{total}
use Rattle.lists.proofs.ThoseLaws.{those-hit, those-miss, those-none}
use Rattle.joined.specs.Cost.{lengths}
use Rattle.joined.specs.Table.{changed, merged_by}
use Rattle.plane.specs.declared.Place.{Place}
use Rattle.plane.specs.Place.{same_place}
use Rattle.bought.specs.Edges.{Edge}
use Rattle.bought.specs.Verdict.{ends_at}

-- ends at p: `left` begins with q, and `rest` is what follows
module _ (p : Place) (left : List Place) (q : Place) (rest : List Place) (at : left ≡ q ∷ rest) where
  pub at-hit : same_place p q ≡ true → ends_at left p ≡ suc (ends_at rest p)
  unfolding ends_at
  at-hit e = rw (at, those-hit (same_place p) q rest e) refl

  pub at-miss : same_place p q ≡ false → ends_at left p ≡ ends_at rest p
  unfolding ends_at
  at-miss e = rw (at, those-miss (same_place p) q rest e) refl

pub at-end : (p : Place) (left : List Place) → left ≡ [] → ends_at left p ≡ 0
unfolding ends_at
at-end p left e = rw (e, those-none (same_place p)) refl

-- sums
pub lengths-next : (d : Place → Place → ℕ) (left : List Edge) (e : Edge) (rest : List Edge) → left ≡ e ∷ rest →
    lengths d left ≡ d e.0 e.1 + lengths d rest
unfolding lengths total
lengths-next d left e rest at = rw at refl

pub lengths-end : (d : Place → Place → ℕ) (left : List Edge) → left ≡ [] → lengths d left ≡ 0
unfolding lengths total
lengths-end d left at = rw at refl

-- the first that is left stands in the list
pub in_left : {A : Type 0} (i : ℕ) (l : List A) {x : A} {rest : List A} → drop i l ≡ x ∷ rest → x ∈ l
in_left zero l e = rw e (here refl)
in_left (suc i) [] e = absurd (let z : ⊥ = omega (arith, ap length e) in z)
in_left (suc i) (y ∷ l) e = there (in_left i l e)

-- groups
pub merged-next : (ends : Edge → ℕ × ℕ) (left : List Edge) (e : Edge) (rest : List Edge) → left ≡ e ∷ rest → (a b : ℕ) (g g' : List ℕ) →
    a ≡ get_or g (ends e).0 0 → b ≡ get_or g (ends e).1 0 → g' ≡ map (changed a b) g → merged_by ends left g ≡ merged_by ends rest g'
unfolding merged_by
merged-next ends left e rest at a b g g' p q r = rw (at, r, p, q) refl

pub merged-end : (ends : Edge → ℕ × ℕ) (left : List Edge) (g : List ℕ) → left ≡ [] → merged_by ends left g ≡ g
unfolding merged_by
merged-end ends left g at = rw at refl
