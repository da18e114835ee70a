-- An exchange step by step: entries stay small, edges are laid.
-- Assumes nothing.
use mathlib.Core.Path.{◌≡◌, refl, ap, ◌∙◌}
use mathlib.Core.Bool.{true, false}
use mathlib.Core.List.{List}
use Prim.Native.Nat.{ℕ, suc, ◌+◌, ◌-◌, ◌≤◌, ◌<◌}
use native.Mathlib.Omega.{arith}
use lib.Dec.{ltb}
use lib.IntN.{ℤ}
use lib.ListN.{get_or}
use Rattle.plane.specs.declared.Place.{Place}
use Rattle.plane.specs.Flat.{place_at}
use Rattle.plane.specs.Middle.{middle_place}
use Rattle.plane.specs.Rank.{rank}
use Rattle.lists.proofs.TestLaws.{by}
use Rattle.candidates.specs.declared.Best.{Best}
use Rattle.exchanges.specs.Exchange.{bump, bump_at, closed, drop_two, exchange, laid_at, lays, star, opened, shift, stands}
use Rattle.tree.specs.Table.{Row, Small, Tree, first_end, row, second_end, tree}
use Rattle.lists.specs.Turns.{turns}
use Rattle.longest.proofs.LongestLaws.{small-set}
use Rattle.lists.proofs.TurnLaws.{turns-keep}

-- entries stay small
pub small-closed : (m k n : ℕ) (xs : List ℕ) → Small m xs → Small m (closed k n xs)
unfolding closed shift
small-closed m k n xs s = turns-keep shift (Small m) (n - k) k xs (λ j t q. small-set m t j _ (q.small (suc j)) q) s

pub small-dropped : (m n k l : ℕ) (xs ys : List ℕ) → ys ≡ drop_two n k l xs → Small m xs → Small m ys
unfolding drop_two
small-dropped m n k l xs ys e s =
    by (ltb k l) (λ t. rw (e, drop_two, t) (small-closed m k n _ (small-closed m l (n + 1) xs s)))
    (λ t. rw (e, drop_two, t) (small-closed m l n _ (small-closed m k (n + 1) xs s)))

module _ (pts : List ℤ) (n : ℕ) (ks : List ℕ) (e p a b u : ℕ) (s : Place) where
  pub joined-yes : stands pts n p s ≡ true → (ls : List ℕ) (f : ℕ) → row ls f ≡ lays (star p a b u) (row ks e) → tree pts n ls f
      ≡ laid_at pts n ks e p a b u s
  unfolding laid_at
  joined-yes t ls f h = rw (laid_at, t) (ap (λ (r : Row). record { points = pts; count = n; edges = r }) h)

  pub joined-no : stands pts n p s ≡ false → (qts : List ℤ) (js ls : List ℕ) (f a' b' u' : ℕ) → qts ≡ opened pts n p s → js
      ≡ turns (bump_at p) 0 e ks
      → a' ≡ bump p a → b' ≡ bump p b → u' ≡ bump p u → row ls f ≡ lays (star p a' b' u') (row js e) → tree qts (n + 1) ls f
      ≡ laid_at pts n ks e p a b u s
  unfolding laid_at
  joined-no t qts js ls f a' b' u' g i j k l h = rw (laid_at, t, g)
      (ap (λ (r : Row). record { points = opened pts n p s; count = n + 1; edges = r })
      (h ∙ rw (i, j, k, l) refl))

pub exchange-is : (c : Best) (pts : List ℤ) (n : ℕ) (ks ls : List ℕ) (e p : ℕ) (x y z s : Place) (t : Tree)
    → x ≡ place_at pts (first_end (get_or ks c.edge 0)) → y ≡ place_at pts (second_end (get_or ks c.edge 0)) → z ≡ place_at pts c.point
    → s ≡ middle_place x y z → ls ≡ drop_two (e - 2) c.edge c.cut ks → p ≡ rank pts n s
    → t ≡ laid_at pts n ls (e - 2) p (first_end (get_or ks c.edge 0)) (second_end (get_or ks c.edge 0)) c.point s → t
    ≡ exchange c pts n ks e
unfolding exchange
exchange-is c pts n ks ls e p x y z s t f g h i j k l = l ∙ rw (k, j, i, f, g, h) refl

pub two-least : (k l e : ℕ) → k < e → l < e → (l ≡ k → ⊥) → 2 ≤ e
two-least k l e h i n = omega arith
