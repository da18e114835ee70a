-- Tables whose entries are at most a number.
-- Assumes nothing.
use mathlib.Core.List.{List, [], ◌∷◌}
use Prim.Native.Nat.{ℕ, zero, suc, ◌+◌, ◌≤◌}
use native.Mathlib.Omega.{arith}
use lib.ListN.{get_or, set, replicate}
use Rattle.tree.specs.Table.{Low}

low-at : (n : ℕ) (xs : List ℕ) (v x : ℕ) → x ≤ n → ((i : ℕ) → get_or xs i 0 ≤ n) → (i : ℕ) → get_or (set xs v x) i 0 ≤ n
low-at n [] v x h l i = l i
low-at n (y ∷ ys) zero x h l zero = h
low-at n (y ∷ ys) zero x h l (suc i) = l (suc i)
low-at n (y ∷ ys) (suc v) x h l zero = l zero
low-at n (y ∷ ys) (suc v) x h l (suc i) = low-at n ys v x h (λ j. l (suc j)) i

pub low-set : (n : ℕ) (xs : List ℕ) (v x : ℕ) → x ≤ n → Low n xs → Low n (set xs v x)
low-set n xs v x h s = record { low = low-at n xs v x h s.low }

pub low-more : (m n : ℕ) (xs : List ℕ) → m ≤ n → Low m xs → Low n xs
low-more m n xs h s = record { low = λ i. omega (arith, s.low i) }

-- an entry written that raises the bound
pub low-raised : (m n : ℕ) (xs : List ℕ) (k d : ℕ) → m ≤ n → d ≤ n → Low m xs → Low n (set xs k d)
low-raised m n xs k d h i l = low-set n xs k d i (low-more m n xs h l)

pub low_step : (n : ℕ) (d : List ℕ) (a : ℕ) → Low n d → Low (n + 1) (set d a (get_or d a 0 + 1))
low_step n d a l = low-set (n + 1) d a (get_or d a 0 + 1) (omega (arith, l.low a)) (low-more n (n + 1) d (omega arith) l)

low-replicate : (n i : ℕ) → get_or (replicate n 0) i 0 ≤ 0
low-replicate zero i = omega arith
low-replicate (suc n) zero = omega arith
low-replicate (suc n) (suc i) = low-replicate n i

pub low_zeros : (n : ℕ) → Low 0 (replicate n 0)
low_zeros n = record { low = low-replicate n }
