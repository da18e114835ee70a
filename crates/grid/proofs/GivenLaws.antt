-- The row that a crossing starts with, and settled rows put into a lent list one after the other.
-- Assumes nothing.
use mathlib.Core.Path.{◌≡◌, sym, ap, subst, ◌∙◌}
use mathlib.Core.List.{List, [], ◌++◌, map, map-append}
use Prim.Native.Nat.{ℕ, suc, ◌+◌, ◌*◌, ◌≤◌, ◌<◌}
use native.Mathlib.Decide.{ℕ_discrete}
use native.Mathlib.Nat.{suc-mul, zero-mul, mul-le-mul_right}
use native.Mathlib.Numerals.{add-one}
use native.Mathlib.Omega.{arith}
use lib.Dec.{ltb}
use borrow.Author.Tests.{ltb-true, ltb-false}
use lib.IntN.{ℤ, pos}
use lib.ListN.{length, get_or, set, take, replicate, length-set, length-replicate, get_or-replicate, length-append, length-map}
use lib.ListN.{get_or-eq_default, get_or-append}
use lib.Seq.{sets, get_or-set_same, get_or-set_other, get_or-take, get_or-append-add, length-take-le}
use Rattle.lists.proofs.TestLaws.{by}
use Rattle.lists.proofs.MapLaws.{get_d_map}
use Rattle.lent.specs.Over.{over}
use Rattle.lent.proofs.OverLaws.{over_none}
use Rattle.terminal.proofs.FillLaws.{over-sets}
use Rattle.lines.specs.Bounds.{crossing_bound, unreached}
use Rattle.grid.specs.Rows.{at}
use Rattle.grid.specs.Tables.{Starts, picked, Settled, RowPut, RowsOver}

-- The start

-- one number of a list of equal ones set to 0
module _ (n u q : ℕ) (t : List ℕ) (fresh : t ≡ replicate n u) (inside : q < n) where
  fresh-length : length t ≡ n
  fresh-length = ap length fresh ∙ length-replicate n u

  set_here : at (set t q 0) q ≡ 0
  set_here = get_or-set_same t q 0 0 (omega (arith, inside, fresh-length))

  set_else : (v : ℕ) → v < n → (v ≡ q → ⊥) → at (set t q 0) v ≡ u
  set_else v h e = get_or-set_other t q v 0 0 e ∙ ap (λ (l : List ℕ). at l v) fresh ∙ get_or-replicate n v u 0 h

  set-low : (v : ℕ) → at (set t q 0) v ≤ u
  set-low v = pick (ℕ_discrete v q)
    where
      pick : Dec (v ≡ q) → at (set t q 0) v ≤ u
      pick (yes e) = rw e (omega (arith, set_here))
      pick (no e) =
          by (ltb v n) (λ h. omega (arith, set_else v (ltb-true v n h) e))
          (λ h. let z : length (set t q 0) ≤ v = omega (arith, ltb-false v n h, fresh-length, length-set t q 0) in
          omega (arith, get_or-eq_default (set t q 0) 0 z))

pub start-set : (q : ℕ) (t : List ℕ) → t ≡ replicate crossing_bound unreached → q < crossing_bound → Starts q (set t q 0)
start-set q t e h = record {
  row = record { size = length-set t q 0 ∙ fresh-length crossing_bound unreached q t e h; low = set-low crossing_bound unreached q t e h };
  here = set_here crossing_bound unreached q t e h;
  elsewhere = set_else crossing_bound unreached q t e h;
}

-- Rows one after the other

module _ (near : ℕ → ℕ → ℕ → Type 0) (numbers : List ℕ) (m : ℕ) (lent : List ℤ) where
  pub rows_none : RowsOver near numbers m 0 lent lent
  rows_none = record {
    done = [];
    size = sym (zero-mul m);
    each = λ i j h k. let z : ⊥ = omega (arith, h) in absurd z;
    list = sym (over_none lent);
  }

  -- one row more
  module _ (r : ℕ) (t u : List ℤ) (o : RowsOver near numbers m r lent t) (p : RowPut near numbers m (get_or numbers r 0) (r * m) t u)
      (few : m ≤ length numbers) (room : r * m + m ≤ length lent) where
    new : List ℕ
    new = picked p.row (take m numbers)

    new-length : length new ≡ m
    unfolding new picked
    new-length = length-map (take m numbers) (at p.row) ∙ length-take-le m numbers few

    all-length : length (o.done ++ new) ≡ (r + 1) * m
    all-length =
        length-append o.done new
        ∙ omega (arith, o.size, new-length, suc-mul r m, ap (λ (n : ℕ). n * m) (add-one r))

    -- an earlier row, and the new one
    earlier : (i j : ℕ) → i < r → j < m → get_or (o.done ++ new) (i * m + j) 0 ≡ get_or o.done (i * m + j) 0
    earlier i j h k =
        let le : suc i * m ≤ r * m = mul-le-mul_right m (let z : suc i ≤ r = omega (arith, h) in z) in
        get_or-append o.done new 0 (i * m + j) (omega (arith, le, k, o.size, suc-mul i m))

    latest : (j : ℕ) → j < m → get_or (o.done ++ new) (r * m + j) 0 ≡ at p.row (get_or numbers j 0)
    unfolding new picked
    latest j k =
        ap (λ (n : ℕ). get_or (o.done ++ new) (n + j) 0) (sym o.size)
        ∙ get_or-append-add o.done new j 0
        ∙ get_d_map (at p.row) (take m numbers) j 0 0 (omega (arith, k, length-take-le m numbers few))
        ∙ ap (at p.row) (get_or-take m numbers j 0 k)

    each : (i j : ℕ) → i < r + 1 → j < m → Settled near (get_or numbers i 0) (get_or numbers j 0) (get_or (o.done ++ new) (i * m + j) 0)
    each i j h k = pick (ℕ_discrete i r)
      where
        pick : Dec (i ≡ r) → Settled near (get_or numbers i 0) (get_or numbers j 0) (get_or (o.done ++ new) (i * m + j) 0)
        pick (yes e) = rw e (record {
          start = p.start;
          starts = p.starts;
          row = p.row;
          held = p.held;
          quiet = p.quiet;
          is = latest j k;
        })
        pick (no n) =
            let g : i < r = omega (arith, h, n) in
            rw (earlier i j g k) (o.each i j g k)

    list : u ≡ over (map pos (o.done ++ new)) lent
    unfolding new
    list =
        p.list
        ∙ ap (λ (l : List ℤ). sets l (r * m) (map pos new)) o.list
        ∙ over-sets (map pos o.done) (map pos new) lent (r * m) (length-map o.done pos ∙ o.size)
        (omega (arith, length-map new pos, new-length, room))
        ∙ ap (λ (l : List ℤ). over l lent) (sym (map-append pos o.done new))

    pub rows_more : RowsOver near numbers m (r + 1) lent u
    rows_more = record { done = o.done ++ new; size = all-length; each = each; list = list }

  pub rows_end : (r : ℕ) (t : List ℤ) → r ≤ m → m ≤ r → RowsOver near numbers m r lent t → RowsOver near numbers m m lent t
  rows_end r t h k o = let e : r ≡ m = omega (arith, h, k) in subst (λ (n : ℕ). RowsOver near numbers m n lent t) e o

-- a row of the square has its place
pub row_room : (i m n : ℕ) → i < m → m * m ≤ n → i * m + m ≤ n
row_room i m n h k =
    let le : suc i * m ≤ m * m = mul-le-mul_right m (let z : suc i ≤ m = omega (arith, h) in z) in
    omega (arith, le, k, suc-mul i m)
