-- Tables that are written entry by entry, and read back.
-- Assumes nothing.
use mathlib.Core.Path.{◌≡◌, refl, sym, ap, ap₂, ◌∙◌}
use mathlib.Core.List.{List, [], ◌∷◌, ◌++◌}
use Prim.Native.Nat.{ℕ, zero, suc, ◌+◌, ◌<◌}
use native.Mathlib.Omega.{arith}
use lib.ListN.{length, get_or, set, drop, length-append}
use lib.Seq.{get_or_at, append_snoc}
use Rattle.lists.specs.Member.{◌∈◌}
use Rattle.lists.proofs.MemberLaws.{get_d-in}
use Rattle.lent.specs.Over.{over}
use Rattle.lent.proofs.OverLaws.{over_none, over-more}
use Rattle.forest.specs.Edges.{entries, Listed}

-- A table that is written, read back

read_past : (ps xs rest : List ℕ) (i : ℕ) → length ps ≡ i → entries (ps ++ (xs ++ rest)) i (length xs) ≡ xs
unfolding entries
read_past ps [] rest i e = refl
read_past ps (x ∷ xs) rest i e =
    ap₂ (λ (a : ℕ) (l : List ℕ). a ∷ l) (get_or_at ps x (xs ++ rest) 0 i e)
    (ap (λ (l : List ℕ). entries l (suc i) (length xs)) (sym (append_snoc ps x (xs ++ rest)))
    ∙ read_past (ps ++ (x ∷ [])) xs rest (suc i) (length-append ps (x ∷ []) ∙ omega arith))

pub read-listed : (xs lent table : List ℕ) (n : ℕ) → Listed xs lent table n → entries table 0 n ≡ xs
unfolding over
read-listed xs lent table n l = rw (l.table_is, l.count) (read_past [] xs (drop (length xs) lent) 0 refl)

-- each entry that is read is an entry of the list
pub entry_listed : (xs lent table : List ℕ) (n : ℕ) → Listed xs lent table n → (i : ℕ) → i < n → get_or table i 0 ∈ xs
unfolding over
entry_listed xs lent table n l i h =
    let r : i < length xs = omega (arith, l.count) in
    rw (l.table_is, front xs (drop (length xs) lent) i r) (get_d-in xs i 0 r)
  where
    front : (ys zs : List ℕ) (j : ℕ) → j < length ys → get_or (ys ++ zs) j 0 ≡ get_or ys j 0
    front [] zs j k = absurd (let z : ⊥ = omega arith in z)
    front (y ∷ ys) zs zero k = refl
    front (y ∷ ys) zs (suc j) k = front ys zs j (omega arith)

-- nothing is written yet
pub listed-none : (lent : List ℕ) → Listed [] lent lent 0
listed-none lent = record { count = refl; table_is = sym (over_none lent) }

-- one entry more
pub listed_more : (xs lent table : List ℕ) (n x : ℕ) → Listed xs lent table n → n < length lent →
    Listed (xs ++ (x ∷ [])) lent (set table n x) (n + 1)
listed_more xs lent table n x l h = record {
  count = omega (arith, l.count, length-append xs (x ∷ []));
  table_is = ap (λ (o : List ℕ). set o n x) l.table_is ∙ over-more xs lent n x (sym l.count) h;
}
