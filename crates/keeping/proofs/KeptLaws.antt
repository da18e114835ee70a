-- Groups merged in place, bridges kept one after the other, and tables that are written read back.
-- Assumes nothing.
use mathlib.Core.Path.{◌≡◌, refl, sym, ap, ap₂, ◌∙◌}
use mathlib.Core.Bool.{true, false}
use mathlib.Core.List.{List, [], ◌∷◌, ◌++◌, map, append-nil}
use Prim.Native.Nat.{ℕ, zero, suc, ◌+◌, ◌*◌, ◌≤◌, ◌<◌}
use native.Mathlib.Nat.{suc-mul}
use native.Mathlib.Numerals.{add-one}
use native.Mathlib.Omega.{arith}
use borrow.Author.Tests.{eq-eqb, ne_eqb}
use lib.Dec.{eqb}
use lib.ListN.{length, get_or, set, drop, length-append, length-map}
use lib.Seq.{get_or_at, append_snoc}
use Rattle.lists.specs.Member.{◌∈◌}
use Rattle.lists.specs.Total.{total}
use Rattle.lists.proofs.MemberLaws.{get_d-in}
use Rattle.lent.specs.Over.{over}
use Rattle.lent.proofs.OverLaws.{over_none, over-more}
use Rattle.joined.specs.Table.{changed, kept_by}
use Rattle.forest.specs.Edges.{entries, Listed}

-- A table changed in place

pub changed-yes : (a b x : ℕ) → x ≡ b → a ≡ changed a b x
unfolding changed
changed-yes a b x e = rw (changed, eq-eqb x b e) refl

pub changed-no : (a b x : ℕ) → (x ≡ b → ⊥) → x ≡ changed a b x
unfolding changed
changed-no a b x e = rw (changed, ne_eqb x b e) refl

pub merged-length : (a b n : ℕ) (g g' : List ℕ) → g' ≡ map (changed a b) g → length g ≡ n → length g' ≡ n
merged-length a b n g g' e h = ap length e ∙ length-map g (changed a b) ∙ h

-- A table that is written, read back

read_past : (ps xs rest : List ℕ) (i : ℕ) → length ps ≡ i → entries (ps ++ (xs ++ rest)) i (length xs) ≡ xs
unfolding entries
read_past ps [] rest i e = refl
read_past ps (x ∷ xs) rest i e =
    ap₂ (λ (a : ℕ) (l : List ℕ). a ∷ l) (get_or_at ps x (xs ++ rest) 0 i e)
    (ap (λ (l : List ℕ). entries l (suc i) (length xs)) (sym (append_snoc ps x (xs ++ rest)))
    ∙ read_past (ps ++ (x ∷ [])) xs rest (suc i) (length-append ps (x ∷ []) ∙ omega arith))

pub read-listed : (xs lent table : List ℕ) (n : ℕ) → Listed xs lent table n → entries table 0 n ≡ xs
unfolding over
read-listed xs lent table n l = rw (l.table_is, l.count) (read_past [] xs (drop (length xs) lent) 0 refl)

-- each entry that is read is an entry of the list
pub entry_listed : (xs lent table : List ℕ) (n : ℕ) → Listed xs lent table n → (i : ℕ) → i < n → get_or table i 0 ∈ xs
unfolding over
entry_listed xs lent table n l i h =
    let r : i < length xs = omega (arith, l.count) in
    rw (l.table_is, front xs (drop (length xs) lent) i r) (get_d-in xs i 0 r)
  where
    front : (ys zs : List ℕ) (j : ℕ) → j < length ys → get_or (ys ++ zs) j 0 ≡ get_or ys j 0
    front [] zs j k = absurd (let z : ⊥ = omega arith in z)
    front (y ∷ ys) zs zero k = refl
    front (y ∷ ys) zs (suc j) k = front ys zs j (omega arith)

-- Bridges kept one after the other

-- the bridges `left` are still to come, from the groups g, of `all` from the groups g₀; those kept so far are written
pub record Keeping (ends : ℕ → ℕ × ℕ) (all g₀ left g lent kept : List ℕ) (count : ℕ) : Type 0 where
  pub done : List ℕ
  pub written : Listed done lent kept count
  pub answer : done ++ kept_by ends left g ≡ kept_by ends all g₀

module _ (ends : ℕ → ℕ × ℕ) where
  pub keep-none : (all g lent : List ℕ) → Keeping ends all g all g lent lent 0
  keep-none all g lent = record { done = []; written = record { count = refl; table_is = sym (over_none lent) }; answer = refl }

  module _ (all g₀ left g lent kept : List ℕ) (count : ℕ) (s : Keeping ends all g₀ left g lent kept count)
      (k : ℕ) (ks : List ℕ) (l : left ≡ k ∷ ks) (a b : ℕ) (p : a ≡ get_or g (ends k).0 0) (q : b ≡ get_or g (ends k).1 0) where
    pub keep-pass : a ≡ b → Keeping ends all g₀ ks g lent kept count
    unfolding kept_by
    keep-pass e =
        let t : eqb (get_or g (ends k).0 0) (get_or g (ends k).1 0) ≡ true = eq-eqb _ _ (sym p ∙ e ∙ q) in
        record {
          done = s.done;
          written = s.written;
          answer = ap (λ (r : List ℕ). s.done ++ r) (sym (rw (l, kept_by, t) refl)) ∙ s.answer;
        }

    pub keep-more : (g' : List ℕ) → (a ≡ b → ⊥) → g' ≡ map (changed a b) g → count < length lent →
        Keeping ends all g₀ ks g' lent (set kept count k) (count + 1)
    unfolding kept_by
    keep-more g' n m h =
        let t : eqb (get_or g (ends k).0 0) (get_or g (ends k).1 0) ≡ false = ne_eqb _ _ (λ e. n (p ∙ e ∙ sym q)) in
        let w : g' ≡ map (changed (get_or g (ends k).0 0) (get_or g (ends k).1 0)) g = m ∙ rw (p, q) refl in
        let c : length s.done ≡ count = sym s.written.count in
        record {
          done = s.done ++ (k ∷ []);
          written = record {
            count = omega (arith, length-append s.done (k ∷ []));
            table_is = ap (λ (o : List ℕ). set o count k) s.written.table_is ∙ over-more s.done lent count k c h;
          };
          answer = append_snoc s.done k _ ∙ ap (λ (r : List ℕ). s.done ++ r) (sym (rw (l, kept_by, t, w) refl)) ∙ s.answer;
        }

  pub keep-end : (all g₀ left g lent kept : List ℕ) (count : ℕ) → Keeping ends all g₀ left g lent kept count → left ≡ [] →
      Listed (kept_by ends all g₀) lent kept count
  unfolding kept_by
  keep-end all g₀ left g lent kept count s l =
      let e : s.done ≡ kept_by ends all g₀ = sym (rw (l, kept_by) (append-nil s.done)) ∙ s.answer in
      rw (← e) s.written

-- The lengths of paths, one after the other

-- the paths `left` are still to come; the lengths of those before are written, and added
pub record Measuring (f : ℕ → ℕ) (bound : ℕ) (all left lent long : List ℕ) (i sum : ℕ) : Type 0 where
  pub done : List ℕ
  pub written : Listed done lent long i
  pub answer : done ++ map f left ≡ map f all
  pub sum_is : sum + total (map f left) ≡ total (map f all)
  pub small : sum ≤ i * bound

module _ (f : ℕ → ℕ) (bound : ℕ) where
  pub measure-none : (all lent : List ℕ) → Measuring f bound all all lent lent 0 0
  measure-none all lent = record {
    done = [];
    written = record { count = refl; table_is = sym (over_none lent) };
    answer = refl;
    sum_is = omega arith;
    small = omega arith;
  }

  module _ (all left lent long : List ℕ) (i sum : ℕ) (s : Measuring f bound all left lent long i sum) where
    pub measure-more : (k : ℕ) (ks : List ℕ) → left ≡ k ∷ ks → f k ≤ bound → i < length lent →
        Measuring f bound all ks lent (set long i (f k)) (i + 1) (sum + f k)
    unfolding total
    measure-more k ks l b h =
        let t : total (map f left) ≡ f k + total (map f ks) = rw l refl in
        let c : length s.done ≡ i = sym s.written.count in
        record {
          done = s.done ++ (f k ∷ []);
          written = record {
            count = omega (arith, length-append s.done (f k ∷ []));
            table_is = ap (λ (o : List ℕ). set o i (f k)) s.written.table_is ∙ over-more s.done lent i (f k) c h;
          };
          answer = append_snoc s.done (f k) _ ∙ ap (λ (r : List ℕ). s.done ++ r) (sym (rw l refl)) ∙ s.answer;
          sum_is = omega (arith, s.sum_is, t);
          small = omega (arith, s.small, one-times i bound);
        }
      where
        one-times : (m b : ℕ) → (m + 1) * b ≡ m * b + b
        one-times m b = ap (λ (z : ℕ). z * b) (add-one m) ∙ suc-mul m b

    pub measure-end : (n : ℕ) → i ≡ n → left ≡ [] → Listed (map f all) lent long n × (sum ≡ total (map f all))
    unfolding total
    measure-end n c l =
        let t : total (map f left) ≡ 0 = rw l refl in
        let e : s.done ≡ map f all = sym (rw l (append-nil s.done)) ∙ s.answer in
        (rw (← e, ← c) s.written, omega (arith, s.sum_is, t))
