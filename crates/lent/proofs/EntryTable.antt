-- A table of entries at the front of lent space: the i-th entry read, the i-th entry replaced, one entry more, whatever their width.
-- The table is said by its entries, `over (flat numbers bs) lent`, so that a program's steps are steps on the list of entries.
-- Assumes nothing.
use mathlib.Core.Path.{◌≡◌, refl, sym, ap, ap₂, ◌∙◌}
use mathlib.Core.List.{List, [], ◌∷◌, ◌++◌, append_assoc, append-nil}
use Prim.Native.Nat.{ℕ, zero, suc, ◌+◌, ◌*◌, ◌≤◌}
use native.Mathlib.Nat.{zero-mul, suc-mul}
use native.Mathlib.Omega.{arith}
use lib.ListN.{length, take, drop, length-append, length-drop, take-append-drop}
use lib.Seq.{sets, sets-eq, take-append_seam, drop-append-add, drop_at, drop-drop, length-take-le, take-add}
use Rattle.lent.specs.Over.{over}
use Rattle.lent.specs.Entries.{flat, entries_from, entries, Width}
use Rattle.lent.proofs.OverLaws.{over-of}

-- a part of a list replaced by one as long
replaced : {A : Type 0} (p q r v : List A) → length v ≡ length q → sets (p ++ (q ++ r)) (length p) v ≡ p ++ (v ++ r)
replaced {A} p q r v e =
    sets-eq v (p ++ (q ++ r)) (length p) (simp (length-append, length-append) (omega arith))
    ∙ ap₂ (λ (a b : List A). a ++ v ++ b) (take-append_seam p (q ++ r))
    (drop-append-add p (q ++ r) (length v) ∙ drop_at q r (length v) (sym e))
    ∙ append_assoc p v r

module _ {A B : Type 0} (numbers : B → List A) where
  pub flat_append : (bs cs : List B) → flat numbers (bs ++ cs) ≡ flat numbers bs ++ flat numbers cs
  unfolding flat
  flat_append [] cs = refl
  flat_append (b ∷ bs) cs =
      ap (λ (l : List A). numbers b ++ l) (flat_append bs cs) ∙ sym (append_assoc (numbers b) (flat numbers bs) (flat numbers cs))

  module _ (from : List A → ℕ → B) (w : ℕ) (wide : Width numbers from w) where
    pub length-flat : (bs : List B) → length (flat numbers bs) ≡ length bs * w
    unfolding flat
    length-flat [] = sym (zero-mul w)
    length-flat (b ∷ bs) =
        length-append (numbers b) (flat numbers bs)
        ∙ ap₂ ◌+◌ (wide.each b) (length-flat bs)
        ∙ omega (arith, suc-mul (length bs) w)

    -- where the entry after those of `done` begins
    at-end : (done : List B) (i : ℕ) → length done ≡ i → i * w ≡ length (flat numbers done)
    at-end done i e = sym (length-flat done ∙ ap (λ (n : ℕ). n * w) e)

    -- the numbers of that entry, apart from the others
    parted : (done : List B) (b : B) (rest : List B) (tail : List A)
        → flat numbers (done ++ (b ∷ rest)) ++ tail ≡ flat numbers done ++ (numbers b ++ (flat numbers rest ++ tail))
    unfolding flat
    parted done b rest tail =
        ap (λ (l : List A). l ++ tail) (flat_append done (b ∷ rest))
        ∙ append_assoc (flat numbers done) (numbers b ++ flat numbers rest) tail
        ∙ ap (λ (l : List A). flat numbers done ++ l) (append_assoc (numbers b) (flat numbers rest) tail)

    -- the entry after those of `done`
    pub entry_read : (done : List B) (b : B) (rest : List B) (lent : List A) (i : ℕ) → length done ≡ i
        → from (over (flat numbers (done ++ (b ∷ rest))) lent) (i * w) ≡ b
    unfolding over
    entry_read done b rest lent i e =
        let tail = drop (length (flat numbers (done ++ (b ∷ rest)))) lent in
        ap₂ from (parted done b rest tail) (at-end done i e) ∙ wide.back (flat numbers done) b (flat numbers rest ++ tail)

    -- the entry after those of `done` replaced
    pub entry-write : (done : List B) (b c : B) (rest : List B) (lent : List A) (i : ℕ) → length done ≡ i
        → sets (over (flat numbers (done ++ (b ∷ rest))) lent) (i * w) (numbers c) ≡ over (flat numbers (done ++ (c ∷ rest))) lent
    unfolding over flat
    entry-write done b c rest lent i e =
        let same : length (flat numbers (done ++ (b ∷ rest))) ≡ length (flat numbers (done ++ (c ∷ rest))) =
        length-flat (done ++ (b ∷ rest))
        ∙ ap (λ (n : ℕ). n * w) (length-append done (b ∷ rest) ∙ sym (length-append done (c ∷ rest)))
        ∙ sym (length-flat (done ++ (c ∷ rest))) in
        let tail = drop (length (flat numbers (done ++ (b ∷ rest)))) lent in
        ap₂ (λ (l : List A) (n : ℕ). sets l n (numbers c)) (parted done b rest tail) (at-end done i e)
        ∙ replaced (flat numbers done) (numbers b) (flat numbers rest ++ tail) (numbers c) (wide.each c ∙ sym (wide.each b))
        ∙ sym (parted done c rest tail)
        ∙ ap (λ (n : ℕ). flat numbers (done ++ (c ∷ rest)) ++ drop n lent) same

    -- one entry more
    pub entry_more : (done : List B) (c : B) (lent : List A) (i : ℕ) → length done ≡ i → i * w + w ≤ length lent
        → sets (over (flat numbers done) lent) (i * w) (numbers c) ≡ over (flat numbers (done ++ (c ∷ []))) lent
    unfolding over flat
    entry_more done c lent i e h =
        let n = length (flat numbers done) in
        let old = take w (drop n lent) in
        let tail = drop w (drop n lent) in
        let at = at-end done i e in
        let whole : drop n lent ≡ old ++ tail = sym (take-append-drop w (drop n lent)) in
        let long : length (numbers c) ≡ length old =
        wide.each c ∙ sym (length-take-le w (drop n lent) (simp length-drop (omega (arith, at)))) in
        let more : length (flat numbers (done ++ (c ∷ []))) ≡ n + w =
        ap length (flat_append done (c ∷ []))
        ∙ length-append (flat numbers done) (numbers c ++ [])
        ∙ ap (λ (k : ℕ). n + k) (ap length (append-nil (numbers c)) ∙ wide.each c) in
        ap₂ (λ (l : List A) (k : ℕ). sets (flat numbers done ++ l) k (numbers c)) whole at
        ∙ replaced (flat numbers done) old tail (numbers c) long
        ∙ sym (append_assoc (flat numbers done) (numbers c) tail)
        ∙ ap₂ (λ (l k : List A). l ++ k)
        (ap (λ (l : List A). flat numbers done ++ l) (sym (append-nil (numbers c))) ∙ sym (flat_append done (c ∷ [])))
        (drop-drop w n lent ∙ ap (λ (k : ℕ). drop k lent) (sym more))

    -- what is written is read back
    read-from : (xs : List A) (bs : List B) (r : List A) (k : ℕ) → length xs ≡ k → entries_from from w (xs ++ (flat numbers bs ++ r)) k
        (length bs) ≡ bs
    unfolding flat entries_from
    read-from xs [] r k e = refl
    read-from xs (b ∷ bs) r k e =
        let next : length (xs ++ numbers b) ≡ k + w = length-append xs (numbers b) ∙ omega (arith, e, wide.each b) in
        let text : xs ++ ((numbers b ++ flat numbers bs) ++ r) ≡ xs ++ (numbers b ++ (flat numbers bs ++ r)) =
        ap (λ (l : List A). xs ++ l) (append_assoc (numbers b) (flat numbers bs) r) in
        ap₂ (λ (c : B) (cs : List B). c ∷ cs)
        (ap₂ from text (sym e) ∙ wide.back xs b (flat numbers bs ++ r))
        (ap (λ (l : List A). entries_from from w l (k + w) (length bs)) (text ∙ sym (append_assoc xs (numbers b) (flat numbers bs ++ r)))
        ∙ read-from (xs ++ numbers b) bs r (k + w) next)

    pub entries_over : (bs : List B) (lent : List A) (n : ℕ) → length bs ≡ n → entries from w (over (flat numbers bs) lent) n ≡ bs
    unfolding over
    entries_over bs lent n e = rw (← e) (read-from [] bs (drop (length (flat numbers bs)) lent) 0 refl)

    -- a list is its first entries over itself
    front : (s : List A) (k n : ℕ) → k + n * w ≤ length s → flat numbers (entries_from from w s k n) ≡ take (n * w) (drop k s)
    unfolding flat entries_from
    front s k zero h = sym (ap (λ (m : ℕ). take m (drop k s)) (zero-mul w))
    front s k (suc n) h =
        let e : suc n * w ≡ w + n * w = omega (arith, suc-mul n w) in
        ap₂ (λ (a b : List A). a ++ b) (wide.forth s k (omega (arith, e)))
        (front s (k + w) n (omega (arith, e)) ∙ ap (take (n * w)) (sym (drop-drop w k s)))
        ∙ sym (take-add w (n * w) (drop k s))
        ∙ ap (λ (m : ℕ). take m (drop k s)) (sym e)

    pub length-entries : (s : List A) (k n : ℕ) → length (entries_from from w s k n) ≡ n
    unfolding entries_from
    length-entries s k zero = refl
    length-entries s k (suc n) = ap suc (length-entries s (k + w) n)

    pub over-entries : (s : List A) (n : ℕ) → n * w ≤ length s → s ≡ over (flat numbers (entries from w s n)) s
    over-entries s n h =
        over-of (flat numbers (entries from w s n)) s s (n * w)
        (length-flat (entries from w s n) ∙ ap (λ (m : ℕ). m * w) (length-entries s 0 n))
        (sym (front s 0 n (omega (arith, h))))
        refl
