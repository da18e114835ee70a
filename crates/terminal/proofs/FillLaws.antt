-- Tables filled from the front: one number more, or an entry's numbers more, at the end of what is written.
-- Assumes nothing.
use mathlib.Core.Path.{◌≡◌, sym, ap, ◌∙◌}
use mathlib.Core.List.{List, [], ◌∷◌, ◌++◌, map, append-nil, map-append}
use Prim.Native.Nat.{ℕ, suc, ◌+◌, ◌≤◌, ◌<◌}
use native.Mathlib.Numerals.{add-one}
use native.Mathlib.Omega.{arith}
use lib.ListN.{length, get_or, set, take, length-append, length-map}
use lib.Seq.{sets, append_snoc, take-suc, take_all, length-take-le}
use Rattle.lent.specs.Over.{over}
use Rattle.lent.specs.Entries.{flat}
use Rattle.lent.proofs.OverLaws.{over_none, over-more}
use Rattle.lent.proofs.EntryTable.{flat_append}

-- A table filled with what f says of the entries of a list: of the first i so far

pub record Filling {B X : Type 0} (f : B → X) (l : List B) (lent table : List X) (i : ℕ) : Type 0 where
  pub written : table ≡ over (map f (take i l)) lent

module _ {B X : Type 0} {f : B → X} {l : List B} {lent : List X} where
  pub fill_none : (table : List X) → table ≡ lent → Filling f l lent table 0
  fill_none table e = record { written = e ∙ sym (over_none lent) }

  module _ {table : List X} {i : ℕ} (s : Filling f l lent table i) where
    pub fill_more : (x : X) (d : B) → i < length l → i < length lent → x ≡ f (get_or l i d) → Filling f l lent (set table i x) (i + 1)
    fill_more x d h k e =
        let done : length (map f (take i l)) ≡ i = length-map (take i l) f ∙ length-take-le i l (omega arith) in
        record {
          written =
              ap (λ (t : List X). set t i x) s.written
              ∙ over-more (map f (take i l)) lent i x done k
              ∙ ap (λ (r : List X). over r lent)
              (ap (λ (y : X). map f (take i l) ++ (y ∷ [])) e
              ∙ sym (map-append f (take i l) (get_or l i d ∷ []))
              ∙ ap (map f) (sym (take-suc l i d h) ∙ ap (λ (n : ℕ). take n l) (sym (add-one i))));
        }

    pub fill_end : length l ≤ i → table ≡ over (map f l) lent
    fill_end h = s.written ∙ ap (λ (r : List B). over (map f r) lent) (take_all i l h)

-- Numbers written at once

module _ {X : Type 0} where
  pub over-sets : (xs v lent : List X) (i : ℕ) → length xs ≡ i → i + length v ≤ length lent → sets (over xs lent) i v ≡ over (xs ++ v) lent
  over-sets xs [] lent i e h = ap (λ (r : List X). over r lent) (sym (append-nil xs))
  over-sets xs (x ∷ v) lent i e h =
      let n : length (xs ++ (x ∷ [])) ≡ suc i = length-append xs (x ∷ []) ∙ omega arith in
      ap (λ (r : List X). sets r (suc i) v) (over-more xs lent i x e (omega arith))
      ∙ over-sets (xs ++ (x ∷ [])) v lent (suc i) n (omega arith)
      ∙ ap (λ (r : List X). over r lent) (append_snoc xs x v)

  -- an entry more, as its numbers
  pub flat-more : {B : Type 0} (numbers : B → List X) (bs : List B) (b : B) (lent : List X) (i : ℕ) → length (flat numbers bs) ≡ i
      → i + length (numbers b) ≤ length lent → sets (over (flat numbers bs) lent) i (numbers b) ≡ over (flat numbers (bs ++ (b ∷ []))) lent
  unfolding flat
  flat-more numbers bs b lent i e h =
      over-sets (flat numbers bs) (numbers b) lent i e h
      ∙ ap (λ (r : List X). over r lent)
      (sym (flat_append numbers bs (b ∷ []) ∙ ap (λ (r : List X). flat numbers bs ++ r) (append-nil (numbers b))))
