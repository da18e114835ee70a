-- Rows that start with the least sum over the parts of their mask's number start as the theory asks.
-- Assumes nothing.
use mathlib.Core.Path.{◌≡◌, refl, sym, ap, ap₂, subst, ◌∙◌}
use mathlib.Core.Bool.{Bool, true, false, ◌&&◌}
use mathlib.Core.Logic.{◌⊎◌, inl, inr}
use mathlib.Core.List.Memᴰ
use mathlib.Core.List.{List, [], ◌∷◌}
use Prim.Native.Nat.{ℕ, ◌+◌, ◌-◌, ◌^◌, ◌≤◌, ◌<◌, min}
use native.Mathlib.Omega.{arith}
use borrow.Author.Tests.{leb-true, le-leb, ltb-true, ltb-false}
use lib.Dec.{leb, ltb}
use lib.ListN.{length}
use Rattle.lists.specs.Member.{◌∈◌, here, there}
use Rattle.lists.specs.Those.{those}
use Rattle.lists.proofs.TestLaws.{by, either, and_left, and_right, and_both}
use Rattle.lists.proofs.MapLaws.{in_map, of_map}
use Rattle.lists.proofs.ThoseLaws.{in-those, of-those}
use Rattle.joined.specs.Joined.{Link}
use Rattle.grid.specs.Rows.{at, Held, Quiet}
use Rattle.best.specs.Masks.{chosen, Mask, Halves, Lone, Start, Filled}
use Rattle.parts.specs.Numbers.{number, bits_of, part_of}
use Rattle.parts.specs.Starts.{under, least, proper_part, sums}
use Rattle.parts.proofs.Under.{in-under, of-under}
use Rattle.best.proofs.NumberLaws.{bits-size, number-bits, bits-number, number_small, halves-sum, halves-part, part-halves}
use Rattle.grid.proofs.Spread.{NearOf, spread, spread-on, spread-off, spread-below, spread-quiet, spread-why}

-- The least of a list

least-le : (cap : ℕ) (l : List ℕ) (x : ℕ) → x ∈ l → least cap l ≤ x
unfolding least
least-le cap [] x m = elim m [ ]
least-le cap (y ∷ l) x m = either (λ e. omega (arith, e)) (λ i. omega (arith, least-le cap l x i)) (Memᴰ.cases_cons m)

pub least-in : (cap : ℕ) (l : List ℕ) → least cap l < cap → least cap l ∈ l
unfolding least
least-in cap [] h = absurd (let z : ⊥ = omega (arith, h) in z)
least-in cap (y ∷ l) h = by (ltb y (least cap l)) (λ e. here (omega (arith, ltb-true y (least cap l) e))) (λ e. later e (least-in cap l))
  where
    later : ltb y (least cap l) ≡ false → (least cap l < cap → least cap l ∈ l) → min y (least cap l) ∈ (y ∷ l)
    later e ih =
        let k : min y (least cap l) ≡ least cap l = omega (arith, ltb-false y (least cap l) e) in
        there (subst (λ (n : ℕ). n ∈ l) (sym k) (ih (omega (arith, h, k))))

-- A mask is not empty exactly when its number is above 0

module _ {A : Type 0} where
  pub some_number : (bs : List Bool) (ps : List A) (p : A) → p ∈ chosen bs ps → 1 ≤ number bs
  unfolding chosen number
  some_number [] ps p m = elim m [ ]
  some_number (b ∷ bs) [] p m = elim m [ ]
  some_number (true ∷ bs) (q ∷ ps) p m = omega arith
  some_number (false ∷ bs) (q ∷ ps) p m = omega (arith, some_number bs ps p m)

  pub number-some : (bs : List Bool) (ps : List A) → length bs ≡ length ps → 1 ≤ number bs → (p : A) × (p ∈ chosen bs ps)
  unfolding chosen number
  number-some [] ps e h = absurd (let z : ⊥ = omega (arith, h) in z)
  number-some (b ∷ bs) [] e h = absurd (let z : ⊥ = omega arith in z)
  number-some (true ∷ bs) (q ∷ ps) e h = (q, here refl)
  number-some (false ∷ bs) (q ∷ ps) e h = number-some bs ps (omega arith) (omega (arith, h))

  -- the mask of a number
  unfoldable pub mask-of : (pins : List A) (n : ℕ) → 1 ≤ n → n < 2 ^ length pins → Mask pins
  mask-of pins n h k =
      let s = number-some (bits_of (length pins) n) pins (bits-size (length pins) n) (rw (number-bits (length pins) n k) h) in
      record { bits = bits_of (length pins) n; size = bits-size (length pins) n; pin = s.0; some = s.1 }

  pub mask_of-number : (pins : List A) (n : ℕ) (h : 1 ≤ n) (k : n < 2 ^ length pins) → number (mask-of pins n h k).bits ≡ n
  unfolding mask-of
  mask_of-number pins n h k = number-bits (length pins) n k

-- A part of a mask's number, and its rest, as masks

pub record Parts {A : Type 0} (pins : List A) (S : Mask pins) (p : ℕ) : Type 0 where
  pub first : Mask pins
  pub second : Mask pins
  pub first-is : number first.bits ≡ p
  pub second_is : number second.bits ≡ number S.bits - p
  pub halves : Halves S.bits first.bits second.bits

pub mask-parts : {A : Type 0} (pins : List A) (S : Mask pins) (p : ℕ) → 1 ≤ p → p < number S.bits →
    part_of (length pins) p (number S.bits) ≡ true → Parts pins S p
unfolding mask-of
mask-parts pins S p one less part =
    let s = number S.bits in
    let small : s < 2 ^ length pins = subst (λ (m : ℕ). s < 2 ^ m) S.size (number_small S.bits) in
    let bits : bits_of (length pins) s ≡ S.bits = subst (λ (m : ℕ). bits_of m s ≡ S.bits) S.size (bits-number S.bits) in
    let P = mask-of pins p one (omega (arith, less, small)) in
    let Q = mask-of pins (s - p) (omega (arith, less)) (omega (arith, less, small)) in
    record {
      first = P;
      second = Q;
      first-is = mask_of-number pins p one (omega (arith, less, small));
      second_is = mask_of-number pins (s - p) (omega (arith, less)) (omega (arith, less, small));
      halves = subst (λ (l : List Bool). Halves l P.bits Q.bits) bits (part-halves (length pins) p s part (omega (arith, less)));
    }

-- The start of a row

module _ {A : Type 0} (G : List (A × A)) (d : A → A → ℕ) (cap : ℕ) (on : A → Bool) (name : A → ℕ) (pins : List A) (table : ℕ → List ℕ) where
  -- the table's rows as a table by place
  abbrev pub T : Mask pins → A → ℕ
  T S v = spread G d cap on name (table (number S.bits)) v

  abbrev sums_at : Mask pins → A → List ℕ
  sums_at S v = sums (length pins) (λ p u. at (table p) u) (number S.bits) (name v)

  -- what a program's start row is at v: 0 at a lone pin, and else the least sum
  pub record Begins (S : Mask pins) (v : A) (n : ℕ) : Type 0 where
    pub lone : Lone pins S v → n ≡ 0
    pub low : on v ≡ true → n ≤ least cap (sums_at S v)
    pub why : n < cap → (Lone pins S v × (n ≡ 0)) ⊎ ((on v ≡ true) × (n ≡ least cap (sums_at S v)))

  module _ (S : Mask pins) (v : A) where
    abbrev s : ℕ
    s = number S.bits

    -- two halves are among the sums
    pub in-sums : on v ≡ true → (P Q : Mask pins) → Halves S.bits P.bits Q.bits → (T P v + T Q v) ∈ sums_at S v
    unfolding sums proper_part
    in-sums e P Q h =
        let p = number P.bits in
        let sum = halves-sum h in
        let one : 1 ≤ p = some_number P.bits pins P.pin P.some in
        let two : 1 ≤ number Q.bits = some_number Q.bits pins Q.pin Q.some in
        let part : part_of (length pins) p s ≡ true = subst (λ (m : ℕ). part_of m p s ≡ true) S.size (halves-part h) in
        let rest : s - p ≡ number Q.bits = omega (arith, sum) in
        let is : T P v + T Q v ≡ at (table p) (name v) + at (table (s - p)) (name v) =
        ap₂ ◌+◌ (spread-on G d cap on name (table p) v e)
        (spread-on G d cap on name (table (number Q.bits)) v e ∙ ap (λ (k : ℕ). at (table k) (name v)) (sym rest)) in
        Memᴰ.cast is
        (in_map (λ (p : ℕ). at (table p) (name v) + at (table (s - p)) (name v))
        (in-those (λ (p : ℕ). leb 1 p && part_of (length pins) p s) (under s) (in-under s p (omega (arith, sum, two))) (and_both _ _
        (le-leb 1 p one) part)))

    -- a sum is that of two halves
    pub record Sum (n : ℕ) : Type 0 where
      pub first : Mask pins
      pub second : Mask pins
      pub halves : Halves S.bits first.bits second.bits
      pub is : n ≡ T first v + T second v

    of_part : on v ≡ true → (p : ℕ) → 1 ≤ p → p < s → part_of (length pins) p s ≡ true → Sum
        (at (table p) (name v) + at (table (s - p)) (name v))
    of_part e p one less part =
        let c = mask-parts pins S p one less part in
        record {
          first = c.first;
          second = c.second;
          halves = c.halves;
          is = ap₂ ◌+◌ (value c.first p c.first-is) (value c.second (s - p) c.second_is);
        }
      where
        value : (P : Mask pins) (p : ℕ) → number P.bits ≡ p → at (table p) (name v) ≡ T P v
        value P p k = sym (spread-on G d cap on name (table (number P.bits)) v e ∙ ap (λ (n : ℕ). at (table n) (name v)) k)

    sum-cast : {n k : ℕ} → n ≡ k → Sum k → Sum n
    sum-cast e x = record { first = x.first; second = x.second; halves = x.halves; is = e ∙ x.is }

    of-sums : on v ≡ true → (n : ℕ) → n ∈ sums_at S v → Sum n
    unfolding sums proper_part
    of-sums e n m =
        let r = of_map (λ (p : ℕ). at (table p) (name v) + at (table (s - p)) (name v)) (those (λ (p : ℕ). leb 1 p && part_of
        (length pins) p s) (under s)) m in
        let p = r.entry in
        let t = of-those (λ (p : ℕ). leb 1 p && part_of (length pins) p s) (under s) r.stands in
        sum-cast r.is
        (of_part e p (leb-true 1 p (and_left _ (part_of (length pins) p s) t.1)) (of-under s p t.0) (and_right (leb 1 p) _ t.1))

    pub begins-start : (n : ℕ) → Begins S v n → Start pins G d cap T S v n
    begins-start n b = record {
      at_pin = b.lone;
      at_split = λ P Q h low. by (on v)
          (λ e. omega (arith, b.low e, least-le cap (sums_at S v) (T P v + T Q v) (in-sums e P Q h)))
          (λ e. let z : ⊥ = omega (arith, low, spread-off G d cap on name (table (number P.bits)) v e) in absurd z);
      why = λ low. either inl
          (λ r. let x = of-sums r.0 n (subst (λ (k : ℕ). k ∈ sums_at S v) (sym r.1) (least-in cap (sums_at S v) (omega (
            arith,
            low,
            r.1,
          )))) in
          inr (x.first, (x.second, (x.halves, x.is)))) (b.why low);
    }

  pub some : (S : Mask pins) → 1 ≤ number S.bits
  some S = some_number S.bits pins S.pin S.some

  pub small : (S : Mask pins) → number S.bits < 2 ^ length pins
  small S = subst (λ (m : ℕ). number S.bits < 2 ^ m) S.size (number_small S.bits)

  -- a row settled from a start that is 0 at a lone pin and else the least sum
  pub record RowOf (S : Mask pins) : Type 0 where
    pub start : List ℕ
    pub held : Held (NearOf G d cap on name) start (table (number S.bits))
    pub quiet : Quiet (NearOf G d cap on name) (table (number S.bits))
    pub begun : (v : A) → Begins S v (spread G d cap on name start v)

  -- such rows for all masks are a filled table
  module _ (single : (a b : A) → on a ≡ true → on b ≡ true → name a ≡ name b → a ≡ b)
      (ends_on : (a b : A) → Link G a b → (on a ≡ true) × (on b ≡ true)) (row : (S : Mask pins) → RowOf S) where
    pub table_filled : Filled pins G d cap T
    table_filled = record {
      start = λ S v. spread G d cap on name (row S).start v;
      starts = λ S v. begins-start S v _ ((row S).begun v);
      below = λ S v. spread-below G d cap on name single ends_on _ _ (row S).held v;
      settled = λ S v w l low. spread-quiet G d cap on name single ends_on _ _ (row S).held (row S).quiet v w l;
      held = λ S v low. spread-why G d cap on name single ends_on _ _ (row S).held v low;
    }
