-- Masks by their numbers: a mask of one pin is a power of two and has no parts, that of all pins is the last, and a part of a number is a
-- mask with its rest.
-- Assumes nothing.
use mathlib.Core.Path.{◌≡◌, refl, sym, subst, ◌∙◌}
use mathlib.Core.Bool.{Bool, true, false}
use mathlib.Core.List.Memᴰ
use mathlib.Core.List.{List, [], ◌∷◌}
use Prim.Native.Nat.{ℕ, zero, suc, ◌+◌, ◌*◌, ◌^◌, ◌≤◌, ◌<◌}
use native.Mathlib.Decide.{ℕ_discrete}
use native.Mathlib.Nat.{two-pow-succ}
use native.Mathlib.Omega.{arith}
use lib.ListN.{length, get_or}
use Rattle.lists.specs.Member.{◌∈◌, here, there, Once}
use Rattle.lists.specs.Those.{those}
use Rattle.lists.proofs.TestLaws.{either}
use Rattle.best.specs.Masks.{chosen}
use Rattle.parts.specs.Numbers.{number, part_of}
use Rattle.parts.specs.Starts.{under, proper_part, sums}
use Rattle.parts.specs.Tables.{lone_pin}
use Rattle.best.proofs.StartLaws.{some_number, number-some}
use Rattle.parts.proofs.WorkLaws.{lone-one, lone-two, lone-three, lone-four, lone-none}
use Rattle.best.proofs.BestTree.{ones}

power-some : (i : ℕ) → 1 ≤ 2 ^ i
power-some zero = omega arith
power-some (suc i) = omega (arith, power-some i, two-pow-succ i)

module _ {A : Type 0} (none : A) where
  chosen-in : (bs : List Bool) (ps : List A) (p : A) → p ∈ chosen bs ps → p ∈ ps
  unfolding chosen
  chosen-in [] ps p m = elim m [ ]
  chosen-in (b ∷ bs) [] p m = elim m [ ]
  chosen-in (false ∷ bs) (q ∷ ps) p m = there (chosen-in bs ps p m)
  chosen-in (true ∷ bs) (q ∷ ps) p m = either (λ e. here e) (λ i. there (chosen-in bs ps p i)) (Memᴰ.cases_cons m)

  -- where all pins of a mask are at v, it is one pin
  pub record OnePin (bs : List Bool) (ps : List A) (v : A) : Type 0 where
    pub place : ℕ
    pub inside : place < length ps
    pub is : number bs ≡ 2 ^ place
    pub at : get_or ps place none ≡ v

  pub one-pin : (bs : List Bool) (ps : List A) → length bs ≡ length ps → Once ps → (v : A) → ((p : A) → p ∈ chosen bs ps → p ≡ v) →
      (q : A) → q ∈ chosen bs ps → OnePin bs ps v
  unfolding chosen number
  one-pin [] ps e o v h q m = elim m [ ]
  one-pin (b ∷ bs) [] e o v h q m = elim m [ ]
  one-pin (false ∷ bs) (p ∷ ps) e o v h q m =
      let r = one-pin bs ps (omega (arith, e)) o.1 v h q m in
      record {
        place = suc r.place;
        inside = omega (arith, r.inside);
        is = omega (arith, r.is, two-pow-succ r.place);
        at = r.at;
      }
  one-pin (true ∷ bs) (p ∷ ps) e o v h q m = record {
    place = zero;
    inside = omega arith;
    is = only (ℕ_discrete (number bs) 0);
    at = h p (here refl);
  }
    where
      only : Dec (number bs ≡ 0) → 1 + 2 * number bs ≡ 2 ^ 0
      only (yes z) = omega (arith, z)
      only (no n) =
          let s = number-some bs ps (omega (arith, e)) (omega (arith, n)) in
          let same : s.0 ≡ p = h s.0 (there s.1) ∙ sym (h p (here refl)) in
          absurd (o.0 (subst (λ (x : A). x ∈ ps) same (chosen-in bs ps s.0 s.1)))

  -- and the other way
  pub power-pin : (bs : List Bool) (ps : List A) → length bs ≡ length ps → (i : ℕ) → number bs ≡ 2 ^ i →
      (i < length ps) × ((p : A) → p ∈ chosen bs ps → p ≡ get_or ps i none)
  unfolding chosen number
  power-pin [] ps e i n = absurd (let z : ⊥ = omega (arith, n, power-some i) in z)
  power-pin (b ∷ bs) [] e i n = absurd (let z : ⊥ = omega (arith, e) in z)
  power-pin (true ∷ bs) (p ∷ ps) e zero n = (
    omega arith,
    λ q m. either (λ k. k) (λ k. absurd (let z : ⊥ = omega (arith, n, some_number bs ps q k) in z)) (Memᴰ.cases_cons m),
  )
  power-pin (true ∷ bs) (p ∷ ps) e (suc i) n = absurd (let z : ⊥ = omega (arith, n, two-pow-succ i) in z)
  power-pin (false ∷ bs) (p ∷ ps) e zero n = absurd (let z : ⊥ = omega (arith, n) in z)
  power-pin (false ∷ bs) (p ∷ ps) e (suc i) n =
      let r = power-pin bs ps (omega (arith, e)) i (omega (arith, n, two-pow-succ i)) in
      (omega (arith, r.0), r.1)

-- The lone pin by number

pub lone-power : (i : ℕ) → i < 4 → lone_pin (2 ^ i) ≡ i + 1
lone-power zero h = sym (lone-one (2 ^ 0) refl)
lone-power (suc zero) h = sym (lone-two (2 ^ 1) refl)
lone-power (suc (suc zero)) h = sym (lone-three (2 ^ 2) refl)
lone-power (suc (suc (suc zero))) h = sym (lone-four (2 ^ 3) refl)
lone-power (suc (suc (suc (suc i)))) h = absurd (let z : ⊥ = omega (arith, h) in z)

pub record LonePower (s : ℕ) : Type 0 where
  pub place : ℕ
  pub few : place < 4
  pub is : s ≡ 2 ^ place
  pub pin : lone_pin s ≡ place + 1

pub lone_is : (s : ℕ) → 1 ≤ lone_pin s → LonePower s
lone_is s h = at (ℕ_discrete s 1) (ℕ_discrete s 2) (ℕ_discrete s 4) (ℕ_discrete s 8)
  where
    at : Dec (s ≡ 1) → Dec (s ≡ 2) → Dec (s ≡ 4) → Dec (s ≡ 8) → LonePower s
    at (yes e) b c d = record { place = 0; few = omega arith; is = e; pin = sym (lone-one s e) }
    at (no a) (yes e) c d = record { place = 1; few = omega arith; is = e; pin = sym (lone-two s e) }
    at (no a) (no b) (yes e) d = record { place = 2; few = omega arith; is = e; pin = sym (lone-three s e) }
    at (no a) (no b) (no c) (yes e) = record { place = 3; few = omega arith; is = e; pin = sym (lone-four s e) }
    at (no a) (no b) (no c) (no d) = absurd (let z : ⊥ = omega (arith, h, lone-none s a b c d) in z)

-- a power of two has no parts
powers : (m i v : ℕ) (value : ℕ → ℕ → ℕ) → i < 4 → 2 ^ i < 2 ^ m → sums m value (2 ^ i) v ≡ []
unfolding sums proper_part part_of under those
powers m zero v value h k = refl
powers zero (suc zero) v value h k = absurd (let z : 2 < 1 = k in let y : ⊥ = omega (arith, z) in y)
powers (suc m) (suc zero) v value h k = refl
powers zero (suc (suc zero)) v value h k = absurd (let z : 4 < 1 = k in let y : ⊥ = omega (arith, z) in y)
powers (suc zero) (suc (suc zero)) v value h k = absurd (let z : 4 < 2 = k in let y : ⊥ = omega (arith, z) in y)
powers (suc (suc m)) (suc (suc zero)) v value h k = refl
powers zero (suc (suc (suc zero))) v value h k = absurd (let z : 8 < 1 = k in let y : ⊥ = omega (arith, z) in y)
powers (suc zero) (suc (suc (suc zero))) v value h k = absurd (let z : 8 < 2 = k in let y : ⊥ = omega (arith, z) in y)
powers (suc (suc zero)) (suc (suc (suc zero))) v value h k = absurd (let z : 8 < 4 = k in let y : ⊥ = omega (arith, z) in y)
powers (suc (suc (suc m))) (suc (suc (suc zero))) v value h k = refl
powers m (suc (suc (suc (suc i)))) v value h k = absurd (let z : ⊥ = omega (arith, h) in z)

pub lone-sums : (m s v : ℕ) (value : ℕ → ℕ → ℕ) → s < 2 ^ m → LonePower s → sums m value s v ≡ []
lone-sums m s v value h l =
    subst (λ (z : ℕ). sums m value z v ≡ []) (sym l.is)
    (powers m l.place v value l.few (subst (λ (z : ℕ). z < 2 ^ m) l.is h))

-- The mask of all pins is the last

pub ones-number : {A : Type 0} (ps : List A) → number (ones ps) + 1 ≡ 2 ^ length ps
unfolding ones number
ones-number [] = refl
ones-number (p ∷ ps) = omega (arith, ones-number ps, two-pow-succ (length ps))
