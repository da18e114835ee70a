-- Floats tested, delays marked, and the marks of the pins given one after the other.
-- Assumes nothing.
use mathlib.Core.Path.{◌≡◌, refl, sym, ap, ◌∙◌}
use mathlib.Core.Bool.{Bool, true, false, ◌&&◌, ◌||◌}
use mathlib.Core.List.{List, [], ◌∷◌, ◌++◌, map, append_assoc, append-nil}
use Prim.Native.Nat.{ℕ, suc, ◌+◌, ◌-◌, ◌≤◌, ◌<◌}
use native.Mathlib.Omega.{arith}
use lib.ListN.{length, get_or, set, length-append}
use lib.Seq.{sets}
use lib.Ieee.{Float, nan, inf, fin, binary64, of_bits}
use Rattle.std.specs.Float.{float_is_finite}
use Rattle.std.specs.Prelude.{Some, None}
use Rattle.std.specs.Bool.{then_some}
use lib.Dec.{eqb}
use borrow.Author.Tests.{eq-eqb, ne_eqb, eqb-true, eqb-false}
use Rattle.lists.specs.Any.{any}
use Rattle.lists.proofs.TestLaws.{by, and_left, and_right}
use Rattle.lent.specs.Over.{over}
use Rattle.lent.proofs.OverLaws.{over_none, over-more}
use Rattle.floats.specs.Float.{zero, finite}
use Rattle.floats.specs.Mark.{Delay, marked, is_mark, finites, is_pin, pins_from, marks_from}

-- Tests

pub zero_bits : of_bits binary64 0 ≡ zero
unfolding of_bits
zero_bits = refl

-- the library's test
pub finite_same : (x : Float) → float_is_finite x ≡ finite x
unfolding float_is_finite finite
finite_same nan = refl
finite_same (inf s) = refl
finite_same (fin s m d) = refl

-- Marks

pub marked_same : (d : Float) → then_some (float_is_finite d) d ≡ marked d
unfolding marked
marked_same d = by (finite d) (λ e. rw (finite_same d, marked, e) refl) (λ e. rw (finite_same d, marked, e) refl)

put-finite : (x : Float) (k : ℕ) (lent : List Float)
    → (k + 1 ≡ k + length (finites (Some x ∷ []))) × (set lent k x ≡ sets lent k (finites (Some x ∷ [])))
unfolding finites
put-finite x k lent = (omega arith, refl)

put-mark : (k : ℕ) (lent : List Float) → (k ≡ k + length (finites (None ∷ []))) × (lent ≡ sets lent k (finites (None ∷ [])))
unfolding finites
put-mark k lent = (omega arith, refl)

finites-next : (d : Delay) (l : List Delay) → finites (d ∷ l) ≡ finites (d ∷ []) ++ finites l
unfolding finites
finites-next (Some x) l = refl
finites-next None l = refl

finites-few : (d : Delay) → length (finites (d ∷ [])) ≤ 1
unfolding finites
finites-few (Some x) = omega arith
finites-few None = omega arith

put-over : (d : Delay) (done lent : List Float) (k : ℕ) → length done ≡ k → k < length lent
    → sets (over done lent) k (finites (d ∷ [])) ≡ over (done ++ finites (d ∷ [])) lent
unfolding finites
put-over (Some x) done lent k e h = over-more done lent k x e h
put-over None done lent k e h = ap (λ (l : List Float). over l lent) (sym (append-nil done))

-- The pins, from number i on

module _ (pin : List ℕ) (i n : ℕ) (h : i < n) where
  step : n - i ≡ suc (n - (i + 1))
  step = omega arith

  pins-hit : get_or pin i 0 ≡ 1 → pins_from pin i (n - i) ≡ i ∷ pins_from pin (i + 1) (n - (i + 1))
  unfolding pins_from is_pin
  pins-hit e = rw (step, pins_from, eq-eqb (get_or pin i 0) 1 e) refl

  pins-miss : (get_or pin i 0 ≡ 1 → ⊥) → pins_from pin i (n - i) ≡ pins_from pin (i + 1) (n - (i + 1))
  unfolding pins_from is_pin
  pins-miss e = rw (step, pins_from, ne_eqb (get_or pin i 0) 1 e) refl

  module _ (table : List Float) where
    marks-hit : get_or pin i 0 ≡ 1
        → marks_from table pin i (n - i) ≡ marked (get_or table i nan) ∷ marks_from table pin (i + 1) (n - (i + 1))
    unfolding marks_from
    marks-hit e = ap (map (λ (q : ℕ). marked (get_or table q nan))) (pins-hit e)

    marks-miss : (get_or pin i 0 ≡ 1 → ⊥) → marks_from table pin i (n - i) ≡ marks_from table pin (i + 1) (n - (i + 1))
    unfolding marks_from
    marks-miss e = ap (map (λ (q : ℕ). marked (get_or table q nan))) (pins-miss e)

marks-end : (table : List Float) (pin : List ℕ) (i n : ℕ) → n ≤ i → marks_from table pin i (n - i) ≡ []
unfolding marks_from pins_from
marks-end table pin i n h = let z : n - i ≡ 0 = omega arith in rw z refl

marks-all : (table : List Float) (pin : List ℕ) (n : ℕ) → marks_from table pin 0 (n - 0) ≡ marks_from table pin 0 n
marks-all table pin n = let z : n - 0 ≡ n = omega arith in ap (marks_from table pin 0) z

-- The search for a mark: the whole search ≡ the search from here on

module _ (table : List Float) (pin : List ℕ) where
  pub mark-stop : (i n : ℕ) (all : Bool) → any is_mark (marks_from table pin i (n - i)) ≡ all → i < n
      → (is_pin pin i && is_mark (marked (get_or table i nan))) ≡ true → true ≡ all
  unfolding any is_pin
  mark-stop i n all g h e =
      let p : get_or pin i 0 ≡ 1 = eqb-true (get_or pin i 0) 1 (and_left (is_pin pin i) (is_mark (marked (get_or table i nan))) e) in
      let m : is_mark (marked (get_or table i nan)) ≡ true = and_right (is_pin pin i) (is_mark (marked (get_or table i nan))) e in
      sym (ap (any is_mark) (marks-hit pin i n h table p)
      ∙ ap (λ (b : Bool). b || any is_mark (marks_from table pin (i + 1) (n - (i + 1)))) m)
      ∙ g

  pub mark-next : (i n : ℕ) (all : Bool) → any is_mark (marks_from table pin i (n - i)) ≡ all → i < n
      → (is_pin pin i && is_mark (marked (get_or table i nan))) ≡ false → any is_mark (marks_from table pin (i + 1) (n - (i + 1))) ≡ all
  unfolding any is_pin
  mark-next i n all g h e =
      by (eqb (get_or pin i 0) 1)
      (λ t.
      let m : is_mark (marked (get_or table i nan)) ≡ false = ap (λ (b : Bool). b && is_mark (marked (get_or table i nan))) (sym t) ∙ e in
      sym (ap (any is_mark) (marks-hit pin i n h table (eqb-true (get_or pin i 0) 1 t))
      ∙ ap (λ (b : Bool). b || any is_mark (marks_from table pin (i + 1) (n - (i + 1)))) m)
      ∙ g)
      (λ t. sym (ap (any is_mark) (marks-miss pin i n h table (eqb-false (get_or pin i 0) 1 t))) ∙ g)

  pub mark-end : (i n : ℕ) (all : Bool) → any is_mark (marks_from table pin i (n - i)) ≡ all → n ≤ i → false ≡ all
  unfolding any
  mark-end i n all g h = sym (ap (any is_mark) (marks-end table pin i n h)) ∙ g

-- The delays given so far

pub record Filled (table : List Float) (pin : List ℕ) (n : ℕ) (lent₀ lent : List Float) (k i : ℕ) : Type 0 where
  pub done : List Float
  pub is : lent ≡ over done lent₀
  pub count : length done ≡ k
  pub all : done ++ finites (marks_from table pin i (n - i)) ≡ finites (marks_from table pin 0 n)
  pub room : k + length (pins_from pin i (n - i)) ≤ length (pins_from pin 0 n)

module _ (table : List Float) (pin : List ℕ) (n : ℕ) (lent₀ : List Float) where
  pub filled_none : Filled table pin n lent₀ lent₀ 0 0
  filled_none =
      let z : n - 0 ≡ n = omega arith in
      record {
        done = [];
        is = sym (over_none lent₀);
        count = refl;
        all = ap finites (marks-all table pin n);
        room = rw z (omega arith);
      }

  module _ (lent : List Float) (k i : ℕ) (f : Filled table pin n lent₀ lent k i) where
    pub filled-room : i < n → get_or pin i 0 ≡ 1 → length (pins_from pin 0 n) ≤ length lent₀ → k < length lent₀
    filled-room h e r = omega (arith, f.room, r, ap length (pins-hit pin i n h e))

    filled-hit : (d : Delay) (next : List Float) (j : ℕ) → i < n → get_or pin i 0 ≡ 1 → length (pins_from pin 0 n) ≤ length lent₀
        → d ≡ marked (get_or table i nan) → j ≡ k + length (finites (d ∷ [])) → next ≡ sets lent k (finites (d ∷ []))
        → Filled table pin n lent₀ next j (i + 1)
    filled-hit d next j h e r m c w = record {
      done = f.done ++ finites (d ∷ []);
      is = w ∙ ap (λ (l : List Float). sets l k (finites (d ∷ []))) f.is
          ∙ put-over d f.done lent₀ k f.count (filled-room h e r);
      count = length-append f.done (finites (d ∷ [])) ∙ omega (arith, f.count, c);
      all = append_assoc f.done (finites (d ∷ [])) (finites left)
          ∙ ap (λ (l : List Float). f.done ++ l) (sym (finites-next d left)
          ∙ ap finites (ap (λ (x : Delay). x ∷ left) m ∙ sym (marks-hit pin i n h table e)))
          ∙ f.all;
      room = omega (arith, f.room, c, finites-few d, ap length (pins-hit pin i n h e));
    }
      where
        left : List Delay
        left = marks_from table pin (i + 1) (n - (i + 1))

    pub filled-some : (x : Float) → i < n → get_or pin i 0 ≡ 1 → length (pins_from pin 0 n) ≤ length lent₀
        → Some x ≡ marked (get_or table i nan) → Filled table pin n lent₀ (set lent k x) (k + 1) (i + 1)
    filled-some x h e r m = let p = put-finite x k lent in filled-hit (Some x) (set lent k x) (k + 1) h e r m p.0 p.1

    pub filled-mark : i < n → get_or pin i 0 ≡ 1 → length (pins_from pin 0 n) ≤ length lent₀ → None ≡ marked (get_or table i nan)
        → Filled table pin n lent₀ lent k (i + 1)
    filled-mark h e r m = let p = put-mark k lent in filled-hit None lent k h e r m p.0 p.1

    pub filled-miss : i < n → (get_or pin i 0 ≡ 1 → ⊥) → Filled table pin n lent₀ lent k (i + 1)
    filled-miss h e = record {
      done = f.done;
      is = f.is;
      count = f.count;
      all = ap (λ (l : List Delay). f.done ++ finites l) (sym (marks-miss pin i n h table e)) ∙ f.all;
      room = omega (arith, f.room, ap length (pins-miss pin i n h e));
    }

    pub filled-end : n ≤ i → lent ≡ over (finites (marks_from table pin 0 n)) lent₀
    unfolding finites
    filled-end h =
        f.is
        ∙ ap (λ (l : List Float). over l lent₀)
        (sym (append-nil f.done)
        ∙ ap (λ (l : List Delay). f.done ++ finites l) (sym (marks-end table pin i n h))
        ∙ f.all)
