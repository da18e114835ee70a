-- Labels that no other point has: where the second end of an edge has such a one, taking the label of the first is all that joining the two
-- does. Above the greatest label of a first end so far every label is of that kind.
-- Assumes nothing.
use mathlib.Core.Path.{◌≡◌, refl, sym, ap, ◌∙◌}
use mathlib.Core.Bool.{true, ◌&&◌}
use mathlib.Core.List.{List, [], ◌∷◌}
use Prim.Native.Nat.{ℕ, zero, suc, ◌≤◌, ◌<◌, min, max}
use native.Mathlib.Omega.{arith}
use borrow.Author.Tests.{eqb-true, eqb-false, ltb-true, ltb-false}
use lib.Dec.{eqb, ltb}
use lib.ListN.{get_or, set}
use lib.Seq.{get_or-set_other, set-get_or}
use Rattle.lists.proofs.TestLaws.{by, and_left, and_right}
use Rattle.joined.specs.Table.{changed}
use Rattle.turned.specs.Steps.{up_to, set_up_to}
use Rattle.labels.specs.Labelling.{united, Own}
use Rattle.labels.proofs.CodeLaws.{changed-yes, changed-no, unite-less}
use Rattle.labels.proofs.LabelLaws.{set-above}

-- One entry

-- an entry that is written, where the table has it
set_here : (t : List ℕ) (i v : ℕ) → 0 < get_or (set t i v) i 0 → get_or (set t i v) i 0 ≡ v
set_here [] i v h = absurd (let z : ⊥ = omega (arith, h) in z)
set_here (x ∷ t) zero v h = refl
set_here (x ∷ t) (suc i) v h = set_here t i v h

set-again : (t : List ℕ) (i v : ℕ) → v ≡ get_or t i 0 → set t i v ≡ t
set-again t i v e = ap (λ (y : ℕ). set t i y) e ∙ set-get_or t i 0

-- Entries up to a number

module _ (f : ℕ → ℕ → ℕ) (t : List ℕ) where
  set-some : (n x : ℕ) → x < n → 0 < get_or (set_up_to f n t) x 0 → get_or (set_up_to f n t) x 0 ≡ f x (get_or t x 0)
  unfolding up_to
  set-some zero x h k = absurd (let z : ⊥ = omega arith in z)
  set-some (suc n) x h k =
      by (ltb x n)
      (λ e.
      let i = ltb-true x n e in
      let same = get_or-set_other (set_up_to f n t) n x (f n (get_or (set_up_to f n t) n 0)) 0 (λ j. let z : ⊥ = omega (arith, i, j) in z) in
      same ∙ set-some n x i (rw same at k))
      (λ e.
      let i : x ≡ n = omega (arith, ltb-false x n e) in
      rw i (set_here (set_up_to f n t) n _ (rw i at k) ∙ ap (f n) (set-above f t n n (omega arith))))

-- Labels of their own

pub own-numbered : (n : ℕ) (t u : List ℕ) → u ≡ set_up_to (λ i x. i) n t → Own n 0 u
own-numbered n t u e = rw e (record { own = λ c h k. set-some (λ i x. i) t n c h k })

-- joining leaves such labels, or gives one that is not above p
pub own-joined : (n p q top : ℕ) (t u : List ℕ) → u ≡ united n p q t → Own n top t → Own n (max top p) u
unfolding united
own-joined n p q top t u e o = rw e (record { own = own })
  where
    own : (c : ℕ) → c < n → max top p < get_or (set_up_to (λ i x. changed (min p q) (max p q) x) n t) c 0 →
        get_or (set_up_to (λ i x. changed (min p q) (max p q) x) n t) c 0 ≡ c
    own c h k =
        let x = get_or t c 0 in
        let is = set-some (λ i y. changed (min p q) (max p q) y) t n c h (omega (arith, k)) in
        by (eqb x (max p q))
        (λ g. absurd (let z : ⊥ = omega (arith, k, is, changed-yes (min p q) (max p q) x (eqb-true x (max p q) g)) in z))
        (λ g.
        let stays = changed-no (min p q) (max p q) x (eqb-false x (max p q) g) in
        is ∙ sym stays ∙ o.own c h (omega (arith, k, is, stays)))

-- Point b alone has the label b

module _ (n p b top : ℕ) (t : List ℕ) (o : Own n top t) (low : top < b) where
  -- no other among the first m has it
  none-changed : (m : ℕ) → m ≤ n → m ≤ b → set_up_to (λ i x. changed p b x) m t ≡ t
  unfolding up_to
  none-changed zero h k = refl
  none-changed (suc m) h k =
      rw (none-changed m (omega arith) (omega arith))
      (set-again t m (changed p b (get_or t m 0))
      (sym (changed-no p b (get_or t m 0) (λ e. let z : ⊥ = omega (arith, e, k, o.own m (omega arith) (omega (arith, e))) in z))))

  module _ (mine : get_or t b 0 ≡ b) where
    one-changed : (m : ℕ) → m ≤ n → b < m → set_up_to (λ i x. changed p b x) m t ≡ set t b p
    unfolding up_to
    one-changed zero h k = absurd (let z : ⊥ = omega arith in z)
    one-changed (suc m) h k =
        by (ltb b m)
        (λ e.
        let i = ltb-true b m e in
        let same = get_or-set_other t b m p 0 (λ j. let z : ⊥ = omega (arith, i, j) in z) in
        rw (one-changed m (omega arith) i)
        (set-again (set t b p) m (changed p b (get_or (set t b p) m 0))
        (sym (changed-no p b (get_or (set t b p) m 0)
        (λ g. let z : ⊥ = omega (arith, g, same, i, o.own m (omega arith) (omega (arith, g, same))) in z)))))
        (λ e.
        let i : m ≡ b = omega (arith, ltb-false b m e) in
        rw (none-changed m (omega arith) (omega arith), i)
        (ap (λ (y : ℕ). set t b y) (sym (changed-yes p b (get_or t b 0) mine))))

    lone-takes : b < n → p < b → set t b p ≡ united n p (get_or t b 0) t
    lone-takes h k = rw mine (unite-less n p b t (set t b p) k (sym (one-changed n (omega arith) h)))

-- by the code's test
pub lone-united : (n p b top : ℕ) (t : List ℕ) → Own n top t →
    (eqb (get_or t b 0) b && (ltb b n && (ltb p b && ltb top b))) ≡ true → set t b p ≡ united n p (get_or t b 0) t
lone-united n p b top t o e =
    let q = eqb (get_or t b 0) b in
    let more = and_right q (ltb b n && (ltb p b && ltb top b)) e in
    let last = and_right (ltb b n) (ltb p b && ltb top b) more in
    lone-takes n p b top t o (ltb-true top b (and_right (ltb p b) (ltb top b) last))
    (eqb-true (get_or t b 0) b (and_left q (ltb b n && (ltb p b && ltb top b)) e))
    (ltb-true b n (and_left (ltb b n) (ltb p b && ltb top b) more)) (ltb-true p b (and_left (ltb p b) (ltb top b) last))
