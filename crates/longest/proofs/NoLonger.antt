-- Longest edges from one tree to the next: where the ends of each old edge are joined in the new tree by edges no longer than it, no longest
-- edge between two old points has become longer. What the longest edges cost is no more on the way past a third point than on its two
-- halves; so by induction over what hangs on what.
-- Assumes nothing.
use mathlib.Core.Path.{◌≡◌, ap, ◌∙◌}
use mathlib.Core.List.{List}
use Prim.Native.Nat.{ℕ, zero, suc, ◌+◌, ◌-◌, ◌≤◌, ◌<◌}
use native.Mathlib.Omega.{arith}
use lib.Dec.{ltb}
use lib.ListN.{get_or}
use borrow.Author.Tests.{ltb-true, ltb-false}
use Rattle.lists.proofs.TestLaws.{by}
use Rattle.longest.specs.Longest.{wins, longer}
use Rattle.longest.specs.Hung.{Ties, onto_of, link_of, turn_of, top_of, Tied, Told, tall}
use Rattle.longest.proofs.LongestLaws.{longer-yes, longer-no}
use Rattle.longest.proofs.WinsLaws.{longer-first, longer-second}

-- the later of two, by their turns
pub later_of : {C : Type 0} (s : Ties) → Tied s → (v w : ℕ) → 0 < turn_of s v → (v ≡ w → C) → (turn_of s w < turn_of s v → C) →
    (turn_of s v < turn_of s w → C) → C
later_of s tied v w g same first second =
    by (ltb (turn_of s w) (turn_of s v)) (λ t. first (ltb-true _ _ t))
    (λ t. by (ltb (turn_of s v) (turn_of s w)) (λ q. second (ltb-true _ _ q))
    (λ q. same (tied.alone v w g (omega (arith, ltb-false (turn_of s w) (turn_of s v) t, ltb-false (turn_of s v) (turn_of s w) q)))))

pub longer-cost : (el : List ℕ) (k l x : ℕ) → get_or el k 0 ≤ x → get_or el l 0 ≤ x → get_or el (longer el k l) 0 ≤ x
longer-cost el k l x a b = by (wins el k l) (λ t. rw (← longer-yes el k l t) a) (λ t. rw (← longer-no el k l t) b)

module _ (el : List ℕ) (s : Ties) (tied : Tied s) (t : List ℕ) (told : Told el s t) where
  -- from v to what was hung before it
  pub step-cost : (v w : ℕ) → 0 < turn_of s w → turn_of s w < turn_of s v →
      (tall el t (onto_of s v) w ≤ tall el t v w) × (get_or el (link_of s v) 0 ≤ tall el t v w)
  step-cost v w g h =
      let p = top_of t (onto_of s v) w in
      let q = ap (λ (i : ℕ). get_or el i 0) (told.woven.step v w g h) in
      (omega (arith, q, (longer-first el p (link_of s v)).0), omega (arith, q, (longer-second el p (link_of s v)).0))

  pub step-most : (v w x : ℕ) → 0 < turn_of s w → turn_of s w < turn_of s v → tall el t (onto_of s v) w ≤ x → get_or el (link_of s v) 0 ≤ x →
      tall el t v w ≤ x
  step-most v w x g h a b =
      omega (arith, ap (λ (i : ℕ). get_or el i 0) (told.woven.step v w g h), longer-cost el (top_of t (onto_of s v) w) (link_of s v) x a b)

  pub even-cost : (v w : ℕ) → 0 < turn_of s v → 0 < turn_of s w → tall el t v w ≡ tall el t w v
  even-cost v w g h = ap (λ (i : ℕ). get_or el i 0) (told.woven.even v w g h)

  pub self-cost : (v : ℕ) → 0 < turn_of s v → tall el t v v ≡ 0
  self-cost v g = ap (λ (i : ℕ). get_or el i 0) (told.woven.self v g) ∙ told.none

  -- past a third point, where all turns together are at most f
  abbrev Past : ℕ → Type 0
  Past f = (i m j x : ℕ) → turn_of s i + (turn_of s m + turn_of s j) ≤ f → 0 < turn_of s i → 0 < turn_of s m → 0 < turn_of s j →
      tall el t i m ≤ x → tall el t m j ≤ x → tall el t i j ≤ x

  -- the first of the three is the last that was hung, or the third is, or the one between
  module _ (f : ℕ) (less : Past f) (i m j x : ℕ) (h : turn_of s i + (turn_of s m + turn_of s j) ≤ suc f) (a : 0 < turn_of s i)
      (b : 0 < turn_of s m) (c : 0 < turn_of s j) (p : tall el t i m ≤ x) (q : tall el t m j ≤ x) where
    past_first : turn_of s j < turn_of s i → turn_of s m < turn_of s i → tall el t i j ≤ x
    past_first l k =
        let up = tied.up i (omega (arith, b, k)) in
        let r = step-cost i m b k in
        step-most i j x c l
        (less (onto_of s i) m j x (omega (arith, h, up.1)) up.0 b c (omega (arith, r.0, p)) q) (omega (arith, r.1, p))

    past-third : turn_of s i < turn_of s j → turn_of s m < turn_of s j → tall el t i j ≤ x
    past-third l k =
        let up = tied.up j (omega (arith, b, k)) in
        let o = onto_of s j in
        let r = step-cost j m b k in
        let e = even-cost m j b c in
        let d = less i m o x (omega (arith, h, up.1)) a b up.0 p (omega (arith, r.0, q, e, even-cost m o b up.0)) in
        omega (
          arith,
          even-cost i j a c,
          step-most j i x a l (omega (arith, d, even-cost i o a up.0)) (omega (arith, r.1, q, e)),
        )

    past-between : turn_of s j < turn_of s m → turn_of s i < turn_of s m → tall el t i j ≤ x
    past-between l k =
        let up = tied.up m (omega (arith, a, k)) in
        let o = onto_of s m in
        less i o j x (omega (arith, h, up.1)) a up.0 c
        (omega (arith, (step-cost m i a k).0, p, even-cost i m a b, even-cost i o a up.0))
        (omega (arith, (step-cost m j c l).0, q))

    past_next : tall el t i j ≤ x
    past_next =
        later_of s tied i j a
        (λ e. omega (arith, self-cost i a, ap (tall el t i) e))
        (λ l.
        later_of s tied i m a (λ e. omega (arith, q, ap (λ (k : ℕ). tall el t k j) e)) (past_first l)
        (λ k. past-between (omega (arith, l, k)) k))
        (λ l.
        later_of s tied j m c (λ e. omega (arith, p, ap (tall el t i) e)) (past-third l)
        (λ k. past-between k (omega (arith, l, k))))

  past-in : (f : ℕ) → Past f
  past-in zero i m j x h a b c p q = absurd (let z : ⊥ = omega (arith, h, a) in z)
  past-in (suc f) i m j x h a b c p q = past_next f (past-in f) i m j x h a b c p q

  pub past : (i m j x : ℕ) → 0 < turn_of s i → 0 < turn_of s m → 0 < turn_of s j → tall el t i m ≤ x → tall el t m j ≤ x →
      tall el t i j ≤ x
  past i m j x = past-in (turn_of s i + (turn_of s m + turn_of s j)) i m j x (omega arith)

-- the old tree s, the new one s', in which an old point v has the number f v
module _ (el : List ℕ) (s : Ties) (tied : Tied s) (t : List ℕ) (told : Told el s t) (el' : List ℕ) (s' : Ties) (tied' : Tied s')
    (t' : List ℕ) (told' : Told el' s' t') (f : ℕ → ℕ) (hung : (v : ℕ) → 0 < turn_of s v → 0 < turn_of s' (f v))
    (calm : (v : ℕ) → 1 < turn_of s v → tall el' t' (f v) (f (onto_of s v)) ≤ get_or el (link_of s v) 0) where
  abbrev NoLonger : ℕ → Type 0
  NoLonger m = (v w : ℕ) → turn_of s v + turn_of s w ≤ m → 0 < turn_of s v → 0 < turn_of s w → tall el' t' (f v) (f w) ≤ tall el t v w

  down : (m : ℕ) → NoLonger m → (x y : ℕ) → turn_of s x + turn_of s y ≤ suc m → 0 < turn_of s x → 0 < turn_of s y →
      turn_of s y < turn_of s x → tall el' t' (f x) (f y) ≤ tall el t x y
  down m less x y d g k l =
      let up = tied.up x (omega (arith, k, l)) in
      let o = onto_of s x in
      let r = step-cost el s tied t told x y k l in
      past el' s' tied' t' told' (f x) (f o) (f y) (tall el t x y) (hung x g) (hung o up.0) (hung y k)
      (omega (arith, calm x (omega (arith, k, l)), r.1))
      (omega (arith, less o y (omega (arith, d, up.1)) up.0 k, r.0))

  no-longer-in : (m : ℕ) → NoLonger m
  no-longer-in zero v w h a b = absurd (let z : ⊥ = omega (arith, h, a) in z)
  no-longer-in (suc m) v w h a b =
      later_of s tied v w a
      (λ e. omega (arith, self-cost el' s' tied' t' told' (f v) (hung v a), ap (λ (i : ℕ). tall el' t' (f v) (f i)) e))
      (λ l. down m (no-longer-in m) v w (omega (arith, h)) a b l)
      (λ l. omega (
        arith,
        down m (no-longer-in m) w v (omega (arith, h)) b a l,
        even-cost el s tied t told v w a b,
        even-cost el' s' tied' t' told' (f v) (f w) (hung v a) (hung w b),
      ))

  pub no_longer : (v w : ℕ) → 0 < turn_of s v → 0 < turn_of s w → tall el' t' (f v) (f w) ≤ tall el t v w
  no_longer v w = no-longer-in (turn_of s v + turn_of s w) v w (omega arith)
