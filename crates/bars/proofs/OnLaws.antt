-- The test of a label is the test for a bar's points: whichever side of its direction it moves to.
-- Assumes nothing.
use mathlib.Core.Path.{◌≡◌, refl, sym, ap, ap₂, ◌∙◌}
use mathlib.Core.Bool.{Bool, true, false}
use mathlib.Core.List.Memᴰ
use mathlib.Core.List.{List}
use Prim.Native.Nat.{ℕ, zero, suc, ◌≤◌, ◌<◌}
use native.Mathlib.Decide.{ℕ_discrete}
use native.Mathlib.Omega.{arith}
use borrow.Author.Tests.{eqb-true, eqb-false, eq-eqb, ne_eqb, ltb-true, ltb-false}
use lib.Dec.{eqb, ltb}
use lib.IntN.{ℤ}
use lib.ListN.{get_or}
use Rattle.lists.specs.Member.{◌∈◌, here, there}
use Rattle.lists.specs.Those.{those}
use Rattle.lists.proofs.TestLaws.{by, differ, either}
use Rattle.lists.proofs.ThoseLaws.{in-those, of-those}
use Rattle.plane.specs.declared.Place.{Place}
use Rattle.plane.specs.Place.{before, same_place}
use Rattle.plane.specs.Flat.{place_at}
use Rattle.plane.specs.Rank.{InOrder}
use Rattle.plane.proofs.Fits.{PlaceFits}
use Rattle.plane.proofs.PlaceLaws.{same_true, same_refl, before-irrefl}
use Rattle.joined.specs.Labels.{equal, labels}
use Rattle.joined.proofs.JoinedLaws.{firsts, seconds}
use Rattle.joined.proofs.LabelLaws.{equal-true, equal-false}
use Rattle.slide.specs.declared.Side.{Side}
use Rattle.slide.specs.declared.Side.TheVariants.{Above, Below, Right, Left}
use Rattle.slide.specs.Side.{across}
use Rattle.slide.specs.Bend.{Edge}
use Rattle.slide.specs.Bar.{same, level, on_bar}
use Rattle.slide.proofs.LabelledBars.{on-by-labels}
use Rattle.straight.specs.Table.{run, first_end, second_end, edge_at, edges_in}
use Rattle.straight.proofs.RunLaws.{in-run, of-run}
use Rattle.turned.specs.Steps.{up_to}
use Rattle.turned.specs.Turned.{view, level_at}
use Rattle.moves.specs.Moving.{chosen, seat_of, opposite}
use Rattle.turned.proofs.RaisedLaws.{raised-eq, negated}
use Rattle.turned.proofs.SeenLaws.{across-high, Sees}
use Rattle.labels.proofs.LabelLaws.{level_pairs, Labelled}

-- Numbers of places

module _ (pts : List ℤ) (n : ℕ) (ordered : InOrder pts n) where
  pub other_place : (i j : ℕ) → i < n → j < n → (i ≡ j → ⊥) → same_place (place_at pts i) (place_at pts j) ≡ false
  other_place i j h k d =
      by (same_place (place_at pts i) (place_at pts j))
      (λ e.
      let q = same_true (place_at pts i) (place_at pts j) e in
      by (ltb i j)
      (λ l. differ (ap (λ (p : Place). before p (place_at pts j)) (sym q) ∙ ordered i j (ltb-true i j l) k) (before-irrefl (place_at pts j)))
      (λ l. differ (ap (before (place_at pts j)) (sym q)
      ∙ ordered j i (let z = ltb-false i j l in by (eqb i j) (λ g. absurd (d (eqb-true i j g)))
      (λ g. let w = eqb-false i j g in omega (arith, z, w))) h)
      (before-irrefl (place_at pts j))))
      (λ e. e)

  seat-from : (u m : ℕ) → u < n → u < m → m ≤ n → up_to (λ i x. chosen (same_place (place_at pts u) (place_at pts i)) i x) m 0 ≡ u
  unfolding up_to chosen
  seat-from u zero h l g = absurd (let z : ⊥ = omega arith in z)
  seat-from u (suc m) h l g =
      by (eqb m u)
      (λ e. let q = eqb-true m u e in rw q (rw (same_refl (place_at pts u)) refl))
      (λ e.
      let d = eqb-false m u e in
      rw (other_place u m h (omega arith) (λ k. d (sym k))) (seat-from u m h (omega (arith, d, l)) (omega arith)))

  pub seat-is : (u : ℕ) → u < n → seat_of pts n (place_at pts u) ≡ u
  unfolding seat_of
  seat-is u h = seat-from u n h h (omega arith)

-- Level edges as pairs

equal-eqb : (x y : ℕ) → equal ℕ_discrete x y ≡ eqb y x
equal-eqb x y =
    by (equal ℕ_discrete x y)
    (λ e. e ∙ sym (eq-eqb y x (sym (equal-true ℕ_discrete x y e))))
    (λ e. e ∙ sym (ne_eqb y x (λ k. equal-false ℕ_discrete x y e (sym k))))

module _ (s : Side) (pts : List ℤ) (ks : List ℕ) (n e : ℕ)
    (within : (k : ℕ) → k < e → (first_end (get_or ks k 0) < n) × (second_end (get_or ks k 0) < n))
    (fits : (i : ℕ) → i < n → PlaceFits (place_at pts i)) where
  pub level-at : (k : ℕ) → k < e → level s (edge_at pts ks k) ≡ level_at s pts ks k
  unfolding level level_at
  level-at k h =
      raised-eq _ _ (across-high s _ (fits _ (within k h).0)) (across-high s _ (fits _ (within k h).1))

  -- the level edge of a pair, among the first k
  pub record Pair (k u w : ℕ) : Type 0 where
    pub number : ℕ
    pub low : number < k
    pub is-level : level_at s pts ks number ≡ true
    pub first : u ≡ first_end (get_or ks number 0)
    pub second : w ≡ second_end (get_or ks number 0)

  pub of-pairs : (k u w : ℕ) → (u, w) ∈ level_pairs s pts ks k → Pair k u w
  unfolding level_pairs
  of-pairs zero u w m = elim m [ ]
  of-pairs (suc k) u w m =
      by (level_at s pts ks k)
      (λ g. either (λ q. record { number = k; low = omega arith; is-level = g; first = firsts q; second = seconds q })
      (λ i. further (of-pairs k u w i)) (Memᴰ.cases_cons (rw (level_pairs, g) at m)))
      (λ g. further (of-pairs k u w (rw (level_pairs, g) at m)))
    where
      further : Pair k u w → Pair (suc k) u w
      further r = record { number = r.number; low = omega (arith, r.low); is-level = r.is-level; first = r.first; second = r.second }

  in_pairs : (k j : ℕ) → j < k → level_at s pts ks j ≡ true → (first_end (get_or ks j 0), second_end (get_or ks j 0)) ∈ level_pairs s pts ks k
  unfolding level_pairs
  in_pairs zero j h g = absurd (let z : ⊥ = omega arith in z)
  in_pairs (suc k) j h g =
      by (eqb j k)
      (λ q. let z = eqb-true j k q in rw z (let y : level_at s pts ks k ≡ true = ap (level_at s pts ks) (sym z) ∙ g in
      rw (level_pairs, y) (here refl)))
      (λ q.
      let d = eqb-false j k q in
      let i = in_pairs k j (omega (arith, d, h)) g in
      by (level_at s pts ks k) (λ y. rw (level_pairs, y) (there i)) (λ y. rw (level_pairs, y) i))

  module _ (ordered : InOrder pts n) (t : List ℕ) (r : Labelled s pts ks n e t) where
    abbrev T : List Edge
    T = edges_in pts ks e

    abbrev X : List ℕ
    X = run (λ i. i) 0 n

    abbrev pair_at : ℕ → ℕ → Place × Place
    pair_at u w = (place_at pts u, place_at pts w)

    below : (u : ℕ) → u < n → u ∈ X
    below u h = in-run (λ i. i) n 0 u (omega arith) (omega arith)

    inside : (u w : ℕ) → (u, w) ∈ level_pairs s pts ks e → (u ∈ X) × (w ∈ X)
    inside u w m =
        let p = of-pairs e u w m in
        let i = within p.number p.low in
        (below u (let z = p.first in omega (arith, z, i)), below w (let z = p.second in omega (arith, z, i)))

    forth : (u w : ℕ) → (u, w) ∈ level_pairs s pts ks e → (place_at pts u, place_at pts w) ∈ those (level s) T
    forth u w m =
        let p = of-pairs e u w m in
        let i = in-those (level s) T (in-run (edge_at pts ks) e 0 p.number (omega arith) (omega (arith, p.low)))
        (level-at p.number p.low ∙ p.is-level) in
        Memᴰ.cast (ap₂ pair_at p.first p.second) i

    back : (a b : Place) → (a, b) ∈ those (level s) T
        → (u : ℕ) × ((w : ℕ) × (((u, w) ∈ level_pairs s pts ks e) × ((a ≡ place_at pts u) × (b ≡ place_at pts w))))
    back a b m =
        let i = of-those (level s) T m in
        let p = of-run (edge_at pts ks) e 0 (a, b) i.0 in
        let l : p.number < e = omega (arith, p.high) in
        let g : level_at s pts ks p.number ≡ true = sym (level-at p.number l) ∙ ap (level s) (sym p.is) ∙ i.1 in (
          first_end (get_or ks p.number 0),
          (second_end (get_or ks p.number 0), (in_pairs e p.number l g, (firsts p.is, seconds p.is))),
        )

    undone : (u : ℕ) → u ∈ X → seat_of pts n (place_at pts u) ≡ u
    undone u m = let p = of-run (λ i. i) n 0 u m in seat-is pts n ordered u (let z = p.is in omega (arith, z, p.high))

    pub on-is : (a i : ℕ) → a < n → i < n → on_bar s T (place_at pts a) (place_at pts i) ≡ eqb (get_or t i 0) (get_or t a 0)
    on-is a i h k =
        on-by-labels ℕ_discrete (place_at pts) X (level_pairs s pts ks e) s T inside forth back r.label r.labels (seat_of pts n) undone a
        i (below a h) (below i k)
        ∙ equal-eqb (r.label a) (r.label i)
        ∙ sym (ap₂ eqb (r.holds i k) (r.holds a h))

    -- the tables as the bar of the point a sees them
    pub sees : (a : ℕ) → a < n → Sees (view pts ks t s (get_or t a 0)) n e (on_bar s T (place_at pts a))
    sees a h = record { is = λ i k. on-is a i h k; within = within; fits = fits }

-- The other side

pub level-opposite : (s : Side) (x : Edge) → level (opposite s) x ≡ level s x
unfolding level across opposite
level-opposite Above x = negated x.0.y x.1.y
level-opposite Below x = sym (negated x.0.y x.1.y)
level-opposite Right x = negated x.0.x x.1.x
level-opposite Left x = sym (negated x.0.x x.1.x)

pub on-opposite : (s : Side) (T : List Edge) (a p : Place) → on_bar (opposite s) T a p ≡ on_bar s T a p
unfolding on_bar
on-opposite s T a p =
    ap (λ (f : Edge → Bool). let label = labels same (those f T) in equal same (label a) (label p)) (λ i x. level-opposite s x i)
