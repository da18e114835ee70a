-- The points that level edges join with a point of a level edge are a bar; and a distance that passes the test is allowed for it.
-- Assumes nothing.
use mathlib.Core.Path.{◌≡◌, refl, sym, ap, ◌∙◌}
use mathlib.Core.Bool.{Bool, true, false, not, ◌&&◌, ◌||◌}
use mathlib.Core.Logic.{◌⊎◌, inl, inr}
use mathlib.Core.List.Memᴰ
use mathlib.Core.List.{List, [], ◌∷◌}
use Prim.Native.Nat.{ℕ, zero, suc, ◌+◌, ◌≤◌}
use native.Mathlib.Omega.{arith}
use borrow.Author.Tests.{eqb-true, eqb-false}
use lib.Dec.{eqb}
use lib.IntN.{ℤ}
use lib.Signed.{lt_z, le_z}
use Rattle.lists.specs.Any.{any}
use Rattle.lists.specs.Member.{◌∈◌, here, there}
use Rattle.lists.specs.Those.{those}
use Rattle.lists.proofs.TestLaws.{by, differ, either, not-true, and_left, and_right, and_both}
use Rattle.lists.proofs.AnyLaws.{any_none}
use Rattle.lists.proofs.MapLaws.{in_map, of_map}
use Rattle.lists.proofs.ThoseLaws.{in-those, of-those}
use Rattle.signed.specs.Sides.{up, down, Lt, Le}
use Rattle.signed.specs.Order.{z_min, z_max}
use Rattle.signed.proofs.SideLaws.{z_lt-true, z_lt-false, lt-z_lt, le-z_le, signed}
use Rattle.signed.proofs.OrderLaws.{min-sides, max-sides, min_self, max_self}
use Rattle.plane.specs.declared.Place.{Place}
use Rattle.plane.specs.Place.{before, same_place}
use Rattle.plane.specs.Macro.{clear}
use Rattle.plane.specs.Box.{Between, InBox}
use Rattle.plane.proofs.DistanceLaws.{apart-ordered, apart-comm}
use Rattle.plane.proofs.PlaceLaws.{same_true}
use Rattle.plane.proofs.PlaceOrder.{place-order}
use Rattle.joined.specs.Joined.{Link, Joined, Inside}
use Rattle.joined.specs.Labels.{equal, labels}
use Rattle.joined.proofs.JoinedLaws.{constant, joined-inside}
use Rattle.joined.proofs.LabelLaws.{equal-true, labelled, same-joined}
use Rattle.net.specs.Net.{Net}
use Rattle.slide.specs.declared.Side.{Side}
use Rattle.slide.specs.Side.{along, across, moved}
use Rattle.slide.specs.Bend.{Edge, taken}
use Rattle.slide.specs.Bar.{same, level, on_bar, ahead, far, long, least, shortest, far_ends, first_of, last_of}
use Rattle.slide.specs.Sweep.{low_corner, high_corner, boxes_meet, first_place, last_place, swept, point_bars, edge_bars, allowed, greatest}
use Rattle.slide.specs.Bars.{IsBar, FarEnd, Allowed}
use Rattle.slide.specs.Promise.{Straight}
use Rattle.slide.proofs.AcrossLaws.{along-moved, in-box, upright-or-level, level-true, true-level, before-along}

-- The bar of a point

module _ (s : Side) (net : Net) (X : List Place) (T : List Edge) (a : Place) where
  abbrev flat_edges : List Edge
  flat_edges = those (level s) T

  pub on-joined : (p : Place) → on_bar s T a p ≡ true → Joined flat_edges a p
  unfolding on_bar
  on-joined p e = same-joined (labelled same flat_edges) a p (equal-true same _ _ e)

  pub is-bar : Inside X T → a ∈ X → any (on_bar s T a) net.pins ≡ false → IsBar s net X T (on_bar s T a)
  unfolding on_bar
  is-bar inside stands none = record {
    height = across s a;
    flat = λ p e. sym (constant (across s) (λ u v m. level-true s u v (of-those (level s) T m).1) (on-joined p e));
    inside = λ p e. joined-inside (λ u v m. inside u v (of-those (level s) T m).0) (on-joined p e) stands;
    closed = λ u v m e.
        ap (equal same (labels same flat_edges a)) ((labelled same flat_edges).ends u v (in-those (level s) T m (true-level s u v e)));
    free = λ p m. any_none (on_bar s T a) net.pins none p m;
  }

-- The first and the last of some places

never-before : (a b c : Place) → before a b ≡ false → before b c ≡ false → before a c ≡ false
never-before a b c h k =
    by (before a c)
    (λ e. by (before c b)
    (λ f. differ (place-order.along a c b e f) h)
    (λ f. differ (rw (place-order.tie b c k f) e) h))
    (λ e. e)

-- it is one of them
pub first_one : (a : Place) (l : List Place) → first_of a l ∈ (a ∷ l)
unfolding first_of
first_one a [] = here refl
first_one a (p ∷ l) =
    by (before p a)
    (λ e. rw (first_of, e) (there (first_one p l)))
    (λ e. rw (first_of, e) (either (λ k. here k) (λ m. there (there m)) (Memᴰ.cases_cons (first_one a l))))

pub last_one : (a : Place) (l : List Place) → last_of a l ∈ (a ∷ l)
unfolding last_of
last_one a [] = here refl
last_one a (p ∷ l) =
    by (before a p)
    (λ e. rw (last_of, e) (there (last_one p l)))
    (λ e. rw (last_of, e) (either (λ k. here k) (λ m. there (there m)) (Memᴰ.cases_cons (last_one a l))))

-- none is before the first
pub first-least : (a : Place) (l : List Place) (p : Place) → p ∈ (a ∷ l) → before p (first_of a l) ≡ false
unfolding first_of
first-least a [] p m = either (λ k. rw k (place-order.never a)) (λ i. elim i [ ]) (Memᴰ.cases_cons m)
first-least a (q ∷ l) p m =
    by (before q a)
    (λ e. let head = first-least q l q (here refl) in
    rw (first_of, e)
    (either
    (λ k. rw k (never-before a q (first_of q l) (by (before a q) (λ g. differ (place-order.along a q a g e) (place-order.never a))
    (λ g. g)) head))
    (first-least q l p)
    (Memᴰ.cases_cons m)))
    (λ e. let head = first-least a l a (here refl) in
    rw (first_of, e)
    (either
    (λ k. rw k head)
    (λ i. either (λ k. rw k (never-before q a (first_of a l) e head)) (λ j. first-least a l p (there j)) (Memᴰ.cases_cons i))
    (Memᴰ.cases_cons m)))

pub last-greatest : (a : Place) (l : List Place) (p : Place) → p ∈ (a ∷ l) → before (last_of a l) p ≡ false
unfolding last_of
last-greatest a [] p m = either (λ k. rw k (place-order.never a)) (λ i. elim i [ ]) (Memᴰ.cases_cons m)
last-greatest a (q ∷ l) p m =
    by (before a q)
    (λ e. let head = last-greatest q l q (here refl) in
    rw (last_of, e)
    (either
    (λ k. rw k (never-before (last_of q l) q a head (by (before q a) (λ g. differ (place-order.along q a q g e) (place-order.never q))
    (λ g. g))))
    (last-greatest q l p)
    (Memᴰ.cases_cons m)))
    (λ e. let head = last-greatest a l a (here refl) in
    rw (last_of, e)
    (either
    (λ k. rw k head)
    (λ i. either (λ k. rw k (never-before (last_of a l) a q head e)) (λ j. last-greatest a l p (there j)) (Memᴰ.cases_cons i))
    (Memᴰ.cases_cons m)))

-- a place in a box meets it
span-holds : (q a b : ℤ) → Between q a b → le_z (z_max (z_min q q) (z_min a b)) (z_min (z_max q q) (z_max a b)) ≡ true
span-holds q a b h =
    rw (min_self q, max_self q)
    (le-z_le (z_max q (z_min a b)) (z_min q (z_max a b)) (omega (signed, h.0, h.1, max-sides q (z_min a b), min-sides q (z_max a b))))

pub box-holds : (q a b : Place) → InBox q a b → boxes_meet (q, q) (a, b) ≡ true
unfolding boxes_meet low_corner high_corner
box-holds q a b i = and_both _ _ (span-holds q.x a.x b.x i.across) (span-holds q.y a.y b.y i.along)

-- an entry that passes
pub some : {A : Type 0} (f : A → Bool) (l : List A) → any f l ≡ true → (x : A) × ((x ∈ l) × (f x ≡ true))
unfolding any
some f [] e = differ e refl
some f (x ∷ l) e =
    by (f x)
    (λ h. (x, (here refl, h)))
    (λ h. let r = some f l (rw h at e) in (r.0, (there r.1.0, r.1.1)))

-- The shortest hanging edge

least-le : (l : List ℕ) (n : ℕ) → n ∈ l → least l ≤ n
unfolding least
least-le [] n i = elim i [ ]
least-le (m ∷ []) n i = either (λ k. omega (arith, k)) (λ j. elim j [ ]) (Memᴰ.cases_cons i)
least-le (m ∷ (k ∷ l)) n i =
    either (λ e. omega (arith, e)) (λ j. omega (arith, least-le (k ∷ l) n j)) (Memᴰ.cases_cons i)

pub or_cases : (p q : Bool) → (p || q) ≡ true → (p ≡ true) ⊎ (q ≡ true)
or_cases true q e = inl refl
or_cases false q e = inr e

module _ (s : Side) (on : Place → Bool) (T : List Edge) where
  -- an edge that hangs on the side from a
  ahead-link : (a b : Place) → on a ≡ true → Lt (across s a) (across s b) → (ahead s on (a, b) ≡ true) × (ahead s on (b, a) ≡ true)
  unfolding ahead
  ahead-link a b e h =
      let k = lt-z_lt (across s a) (across s b) h in
      (rw (e, k) refl, by (on b && lt_z (across s b) (across s a)) (λ g. rw (g) refl) (λ g. rw (g, e, k) refl))

  pub shortest-le : (e : Edge) → e ∈ T → ahead s on e ≡ true → shortest s on T ≤ long s e
  unfolding shortest
  shortest-le e m h = least-le _ (long s e) (in_map (long s) (in-those (ahead s on) T m h))

  pub shortest-short : (a b : Place) → Link T a b → on a ≡ true → Lt (across s a) (across s b) →
      shortest s on T + (up (across s a) + down (across s b)) ≤ up (across s b) + down (across s a)
  unfolding long
  shortest-short a b (inl m) e h =
      omega (arith, shortest-le (a, b) m (ahead-link a b e h).0, apart-ordered (across s a) (across s b) (omega (arith, h)))
  shortest-short a b (inr m) e h =
      omega (
        arith,
        shortest-le (b, a) m (ahead-link a b e h).1,
        apart-ordered (across s a) (across s b) (omega (arith, h)),
        apart-comm (across s b) (across s a),
      )

  -- a far end
  ahead-parts : (a b : Place) → ahead s on (a, b) ≡ true → ((on a ≡ true) ⊎ (on b ≡ true)) × (across s a ≡ across s b → ⊥)
  unfolding ahead
  ahead-parts a b h =
      either
      (λ k. (inl (and_left _ (lt_z (across s a) (across s b)) k), λ e. away (across s a) (across s b) e (and_right (on a) _ k)))
      (λ k. (inr (and_left _ (lt_z (across s b) (across s a)) k), λ e. away (across s b) (across s a) (sym e) (and_right (on b) _ k)))
      (or_cases _ _ h)
    where
      away : (y z : ℤ) → y ≡ z → lt_z y z ≡ true → ⊥
      away y z e k = let h = z_lt-true y z k in let u = ap up e in let v = ap down e in omega (arith, h)

  pub far-end : Straight T → (q : Place) → taken (far_ends s on T) q ≡ true → FarEnd s T on q
  unfolding taken far_ends far
  far-end lines q h =
      let r = some (same_place q) (far_ends s on T) h in
      let m = of_map (far on) (those (λ e. eqb (long s e) (shortest s on T)) (those (ahead s on) T)) r.1.0 in
      let e = m.entry in
      let i = of-those (ahead s on) T (of-those (λ e. eqb (long s e) (shortest s on T)) (those (ahead s on) T) m.stands).0 in
      at e.0 e.1 i.0 i.1 (same_true q r.0 r.1.1 ∙ m.is)
    where
      at : (a b : Place) → (a, b) ∈ T → ahead s on (a, b) ≡ true → q ≡ far on (a, b) → FarEnd s T on q
      at a b i h e =
          let p = ahead-parts a b h in
          let line : along s a ≡ along s b = either (λ k. k) (λ k. absurd (p.1 k)) (upright-or-level s a b (lines a b i)) in
          by (on a)
          (λ g. let k : q ≡ b = rw (far, g) at e in
          record { near = a; point = g; edge = inl (rw k i); line = rw k line })
          (λ g. let k : q ≡ a = rw (far, g) at e in
          record { near = b; point = either (λ z. differ z g) (λ z. z) p.0; edge = inr (rw k i); line = rw k (sym line) })

-- The distance

-- the greatest number that passes, or 0
pub greatest-le : (ok : ℕ → Bool) (n : ℕ) → greatest ok n ≤ n
unfolding greatest
greatest-le ok zero = omega arith
greatest-le ok (suc n) =
    by (ok (suc n)) (λ e. rw (greatest, e) (omega arith)) (λ e. rw (greatest, e) (omega (arith, greatest-le ok n)))

pub greatest-passes : (ok : ℕ → Bool) (n : ℕ) → (greatest ok n ≡ 0) ⊎ (ok (greatest ok n) ≡ true)
unfolding greatest
greatest-passes ok zero = inl refl
greatest-passes ok (suc n) =
    by (ok (suc n)) (λ e. rw (greatest, e) (inr e)) (λ e. rw (greatest, e) (greatest-passes ok n))

pub greatest-greatest : (ok : ℕ → Bool) (n k : ℕ) → k ≤ n → ok k ≡ true → k ≤ greatest ok n
unfolding greatest
greatest-greatest ok zero k h e = h
greatest-greatest ok (suc n) k h e =
    by (ok (suc n))
    (λ g. rw (greatest, g) h)
    (λ g. rw (greatest, g) (by (eqb k (suc n))
    (λ q. differ (rw (eqb-true k (suc n) q) at e) g)
    (λ q. let ne = eqb-false k (suc n) q in greatest-greatest ok n k (smaller k n h ne) e)))
  where
    smaller : (k n : ℕ) → k ≤ suc n → (k ≡ suc n → ⊥) → k ≤ n
    smaller k n h ne = omega arith

-- The ends of a bar: it holds them, and its points are between them

module _ {s : Side} {net : Net} {X : List Place} {T : List Edge} {on : Place → Bool} (c : IsBar s net X T on) (a : Place)
    (at_a : on a ≡ true) where
  abbrev F : Place
  F = first_place s on X T a

  abbrev L : Place
  L = last_place s on X T a

  -- a and the points of the bar
  bar-points : (p : Place) → p ∈ (a ∷ those on X) → on p ≡ true
  bar-points p m = either (λ k. rw k at_a) (λ i. (of-those on X i).1) (Memᴰ.cases_cons m)

  pub first_on : on F ≡ true
  unfolding first_place
  first_on = bar-points F (first_one a (those on X))

  pub last-on : on L ≡ true
  unfolding last_place
  last-on = bar-points L (last_one a (those on X))

  -- by the order of places on one line
  rises-along : (p q : Place) → on p ≡ true → on q ≡ true → before q p ≡ false → Le (along s p) (along s q)
  rises-along p q e f h =
      by (lt_z (along s q) (along s p))
      (λ k. differ (before-along s q p (c.flat q f ∙ sym (c.flat p e)) (z_lt-true _ _ k)) h)
      (λ k. z_lt-false (along s q) (along s p) k)

  pub covered : (p : Place) → on p ≡ true → Le (along s F) (along s p) × Le (along s p) (along s L)
  unfolding first_place last_place
  covered p e =
      let m : p ∈ (a ∷ those on X) = there (in-those on X (c.inside p e) e) in
      (rises-along F p first_on e (first-least a (those on X) p m), rises-along p L e last-on (last-greatest a (those on X) p m))

-- A distance that passes the test

module _ {s : Side} {net : Net} {X : List Place} {T : List Edge} {on : Place → Bool} (c : IsBar s net X T on) (lines : Straight T)
    (a : Place) (at_a : on a ≡ true) (d : ℕ) (short : d ≤ shortest s on T) (ok : allowed s on X T a net d ≡ true) where
  abbrev first : Place
  first = first_place s on X T a

  abbrev last : Place
  last = last_place s on X T a

  no-point : (q : Place) → q ∈ X → on q ≡ false → InBox q first (moved s d last) → taken (far_ends s on T) q ≡ true
  unfolding allowed point_bars swept
  no-point q m e i =
      let rest = and_right (clear first (moved s d last) net.macros) _ ok in
      let none = any_none (point_bars s on X T a d) X (not-true _ (and_left _ (not (any (edge_bars s on X T a d) T)) rest)) q m in
      by (taken (far_ends s on T) q) (λ h. h)
      (λ h. differ (and_both _ _ (box-holds q first (moved s d last) i) (rw (e, h) refl)) none)

  pub is-allowed : Allowed s net X T on first last d
  unfolding allowed swept
  is-allowed = record {
    first_on = first_on c a at_a;
    last_on = last-on c a at_a;
    covers = covered c a at_a;
    empty = and_left _ _ ok;
    meets = λ q m e h k i j. far-end s on T lines q
        (no-point q m e (in-box s q first (moved s d last) h (rw (along-moved s d last) k) i j));
    short = λ p q l e h. omega (arith, short, shortest-short s on T p q l e h);
  }
