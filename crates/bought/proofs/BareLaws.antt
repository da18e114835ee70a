-- Ends counted: a point has a single edge exactly when one end is at it (V6), where no edge has equal ends. And points, each counted once,
-- have no more ends between them than there are.
-- Assumes nothing.
use mathlib.Core.Path.{◌≡◌, refl, sym, ap, ◌∙◌}
use mathlib.Core.Bool.{Bool, true, false, not, ◌&&◌}
use mathlib.Core.Logic.{inl, inr}
use mathlib.Core.List.{List, [], ◌∷◌, map}
use Prim.Native.Nat.{ℕ, ◌+◌, ◌≤◌}
use native.Mathlib.Omega.{arith}
use borrow.Author.Tests.{eqb-true, eq-eqb}
use lib.Dec.{eqb}
use lib.ListN.{length}
use Rattle.lists.specs.Any.{any}
use Rattle.lists.specs.Member.{◌∈◌, Once, here, there, rest}
use Rattle.lists.specs.Those.{those}
use Rattle.lists.specs.Total.{total}
use Rattle.lists.proofs.AnyLaws.{any_none, none_any}
use Rattle.lists.proofs.MemberLaws.{length_rest, is-in}
use Rattle.lists.proofs.TestLaws.{by, differ}
use Rattle.lists.proofs.ThoseLaws.{in-those, those-hit, those-miss, those-none, those-split}
use Rattle.joined.specs.Joined.{Link, others}
use Rattle.plane.specs.declared.Place.{Place}
use Rattle.plane.specs.Place.{same_place}
use Rattle.plane.proofs.PlaceLaws.{same_true, same_refl}
use Rattle.plane.proofs.PlaceOrder.{place_same}
use Rattle.bought.specs.Edges.{Edge, ends_of}
use Rattle.bought.specs.Passes.{Single}
use Rattle.bought.specs.Verdict.{ends_at, bare}
use Rattle.bought.proofs.EdgeLaws.{of-ends, link-end}
use Rattle.bought.proofs.ScanLaws.{at-hit, at-miss, at-end}

-- two tests that fail together are the same
pub as-false : (p q : Bool) → (p ≡ false → q ≡ false) → (q ≡ false → p ≡ false) → p ≡ q
as-false true true f g = refl
as-false true false f g = g refl
as-false false true f g = sym (f refl)
as-false false false f g = refl

-- two different places
pub same_false : (a b : Place) → (a ≡ b → ⊥) → same_place a b ≡ false
same_false a b n = by (same_place a b) (λ e. absurd (n (same_true a b e))) (λ e. e)

pub same_of : (a b : Place) → a ≡ b → same_place a b ≡ true
same_of a b e = rw e (same_refl b)

module _ (v : Place) where
  -- none at v
  pub none-at : (l : List Place) → (v ∈ l → ⊥) → ends_at l v ≡ 0
  none-at [] h = at-end v [] refl
  none-at (a ∷ l) h =
      by (same_place v a) (λ e. absurd (h (here (same_true v a e)))) (λ e. at-miss v (a ∷ l) a l refl e ∙ none-at l (λ m. h (there m)))

  pub some_at : (l : List Place) → v ∈ l → 1 ≤ ends_at l v
  unfolding ends_at
  some_at l m = omega (arith, length_rest (in-those (same_place v) l m (same_refl v)))

  cons-at : (a : Place) (l : List Place) → ends_at (a ∷ l) v ≡ ends_at (a ∷ []) v + ends_at l v
  cons-at a l =
      by (same_place v a)
      (λ e. omega (arith, at-hit v (a ∷ l) a l refl e, at-hit v (a ∷ []) a [] refl e, at-end v [] refl))
      (λ e. omega (arith, at-miss v (a ∷ l) a l refl e, at-miss v (a ∷ []) a [] refl e, at-end v [] refl))

  -- the ends of one edge, and of the others
  abbrev two : Edge → ℕ
  two e = ends_at (e.0 ∷ []) v + ends_at (e.1 ∷ []) v

  pub ends_more : (e : Edge) (T : List Edge) → ends_at (ends_of (e ∷ T)) v ≡ two e + ends_at (ends_of T) v
  unfolding ends_of
  ends_more e T = omega (arith, cons-at e.0 (e.1 ∷ ends_of T), cons-at e.1 (ends_of T))

  ends-rest : {e : Edge} (T : List Edge) (m : e ∈ T) → ends_at (ends_of T) v ≡ two e + ends_at (ends_of (rest m)) v
  unfolding rest
  ends-rest {e = e} [] m = elim m [ ]
  ends-rest {e} (d ∷ T) (here p) = ends_more d T ∙ ap (λ (x : Edge). two x + ends_at (ends_of T) v) (sym p)
  ends-rest {e} (d ∷ T) (there m) = omega (arith, ends_more d T, ends-rest T m, ends_more d (rest m))

  hit-one : (a : Place) → v ≡ a → ends_at (a ∷ []) v ≡ 1
  hit-one a e = omega (arith, at-hit v (a ∷ []) a [] refl (same_of v a e), at-end v [] refl)

  hit-none : (a : Place) → (v ≡ a → ⊥) → ends_at (a ∷ []) v ≡ 0
  hit-none a n = omega (arith, at-miss v (a ∷ []) a [] refl (same_false v a n), at-end v [] refl)

  pub single-one : (T : List Edge) → ((e : Edge) → e ∈ T → e.0 ≡ e.1 → ⊥) → Single T v → ends_at (ends_of T) v ≡ 1
  unfolding others
  single-one T apart s = at s.link s.alone
    where
      at : (l : Link T v s.other) → ((w : Place) → Link (others l) v w → ⊥) → ends_at (ends_of T) v ≡ 1
      at (inl m) alone =
          let left = none-at (ends_of (rest m)) (λ i. let r = of-ends (rest m) i in alone r.0 r.1) in
          omega (arith, ends-rest T m, left, hit-one v refl, hit-none s.other (apart _ m))
      at (inr m) alone =
          let left = none-at (ends_of (rest m)) (λ i. let r = of-ends (rest m) i in alone r.0 r.1) in
          omega (arith, ends-rest T m, left, hit-one v refl, hit-none s.other (λ e. apart _ m (sym e)))

  pub one_single : (T : List Edge) → v ∈ ends_of T → ends_at (ends_of T) v ≡ 1 → Single T v
  unfolding others
  one_single T m e = let r = of-ends T m in at r.0 r.1
    where
      bare-rest : {x y : Place} (i : (x, y) ∈ T) → 1 ≤ two (x, y) → (w : Place) → Link (rest i) v w → ⊥
      bare-rest i h w l = let n = some_at (ends_of (rest i)) (link-end (rest i) l) in let z : ⊥ = omega (arith, ends-rest T i, n, h, e) in z

      at : (z : Place) → Link T v z → Single T v
      at z (inl i) = record { other = z; link = inl i; alone = bare-rest i (omega (arith, hit-one v refl)) }
      at z (inr i) = record { other = z; link = inr i; alone = bare-rest i (omega (arith, hit-one v refl)) }

pub found-same : (l : List Place) (v : Place) → v ∈ l → any (same_place v) l ≡ true
found-same l v m = by (any (same_place v) l) (λ e. e) (λ e. differ (same_refl v) (any_none (same_place v) l e v m))

-- V6: the test, and what it says
module _ (pins : List Place) (T : List Edge) where
  pub bare-pinned : any (bare pins (ends_of T)) (ends_of T) ≡ false → ((e : Edge) → e ∈ T → e.0 ≡ e.1 → ⊥) →
      (v : Place) → Single T v → v ∈ pins
  unfolding bare
  bare-pinned e apart v s = at (is-in place_same v pins)
    where
      none : (eqb (ends_at (ends_of T) v) 1 && not (any (same_place v) pins)) ≡ false
      none = any_none (bare pins (ends_of T)) (ends_of T) e v (link-end T s.link)

      at : Dec (v ∈ pins) → v ∈ pins
      at (yes m) = m
      at (no n) =
          differ (rw (
            eq-eqb (ends_at (ends_of T) v) 1 (single-one v T apart s),
            none_any (same_place v) pins (λ p i. same_false v p (λ k. n (rw k i))),
          ) refl) none

  pub pinned-bare : ((v : Place) → Single T v → v ∈ pins) → any (bare pins (ends_of T)) (ends_of T) ≡ false
  unfolding bare
  pinned-bare h =
      none_any (bare pins (ends_of T)) (ends_of T) (λ v m.
      by (eqb (ends_at (ends_of T) v) 1)
      (λ e. rw (e, found-same pins v (h v (one_single v T m (eqb-true _ 1 e)))) refl)
      (λ e. rw e refl))

-- without those at x as many are at any other place
kept_at : (x y : Place) → (y ≡ x → ⊥) → (l : List Place) → ends_at l y ≡ ends_at (those (λ z. not (same_place x z)) l) y
kept_at x y n [] = ap (λ (l : List Place). ends_at l y) (sym (those-none (λ z. not (same_place x z))))
kept_at x y n (a ∷ l) =
    let g : Place → Bool = λ z. not (same_place x z) in
    by (same_place x a)
    (λ e.
    at-miss y (a ∷ l) a l refl (same_false y a (λ k. n (k ∙ sym (same_true x a e))))
    ∙ kept_at x y n l
    ∙ ap (λ (k : List Place). ends_at k y) (sym (those-miss g a l (ap not e))))
    (λ e.
    cons-at y a l
    ∙ ap (λ (k : ℕ). ends_at (a ∷ []) y + k) (kept_at x y n l)
    ∙ sym (cons-at y a (those g l))
    ∙ ap (λ (k : List Place). ends_at k y) (sym (those-hit g a l (ap not e))))

-- the ends at different places, added up, are no more than the ends
pub ends-sum : (X l : List Place) → Once X → total (map (ends_at l) X) ≤ length l
unfolding total ends_at
ends-sum [] l o = omega arith
ends-sum (x ∷ X) l o =
    let others : List Place = those (λ y. not (same_place x y)) l in
    omega (arith, those-split (same_place x) l, ends-sum X others o.1, fewer X o.0, at_x)
  where
    at_x : ends_at l x ≡ length (those (same_place x) l)
    at_x = refl

    fewer : (Y : List Place) → (x ∈ Y → ⊥) → total (map (ends_at l) Y) ≤ total (map (ends_at (those (λ y. not (same_place x y)) l)) Y)
    fewer [] n = omega arith
    fewer (y ∷ Y) n = omega (arith, kept_at x y (λ e. n (here (sym e))) l, fewer Y (λ m. n (there m)))
