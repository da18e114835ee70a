-- What meets the box in a far end alone: one scan of the edges for a shortest one that ends there.
-- Assumes nothing.
use mathlib.Core.Path.{◌≡◌, refl, sym, ap, ap₂, ◌∙◌}
use mathlib.Core.Bool.{Bool, true, false, ◌&&◌, ◌||◌}
use mathlib.Core.List.{List, [], ◌∷◌, ◌++◌, map}
use Prim.Native.Nat.{ℕ, zero, suc, ◌<◌}
use native.Mathlib.Omega.{arith}
use borrow.Author.Tests.{eqb-true}
use lib.Dec.{eqb}
use lib.ListN.{get_or}
use Rattle.lists.specs.Any.{any}
use Rattle.lists.specs.Those.{those}
use Rattle.lists.proofs.TestLaws.{by, differ, and_left, and_right}
use Rattle.plane.specs.declared.Place.{Place}
use Rattle.plane.proofs.Fits.{PlaceFits}
use Rattle.slide.specs.declared.Side.{Side}
use Rattle.slide.specs.Side.{moved}
use Rattle.slide.specs.Bend.{Edge}
use Rattle.slide.specs.Bar.{ahead, far, long, shortest, far_ends}
use Rattle.slide.specs.Sweep.{only_in}
use Rattle.straight.specs.Table.{run, first_end, edge_at, edges_in}
use Rattle.reach.specs.declared.Bar.{Bar}
use Rattle.turned.specs.declared.Seen.{Seen}
use Rattle.turned.specs.declared.Spot.{Spot}
use Rattle.turned.specs.Steps.{up_to}
use Rattle.turned.specs.Turned.{spot, View, on_it, seen_edge, ahead_of, long_of, same_spot}
use Rattle.reach.specs.Passing.{low_of, high_of, ends_at, is_far, exempt}
use Rattle.turned.proofs.SeenLaws.{across-high, along-high, Sees, ahead-is, long-is}
use Rattle.turned.proofs.StepLaws.{run_more}
use Rattle.reach.proofs.CornerLaws.{low_spot, high_spot, only-is}
use Rattle.reach.proofs.PassLaws.{Stands, as_seen, along-M, beside-le, across-le, top-is, high-M}

-- Scans

or-none : (p : Bool) → (p || false) ≡ p
or-none true = refl
or-none false = refl

or-more : (p q r : Bool) → (p || (q || r)) ≡ ((p || q) || r)
or-more true q r = refl
or-more false q r = refl

pub any_last : {A : Type 0} (p : A → Bool) (l : List A) (x : A) → any p (l ++ (x ∷ [])) ≡ (any p l || p x)
unfolding any
any_last p [] x = or-none (p x)
any_last p (y ∷ l) x = ap (λ (t : Bool). p y || t) (any_last p l x) ∙ or-more (p y) (any p l) (p x)

pub any-run : {A : Type 0} (p : A → Bool) (f : ℕ → A) (g : ℕ → Bool) (k : ℕ) → ((j : ℕ) → j < k → p (f j) ≡ g j)
    → any p (run f 0 k) ≡ up_to (λ j t. t || g j) k false
unfolding any run up_to
any-run p f g zero h = refl
any-run p f g (suc k) h =
    ap (any p) (run_more f k)
    ∙ any_last p (run f 0 k) (f k)
    ∙ ap₂ ◌||◌ (any-run p f g k (λ j l. h j (omega arith))) (h k (omega arith))

any-those : {A B : Type 0} (p : B → Bool) (f : A → B) (q r : A → Bool) (l : List A)
    → any p (map f (those q (those r l))) ≡ any (λ x. (r x && q x) && p (f x)) l
unfolding any those
any-those p f q r [] = refl
any-those p f q r (x ∷ l) =
    by (r x)
    (λ e. by (q x)
    (λ g. rw (those, e) (rw (those, g) (ap (λ (t : Bool). p (f x) || t) (any-those p f q r l))))
    (λ g. rw (those, e) (rw (those, g) (any-those p f q r l))))
    (λ e. rw (those, e) (any-those p f q r l))

up_same : (f g : ℕ → Bool) (k : ℕ) → ((j : ℕ) → j < k → f j ≡ g j) → up_to (λ j t. t || f j) k false ≡ up_to (λ j t. t || g j) k false
unfolding up_to
up_same f g zero h = refl
up_same f g (suc k) h = ap₂ ◌||◌ (up_same f g k (λ j l. h j (omega arith))) (h k (omega arith))

up-false : (f : ℕ → Bool) (k : ℕ) → ((j : ℕ) → j < k → f j ≡ false) → up_to (λ j t. t || f j) k false ≡ false
unfolding up_to
up-false f zero h = refl
up-false f (suc k) h = ap₂ ◌||◌ (up-false f k (λ j l. h j (omega arith))) (h k (omega arith))

-- Spots

same-spots : (a b : Spot) → same_spot a b ≡ true → a ≡ b
unfolding same_spot
same-spots a b e =
    ap₂ (λ (i j : ℕ). let r : Spot = record { along = i; across = j } in r)
    (eqb-true a.along b.along (and_left _ (eqb a.across b.across) e))
    (eqb-true a.across b.across (and_right (eqb a.along b.along) _ e))

-- the spot of the end that is not on the bar
abbrev far_spot : Seen → Spot
far_spot t = elim t.first as (λ u. Spot) [ true ↦ t.to | false ↦ t.from ]

ends_as : (t : Seen) (n : ℕ) (c : Spot) → ends_at t n c ≡ ((ahead_of t && eqb (long_of t) n) && same_spot c (far_spot t))
unfolding ends_at
ends_as t n c =
    by (ahead_of t && eqb (long_of t) n)
    (λ e. by t.first (λ g. rw (ends_at, e, g) refl) (λ g. rw (ends_at, e, g) refl))
    (λ e. rw (ends_at, e) refl)

twice : (p q : Bool) → (p && (q && q)) ≡ (p && q)
twice p true = refl
twice p false = refl

never : (p q r : Bool) → (q ≡ true → r ≡ true → ⊥) → (p && (q && r)) ≡ false
never true true true h = absurd (h refl refl)
never true true false h = refl
never true false r h = refl
never false q r h = refl

-- The far ends of the shortest edges ahead, seen by the tables

module _ {v : View} {n e : ℕ} {on : Place → Bool} (r : Sees v n e on) where
  abbrev s : Side
  s = v.side

  abbrev T : List Edge
  T = edges_in v.points v.keys e

  far-spot : (k : ℕ) → k < e → spot s (far on (edge_at v.points v.keys k)) ≡ far_spot (seen_edge v k)
  unfolding far
  far-spot k h =
      let q = r.is (first_end (get_or v.keys k 0)) (r.within k h).0 in
      by (on_it v (first_end (get_or v.keys k 0)))
      (λ g. rw (far, q ∙ g) (sym (rw g refl)))
      (λ g. rw (far, q ∙ g) (sym (rw g refl)))

  far-fits : (k : ℕ) → k < e → PlaceFits (far on (edge_at v.points v.keys k))
  unfolding far
  far-fits k h =
      by (on (edge_at v.points v.keys k).0)
      (λ g. rw (far, g) (r.fits _ (r.within k h).1))
      (λ g. rw (far, g) (r.fits _ (r.within k h).0))

  -- a test of the far ends that is one of their spots
  pub far-any : (p : Place → Bool) (g : Spot → Bool) → ((q : Place) → PlaceFits q → p q ≡ g (spot s q))
      → any p (far_ends s on T) ≡ up_to
      (λ k t. t || ((ahead_of (seen_edge v k) && eqb (long_of (seen_edge v k)) (shortest s on T)) && g (far_spot (seen_edge v k)))) e false
  unfolding far_ends
  far-any p g is =
      any-those p (far on) (λ y. eqb (long s y) (shortest s on T)) (ahead s on) T
      ∙ any-run _ (edge_at v.points v.keys) _ e
      (λ k h.
      ap₂ ◌&&◌
      (ap₂ ◌&&◌ (ahead-is r k h) (ap (λ (i : ℕ). eqb i (shortest s on T)) (long-is r k h)))
      (is _ (far-fits k h) ∙ ap g (far-spot k h)))

  module _ {b : Bar} {F L : Place} (st : Stands s b F L) (most : b.most ≡ shortest s on T) (x : Edge) (f0 : PlaceFits x.0)
      (f1 : PlaceFits x.1) where
    abbrev box : Place
    box = moved s b.most L

    low-is : low_of b (as_seen s on x) ≡ low_spot s x F box
    low-is = rw st.first refl

    high_is : high_of b (as_seen s on x) ≡ high_spot s x F box
    high_is = rw (st.last, st.top, top-is st on x f0 f1, along-M st on x f0 f1) refl

    abbrev lo : Spot
    lo = low_spot s x F box

    abbrev hi : Spot
    hi = high_spot s x F box

    only-spots : (q : Place) → PlaceFits q → only_in x (F, box) q ≡ (same_spot lo (spot s q) && same_spot hi (spot s q))
    only-spots q f =
        only-is s x F box q (beside-le st on x f0 f1) (across-le st on x f0 f1)
        (along-high s _ f0, across-high s _ f0) (along-high s _ f1, across-high s _ f1)
        (along-high s F st.fits-F, across-high s F st.fits-F)
        (rw (along-M st on x f0 f1) (along-high s L st.fits-L), high-M st on x f0 f1)
        (along-high s q f, across-high s q f)

    -- the edge of number j is a shortest one ahead; and then both corners are its far end, or the first of them is
    abbrev hangs-near : ℕ → Bool
    hangs-near j = ahead_of (seen_edge v j) && eqb (long_of (seen_edge v j)) (shortest s on T)

    abbrev both_at : ℕ → Bool
    both_at j = hangs-near j && (same_spot lo (far_spot (seen_edge v j)) && same_spot hi (far_spot (seen_edge v j)))

    abbrev first-at : ℕ → Bool
    first-at j = ends_at (seen_edge v j) (shortest s on T) lo

    one-corner : lo ≡ hi → (j : ℕ) → both_at j ≡ first-at j
    one-corner k j =
        ap (λ (c : Spot). hangs-near j && (same_spot lo (far_spot (seen_edge v j)) && same_spot c (far_spot (seen_edge v j)))) (sym k)
        ∙ twice (hangs-near j) (same_spot lo (far_spot (seen_edge v j)))
        ∙ sym (ends_as (seen_edge v j) (shortest s on T) lo)

    two-corners : same_spot lo hi ≡ false → (j : ℕ) → both_at j ≡ false
    two-corners g j =
        never (hangs-near j) (same_spot lo (far_spot (seen_edge v j))) (same_spot hi (far_spot (seen_edge v j)))
        (λ a c. differ (ap (λ (i : Spot). same_spot lo i) (same-spots hi (far_spot (seen_edge v j)) c) ∙ a) g)

    pub exempt-is : any (only_in x (F, box)) (far_ends s on T) ≡ exempt v e b (as_seen s on x)
    unfolding exempt is_far
    exempt-is =
        far-any (only_in x (F, box)) (λ c. same_spot lo c && same_spot hi c) only-spots
        ∙ by (same_spot lo hi)
        (λ g. up_same both_at first-at e (λ j h. one-corner (same-spots lo hi g) j) ∙ sym (rw (low-is, high_is, g, most) refl))
        (λ g. up-false both_at e (λ j h. two-corners g j) ∙ sym (rw (low-is, high_is, g) refl))
