-- Points that are none of given places: with those places they bound the points, and one point more is at most one stranger more. Both by
-- the pigeonhole, since points are each once.
-- Assumes nothing.
use mathlib.Core.Path.{◌≡◌, refl, ap, ◌∙◌}
use mathlib.Core.Bool.{true}
use mathlib.Core.Logic.{◌⊎◌, inl, inr}
use mathlib.Core.List.Memᴰ
use mathlib.Core.List.{List, [], ◌∷◌, ◌++◌}
use Prim.Native.Nat.{◌+◌, ◌≤◌}
use native.Mathlib.Omega.{arith}
use lib.ListN.{length, length-append}
use Rattle.lists.specs.Any.{any}
use Rattle.lists.specs.Member.{◌∈◌, here, there, Among, Once}
use Rattle.lists.proofs.TestLaws.{by, differ, either}
use Rattle.lists.proofs.AnyLaws.{any_none}
use Rattle.lists.proofs.MemberLaws.{once-length}
use Rattle.plane.specs.declared.Place.{Place}
use Rattle.plane.specs.Place.{same_place}
use Rattle.plane.specs.Flat.{place_at}
use Rattle.plane.specs.Rank.{InOrder}
use Rattle.plane.proofs.PlaceLaws.{same_true, same_refl}
use Rattle.tree.specs.Table.{Tree}
use Rattle.tree.specs.Places.{points_of}
use Rattle.tree.specs.Outside.{outside, strangers}
use Rattle.tree.proofs.ListingLaws.{listing-length}
use Rattle.tree.proofs.PointLaws.{order-once}

-- a place that is among them
standing : (p : Place) (vs : List Place) → any (same_place p) vs ≡ true → p ∈ vs
unfolding any
standing p [] e = differ e refl
standing p (v ∷ vs) e = by (same_place p v) (λ t. here (same_true p v t)) (λ t. there (standing p vs (rw t at e)))

module _ (vs : List Place) where
  -- Which they are

  pub of-outside : (ps : List Place) (x : Place) → x ∈ outside vs ps → (x ∈ ps) × (x ∈ vs → ⊥)
  unfolding outside
  of-outside [] x m = elim m [ ]
  of-outside (p ∷ ps) x m =
      by (any (same_place p) vs)
      (λ t. let r = of-outside ps x (rw (outside, t) at m) in (there r.0, r.1))
      (λ t.
      either
      (λ e. (here e, λ i. differ (ap (same_place p) e ∙ same_refl p) (any_none (same_place p) vs t x i)))
      (λ i. let r = of-outside ps x i in (there r.0, r.1))
      (Memᴰ.cases_cons (rw (outside, t) at m)))

  pub in-outside : (ps : List Place) (x : Place) → x ∈ ps → (x ∈ vs) ⊎ (x ∈ outside vs ps)
  unfolding outside
  in-outside [] x m = elim m [ ]
  in-outside (p ∷ ps) x m =
      by (any (same_place p) vs)
      (λ t. rw (outside, t) (either (λ e. inl (rw e (standing p vs t))) (λ i. in-outside ps x i) (Memᴰ.cases_cons m)))
      (λ t.
      rw (outside, t) (either (λ e. inr (here e)) (λ i. either inl (λ j. inr (there j)) (in-outside ps x i)) (Memᴰ.cases_cons m)))

  outside-once : (ps : List Place) → Once ps → Once (outside vs ps)
  unfolding outside
  outside-once [] o = tt
  outside-once (p ∷ ps) o =
      by (any (same_place p) vs) (λ t. rw (outside, t) (outside-once ps o.1))
      (λ t. rw (outside, t) (λ m. o.0 (of-outside ps p m).0, outside-once ps o.1))

  -- How many

  pub outside-none : (ps : List Place) → Among ps vs → length (outside vs ps) ≡ 0
  unfolding outside
  outside-none [] h = refl
  outside-none (p ∷ ps) h =
      by (any (same_place p) vs) (λ t. rw (outside, t) (outside-none ps (λ x i. h x (there i))))
      (λ t. differ (same_refl p) (any_none (same_place p) vs t p (h p (here refl))))

  pub outside-rest : (ps : List Place) → Once ps → length ps ≤ length vs + length (outside vs ps)
  outside-rest ps o =
      let all : Among ps (vs ++ outside vs ps)
      = λ x i. either (λ j. Memᴰ.append_left (outside vs ps) j) (λ j. Memᴰ.append_right vs j) (in-outside ps x i) in
      omega (arith, once-length ps (vs ++ outside vs ps) o all, length-append vs (outside vs ps))

  pub outside-more : (ps qs : List Place) (s : Place) → Once qs → ((y : Place) → y ∈ qs → (y ≡ s) ⊎ (y ∈ ps))
      → length (outside vs qs) ≤ length (outside vs ps) + 1
  outside-more ps qs s o known = omega (arith, once-length (outside vs qs) (s ∷ outside vs ps) (outside-once qs o) old)
    where
      old : Among (outside vs qs) (s ∷ outside vs ps)
      old y i =
          let r = of-outside qs y i in
          either (λ e. here e) (λ j. there (either (λ k. absurd (r.1 k)) (λ k. k) (in-outside ps y j))) (known y r.0)

  -- points that are known or were there bring none
  pub outside-fewer : (ps qs : List Place) → Once qs → ((y : Place) → y ∈ qs → (y ∈ vs) ⊎ (y ∈ ps))
      → length (outside vs qs) ≤ length (outside vs ps)
  outside-fewer ps qs o known =
      once-length (outside vs qs) (outside vs ps) (outside-once qs o)
      (λ y i.
      let r = of-outside qs y i in
      either (λ k. absurd (r.1 k)) (λ j. either (λ k. absurd (r.1 k)) (λ k. k) (in-outside ps y j)) (known y r.0))

-- Of a tree

pub count-strangers : (vs : List Place) (t : Tree) → InOrder t.points t.count → t.count ≤ length vs + strangers vs t
count-strangers vs t o =
    omega (
      arith,
      outside-rest vs (points_of t.points t.count) (order-once t.points t.count o),
      listing-length (place_at t.points) t.count,
    )
