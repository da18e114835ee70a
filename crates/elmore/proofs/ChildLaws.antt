-- The neighbours of a point are the points that an edge joins to it, in order, whatever the order of the edges; its children are those but
-- its parent.
-- Assumes nothing.
use Rattle.std.proofs.Common.{◌≡◌, true, not, List, [], ◌∷◌, sym, refl, ap, ◌∙◌, ap₂, inl, inr}
use mathlib.Core.List.Memᴰ
use Rattle.lists.specs.Member.{◌∈◌, here, there, Among, Once}
use Rattle.lists.specs.Sorted.{Ascending}
use Rattle.lists.proofs.TestLaws.{by, differ, either, not-true}
use Rattle.lists.proofs.SortedLaws.{of-put, put-old, put-new, put-ascending, ascending-once, ascending-same}
use Rattle.lists.proofs.ThoseLaws.{in-those, of-those, those-once}
use Rattle.plane.specs.declared.Place.{Place}
use Rattle.plane.specs.Place.{before, same_place}
use Rattle.plane.proofs.PlaceLaws.{same_true, same_refl}
use Rattle.plane.proofs.PlaceOrder.{place-order}
use Rattle.joined.specs.Joined.{Link}
use Rattle.joined.proofs.JoinedLaws.{firsts, seconds}
use Rattle.elmore.specs.Rooted.{neighbours, children}

abbrev Edges : Type 0
Edges = List (Place × Place)

pub same_if : (a b : Place) → b ≡ a → same_place a b ≡ true
same_if a b e = ap (same_place a) e ∙ same_refl a

link-more : (x : Place × Place) (es : Edges) (p q : Place) → Link es p q → Link (x ∷ es) p q
link-more x es p q (inl m) = inl (there m)
link-more x es p q (inr m) = inr (there m)

both : {a b c d : Place} → a ≡ c → b ≡ d → ◌≡◌ {A = Place × Place} (a, b) (c, d)
both e f = ap₂ (λ (x y : Place). (x, y)) e f

pub of-neighbours : (es : Edges) (p q : Place) → q ∈ neighbours es p → Link es p q
unfolding neighbours
of-neighbours [] p q m = elim m [ ]
of-neighbours ((a, b) ∷ es) p q m =
    by (same_place a p)
    (λ s. either (λ k. inl (here (both (sym (same_true a p s)) k))) (λ i. older (of-neighbours es p q i))
    (of-put before b (neighbours es p) (rw (neighbours, s) at m)))
    (λ s. by (same_place b p)
    (λ u. either (λ k. inr (here (both k (sym (same_true b p u))))) (λ i. older (of-neighbours es p q i))
    (of-put before a (neighbours es p) (rw (neighbours, s, u) at m)))
    (λ u. older (of-neighbours es p q (rw (neighbours, s, u) at m))))
  where
    older : Link es p q → Link ((a, b) ∷ es) p q
    older = link-more (a, b) es p q

neighbours-old : (a b : Place) (es : Edges) (p : Place) → Among (neighbours es p) (neighbours ((a, b) ∷ es) p)
unfolding neighbours
neighbours-old a b es p q i =
    by (same_place a p)
    (λ s. rw (neighbours, s) (put-old before b (neighbours es p) q i))
    (λ s. by (same_place b p)
    (λ u. rw (neighbours, s, u) (put-old before a (neighbours es p) q i))
    (λ u. rw (neighbours, s, u) i))

pub in-neighbours : (es : Edges) (p q : Place) → Link es p q → q ∈ neighbours es p
unfolding neighbours
in-neighbours [] p q (inl m) = elim m [ ]
in-neighbours [] p q (inr m) = elim m [ ]
in-neighbours ((a, b) ∷ es) p q (inl (here k)) =
    rw (neighbours, same_if a p (firsts k)) (Memᴰ.cast (seconds k) (put-new before place-order b (neighbours es p)))
in-neighbours ((a, b) ∷ es) p q (inl (there m)) = neighbours-old a b es p q (in-neighbours es p q (inl m))
in-neighbours ((a, b) ∷ es) p q (inr (here k)) =
    by (same_place a p)
    (λ s.
    let z : q ≡ b = firsts k ∙ same_true a p s ∙ seconds k in
    rw (neighbours, s) (Memᴰ.cast z (put-new before place-order b (neighbours es p))))
    (λ s. rw (neighbours, s, same_if b p (seconds k)) (Memᴰ.cast (firsts k) (put-new before place-order a (neighbours es p))))
in-neighbours ((a, b) ∷ es) p q (inr (there m)) = neighbours-old a b es p q (in-neighbours es p q (inr m))

pub neighbours-ascending : (es : Edges) (p : Place) → Ascending before (neighbours es p)
unfolding neighbours
neighbours-ascending [] p = tt
neighbours-ascending ((a, b) ∷ es) p =
    by (same_place a p)
    (λ s. rw (neighbours, s) (put-ascending before place-order b (neighbours es p) (neighbours-ascending es p)))
    (λ s. by (same_place b p)
    (λ u. rw (neighbours, s, u) (put-ascending before place-order a (neighbours es p) (neighbours-ascending es p)))
    (λ u. rw (neighbours, s, u) (neighbours-ascending es p)))

-- the same edges, in whatever order, give a point the same neighbours
neighbours-among : (es fs : Edges) → Among es fs → (p : Place) → Among (neighbours es p) (neighbours fs p)
neighbours-among es fs h p q m =
    in-neighbours fs p q (either (λ i. inl (h (p, q) i)) (λ i. inr (h (q, p) i)) (of-neighbours es p q m))

pub neighbours-same : (es fs : Edges) → Among es fs → Among fs es → (p : Place) → neighbours es p ≡ neighbours fs p
neighbours-same es fs h k p =
    ascending-same before place-order (neighbours es p) (neighbours fs p) (neighbours-ascending es p) (neighbours-ascending fs p)
    (neighbours-among es fs h p) (neighbours-among fs es k p)

-- Children

module _ (es : Edges) (up p : Place) where
  pub of-children : (c : Place) → c ∈ children es up p → Link es p c × (c ≡ up → ⊥)
  unfolding children
  of-children c m =
      let r = of-those (λ q. not (same_place q up)) (neighbours es p) m in
      (of-neighbours es p c r.0, λ k. differ (same_if c up (sym k)) (not-true (same_place c up) r.1))

  pub in-children : (c : Place) → Link es p c → (c ≡ up → ⊥) → c ∈ children es up p
  unfolding children
  in-children c l n =
      in-those (λ q. not (same_place q up)) (neighbours es p) (in-neighbours es p c l)
      (by (same_place c up) (λ s. absurd (n (same_true c up s))) (λ s. rw s refl))

  pub children-once : Once (children es up p)
  unfolding children
  children-once =
      those-once (λ q. not (same_place q up)) (neighbours es p)
      (ascending-once before place-order (neighbours es p) (neighbours-ascending es p))
