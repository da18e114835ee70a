-- The bends as they are worked out are the bends of the relation, and there are no others.
-- Assumes nothing.
use mathlib.Core.Path.{◌≡◌, refl, sym, ap, ap₂, ◌∙◌, subst}
use mathlib.Core.Bool.{Bool, true, false}
use mathlib.Core.Logic.{◌⊎◌, inl, inr}
use mathlib.Core.List.Memᴰ
use mathlib.Core.List.{List, [], ◌∷◌}
use Rattle.lists.specs.Member.{◌∈◌}
use Rattle.lists.proofs.TestLaws.{by, differ, either}
use Rattle.plane.specs.declared.Place.{Place}
use Rattle.plane.specs.Place.{same_place}
use Rattle.plane.proofs.PlaceLaws.{same_true, same_refl}
use Rattle.graph.specs.Edges.{edge_of}
use Rattle.slide.specs.Bend.{Edge, straight, x_first, y_first, taken, Bent, bent, given_back, kept, through, bends}
use Rattle.slide.proofs.BarLaws.{some}
use Rattle.slide.proofs.ReachLaws.{any-in}
use Rattle.slid_rules.specs.Bend.{BendAt, Bends, GivenBack}

-- what the relation says of an outcome
abbrev pub Bent-so : List Place → List Edge → Bent → Type 0
Bent-so X T (bent Y U) = Bends X T Y U
Bent-so X T given_back = GivenBack X T

-- a place that is taken is one of the points
taken_in : (X : List Place) (c : Place) → taken X c ≡ true → c ∈ X
unfolding taken
taken_in X c h = let r = some (same_place c) X h in Memᴰ.cast (same_true c r.0 r.1.1) r.1.0

in_taken : (X : List Place) (c : Place) → c ∈ X → taken X c ≡ true
unfolding taken
in_taken X c m = any-in (same_place c) X c m (same_refl c)

untaken : (X : List Place) (c : Place) → taken X c ≡ false → c ∈ X → ⊥
untaken X c h i = differ (in_taken X c i) h

-- not in the list: not taken
free-place : (X : List Place) (c : Place) → (c ∈ X → ⊥) → taken X c ≡ false
free-place X c h = by (taken X c) (λ t. absurd (h (taken_in X c t))) (λ t. t)

-- where the edge bends, by the two tests
bend-at : (X : List Place) (e : Edge) (c : Place) → BendAt X e c →
    ((taken X (x_first e) ≡ false) × (c ≡ x_first e))
    ⊎ ((taken X (x_first e) ≡ true) × ((taken X (y_first e) ≡ false) × (c ≡ y_first e)))
bend-at X e c b =
    either
    (λ q. inl (free-place X (x_first e) (λ i. b.untaken (rw q i)), q))
    (λ q. inr (in_taken X (x_first e) q.0, (free-place X (y_first e) (λ i. b.untaken (rw q.1 i)), q.1)))
    b.where_to

straight-so : (X : List Place) (e : Edge) (T : List Edge) → straight e ≡ true → (b : Bent) → Bent-so X T b →
    Bent-so X (e ∷ T) (kept e b)
unfolding kept
straight-so X e T h (bent Y U) s = inl (h, (U, (s, refl)))
straight-so X e T h given_back s = inl (h, s)

bent-so : (X : List Place) (e : Edge) (T : List Edge) (c : Place) → BendAt X e c → (b : Bent) → Bent-so (c ∷ X) T b →
    Bent-so X (e ∷ T) (through e c b)
unfolding kept through
bent-so X e T c h (bent Y U) s = inr (c, (h, (U, (s, refl))))
bent-so X e T c h given_back s = inr (inr (c, (h, s)))

pub bends-ours : (X : List Place) (T : List Edge) → Bent-so X T (bends X T)
unfolding bends
bends-ours X [] = (refl, refl)
bends-ours X (e ∷ T) =
    by (straight e)
    (λ h. rw (bends, h) (straight-so X e T h (bends X T) (bends-ours X T)))
    (λ h.
    by (taken X (x_first e))
    (λ x.
    by (taken X (y_first e))
    (λ y. rw (bends, h, x, y) (inr (inl (h, (taken_in X (x_first e) x, taken_in X (y_first e) y)))))
    (λ y. rw (bends, h, x, y)
    (bent-so X e T (y_first e)
    (record { slanted = h; where_to = inr (taken_in X (x_first e) x, refl); untaken = untaken X (y_first e) y })
    (bends (y_first e ∷ X) T) (bends-ours (y_first e ∷ X) T))))
    (λ x. rw (bends, h, x)
    (bent-so X e T (x_first e) (record { slanted = h; where_to = inl refl; untaken = untaken X (x_first e) x })
    (bends (x_first e ∷ X) T) (bends-ours (x_first e ∷ X) T))))

-- the outcome of an edge that bends at c
through-c : (X : List Place) (e : Edge) (T : List Edge) (c : Place) → BendAt X e c →
    bends X (e ∷ T) ≡ through e c (bends (c ∷ X) T)
unfolding bends
through-c X e T c b =
    either
    (λ q. subst (λ (z : Place). bends X (e ∷ T) ≡ through e z (bends (z ∷ X) T)) (sym q.1)
    (rw (bends, b.slanted, q.0) refl))
    (λ q. subst (λ (z : Place). bends X (e ∷ T) ≡ through e z (bends (z ∷ X) T)) (sym q.1.1)
    (rw (bends, b.slanted, q.0, q.1.0) refl))
    (bend-at X e c b)

pub bends-only : (X : List Place) (T : List Edge) (Y : List Place) (U : List Edge) → Bends X T Y U →
    bends X T ≡ bent Y U
unfolding bends kept through
bends-only X [] Y U (p, q) = ap₂ bent (sym p) (sym q)
bends-only X (e ∷ T) Y U (inl (h, (W, (b, q)))) =
    rw (bends, h) (ap (kept e) (bends-only X T Y W b) ∙ ap (bent Y) (sym q))
bends-only X (e ∷ T) Y U (inr (c, (at, (W, (b, q))))) =
    through-c X e T c at ∙ ap (through e c) (bends-only (c ∷ X) T Y W b) ∙ ap (bent Y) (sym q)

pub back-only : (X : List Place) (T : List Edge) → GivenBack X T → bends X T ≡ given_back
unfolding bends kept through
back-only X [] b = absurd b
back-only X (e ∷ T) (inl (h, b)) = rw (bends, h) (ap (kept e) (back-only X T b))
back-only X (e ∷ T) (inr (inl (h, (x, y)))) = rw (bends, h, in_taken X (x_first e) x, in_taken X (y_first e) y) refl
back-only X (e ∷ T) (inr (inr (c, (at, b)))) = through-c X e T c at ∙ ap (through e c) (back-only (c ∷ X) T b)
