-- A bar by any labels of the level edges, in whatever order they are read, over places or over numbers of points: what a program has.
-- Assumes nothing.
use mathlib.Core.Path.{◌≡◌, sym, ap, ◌∙◌}
use mathlib.Core.Bool.{Bool, true}
use mathlib.Core.Logic.{inl}
use mathlib.Core.List.{List}
use Rattle.lists.specs.Member.{◌∈◌}
use Rattle.lists.specs.Those.{those}
use Rattle.lists.proofs.TestLaws.{by}
use Rattle.plane.specs.declared.Place.{Place}
use Rattle.joined.specs.Joined.{Joined}
use Rattle.joined.specs.Labels.{equal, Labels}
use Rattle.joined.proofs.JoinedLaws.{one, between, carried}
use Rattle.joined.proofs.LabelLaws.{equal-true, equal-false, labelled, joined_same, same-joined}
use Rattle.slide.specs.declared.Side.{Side}
use Rattle.slide.specs.Bend.{Edge}
use Rattle.slide.specs.Bar.{same, level, on_bar}

-- two tests that say the same are equal
pub agree : (p q : Bool) → (p ≡ true → q ≡ true) → (q ≡ true → p ≡ true) → p ≡ q
agree p q h k = by p (λ e. e ∙ sym (h e)) (λ e. by q (λ g. k g ∙ sym g) (λ g. e ∙ sym g))

true-equal : {A : Type 0} (alike : Discrete A) (x y : A) → x ≡ y → equal alike x y ≡ true
true-equal alike x y e = by (equal alike x y) (λ h. h) (λ h. absurd (equal-false alike x y h e))

-- The level edges of T, over places, have the ends that f gives to the pairs L, over points of any kind, numbers for example
module _ {A : Type 0} (alike : Discrete A) (f : A → Place) (X : List A) (L : List (A × A)) (s : Side) (T : List Edge)
    (inside : (u v : A) → (u, v) ∈ L → (u ∈ X) × (v ∈ X))
    (forth : (u v : A) → (u, v) ∈ L → (f u, f v) ∈ those (level s) T)
    (back : (a b : Place) → (a, b) ∈ those (level s) T → (u : A) × ((v : A) × (((u, v) ∈ L) × ((a ≡ f u) × (b ≡ f v)))))
    (g : A → A) (by-g : Labels L g) where
  -- h finds the number of a place
  module _ (h : Place → A) (undone : (u : A) → u ∈ X → h (f u) ≡ u) where
    numbers-joined : {a b : Place} → Joined (those (level s) T) a b → Joined L (h a) (h b)
    numbers-joined j = carried h pair j
      where
        pair : (a b : Place) → (a, b) ∈ those (level s) T → Joined L (h a) (h b)
        pair a b m =
            let r = back a b m in
            let i = inside r.0 r.1.0 r.1.1.0 in
            between (ap h r.1.1.1.0 ∙ undone r.0 i.0) (ap h r.1.1.1.1 ∙ undone r.1.0 i.1) (one (inl r.1.1.0))

    places-joined : {u v : A} → Joined L u v → Joined (those (level s) T) (f u) (f v)
    places-joined j = carried f (λ u v m. one (inl (forth u v m))) j

    pub on-by-labels : (u v : A) → u ∈ X → v ∈ X → on_bar s T (f u) (f v) ≡ equal alike (g u) (g v)
    unfolding on_bar
    on-by-labels u v i k =
        agree _ _
        (λ e. true-equal alike (g u) (g v)
        (joined_same by-g
        (between (sym (undone u i)) (sym (undone v k))
        (numbers-joined (same-joined (labelled same _) (f u) (f v) (equal-true same _ _ e))))))
        (λ e. true-equal same _ _ (joined_same (labelled same _) (places-joined (same-joined by-g u v (equal-true alike _ _ e)))))
