-- The points after a move are two ascending runs merged: those of the bar, moved, and the others. A move keeps the order within each.
-- Assumes nothing.
use mathlib.Core.Path.{◌≡◌, refl, sym, ◌∙◌}
use mathlib.Core.Bool.{Bool, true, not}
use mathlib.Core.Logic.{◌⊎◌}
use mathlib.Core.List.Memᴰ
use mathlib.Core.List.{List, [], ◌∷◌, map}
use Prim.Native.Nat.{ℕ}
use Rattle.lists.specs.Member.{◌∈◌, here, there, Among}
use Rattle.lists.specs.Those.{those}
use Rattle.lists.specs.Sorted.{sorted, Ascending}
use Rattle.lists.proofs.TestLaws.{by, either, not-true}
use Rattle.lists.proofs.MapLaws.{in_map, of_map}
use Rattle.lists.proofs.ThoseLaws.{in-those, of-those, those-hit, those-miss}
use Rattle.lists.proofs.SortedLaws.{in-sorted, of-sorted, sorted-ascending, ascending-same}
use Rattle.plane.specs.declared.Place.{Place}
use Rattle.plane.specs.Place.{before}
use Rattle.plane.proofs.PlaceOrder.{place-order}
use Rattle.net.specs.Net.{Net}
use Rattle.slide.specs.declared.Side.{Side}
use Rattle.slide.specs.Side.{moved}
use Rattle.slide.specs.Bend.{Edge}
use Rattle.slide.specs.Slide.{shift}
use Rattle.slide.specs.Bars.{IsBar}
use Rattle.slide.proofs.AcrossLaws.{along-moved}
use Rattle.slide.proofs.EdgeLaws.{shift-on, shift-off}
use Rattle.slide.proofs.ShiftLaws.{moved-level}
use Rattle.slide.proofs.ReachLaws.{not-false}
use Rattle.slide.proofs.SmallerLaws.{same-level}

pub those-ascending : (f : Place → Bool) (l : List Place) → Ascending before l → Ascending before (those f l)
unfolding those
those-ascending f [] a = tt
those-ascending f (p ∷ l) a =
    by (f p)
    (λ e. rw (those-hit f p l e) (λ q m. a.0 q (of-those f l m).0, those-ascending f l a.1))
    (λ e. rw (those-miss f p l e) (those-ascending f l a.1))

pub map-ascending : (g : Place → Place) (l : List Place) → ((p q : Place) → p ∈ l → q ∈ l → before p q ≡ true → before (g p) (g q) ≡ true) →
    Ascending before l → Ascending before (map g l)
map-ascending g [] h a = tt
map-ascending g (p ∷ l) h a = (
  λ q m. let r = of_map g l m in rw r.is (h p r.entry (here refl) (there r.stands) (a.0 r.entry r.stands)),
  map-ascending g l (λ x y i k. h x y (there i) (there k)) a.1,
)

module _ {s : Side} {net : Net} {X : List Place} {T : List Edge} {on : Place → Bool} (c : IsBar s net X T on) (d : ℕ)
    (order : Ascending before X) where
  abbrev moved_run : List Place
  moved_run = map (moved s d) (those on X)

  abbrev other_run : List Place
  other_run = those (λ p. not (on p)) X

  pub moved-ascending : Ascending before moved_run
  moved-ascending = map-ascending (moved s d) (those on X) keeps (those-ascending on X order)
    where
      keeps : (p q : Place) → p ∈ those on X → q ∈ those on X → before p q ≡ true → before (moved s d p) (moved s d q) ≡ true
      keeps p q i k o =
          let line = c.flat p (of-those on X i).1 ∙ sym (c.flat q (of-those on X k).1) in
          same-level s p q (moved s d p) (moved s d q) line (moved-level s on d p q line) (along-moved s d p) (along-moved s d q) o

  pub others-ascending : Ascending before other_run
  others-ascending = those-ascending (λ p. not (on p)) X order

  -- an ascending list of both runs is that of the moved points
  pub merged : (Z : List Place) → Ascending before Z → Among moved_run Z → Among other_run Z →
      ((z : Place) → z ∈ Z → (z ∈ moved_run) ⊎ (z ∈ other_run)) →
      Z ≡ sorted before (map (shift s on d) X)
  merged Z a h k only =
      ascending-same before place-order Z (sorted before (map (shift s on d) X)) a
      (sorted-ascending before place-order (map (shift s on d) X))
      (λ z m. in-sorted before place-order (map (shift s on d) X) z (either from-moved from-others (only z m)))
      (λ z m. to-run (of-sorted before (map (shift s on d) X) z m))
    where
      from-moved : {z : Place} → z ∈ moved_run → z ∈ map (shift s on d) X
      from-moved m =
          let r = of_map (moved s d) (those on X) m in
          let q = of-those on X r.stands in
          Memᴰ.cast (r.is ∙ sym (shift-on s on d r.entry q.1)) (in_map (shift s on d) q.0)

      from-others : {z : Place} → z ∈ other_run → z ∈ map (shift s on d) X
      from-others {z} m =
          let q = of-those (λ p. not (on p)) X m in
          Memᴰ.cast (sym (shift-off s on d z (not-true (on z) q.1))) (in_map (shift s on d) q.0)

      to-run : {z : Place} → z ∈ map (shift s on d) X → z ∈ Z
      to-run {z} m =
          let r = of_map (shift s on d) X m in
          by (on r.entry)
          (λ e. h z (Memᴰ.cast (r.is ∙ shift-on s on d r.entry e) (in_map (moved s d) (in-those on X r.stands e))))
          (λ e. k z (Memᴰ.cast (r.is ∙ shift-off s on d r.entry e)
          (in-those (λ p. not (on p)) X r.stands (not-false (on r.entry) e))))
