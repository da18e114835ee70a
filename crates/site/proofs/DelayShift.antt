-- The delays of a shifted tree are those of the tree: rooting asks which of two places comes first and which are the same, and the two
-- passes ask for lengths and loads.
-- Assumes nothing.
use mathlib.Core.Path.{◌≡◌, refl, sym, ap, ap₂, ◌∙◌}
use mathlib.Core.Bool.{Bool, true, false, not}
use mathlib.Core.List.{List, [], ◌∷◌, map}
use Prim.Native.Nat.{ℕ, zero, suc}
use lib.IntN.{ℤ}
use lib.ListN.{length, length-map}
use lib.Ieee.{Float}
use Rattle.lists.specs.Any.{any}
use Rattle.lists.specs.Sorted.{put, sorted}
use Rattle.lists.specs.Those.{those}
use Rattle.lists.proofs.TestLaws.{by}
use Rattle.signed.specs.Sides.{up}
use Rattle.lent.specs.Told.{Told}
use Rattle.plane.specs.declared.Place.{Place}
use Rattle.plane.specs.Place.{before, same_place}
use Rattle.plane.specs.Distance.{distance}
use Rattle.rules.specs.Edges.{Edge}
use Rattle.floats.specs.declared.Technology.{Technology}
use Rattle.floats.specs.Mark.{Delay}
use Rattle.floats.specs.Float as float
use Rattle.elmore.specs.Rooted.{Branches, renamed, Every, none, branch, sprout, neighbours, children, hanging, rooted}
use Rattle.elmore.specs.Elmore.{delays, delay_in}
use Rattle.delay.specs.Load.{load_of}
use Rattle.floats.specs.Mark.{marked}
use Rattle.delay.specs.Answer.{delay_of, marks_of, delayed, delay_answer}
use Rattle.elmore.proofs.CarriedLaws.{named, sprout-renamed, delays-renamed, delay_in-renamed}
use Rattle.site.specs.Shift.{shift_entry}
use Rattle.site.proofs.ShiftLaws.{before-there, same-there}
use Rattle.site.proofs.TreeShift.{distance-there}
use Rattle.site.proofs.ListShift.{any-there, those-there, put-there, sorted-there}
use Rattle.site.proofs.BarShift.{F, E, map-map}

all-points : (b : Branches Place) → Every (λ (p : Place). Unit {0}) b
all-points none = tt
all-points (branch c below beside) = (tt, (all-points below, all-points beside))

module _ (dx dy : ℤ) where
  -- Rooted

  -- one more neighbour on both sides
  put-moved : (q : Place) (l m : List Place) → l ≡ map (F dx dy) m → put before (F dx dy q) l ≡ map (F dx dy) (put before q m)
  put-moved q l m e = ap (put before (F dx dy q)) e ∙ put-there (F dx dy) before before (before-there dx dy) q m

  neighbours-there : (es : List Edge) (p : Place) → neighbours (map (E dx dy) es) (F dx dy p) ≡ map (F dx dy) (neighbours es p)
  unfolding neighbours
  neighbours-there [] p = refl
  neighbours-there (e ∷ es) p =
      by (same_place e.0 p)
      (λ t.
      let u : same_place (F dx dy e.0) (F dx dy p) ≡ true = same-there dx dy e.0 p ∙ t in
      rw (neighbours, u, t) (put-moved e.1 (neighbours (map (E dx dy) es) (F dx dy p)) (neighbours es p) (neighbours-there es p)))
      λ t.
      let u : same_place (F dx dy e.0) (F dx dy p) ≡ false = same-there dx dy e.0 p ∙ t in
      by (same_place e.1 p)
      (λ s.
      let v : same_place (F dx dy e.1) (F dx dy p) ≡ true = same-there dx dy e.1 p ∙ s in
      rw (neighbours, u, t, v, s) (put-moved e.0 (neighbours (map (E dx dy) es) (F dx dy p)) (neighbours es p) (neighbours-there es p)))
      (λ s.
      let v : same_place (F dx dy e.1) (F dx dy p) ≡ false = same-there dx dy e.1 p ∙ s in
      rw (neighbours, u, t, v, s) (neighbours-there es p))

  children-there : (es : List Edge) (up p : Place) →
      children (map (E dx dy) es) (F dx dy up) (F dx dy p) ≡ map (F dx dy) (children es up p)
  unfolding children
  children-there es up p =
      ap (those (λ q. not (same_place q (F dx dy up)))) (neighbours-there es p)
      ∙ those-there (F dx dy) (λ q. not (same_place q up)) (λ q. not (same_place q (F dx dy up))) (λ q. ap not (same-there dx dy q up))
      (neighbours es p)

  hanging-there : (es : List Edge) (n : ℕ) (up p : Place) →
      hanging (map (E dx dy) es) n (F dx dy up) (F dx dy p) ≡ renamed (F dx dy) (hanging es n up p)
  unfolding hanging renamed
  hanging-there es zero up p = refl
  hanging-there es (suc n) up p =
      ap (sprout (hanging (map (E dx dy) es) n (F dx dy p))) (children-there es up p)
      ∙ sym (sprout-renamed (F dx dy) (hanging es n p) (hanging (map (E dx dy) es) n (F dx dy p)) (children es up p)
      (λ c m. sym (hanging-there es n p c)))

  rooted-there : (es : List Edge) (driver : Place) → rooted (map (E dx dy) es) (F dx dy driver) ≡ renamed (F dx dy) (rooted es driver)
  unfolding rooted
  rooted-there es driver =
      ap (λ (n : ℕ). hanging (map (E dx dy) es) n (F dx dy driver) (F dx dy driver)) (length-map es (E dx dy))
      ∙ hanging-there es (length es) driver driver

  -- Loads

  pub load-there : (l : List (Place × ℤ)) (q : Place) → load_of (map (shift_entry dx dy) l) (F dx dy q) ≡ load_of l q
  unfolding load_of
  load-there [] q = refl
  load-there (x ∷ l) q =
      by (same_place x.0 q)
      (λ t. let u : same_place (F dx dy x.0) (F dx dy q) ≡ true = same-there dx dy x.0 q ∙ t in rw (load_of, u, t) refl)
      (λ t.
      let u : same_place (F dx dy x.0) (F dx dy q) ≡ false = same-there dx dy x.0 q ∙ t in
      rw (load_of, u, t) (load-there l q))

  -- Delays

  module _ (es : List Edge) (load load' : Place → ℕ) (k : (p : Place) → load p ≡ load' (F dx dy p)) (t : Technology) (driver : Place) where
    delay-there : (q : Place) → delay_of (map (E dx dy) es) load' t (F dx dy driver) (F dx dy q) ≡ delay_of es load t driver q
    unfolding delay_of
    delay-there q =
        ap (λ (b : Branches Place). delay_in same_place (F dx dy q) float.zero (delays distance load' t (F dx dy driver) float.zero b))
        (rooted-there es driver)
        ∙ ap (delay_in same_place (F dx dy q) float.zero)
        (sym (delays-renamed (F dx dy) distance distance (λ a b. sym (distance-there dx dy a b)) load load' t (λ p. Unit {0})
        (λ p u. k p) (rooted es driver) (all-points (rooted es driver)) driver float.zero))
        ∙ sym (delay_in-renamed (F dx dy) same_place same_place q float.zero (delays distance load t driver float.zero (rooted es driver))
        (λ x m. sym (same-there dx dy x.0 q)))

    pub marks-there : (pins : List Place) →
        marks_of (map (E dx dy) es) load' t (F dx dy driver) (map (F dx dy) pins) ≡ marks_of es load t driver pins
    unfolding marks_of
    marks-there pins =
        ap (map (λ q. marked (delay_of (map (E dx dy) es) load' t (F dx dy driver) q)))
        (sorted-there (F dx dy) before before (before-there dx dy) pins)
        ∙ marked-same (sorted before pins)
      where
        marked-same : (l : List Place) → map (λ q. marked (delay_of (map (E dx dy) es) load' t (F dx dy driver) q)) (map (F dx dy) l)
            ≡ map (λ q. marked (delay_of es load t driver q)) l
        marked-same [] = refl
        marked-same (q ∷ l) = ap₂ (λ (x : Delay) (r : List Delay). x ∷ r) (ap marked (delay-there q)) (marked-same l)

    pub delayed-there : (pins : List Place) (room : ℕ) →
        delay_answer (map (E dx dy) es) load' (map (F dx dy) pins) t (F dx dy driver) room ≡ delay_answer es load pins t driver room
    unfolding delay_answer
    delayed-there pins room =
        ap (λ (n : ℕ). delayed room n t (any (same_place (F dx dy driver)) (map (F dx dy) pins))
        (marks_of (map (E dx dy) es) load' t (F dx dy driver) (map (F dx dy) pins))) (length-map pins (F dx dy))
        ∙ ap₂ (λ (found : Bool) (l : List Delay). delayed room (length pins) t found l)
        (any-there (F dx dy) (same_place driver) (same_place (F dx dy driver)) (same-there dx dy driver) pins) (marks-there pins)
