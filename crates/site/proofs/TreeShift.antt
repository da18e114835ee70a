-- Wires, metal and the verdict on a list of edges: those of shifted edges are the same, shifted.
-- Assumes nothing.
use mathlib.Core.Path.{◌≡◌, refl, sym, ap, ap₂, ◌∙◌}
use mathlib.Core.Bool.{Bool, true, false, not, cond, ◌&&◌, ◌||◌}
use mathlib.Core.List.{List, [], ◌∷◌, ◌++◌, map}
use Prim.Native.Nat.{ℕ, zero, suc, ◌+◌}
use lib.Dec.{eqb}
use lib.IntN.{ℤ, pos, ◌+ℤ◌}
use lib.ListN.{length, get_or, length-map}
use Rattle.lists.specs.Any.{any}
use Rattle.lists.specs.Those.{those}
use Rattle.lists.specs.Sorted.{sorted, position}
use Rattle.lists.specs.Total.{total}
use Rattle.lists.proofs.TestLaws.{by}
use Rattle.lent.specs.Told.{Told, refused, given}
use Rattle.joined.specs.Cost.{lengths}
use Rattle.joined.specs.Table.{changed, merged_by}
use Rattle.plane.specs.declared.Place.{Place}
use Rattle.plane.specs.declared.Macro.{Macro}
use Rattle.plane.specs.Place.{before, same_place}
use Rattle.plane.specs.Distance.{apart, distance}
use Rattle.plane.specs.Macro.{clear}
use Rattle.net.specs.Net.{Net, cost_in}
use Rattle.forest.specs.Edges.{from}
use Rattle.refined.specs.Wires.{drawn, bend, wires_of_edge, wires}
use Rattle.refined.specs.Metal.{metal}
use Rattle.bought.specs.Edges.{Edge, ends_of, points_of}
use Rattle.bought.specs.Verdict.{unfit, end_numbers, one_group, is_tree, ends_at, bare, no_tree, verdict}
use Rattle.site.specs.Shift.{shift, shift_macro, shift_net}
use Rattle.site.proofs.ShiftLaws.{apart-there, before-there, same-there, cost-there, clear-there}
use Rattle.site.proofs.ListShift.{any-there, those-there, sorted-there}
use Rattle.site.proofs.BarShift.{F, E, map-append}

module _ (dx dy : ℤ) where
  pub distance-there : (a b : Place) → distance (F dx dy a) (F dx dy b) ≡ distance a b
  unfolding distance
  distance-there a b = ap₂ ◌+◌ (apart-there dx a.x b.x) (apart-there dy a.y b.y)

  -- Sums

  lengths-there : (d e : Place → Place → ℕ) → ((a b : Place) → e (F dx dy a) (F dx dy b) ≡ d a b) → (T : List Edge) →
      lengths e (map (E dx dy) T) ≡ lengths d T
  unfolding lengths total
  lengths-there d e k [] = refl
  lengths-there d e k (x ∷ T) = ap₂ ◌+◌ (k x.0 x.1) (lengths-there d e k T)

  pub metal-there : (T : List Edge) → metal (map (E dx dy) T) ≡ metal T
  metal-there T = lengths-there distance distance distance-there T

  pub total-there : (net : Net) (T : List Edge) → lengths (cost_in (shift_net dx dy net)) (map (E dx dy) T) ≡ lengths (cost_in net) T
  total-there net T = lengths-there (cost_in net) (cost_in (shift_net dx dy net)) (cost-there dx dy net.weights) T

  -- Wires

  drawn-there : (a b : Place) → drawn (F dx dy a) (F dx dy b) ≡ map (E dx dy) (drawn a b)
  unfolding drawn
  drawn-there a b =
      by (eqb (distance a b) 0)
      (λ t.
      let u : eqb (distance (F dx dy a) (F dx dy b)) 0 ≡ true = ap (λ (n : ℕ). eqb n 0) (distance-there a b) ∙ t in rw (drawn, u, t) refl)
      (λ t.
      let u : eqb (distance (F dx dy a) (F dx dy b)) 0 ≡ false = ap (λ (n : ℕ). eqb n 0) (distance-there a b) ∙ t in rw (drawn, u, t) refl)

  edge-wires : (e : Edge) → wires_of_edge (E dx dy e) ≡ map (E dx dy) (wires_of_edge e)
  unfolding wires_of_edge
  edge-wires e =
      ap₂ ◌++◌ (drawn-there e.0 (bend e.0 e.1)) (drawn-there (bend e.0 e.1) e.1)
      ∙ sym (map-append (E dx dy) (drawn e.0 (bend e.0 e.1)) (drawn (bend e.0 e.1) e.1))

  pub wires-there : (T : List Edge) → wires (map (E dx dy) T) ≡ map (E dx dy) (wires T)
  unfolding wires
  wires-there [] = refl
  wires-there (e ∷ T) = ap₂ ◌++◌ (edge-wires e) (wires-there T) ∙ sym (map-append (E dx dy) (wires_of_edge e) (wires T))

  -- The verdict

  ends_there : (T : List Edge) → ends_of (map (E dx dy) T) ≡ map (F dx dy) (ends_of T)
  unfolding ends_of
  ends_there [] = refl
  ends_there (e ∷ T) = ap (λ (l : List Place). F dx dy e.0 ∷ (F dx dy e.1 ∷ l)) (ends_there T)

  points-there : (pins : List Place) (T : List Edge) →
      points_of (map (F dx dy) pins) (map (E dx dy) T) ≡ map (F dx dy) (points_of pins T)
  unfolding points_of
  points-there pins T =
      ap (λ (l : List Place). sorted before (map (F dx dy) pins ++ l)) (ends_there T)
      ∙ ap (sorted before) (sym (map-append (F dx dy) pins (ends_of T)))
      ∙ sorted-there (F dx dy) before before (before-there dx dy) (pins ++ ends_of T)

  position-there : (X : List Place) (a : Place) → position before (map (F dx dy) X) (F dx dy a) ≡ position before X a
  unfolding position
  position-there [] a = refl
  position-there (b ∷ X) a =
      by (before b a)
      (λ t. let u : before (F dx dy b) (F dx dy a) ≡ true = before-there dx dy b a ∙ t in rw (position, u, t) (ap suc (position-there X a)))
      (λ t. let u : before (F dx dy b) (F dx dy a) ≡ false = before-there dx dy b a ∙ t in rw (position, u, t) refl)

  merged-there : (X : List Place) (T : List Edge) (t : List ℕ) →
      merged_by (end_numbers (map (F dx dy) X)) (map (E dx dy) T) t ≡ merged_by (end_numbers X) T t
  unfolding merged_by
  merged-there X [] t = refl
  merged-there X (e ∷ T) t =
      ap₂ (λ (i j : ℕ). merged_by (end_numbers (map (F dx dy) X)) (map (E dx dy) T) (map (changed (get_or t i 0) (get_or t j 0)) t))
      (position-there X e.0) (position-there X e.1)
      ∙ merged-there X T (map (changed (get_or t (position before X e.0) 0) (get_or t (position before X e.1) 0)) t)

  tree-there : (pins : List Place) (T : List Edge) → is_tree (map (F dx dy) pins) (map (E dx dy) T) ≡ is_tree pins T
  unfolding is_tree
  tree-there pins T =
      let X = points_of pins T in
      ap (λ (Y : List Place). eqb (length Y) (suc (length (map (E dx dy) T)))
      && one_group (merged_by (end_numbers Y) (map (E dx dy) T) (from 0 (length Y))) (length Y)) (points-there pins T)
      ∙ ap₂ (λ (n m : ℕ). eqb n (suc m) && one_group (merged_by (end_numbers (map (F dx dy) X)) (map (E dx dy) T) (from 0 n)) n)
      (length-map X (F dx dy)) (length-map T (E dx dy))
      ∙ ap (λ (t : List ℕ). eqb (length X) (suc (length T)) && one_group t (length X)) (merged-there X T (from 0 (length X)))

  bare-there : (pins ends : List Place) (p : Place) → bare (map (F dx dy) pins) (map (F dx dy) ends) (F dx dy p) ≡ bare pins ends p
  unfolding bare ends_at
  bare-there pins ends p =
      ap₂ (λ (n : ℕ) (t : Bool). eqb n 1 && not t)
      (ap length (those-there (F dx dy) (same_place p) (same_place (F dx dy p)) (same-there dx dy p) ends)
      ∙ length-map (those (same_place p) ends) (F dx dy))
      (any-there (F dx dy) (same_place p) (same_place (F dx dy p)) (same-there dx dy p) pins)

  no-tree-there : (pins : List Place) (T : List Edge) → no_tree (map (F dx dy) pins) (map (E dx dy) T) ≡ no_tree pins T
  unfolding no_tree
  no-tree-there pins T =
      ap₂ (λ (s t : Bool). not s || t) (tree-there pins T)
      (ap (λ (l : List Place). any (bare (map (F dx dy) pins) l) l) (ends_there T)
      ∙ any-there (F dx dy) (bare pins (ends_of T)) (bare (map (F dx dy) pins) (map (F dx dy) (ends_of T)))
      (bare-there pins (ends_of T)) (ends_of T))

  unfit-there : (ms : List Macro) (e : Edge) → unfit (map (shift_macro dx dy) ms) (E dx dy e) ≡ unfit ms e
  unfolding unfit
  unfit-there ms e = ap₂ (λ (s t : Bool). s || not t) (same-there dx dy e.0 e.1) (clear-there dx dy e.0 e.1 ms)

  pub verdict-there : (net : Net) (T : List Edge) → verdict (shift_net dx dy net) (map (E dx dy) T) ≡ verdict net T
  unfolding verdict
  verdict-there net T =
      ap₂ (λ (s : Bool) (r : Told (ℤ × ℤ)). cond s (refused 34) r)
      (any-there (E dx dy) (unfit net.macros) (unfit (map (shift_macro dx dy) net.macros)) (unfit-there net.macros) T)
      (ap₂ (λ (s : Bool) (r : ℤ × ℤ). cond s (refused 35) (given r)) (no-tree-there net.pins T)
      (ap₂ (λ (m n : ℕ). (pos m, pos n)) (total-there net T) (metal-there T)))
