-- The slid tree does not depend on the order of the lists of pins and macros: pins are looked for and sorted, macros are looked for.
-- Assumes nothing.
use mathlib.Core.Path.{◌≡◌, refl, sym, ap, ap₂, ◌∙◌}
use mathlib.Core.Bool.{Bool, true, false, not, ◌&&◌}
use mathlib.Core.List.Memᴰ
use mathlib.Core.List.{List, [], ◌∷◌, ◌++◌}
use Prim.Native.Nat.{ℕ, zero, suc, ◌*◌}
use lib.Dec.{eqb, ltb}
use lib.ListN.{length}
use Rattle.lists.specs.Any.{any}
use Rattle.lists.specs.Member.{Among}
use Rattle.lists.specs.Sorted.{sorted}
use Rattle.lists.proofs.TestLaws.{by, differ, either}
use Rattle.lists.proofs.SortedLaws.{in-sorted, of-sorted, sorted-ascending, ascending-same}
use Rattle.plane.specs.declared.Place.{Place}
use Rattle.plane.specs.declared.Weights.{Weights}
use Rattle.plane.specs.Place.{before}
use Rattle.plane.specs.Macro.{meets, clear}
use Rattle.plane.proofs.PlaceOrder.{place-order}
use Rattle.net.specs.Net.{Net}
use Rattle.slide.specs.declared.Side.{Side}
use Rattle.slide.specs.declared.Side.TheVariants.{Above, Below, Right, Left}
use Rattle.slide.specs.Side.{weight}
use Rattle.slide.specs.Bend.{Edge, Bent, bent, given_back, bends}
use Rattle.slide.specs.Bar.{level, on_bar, shortest}
use Rattle.slide.specs.Sweep.{swept, point_bars, edge_bars, allowed, greatest, reach, surplus, saving_of, first_place}
use Rattle.slide.specs.declared.Move.{Move}
use Rattle.slide.specs.Slide.{ends, tree_points, in_their_order, moves, distance_of, move_of, moves_of, best_of, choice, make, rounds, after_bends}
use Rattle.slide.specs.Slide.{slid}
use Rattle.slide.proofs.BarLaws.{some}
use Rattle.slide.proofs.ReachLaws.{any-in}

any_same : {A : Type 0} (f : A → Bool) (l m : List A) → Among l m → Among m l → any f l ≡ any f m
any_same f l m h k =
    by (any f l)
    (λ e. let r = some f l e in e ∙ sym (any-in f m r.0 (h r.0 r.1.0) r.1.1))
    (λ e. by (any f m) (λ g. let r = some f m g in differ (any-in f l r.0 (k r.0 r.1.0) r.1.1) e) (λ g. e ∙ sym g))

among-both : {A : Type 0} (l m k : List A) → Among l m → Among (l ++ k) (m ++ k)
among-both l m k h x i = either (λ j. Memᴰ.append_left k (h x j)) (λ j. Memᴰ.append_right m j) (Memᴰ.append_cases l i)

module _ (net net' : Net) (mn : Among net.macros net'.macros) (nm : Among net'.macros net.macros)
    (pq : Among net.pins net'.pins) (qp : Among net'.pins net.pins) (weigh : net.weights ≡ net'.weights) where
  points-same : (T : List Edge) → tree_points net T ≡ tree_points net' T
  unfolding tree_points
  points-same T =
      ascending-same before place-order (sorted before (net.pins ++ ends T)) (sorted before (net'.pins ++ ends T))
      (sorted-ascending before place-order (net.pins ++ ends T)) (sorted-ascending before place-order (net'.pins ++ ends T))
      (across (net.pins ++ ends T) (net'.pins ++ ends T) (among-both net.pins net'.pins (ends T) pq))
      (across (net'.pins ++ ends T) (net.pins ++ ends T) (among-both net'.pins net.pins (ends T) qp))
    where
      across : (l m : List Place) → Among l m → Among (sorted before l) (sorted before m)
      across l m h x i = in-sorted before place-order m x (h x (of-sorted before l x i))

  weight-same : (s : Side) → weight net s ≡ weight net' s
  unfolding weight
  weight-same Above = ap (λ (w : Weights). w.along) weigh
  weight-same Below = ap (λ (w : Weights). w.along) weigh
  weight-same Right = ap (λ (w : Weights). w.across) weigh
  weight-same Left = ap (λ (w : Weights). w.across) weigh

  clear-same : (a b : Place) → clear a b net.macros ≡ clear a b net'.macros
  unfolding clear
  clear-same a b = ap not (any_same (meets a b) net.macros net'.macros mn nm)

  module _ (T : List Edge) (s : Side) where
    allowed_same : (on : Place → Bool) (X : List Place) (a : Place) (d : ℕ) → allowed s on X T a net d ≡ allowed s on X T a net' d
    unfolding allowed
    allowed_same on X a d =
        ap (λ (t : Bool). t && (not (any (point_bars s on X T a d) X) && not (any (edge_bars s on X T a d) T)))
        (clear-same (swept s on X T a d).0 (swept s on X T a d).1)

    reach-same : (on : Place → Bool) (X : List Place) (a : Place) → reach s on net X T a ≡ reach s on net' X T a
    unfolding reach
    reach-same on X a = ap (λ (ok : ℕ → Bool). greatest ok (shortest s on T)) (λ i d. allowed_same on X a d i)

    module _ (e : Edge) where
      moves-same : moves net T s e ≡ moves net' T s e
      unfolding moves
      moves-same =
          ap (λ (t : Bool). level s e && (not t && ltb 0 (surplus s (on_bar s T e.0) T)))
          (any_same (on_bar s T e.0) net.pins net'.pins pq qp)

      distance-same : distance_of net T s e ≡ distance_of net' T s e
      unfolding distance_of
      distance-same =
          by (moves net T s e)
          (λ g. rw (distance_of, g, sym moves-same ∙ g)
          (reach-same (on_bar s T e.0) (tree_points net T) e.0 ∙ ap (λ (X : List Place). reach s (on_bar s T e.0) net' X T e.0)
          (points-same T)))
          (λ g. rw (distance_of, g, sym moves-same ∙ g) refl)

      -- a move by the tree points, the distance and the weight
      abbrev move_by : List Place → ℕ → ℕ → Move
      move_by X d k = record {
        saving = d * surplus s (on_bar s T e.0) T * k;
        first = first_place s (on_bar s T e.0) X T e.0;
        side = s;
        distance = d;
      }

      move_same : move_of net T s e ≡ move_of net' T s e
      unfolding move_of saving_of
      move_same =
          ap₂ (λ (X : List Place) (d : ℕ). move_by X d (weight net s)) (points-same T) distance-same
          ∙ ap (move_by (tree_points net' T) (distance_of net' T s e)) (weight-same s)

  list_same : (T L : List Edge) → moves_of net T L ≡ moves_of net' T L
  unfolding moves_of
  list_same T [] = refl
  list_same T (e ∷ L) =
      ap₂ (λ (m : Move) (l : List Move). m ∷ l) (move_same T Above e)
      (ap₂ (λ (m : Move) (l : List Move). m ∷ l) (move_same T Below e)
      (ap₂ (λ (m : Move) (l : List Move). m ∷ l) (move_same T Right e)
      (ap₂ (λ (m : Move) (l : List Move). m ∷ l) (move_same T Left e) (list_same T L))))

  choice-same : (T : List Edge) (e : Edge) (L : List Edge) → choice net T e L ≡ choice net' T e L
  unfolding choice
  choice-same T e L = ap₂ best_of (move_same T Above e) (list_same T (e ∷ L))

  rounds-same : (n : ℕ) (T : List Edge) → rounds net n T ≡ rounds net' n T
  unfolding rounds make
  rounds-same zero T = refl
  rounds-same (suc n) [] = refl
  rounds-same (suc n) (e ∷ L) =
      let c = choice-same (e ∷ L) e L in
      let k = choice net' (e ∷ L) e L in
      ap (λ (m : Move). elim (eqb m.saving 0) as (λ t. List Edge) [ true ↦ e ∷ L | false ↦ rounds net n (make m (e ∷ L)) ]) c
      ∙ ap (λ (l : List Edge). elim (eqb k.saving 0) as (λ t. List Edge) [ true ↦ e ∷ L | false ↦ l ]) (rounds-same n (make k (e ∷ L)))

  pub slid-same : (T : List Edge) → slid net T ≡ slid net' T
  unfolding slid after_bends
  slid-same T = at (bends (tree_points net T) T) ∙ ap (λ (X : List Place). after_bends net' T (bends X T)) (points-same T)
    where
      at : (r : Bent) → after_bends net T r ≡ after_bends net' T r
      at (bent X U) = rounds-same (length X) (in_their_order U)
      at given_back = refl
