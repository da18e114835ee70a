-- The slid tree of a shifted net is the slid tree, shifted.
-- Assumes nothing.
use mathlib.Core.Path.{◌≡◌, refl, sym, ap, ap₂, ◌∙◌}
use mathlib.Core.Bool.{Bool, true, false, not, ◌&&◌, ◌||◌}
use mathlib.Core.List.{List, [], ◌∷◌, map}
use Prim.Native.Nat.{ℕ, zero, suc, ◌-◌, ◌*◌}
use lib.Dec.{eqb, ltb}
use lib.IntN.{ℤ, ◌+ℤ◌}
use lib.ListN.{length, length-map}
use lib.Signed.{le_z}
use Rattle.lists.specs.Any.{any}
use Rattle.lists.specs.Those.{those}
use Rattle.lists.specs.Sorted.{sorted, first_then}
use Rattle.lists.proofs.TestLaws.{by}
use Rattle.signed.specs.Order.{z_min, z_max}
use Rattle.plane.specs.declared.Place.{Place}
use Rattle.plane.specs.Place.{place, before, same_place}
use Rattle.plane.specs.Macro.{clear}
use Rattle.net.specs.Net.{Net}
use Rattle.slide.specs.declared.Side.{Side}
use Rattle.slide.specs.declared.Side.TheVariants.{Above, Below, Right, Left}
use Rattle.slide.specs.declared.Move.{Move}
use Rattle.slide.specs.Side.{horizontal, moved, weight}
use Rattle.slide.specs.Bend.{Edge, taken, Bent, bent, given_back, bends}
use Rattle.slide.specs.Bar.{level, on_bar, of_bar, hangs, ahead, behind, shortest, far_ends, first_of, last_of}
use Rattle.slide.specs.Sweep.{low_corner, high_corner, boxes_meet, only_in, first_place, last_place, swept, point_bars, edge_bars, allowed}
use Rattle.slide.specs.Sweep.{greatest}
use Rattle.slide.specs.Sweep.{reach, surplus, saving_of}
use Rattle.slide.specs.Slide.{tree_points, shift, shift_edge, proper, in_their_order, slide, moves, distance_of, move_of, moves_of, better, best_of}
use Rattle.slide.specs.Slide.{make}
use Rattle.slide.specs.Slide.{choice, rounds, after_bends, slid, greater, flatter}
use Rattle.rules.specs.Moved.{moved_edge}
use Rattle.site.specs.Shift.{shift_net}
use Rattle.site.specs.Shift as site
use Rattle.site.proofs.ShiftLaws.{le-there, min-there, max-there, before-there, same-there, clear-there}
use Rattle.site.proofs.ListShift.{any-there, those-there, sorted-there}
use Rattle.rules.proofs.TreesMoved.{choose, edges-there}
use Rattle.site.proofs.NetShift.{moves as net-moves}
use Rattle.site.proofs.BarShift.{F, E, taken-there, moved_bent, bends-there, points-there, moved-there, level-there, on-there}
use Rattle.site.proofs.BarShift.{of-bar-there, hangs-there, ahead-there, behind-there, shortest-there, far-ends-there}
use Rattle.site.proofs.BarShift.{first-there, last-there}

greatest-same : (p q : ℕ → Bool) → ((n : ℕ) → p n ≡ q n) → (n : ℕ) → greatest p n ≡ greatest q n
unfolding greatest
greatest-same p q k zero = refl
greatest-same p q k (suc n) =
    by (q (suc n))
    (λ t. let u : p (suc n) ≡ true = k (suc n) ∙ t in rw (greatest, u, t) refl)
    (λ t. let u : p (suc n) ≡ false = k (suc n) ∙ t in rw (greatest, u, t) (greatest-same p q k n))

-- the low and the high number of two spans' meeting
low-there : (d a b c e : ℤ) → z_max (z_min (a +ℤ d) (b +ℤ d)) (z_min (c +ℤ d) (e +ℤ d)) ≡ z_max (z_min a b) (z_min c e) +ℤ d
low-there d a b c e = ap₂ z_max (min-there d a b) (min-there d c e) ∙ max-there d (z_min a b) (z_min c e)

high-there : (d a b c e : ℤ) → z_min (z_max (a +ℤ d) (b +ℤ d)) (z_max (c +ℤ d) (e +ℤ d)) ≡ z_min (z_max a b) (z_max c e) +ℤ d
high-there d a b c e = ap₂ z_min (max-there d a b) (max-there d c e) ∙ min-there d (z_max a b) (z_max c e)

module _ (dx dy : ℤ) where
  -- Boxes

  low-corner : (e f : Edge) → low_corner (E dx dy e) (E dx dy f) ≡ F dx dy (low_corner e f)
  unfolding low_corner
  low-corner e f =
      ap₂ place (low-there dx e.0.x e.1.x f.0.x f.1.x) (low-there dy e.0.y e.1.y f.0.y f.1.y)

  high-corner : (e f : Edge) → high_corner (E dx dy e) (E dx dy f) ≡ F dx dy (high_corner e f)
  unfolding high_corner
  high-corner e f =
      ap₂ place (high-there dx e.0.x e.1.x f.0.x f.1.x) (high-there dy e.0.y e.1.y f.0.y f.1.y)

  boxes-there : (e f : Edge) → boxes_meet (E dx dy e) (E dx dy f) ≡ boxes_meet e f
  unfolding boxes_meet
  boxes-there e f =
      ap₂ (λ (p q : Place). le_z p.x q.x && le_z p.y q.y) (low-corner e f) (high-corner e f)
      ∙ ap₂ ◌&&◌ (le-there dx (low_corner e f).x (high_corner e f).x) (le-there dy (low_corner e f).y (high_corner e f).y)

  only-there : (e f : Edge) (q : Place) → only_in (E dx dy e) (E dx dy f) (F dx dy q) ≡ only_in e f q
  unfolding only_in
  only-there e f q =
      ap₂ (λ (a b : Place). same_place a (F dx dy q) && same_place b (F dx dy q)) (low-corner e f) (high-corner e f)
      ∙ ap₂ ◌&&◌ (same-there dx dy (low_corner e f) q) (same-there dx dy (high_corner e f) q)

  -- How far a bar moves

  module _ (s : Side) (on on' : Place → Bool) (k : (p : Place) → on' (F dx dy p) ≡ on p) (net : Net) (X : List Place) (T : List Edge)
      (a : Place) where
    abbrev X' : List Place
    X' = map (F dx dy) X

    abbrev T' : List Edge
    T' = map (E dx dy) T

    pub first-place-there : first_place s on' X' T' (F dx dy a) ≡ F dx dy (first_place s on X T a)
    unfolding first_place
    first-place-there = ap (first_of (F dx dy a)) (those-there (F dx dy) on on' k X) ∙ first-there dx dy a (those on X)

    last-place-there : last_place s on' X' T' (F dx dy a) ≡ F dx dy (last_place s on X T a)
    unfolding last_place
    last-place-there = ap (last_of (F dx dy a)) (those-there (F dx dy) on on' k X) ∙ last-there dx dy a (those on X)

    swept-there : (d : ℕ) → swept s on' X' T' (F dx dy a) d ≡ E dx dy (swept s on X T a d)
    unfolding swept
    swept-there d =
        ap₂ (λ (p q : Place). (p, q)) first-place-there (ap (moved s d) last-place-there ∙ moved-there dx dy s d (last_place s on X T a))

    point-there : (d : ℕ) (p : Place) → point_bars s on' X' T' (F dx dy a) d (F dx dy p) ≡ point_bars s on X T a d p
    unfolding point_bars
    point-there d p =
        ap₂ ◌&&◌ (ap (boxes_meet (F dx dy p, F dx dy p)) (swept-there d) ∙ boxes-there (p, p) (swept s on X T a d))
        (ap₂ (λ (x y : Bool). not x && not y) (k p)
        (ap (λ (l : List Place). taken l (F dx dy p)) (far-ends-there dx dy s on on' k T) ∙ taken-there dx dy (far_ends s on T) p))

    edge-there : (d : ℕ) (e : Edge) → edge_bars s on' X' T' (F dx dy a) d (E dx dy e) ≡ edge_bars s on X T a d e
    unfolding edge_bars
    edge-there d e =
        ap₂ ◌&&◌ (ap (boxes_meet (E dx dy e)) (swept-there d) ∙ boxes-there e (swept s on X T a d))
        (ap₂ (λ (x y : Bool). not x && not y)
        (ap₂ ◌||◌ (of-bar-there dx dy s on on' k e) (hangs-there dx dy s on on' k e))
        (ap₂ (λ (f : Edge) (l : List Place). any (only_in (E dx dy e) f) l) (swept-there d) (far-ends-there dx dy s on on' k T)
        ∙ any-there (F dx dy) (only_in e (swept s on X T a d)) (only_in (E dx dy e) (E dx dy (swept s on X T a d)))
        (only-there e (swept s on X T a d)) (far_ends s on T)))

    allowed-there : (d : ℕ) → allowed s on' X' T' (F dx dy a) (shift_net dx dy net) d ≡ allowed s on X T a net d
    unfolding allowed
    allowed-there d =
        ap₂ ◌&&◌
        (ap (λ (e : Edge). clear e.0 e.1 (shift_net dx dy net).macros) (swept-there d)
        ∙ clear-there dx dy (swept s on X T a d).0 (swept s on X T a d).1 net.macros)
        (ap₂ (λ (x y : Bool). not x && not y)
        (any-there (F dx dy) (point_bars s on X T a d) (point_bars s on' X' T' (F dx dy a) d) (point-there d) X)
        (any-there (E dx dy) (edge_bars s on X T a d) (edge_bars s on' X' T' (F dx dy a) d) (edge-there d) T))

    pub reach-there : reach s on' (shift_net dx dy net) X' T' (F dx dy a) ≡ reach s on net X T a
    unfolding reach
    reach-there =
        ap (greatest (allowed s on' X' T' (F dx dy a) (shift_net dx dy net))) (shortest-there dx dy s on on' k T)
        ∙ greatest-same (allowed s on' X' T' (F dx dy a) (shift_net dx dy net)) (allowed s on X T a net) allowed-there (shortest s on T)

    pub surplus-there : surplus s on' T' ≡ surplus s on T
    unfolding surplus
    surplus-there =
        ap₂ ◌-◌
        (ap length (those-there (E dx dy) (ahead s on) (ahead s on') (ahead-there dx dy s on on' k) T)
        ∙ length-map (those (ahead s on) T) (E dx dy))
        (ap length (those-there (E dx dy) (behind s on) (behind s on') (behind-there dx dy s on on' k) T)
        ∙ length-map (those (behind s on) T) (E dx dy))

  -- Moves

  abbrev moved_move : Move → Move
  moved_move m = record { saving = m.saving; first = F dx dy m.first; side = m.side; distance = m.distance }

  weight-there : (net : Net) (s : Side) → weight (shift_net dx dy net) s ≡ weight net s
  unfolding weight
  weight-there net Above = refl
  weight-there net Below = refl
  weight-there net Right = refl
  weight-there net Left = refl

  module _ (net : Net) (T : List Edge) (s : Side) (e : Edge) where
    abbrev N : Net
    N = shift_net dx dy net

    abbrev U : List Edge
    U = map (E dx dy) T

    on-bar : (p : Place) → on_bar s U (F dx dy e.0) (F dx dy p) ≡ on_bar s T e.0 p
    on-bar p = on-there dx dy s T e.0 p

    moves-there : moves N U s (E dx dy e) ≡ moves net T s e
    unfolding moves
    moves-there =
        ap₂ ◌&&◌ (level-there dx dy s e)
        (ap₂ (λ (t : Bool) (n : ℕ). not t && ltb 0 n)
        (any-there (F dx dy) (on_bar s T e.0) (on_bar s U (F dx dy e.0)) on-bar net.pins)
        (surplus-there s (on_bar s T e.0) (on_bar s U (F dx dy e.0)) on-bar net [] T e.0))

    distance-there : distance_of N U s (E dx dy e) ≡ distance_of net T s e
    unfolding distance_of
    distance-there =
        by (moves net T s e)
        (λ t.
        let u : moves N U s (E dx dy e) ≡ true = moves-there ∙ t in
        rw (distance_of, u, t)
        (ap (λ (X : List Place). reach s (on_bar s U (F dx dy e.0)) N X U (F dx dy e.0)) (points-there dx dy net T)
        ∙ reach-there s (on_bar s T e.0) (on_bar s U (F dx dy e.0)) on-bar net (tree_points net T) T e.0))
        (λ t. let u : moves N U s (E dx dy e) ≡ false = moves-there ∙ t in rw (distance_of, u, t) refl)

    abbrev move_by : ℕ → Place → ℕ → Move
    move_by n p d = record { saving = n; first = p; side = s; distance = d }

    saving-there : saving_of s (on_bar s U (F dx dy e.0)) N U (distance_of N U s (E dx dy e))
        ≡ saving_of s (on_bar s T e.0) net T (distance_of net T s e)
    unfolding saving_of
    saving-there =
        ap₂ (λ (d n : ℕ). d * n * weight N s) distance-there
        (surplus-there s (on_bar s T e.0) (on_bar s U (F dx dy e.0)) on-bar net [] T e.0)
        ∙ ap (λ (w : ℕ). distance_of net T s e * surplus s (on_bar s T e.0) T * w) (weight-there net s)

    move-there : move_of N U s (E dx dy e) ≡ moved_move (move_of net T s e)
    unfolding move_of
    move-there =
        ap₂ (λ (n d : ℕ). move_by n (first_place s (on_bar s U (F dx dy e.0)) (tree_points N U) U (F dx dy e.0)) d)
        saving-there distance-there
        ∙ ap (λ (p : Place). move_by (saving_of s (on_bar s T e.0) net T (distance_of net T s e)) p (distance_of net T s e))
        (ap (λ (X : List Place). first_place s (on_bar s U (F dx dy e.0)) X U (F dx dy e.0)) (points-there dx dy net T)
        ∙ first-place-there s (on_bar s T e.0) (on_bar s U (F dx dy e.0)) on-bar net (tree_points net T) T e.0)

  list-there : (net : Net) (T L : List Edge) →
      moves_of (shift_net dx dy net) (map (E dx dy) T) (map (E dx dy) L) ≡ map moved_move (moves_of net T L)
  unfolding moves_of
  list-there net T [] = refl
  list-there net T (e ∷ L) =
      ap₂ (λ (m : Move) (l : List Move). m ∷ l) (move-there net T Above e)
      (ap₂ (λ (m : Move) (l : List Move). m ∷ l) (move-there net T Below e)
      (ap₂ (λ (m : Move) (l : List Move). m ∷ l) (move-there net T Right e)
      (ap₂ (λ (m : Move) (l : List Move). m ∷ l) (move-there net T Left e) (list-there net T L))))

  better-there : (m n : Move) → better (moved_move m) (moved_move n) ≡ better m n
  unfolding better first_then choose
  better-there m n =
      ap (choose (greater m.saving n.saving) (greater n.saving m.saving))
      (ap₂ (λ (x y : Bool). choose x y (flatter (horizontal m.side) (horizontal n.side))) (before-there dx dy m.first n.first)
      (before-there dx dy n.first m.first))

  best-there : (m : Move) (l : List Move) → best_of (moved_move m) (map moved_move l) ≡ moved_move (best_of m l)
  unfolding best_of
  best-there m [] = refl
  best-there m (n ∷ l) =
      by (better n m)
      (λ t. let u : better (moved_move n) (moved_move m) ≡ true = better-there n m ∙ t in rw (best_of, u, t) (best-there n l))
      (λ t. let u : better (moved_move n) (moved_move m) ≡ false = better-there n m ∙ t in rw (best_of, u, t) (best-there m l))

  choice-there : (net : Net) (T : List Edge) (e : Edge) (L : List Edge) →
      choice (shift_net dx dy net) (map (E dx dy) T) (E dx dy e) (map (E dx dy) L) ≡ moved_move (choice net T e L)
  unfolding choice
  choice-there net T e L =
      ap₂ best_of (move-there net T Above e) (list-there net T (e ∷ L)) ∙ best-there (move_of net T Above e) (moves_of net T (e ∷ L))

  -- Rounds

  pub order-there : (T : List Edge) → in_their_order (map (E dx dy) T) ≡ map (E dx dy) (in_their_order T)
  order-there T = sorted-there (E dx dy) (first_then before before) (first_then before before) (edges-there (net-moves dx dy none)) T
    where
      none : Net
      none = record { pins = []; macros = []; weights = record { across = 1; along = 1 } }

  shift-there : (s : Side) (on on' : Place → Bool) → ((p : Place) → on' (F dx dy p) ≡ on p) → (d : ℕ) (p : Place) →
      shift s on' d (F dx dy p) ≡ F dx dy (shift s on d p)
  unfolding shift
  shift-there s on on' k d p =
      by (on p)
      (λ t. let u : on' (F dx dy p) ≡ true = k p ∙ t in rw (shift, u, t) (moved-there dx dy s d p))
      (λ t. let u : on' (F dx dy p) ≡ false = k p ∙ t in rw (shift, u, t) refl)

  slide-there : (s : Side) (on on' : Place → Bool) → ((p : Place) → on' (F dx dy p) ≡ on p) → (d : ℕ) (T : List Edge) →
      slide s on' d (map (E dx dy) T) ≡ map (E dx dy) (slide s on d T)
  unfolding slide shift_edge proper
  slide-there s on on' k d T =
      ap (those proper) (shifts T)
      ∙ those-there (E dx dy) proper proper (λ e. ap not (same-there dx dy e.0 e.1)) (map (shift_edge s on d) T)
    where
      shifts : (l : List Edge) → map (shift_edge s on' d) (map (E dx dy) l) ≡ map (E dx dy) (map (shift_edge s on d) l)
      shifts [] = refl
      shifts (e ∷ l) =
          ap₂ (λ (x : Edge) (r : List Edge). x ∷ r)
          (ap₂ (λ (p q : Place). (p, q)) (shift-there s on on' k d e.0) (shift-there s on on' k d e.1)) (shifts l)

  make-there : (m : Move) (T : List Edge) → make (moved_move m) (map (E dx dy) T) ≡ map (E dx dy) (make m T)
  unfolding make
  make-there m T =
      ap in_their_order (slide-there m.side (on_bar m.side T m.first) (on_bar m.side (map (E dx dy) T) (F dx dy m.first))
      (on-there dx dy m.side T m.first) m.distance T)
      ∙ order-there (slide m.side (on_bar m.side T m.first) m.distance T)

  -- a round that is the last, or one with others after it
  at : (net : Net) (n : ℕ) (e : Edge) (L : List Edge) (m : Move) (t : Bool) →
      rounds (shift_net dx dy net) n (map (E dx dy) (make m (e ∷ L))) ≡ map (E dx dy) (rounds net n (make m (e ∷ L))) →
      (elim t as (λ b. List Edge) [
        | true ↦ map (E dx dy) (e ∷ L)
        | false ↦ rounds (shift_net dx dy net) n (make (moved_move m) (map (E dx dy) (e ∷ L)))
      ])
      ≡ map (E dx dy) (elim t as (λ b. List Edge) [ true ↦ e ∷ L | false ↦ rounds net n (make m (e ∷ L)) ])
  at net n e L m true h = refl
  at net n e L m false h = ap (rounds (shift_net dx dy net) n) (make-there m (e ∷ L)) ∙ h

  rounds-there : (net : Net) (n : ℕ) (T : List Edge) → rounds (shift_net dx dy net) n (map (E dx dy) T) ≡ map (E dx dy) (rounds net n T)
  unfolding rounds
  rounds-there net zero T = refl
  rounds-there net (suc n) [] = refl
  rounds-there net (suc n) (e ∷ L) =
      let m = choice net (e ∷ L) e L in
      ap (λ (c : Move). elim (eqb c.saving 0) as (λ t. List Edge)
      [ true ↦ map (E dx dy) (e ∷ L) | false ↦ rounds (shift_net dx dy net) n (make c (map (E dx dy) (e ∷ L))) ])
      (choice-there net (e ∷ L) e L)
      ∙ at net n e L m (eqb m.saving 0) (rounds-there net n (make m (e ∷ L)))

  pub slid-there : (net : Net) (T : List Edge) → slid (shift_net dx dy net) (map (E dx dy) T) ≡ map (E dx dy) (slid net T)
  unfolding slid after_bends moved_bent
  slid-there net T =
      ap (λ (X : List Place). after_bends (shift_net dx dy net) (map (E dx dy) T) (bends X (map (E dx dy) T))) (points-there dx dy net T)
      ∙ ap (after_bends (shift_net dx dy net) (map (E dx dy) T)) (bends-there dx dy (tree_points net T) T)
      ∙ at (bends (tree_points net T) T)
    where
      at : (r : Bent) → after_bends (shift_net dx dy net) (map (E dx dy) T) (moved_bent dx dy r) ≡ map (E dx dy) (after_bends net T r)
      at (bent X U) =
          ap₂ (rounds (shift_net dx dy net)) (length-map X (F dx dy)) (order-there U) ∙ rounds-there net (length X) (in_their_order U)
      at given_back = refl
