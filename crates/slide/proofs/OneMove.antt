-- A bar has one move to a side, from whichever of its edges it is met: so a program may look at each bar once.
-- Assumes nothing.
use mathlib.Core.Path.{◌≡◌, refl, sym, ap, ap₂, ◌∙◌}
use mathlib.Core.Bool.{Bool, true, false, not, ◌&&◌, ◌||◌}
use mathlib.Core.List.Memᴰ
use mathlib.Core.List.{List, ◌∷◌}
use Prim.Native.Nat.{ℕ}
use lib.Dec.{ltb}
use Rattle.lists.specs.Any.{any}
use Rattle.lists.specs.Member.{◌∈◌, there}
use Rattle.lists.specs.Those.{those}
use Rattle.lists.proofs.TestLaws.{either}
use Rattle.lists.proofs.ThoseLaws.{in-those}
use Rattle.plane.specs.declared.Place.{Place}
use Rattle.plane.specs.Macro.{clear}
use Rattle.plane.proofs.PlaceOrder.{place-order}
use Rattle.net.specs.Net.{Net}
use Rattle.slide.specs.declared.Side.{Side}
use Rattle.slide.specs.Side.{moved}
use Rattle.slide.specs.Bend.{Edge, taken}
use Rattle.slide.specs.Bar.{level, on_bar, of_bar, hangs, shortest, far_ends, first_of, last_of}
use Rattle.slide.specs.Sweep.{boxes_meet, only_in, first_place, last_place, swept, point_bars, edge_bars, allowed, greatest, reach, surplus}
use Rattle.slide.specs.Sweep.{saving_of}
use Rattle.slide.specs.declared.Move.{Move}
use Rattle.slide.specs.Slide.{tree_points, moves, distance_of, move_of}
use Rattle.slide.proofs.BarLaws.{first_one, last_one, first-least, last-greatest}
use Rattle.slide.proofs.RoundLaws.{on-itself, one-bar}

-- The first and the last of a list, from whichever entry

module _ (l : List Place) (a b : Place) (i : a ∈ l) (k : b ∈ l) where
  within : (x y : Place) → y ∈ l → x ∈ (y ∷ l) → x ∈ l
  within x y j m = either (λ e. Memᴰ.cast e j) (λ n. n) (Memᴰ.cases_cons m)

  first-same : first_of a l ≡ first_of b l
  first-same =
      place-order.tie (first_of a l) (first_of b l)
      (first-least b l (first_of a l) (there (within (first_of a l) a i (first_one a l))))
      (first-least a l (first_of b l) (there (within (first_of b l) b k (first_one b l))))

  last-same : last_of a l ≡ last_of b l
  last-same =
      place-order.tie (last_of a l) (last_of b l)
      (last-greatest a l (last_of b l) (there (within (last_of b l) b k (last_one b l))))
      (last-greatest b l (last_of a l) (there (within (last_of a l) a i (last_one a l))))

-- The distance, from whichever point of the bar

module _ (s : Side) (on : Place → Bool) (X : List Place) (T : List Edge) (a b : Place) (i : a ∈ those on X) (k : b ∈ those on X) where
  first-place : first_place s on X T a ≡ first_place s on X T b
  unfolding first_place
  first-place = first-same (those on X) a b i k

  last-place : last_place s on X T a ≡ last_place s on X T b
  unfolding last_place
  last-place = last-same (those on X) a b i k

  allowed-from : (net : Net) (d : ℕ) → allowed s on X T a net d ≡ allowed s on X T b net d
  unfolding allowed swept point_bars edge_bars
  allowed-from net d =
      ap₂
      (λ (f l : Place).
      clear f (moved s d l) net.macros
      && (not (any (λ (p : Place). boxes_meet (p, p) (f, moved s d l) && (not (on p) && not (taken (far_ends s on T) p))) X)
      && not (any (λ (e : Edge).
      boxes_meet e (f, moved s d l) && (not (of_bar s on e || hangs s on e) && not (any (only_in e (f, moved s d l)) (far_ends s on T)))) T)))
      first-place last-place

  reach-from : (net : Net) → reach s on net X T a ≡ reach s on net X T b
  unfolding reach
  reach-from net = ap (λ (ok : ℕ → Bool). greatest ok (shortest s on T)) (λ i d. allowed-from net d i)

-- The move

module _ (net : Net) (T : List Edge) (s : Side) where
  -- a move by the test for its bar, a point of it, and whether it moves
  abbrev move_by : (Place → Bool) → Place → Bool → Move
  move_by on a t =
      let X = tree_points net T in
      let d = elim t as (λ u. ℕ) [ true ↦ reach s on net X T a | false ↦ 0 ] in
      record { saving = saving_of s on net T d; first = first_place s on X T a; side = s; distance = d }

  move-by : (e : Edge) → move_of net T s e ≡ move_by (on_bar s T e.0) e.0 (moves net T s e)
  unfolding move_of distance_of
  move-by e = refl

  module _ (d e : Edge) (on-d : d.0 ∈ tree_points net T) (on-e : e.0 ∈ tree_points net T)
      (level-d : level s d ≡ true) (level-e : level s e ≡ true) (one : on_bar s T d.0 e.0 ≡ true) where
    bar : on_bar s T e.0 ≡ on_bar s T d.0
    bar = one-bar s T d.0 e.0 one

    moves-one : moves net T s e ≡ moves net T s d
    unfolding moves
    moves-one =
        ap₂ (λ (t : Bool) (on : Place → Bool). t && (not (any on net.pins) && ltb 0 (surplus s on T))) (level-e ∙ sym level-d) bar

    from-point : move_by (on_bar s T d.0) e.0 (moves net T s d) ≡ move_by (on_bar s T d.0) d.0 (moves net T s d)
    from-point =
        let on = on_bar s T d.0 in
        let X = tree_points net T in
        let i = in-those on X on-e one in
        let k = in-those on X on-d (on-itself s T d.0) in
        ap₂
        (λ (f : Place) (r : ℕ).
        let n = elim (moves net T s d) as (λ u. ℕ) [ true ↦ r | false ↦ 0 ] in
        record { saving = saving_of s on net T n; first = f; side = s; distance = n })
        (first-place s on X T e.0 d.0 i k) (reach-from s on X T e.0 d.0 i k net)

    pub one-move : move_of net T s e ≡ move_of net T s d
    one-move =
        move-by e
        ∙ ap₂ (λ (on : Place → Bool) (t : Bool). move_by on e.0 t) bar moves-one
        ∙ from-point
        ∙ sym (move-by d)
