-- A bar's move as the definitions have it, by what the tables give: its counts, its first point, its pins and its distance.
-- Assumes nothing.
use mathlib.Core.Path.{◌≡◌, refl, sym, ap, ap₂, ◌∙◌}
use mathlib.Core.Bool.{Bool, true, false, not, ◌&&◌}
use mathlib.Core.List.Memᴰ
use mathlib.Core.List.{List, ◌∷◌}
use Prim.Native.Nat.{ℕ, ◌-◌, ◌*◌, ◌≤◌, ◌<◌}
use native.Mathlib.Omega.{arith}
use native.Mathlib.Nat.{mul_assoc, zero-mul}
use borrow.Author.Tests.{eqb-true, eq-eqb, ltb-true, ltb-false, leb-true, leb-false, lt-ltb, le-ltb}
use lib.Dec.{eqb, leb, ltb}
use lib.IntN.{ℤ}
use Rattle.lists.specs.Any.{any}
use Rattle.lists.specs.Member.{◌∈◌, there}
use Rattle.lists.specs.Those.{those}
use Rattle.lists.proofs.TestLaws.{by, differ, either}
use Rattle.lists.proofs.ThoseLaws.{in-those, of-those}
use Rattle.plane.specs.declared.Place.{Place}
use Rattle.plane.specs.Place.{before}
use Rattle.plane.specs.Flat.{place_at}
use Rattle.plane.specs.Rank.{InOrder}
use Rattle.plane.proofs.PlaceLaws.{before-irrefl}
use Rattle.plane.proofs.PlaceOrder.{place-order}
use Rattle.net.specs.Net.{Net}
use Rattle.slide.specs.declared.Side.{Side}
use Rattle.slide.specs.declared.Side.TheVariants.{Above, Below, Right, Left}
use Rattle.slide.specs.Side.{horizontal, weight}
use Rattle.slide.specs.Bend.{Edge}
use Rattle.slide.specs.Bar.{level, on_bar, first_of}
use Rattle.slide.specs.Sweep.{first_place, reach, surplus, saving_of}
use Rattle.slide.specs.Slide.{tree_points, moves, distance_of, move_of}
use Rattle.slide.proofs.BarLaws.{first_one, first-least}
use Rattle.slide.proofs.RoundLaws.{on-itself}
use Rattle.straight.specs.Table.{edge_at, edges_in, points_in}
use Rattle.straight.proofs.RunLaws.{in-run, of-run}
use Rattle.reach.specs.declared.Size.{Size}
use Rattle.turned.specs.Turned.{View, on_it}
use Rattle.hanging.specs.Hanging.{hang}
use Rattle.moves.specs.Moving.{weight_in, held}
use Rattle.bars.specs.Offers.{move, move_by, reach_of}
use Rattle.turned.proofs.SeenLaws.{Sees}
use Rattle.hanging.proofs.HangLaws.{hang-is}

pub weight_is : (net : Net) (s : Side) → weight net s ≡ weight_in net.weights s
unfolding weight weight_in horizontal
weight_is net Above = refl
weight_is net Below = refl
weight_is net Right = refl
weight_is net Left = refl

pub not_after : (a b : Place) → before a b ≡ true → before b a ≡ false
not_after a b e =
    by (before b a) (λ g. differ (place-order.along a b a e g) (before-irrefl a)) (λ g. g)

-- a bar that does not move saves nothing
pub still : (net : Net) (T : List Edge) (s : Side) (x : Edge) → moves net T s x ≡ false → (move_of net T s x).saving ≡ 0
unfolding move_of distance_of saving_of
still net T s x e =
    rw (move_of, distance_of, e)
    (ap (λ (i : ℕ). i * weight net s) (zero-mul (surplus s (on_bar s T x.0) T)) ∙ zero-mul (weight net s))

none-three : (p q : Bool) → (p && (q && false)) ≡ false
none-three true true = refl
none-three true false = refl
none-three false q = refl

none-two : (p : Bool) → (p && false) ≡ false
none-two true = refl
none-two false = refl

pub later : (m n : ℕ) → m ≤ n → eqb m n ≡ false → m < n
later m n l q =
    by (ltb m n) (λ t. ltb-true m n t)
    (λ t. let w : m ≡ n = (let y = ltb-false m n t in omega (arith, y, l)) in differ (eq-eqb m n w) q)

-- v sees the bar of the point a, whose label is the least number of its points
module _ (net : Net) (v : View) (z : Size) (ms : List ℤ) (seats : List ℕ) (k a : ℕ) where
  abbrev s : Side
  s = v.side

  abbrev T : List Edge
  T = edges_in v.points v.keys z.edges

  abbrev x : Edge
  x = edge_at v.points v.keys k

  abbrev on : Place → Bool
  on = on_bar s T x.0

  abbrev X : List Place
  X = tree_points net T

  -- what is asked of the bar: the tables are seen, the points are the tree points, the label is of the bar and the least
  pub record Stood : Type 0 where
    pub sees : Sees v z.points z.edges on
    pub ordered : InOrder v.points z.points
    pub points : X ≡ points_in v.points z.points
    pub start : x.0 ≡ place_at v.points a
    pub low : a < z.points
    pub label-low : v.label < z.points
    pub label-on : on_it v v.label ≡ true
    pub least : (i : ℕ) → i < z.points → on_it v i ≡ true → v.label ≤ i

  -- and of its move: the pins are seated, and the distance found is the greatest that is allowed
  pub record Ready : Type 0 where
    pub stood : Stood
    pub flat : level s x ≡ true
    pub pinned : any on net.pins ≡ held v seats z.pins
    pub weights : z.weights ≡ net.weights
    pub reaches : any on net.pins ≡ false → reach_of v z ms ≡ reach s on net X T x.0
    pub far : reach_of v z ms ≤ (hang v z.edges).shortest

  -- Its first and last points

  module _ (r : Stood) where
    at_label : on (place_at v.points v.label) ≡ true
    at_label = r.sees.is v.label r.label-low ∙ r.label-on

    not-before : (p : Place) → p ∈ points_in v.points z.points → on p ≡ true → before p (place_at v.points v.label) ≡ false
    not-before p m e =
        let i = of-run (place_at v.points) z.points 0 p m in
        let h : i.number < z.points = omega (arith, i.high) in
        let g : on_it v i.number ≡ true = sym (r.sees.is i.number h) ∙ ap on (sym i.is) ∙ e in
        let l = r.least i.number h g in
        ap (λ (q : Place). before q (place_at v.points v.label)) i.is
        ∙ by (eqb v.label i.number)
        (λ q. ap (λ (j : ℕ). before (place_at v.points j) (place_at v.points v.label)) (sym (eqb-true v.label i.number q))
        ∙ before-irrefl (place_at v.points v.label))
        (λ q. not_after _ _ (r.ordered v.label i.number (later v.label i.number l q) h))

    pub self : (p : Place) → p ∈ (x.0 ∷ those on X) → (p ∈ points_in v.points z.points) × (on p ≡ true)
    self p m =
        either
        (λ e. rw e (
          rw r.start (in-run (place_at v.points) z.points 0 a (omega arith) (omega (arith, r.low))),
          on-itself s T x.0,
        ))
        (λ i. let o = of-those on X i in (rw r.points at o.0, o.1))
        (Memᴰ.cases_cons m)

    pub first-is : first_place s on X T x.0 ≡ place_at v.points v.label
    unfolding first_place
    first-is =
        let f = first_of x.0 (those on X) in
        let g = self f (first_one x.0 (those on X)) in
        let m : place_at v.points v.label ∈ those on X =
        in-those on X (rw r.points (in-run (place_at v.points) z.points 0 v.label (omega arith) (omega (arith, r.label-low))))
        at_label in
        place-order.tie f (place_at v.points v.label) (not-before f g.0 g.1)
        (first-least x.0 (those on X) (place_at v.points v.label) (there m))

  -- The move

  module _ (r : Ready) where
    surplus-is : surplus s on T ≡ (hang v z.edges).ahead - (hang v z.edges).behind
    unfolding surplus
    surplus-is = let h = hang-is r.stood.sees in sym (ap₂ ◌-◌ (ap (λ y. y.ahead) h) (ap (λ y. y.behind) h))

    saving-is : (d : ℕ) → saving_of s on net T d ≡ (move_by v z d).saving
    unfolding saving_of
    saving-is d =
        ap₂ (λ (i j : ℕ). d * i * j) surplus-is (weight_is net s ∙ ap (λ w. weight_in w s) (sym r.weights))
        ∙ mul_assoc d ((hang v z.edges).ahead - (hang v z.edges).behind) (weight_in z.weights s)

    pub even : leb (hang v z.edges).ahead (hang v z.edges).behind ≡ true → (move_of net T s x).saving ≡ 0
    unfolding moves
    even e =
        let l = leb-true (hang v z.edges).ahead (hang v z.edges).behind e in
        let n : ltb 0 (surplus s on T) ≡ false = le-ltb 0 (surplus s on T) (omega (arith, l, surplus-is)) in
        still net T s x (rw (moves, n) (none-three (level s x) (not (any on net.pins))))

    pub pins-stay : held v seats z.pins ≡ true → (move_of net T s x).saving ≡ 0
    unfolding moves
    pins-stay e = still net T s x (rw (moves, r.pinned ∙ e) (none-two (level s x)))

    pub moves_so : leb (hang v z.edges).ahead (hang v z.edges).behind ≡ false → held v seats z.pins ≡ false
        → move_of net T s x ≡ move_by v z (reach_of v z ms)
    unfolding move_of distance_of moves
    moves_so e g =
        let l = leb-false (hang v z.edges).ahead (hang v z.edges).behind e in
        let n : ltb 0 (surplus s on T) ≡ true = lt-ltb 0 (surplus s on T) (omega (arith, l, surplus-is)) in
        let m : moves net T s x ≡ true = rw (moves, r.flat, r.pinned ∙ g, n) refl in
        rw (move_of, distance_of, m)
        (ap₂ (λ (i : ℕ) (p : Place). move (saving_of s on net T i) p s i) (sym (r.reaches (r.pinned ∙ g))) (first-is r.stood)
        ∙ ap (λ (i : ℕ). move i (place_at v.points v.label) s (reach_of v z ms)) (saving-is (reach_of v z ms)))
