-- The closed form of the distance: below the shortest hanging edge no far end is in the box, so the box meets a thing exactly from the
-- number on that is named for it.
-- Assumes nothing.
use mathlib.Core.Path.{◌≡◌, refl, sym, ap, ◌∙◌}
use mathlib.Core.Bool.{Bool, true, false, not, ◌&&◌, ◌||◌}
use mathlib.Core.Logic.{◌⊎◌, inl, inr}
use mathlib.Core.List.Memᴰ
use mathlib.Core.List.{List, [], ◌∷◌}
use Prim.Native.Nat.{ℕ, zero, suc, ◌+◌, ◌-◌, ◌≤◌, ◌<◌, min}
use native.Mathlib.Omega.{arith}
use borrow.Author.Tests.{eqb-true, leb-true, leb-false, ltb-true, ltb-false}
use lib.Dec.{eqb, leb, ltb}
use lib.IntN.{ℤ, pos, ◌+ℤ◌, ◌-ℤ◌}
use lib.Signed.{lt_z, le_z}
use Rattle.lists.specs.Any.{any}
use Rattle.lists.specs.Member.{◌∈◌, here, there}
use Rattle.lists.specs.Those.{those}
use Rattle.lists.proofs.TestLaws.{by, differ, either, contrapose, not-true, and_left, and_right, and_both}
use Rattle.lists.proofs.AnyLaws.{none_any}
use Rattle.lists.proofs.MapLaws.{of_map}
use Rattle.lists.proofs.ThoseLaws.{of-those}
use Rattle.signed.specs.Sides.{up, down, Lt, Le}
use Rattle.signed.specs.Order.{z_min, z_max}
use Rattle.signed.proofs.SideLaws.{one_side, z_lt-true, lt-z_lt, z_le-true, le-z_le, add-sides, sub-sides, up_pos, down_pos}
use Rattle.signed.proofs.OrderLaws.{min-sides, max-sides, min_self}
use Rattle.plane.specs.declared.Place.{Place}
use Rattle.plane.specs.declared.Macro.{Macro}
use Rattle.plane.specs.Place.{same_place}
use Rattle.plane.specs.Macro.{meets, clear}
use Rattle.plane.specs.Box.{Between, InBox}
use Rattle.plane.proofs.DistanceLaws.{apart-ordered, apart-comm}
use Rattle.plane.proofs.PlaceLaws.{same_true}
use Rattle.net.specs.Net.{Net}
use Rattle.slide.specs.declared.Side.{Side}
use Rattle.slide.specs.Side.{along, across, moved}
use Rattle.slide.specs.Bend.{Edge, taken}
use Rattle.slide.specs.Bar.{of_bar, hangs, ahead, far, long, shortest, far_ends}
use Rattle.slide.specs.Sweep.{low_corner, high_corner, boxes_meet, only_in, first_place, last_place, swept, point_bars, edge_bars, allowed}
use Rattle.slide.specs.Sweep.{reach}
use Rattle.slide.specs.Stop.{starts, finishes, near_side, far_side, beyond, low_along, high_along, low_across, high_across}
use Rattle.slide.specs.Stop.{edge_ahead, macro_ahead, edge_stop, macro_stop, least_stop, stop, closed}
use Rattle.slide.specs.Bars.{IsBar}
use Rattle.slide.proofs.AcrossLaws.{along-moved, across-moved}
use Rattle.slide.proofs.BarLaws.{first_on, last-on, covered, or_cases, box-holds}
use Rattle.slide.proofs.ReachLaws.{not-false, any-in, allowed-less, greatest-is}
use Rattle.slide.proofs.TouchLaws.{touch, touched, hit, hits}

-- Numbers

-- z is at most d beyond y
beyond-le : (y z w : ℤ) (d : ℕ) → up w + down y ≡ d + up y + down w → Le z w → beyond y z ≤ d
unfolding beyond
beyond-le y z w d r h = omega (arith, r, h, sub-sides z y, one_side (z -ℤ y))

le-beyond : (y z w : ℤ) (d : ℕ) → up w + down y ≡ d + up y + down w → beyond y z ≤ d → Le z w
unfolding beyond
le-beyond y z w d r h = omega (arith, r, h, sub-sides z y, one_side (z -ℤ y))

next_le : (z w : ℤ) → Lt z w → Le (z +ℤ pos 1) w
next_le z w h = omega (arith, h, add-sides z (pos 1), up_pos 1, down_pos 1)

le_next : (z w : ℤ) → Le (z +ℤ pos 1) w → Lt z w
le_next z w h = omega (arith, h, add-sides z (pos 1), up_pos 1, down_pos 1)

-- The least of a list

module _ {A : Type 0} (g : A → ℕ) (n : ℕ) where
  least_at : (l : List A) (x : A) → x ∈ l → least_stop g n l ≤ g x
  unfolding least_stop
  least_at [] x m = elim m [ ]
  least_at (y ∷ l) x m =
      either (λ k. let h = ap g k in omega (arith, h)) (λ i. omega (arith, least_at l x i)) (Memᴰ.cases_cons m)

  least-most : (l : List A) → least_stop g n l ≤ n
  unfolding least_stop
  least-most [] = omega arith
  least-most (y ∷ l) = omega (arith, least-most l)

  -- it is n, or that of an entry
  least-is : (l : List A) → (least_stop g n l ≡ n) ⊎ ((x : A) × ((x ∈ l) × (least_stop g n l ≡ g x)))
  unfolding least_stop
  least-is [] = inl refl
  least-is (y ∷ l) =
      by (leb (g y) (least_stop g n l))
      (λ e. inr (y, (here refl, let h = leb-true (g y) (least_stop g n l) e in omega (arith, h))))
      (λ e. let h = leb-false (g y) (least_stop g n l) e in
      either (λ k. inl (omega (arith, h, k))) (λ r. inr (r.0, (there r.1.0, omega (arith, h, r.1.1)))) (least-is l))

-- A bar, and the box that it sweeps

module _ {s : Side} {net : Net} {X : List Place} {T : List Edge} {on : Place → Bool} (c : IsBar s net X T on) (a : Place)
    (at_a : on a ≡ true) where
  abbrev F : Place
  F = first_place s on X T a

  abbrev L : Place
  L = last_place s on X T a

  abbrev n : ℕ
  n = shortest s on T

  along-F : (d : ℕ) → Le (along s F) (along s (moved s d L))
  along-F d = rw (along-moved s d L) (covered c a at_a F (first_on c a at_a)).1

  -- the box ends d beyond the bar
  box-end : (d : ℕ) → up (across s (moved s d L)) + down (across s F) ≡ d + up (across s F) + down (across s (moved s d L))
  box-end d =
      let flat = c.flat F (first_on c a at_a) ∙ sym (c.flat L (last-on c a at_a)) in
      let u = ap up flat in
      let v = ap down flat in
      omega (arith, across-moved s d L)

  across-F : (d : ℕ) → Le (across s F) (across s (moved s d L))
  across-F d = omega (arith, box-end d)

  -- Edges, and places as edges

  module _ (d : ℕ) (e : Edge) where
    edge-met : boxes_meet e (F, moved s d L) ≡ true → (edge_ahead s F L e ≡ true) × (beyond (across s F) (low_across s e) ≤ d)
    unfolding edge_ahead
    edge-met h =
        let t = touch s e F (moved s d L) (along-F d) (across-F d) h in (
          and_both _ _
              (and_both _ _ (le-z_le _ _ (rw (along-moved s d L) at t.beside.0)) (le-z_le _ _ t.beside.1))
              (le-z_le _ _ t.ahead.1),
          beyond-le (across s F) (low_across s e) (across s (moved s d L)) d (box-end d) t.ahead.0,
        )

    met-edge : edge_ahead s F L e ≡ true → beyond (across s F) (low_across s e) ≤ d → boxes_meet e (F, moved s d L) ≡ true
    unfolding edge_ahead
    met-edge h k =
        let p = and_left (le_z (low_along s e) (along s L) && le_z (along s F) (high_along s e)) _ h in
        touched s e F (moved s d L) (along-F d) (across-F d)
        (record {
          beside = (
            rw (along-moved s d L) (z_le-true (low_along s e) (along s L) (and_left _ (le_z (along s F) (high_along s e)) p)),
            z_le-true (along s F) (high_along s e) (and_right (le_z (low_along s e) (along s L)) _ p),
          );
          ahead = (
            le-beyond (across s F) (low_across s e) (across s (moved s d L)) d (box-end d) k,
            z_le-true (across s F) (high_across s e) (and_right (le_z (low_along s e) (along s L) && le_z (along s F) (high_along s e)) _ h),
          );
        })

  -- what stops at m is in the way from m on
  module _ (own : Edge → Bool) (e : Edge) where
    stop-met : (d : ℕ) → boxes_meet e (F, moved s d L) ≡ true → own e ≡ false → edge_stop s F L n own e ≤ d
    unfolding edge_stop
    stop-met d h o = let r = edge-met d e h in rw (edge_stop, r.0, o) r.1

    stop_is : edge_stop s F L n own e < n → (own e ≡ false) × (boxes_meet e (F, moved s (edge_stop s F L n own e) L) ≡ true)
    unfolding edge_stop
    stop_is h =
        by (edge_ahead s F L e)
        (λ g. by (own e)
        (λ o. absurd (let z = rw (edge_stop, g, o) at h in let y : ⊥ = omega (arith, z) in y))
        (λ o. (o, rw (edge_stop, g, o) (met-edge (beyond (across s F) (low_across s e)) e g (omega arith)))))
        (λ g. absurd (let z = rw (edge_stop, g) at h in let y : ⊥ = omega (arith, z) in y))

  -- Macros

  module _ (m : Macro) where
    macro-met : (d : ℕ) → meets F (moved s d L) m ≡ true → macro_stop s F L n m ≤ d
    unfolding macro_stop macro_ahead
    macro-met d h =
        let t = hit s F (moved s d L) m (along-F d) (across-F d) h in
        let g : macro_ahead s F L m ≡ true =
        and_both _ _
        (and_both _ _ (lt-z_lt _ _ (rw (along-moved s d L) at t.beside.1)) (lt-z_lt _ _ t.beside.0))
        (lt-z_lt _ _ t.ahead.0)
        in
        rw (macro_stop, g)
        (beyond-le (across s F) (near_side s m +ℤ pos 1) (across s (moved s d L)) d (box-end d) (next_le _ _ t.ahead.1))

    met-macro : macro_ahead s F L m ≡ true → (d : ℕ) → beyond (across s F) (near_side s m +ℤ pos 1) ≤ d → meets F (moved s d L) m ≡ true
    unfolding macro_ahead
    met-macro g d k =
        let p = and_left (lt_z (starts s m) (along s L) && lt_z (along s F) (finishes s m)) _ g in
        hits s F (moved s d L) m (along-F d) (across-F d)
        (record {
          beside = (
            z_lt-true (along s F) (finishes s m) (and_right (lt_z (starts s m) (along s L)) _ p),
            rw (along-moved s d L) (z_lt-true (starts s m) (along s L) (and_left _ (lt_z (along s F) (finishes s m)) p)),
          );
          ahead = (
            z_lt-true (across s F) (far_side s m) (and_right (lt_z (starts s m) (along s L) && lt_z (along s F) (finishes s m)) _ g),
            le_next (near_side s m) _ (le-beyond (across s F) (near_side s m +ℤ pos 1) (across s (moved s d L)) d (box-end d) k),
          );
        })

    macro-is : macro_stop s F L n m < n → meets F (moved s (macro_stop s F L n m) L) m ≡ true
    unfolding macro_stop
    macro-is h =
        by (macro_ahead s F L m)
        (λ g. rw (macro_stop, g) (met-macro g (beyond (across s F) (near_side s m +ℤ pos 1)) (omega arith)))
        (λ g. absurd (let z = rw (macro_stop, g) at h in let y : ⊥ = omega (arith, z) in y))

  -- Far ends are beyond a box that is shorter

  far-across : (u v : Place) → ahead s on (u, v) ≡ true → long s (u, v) ≡ n →
      n + (up (across s F) + down (across s (far on (u, v)))) ≡ up (across s (far on (u, v))) + down (across s F)
  unfolding ahead long far
  far-across u v h k =
      by (on u)
      (λ e. rw (far, e) (from_first e))
      (λ e. rw (far, e) (from_second e))
    where
      level : (p : Place) → on p ≡ true → across s p ≡ across s F
      level p e = c.flat p e ∙ sym (c.flat F (first_on c a at_a))

      -- the end p on the bar, q the far one
      reaches : (p q : Place) → on p ≡ true → Lt (across s p) (across s q) → n + (up (across s p) + down (across s q)) ≡ up
          (across s q) + down (across s p) →
          n + (up (across s F) + down (across s q)) ≡ up (across s q) + down (across s F)
      reaches p q e l r =
          let y = ap up (level p e) in
          let z = ap down (level p e) in
          omega (arith, r)

      same_line : (p q : Place) → on p ≡ true → on q ≡ true → lt_z (across s p) (across s q) ≡ true → ⊥
      same_line p q e g t =
          let y = ap up (level p e ∙ sym (level q g)) in
          let z = ap down (level p e ∙ sym (level q g)) in
          omega (arith, z_lt-true (across s p) (across s q) t)

      from_first : on u ≡ true → n + (up (across s F) + down (across s v)) ≡ up (across s v) + down (across s F)
      from_first e =
          let l = z_lt-true (across s u) (across s v)
          (either (λ z. and_right (on u) _ z)
          (λ z. absurd (same_line v u (and_left _ (lt_z (across s v) (across s u)) z) e (and_right (on v) _ z))) (or_cases _ _ h))
          in
          reaches u v e l (omega (arith, k, l, apart-ordered (across s u) (across s v) (omega (arith, l))))

      from_second : on u ≡ false → n + (up (across s F) + down (across s u)) ≡ up (across s u) + down (across s F)
      from_second e =
          let z = either (λ z. differ (and_left _ (lt_z (across s u) (across s v)) z) e) (λ z. z) (or_cases _ _ h) in
          let g = and_left _ (lt_z (across s v) (across s u)) z in
          let l = z_lt-true (across s v) (across s u) (and_right (on v) _ z) in
          reaches v u g l (omega (
            arith,
            k,
            l,
            apart-ordered (across s v) (across s u) (omega (arith, l)),
            apart-comm (across s u) (across s v),
          ))

  -- q is a far end of a shortest edge, and in the box
  no-far : (d : ℕ) → d < n → (q : Place) → q ∈ far_ends s on T → boxes_meet (q, q) (F, moved s d L) ≡ true → ⊥
  unfolding far_ends low_across
  no-far d h q m o =
      let r = of_map (far on) (those (λ e. eqb (long s e) (shortest s on T)) (those (ahead s on) T)) m in
      let i = of-those (λ e. eqb (long s e) (shortest s on T)) (those (ahead s on) T) r.stands in
      let g = of-those (ahead s on) T i.0 in
      let e = r.entry in
      let x = far-across e.0 e.1 g.1 (eqb-true (long s e) (shortest s on T) i.1) in
      let t = (touch s (q, q) F (moved s d L) (along-F d) (across-F d) o).ahead.0 in
      let y = ap (λ (p : Place). up (across s p)) r.is in
      let z = ap (λ (p : Place). down (across s p)) r.is in
      let w = min_self (across s q) in
      let w0 = ap up w in
      let w1 = ap down w in
      omega (arith, h, x, t, box-end d)

  -- where an edge meets the box is in the box
  corner-in : (e : Edge) (m : Place) → boxes_meet e (F, m) ≡ true → InBox (low_corner e (F, m)) F m
  unfolding boxes_meet low_corner high_corner
  corner-in e m o = record {
    across = corner e.0.x e.1.x F.x m.x (z_le-true _ _ (and_left _ (le_z (low_corner e (F, m)).y (high_corner e (F, m)).y) o));
    along = corner e.0.y e.1.y F.y m.y (z_le-true _ _ (and_right (le_z (low_corner e (F, m)).x (high_corner e (F, m)).x) _ o));
  }
    where
      corner : (p q f m : ℤ) → Le (z_max (z_min p q) (z_min f m)) (z_min (z_max p q) (z_max f m)) → Between (z_max (z_min p q) (z_min f m)) f m
      corner p q f m h = (omega (arith, max-sides (z_min p q) (z_min f m)), omega (arith, h, min-sides (z_max p q) (z_max f m)))

  -- Allowed before the stop, and not at it

  abbrev point_own : Edge → Bool
  point_own e = on e.0

  abbrev edge_own : Edge → Bool
  edge_own e = of_bar s on e || hangs s on e

  abbrev point_stop : Place → ℕ
  point_stop p = edge_stop s F L n point_own (p, p)

  abbrev A : ℕ
  A = least_stop (macro_stop s F L n) n net.macros

  abbrev B : ℕ
  B = least_stop point_stop n X

  abbrev C : ℕ
  C = least_stop (edge_stop s F L n edge_own) n T

  stop-parts : stop s on net X T a ≡ min A (min B C)
  unfolding stop
  stop-parts = refl

  pub allowed-before : (k : ℕ) → k < stop s on net X T a → allowed s on X T a net k ≡ true
  unfolding allowed swept point_bars edge_bars clear
  allowed-before k h =
      let z = stop-parts in
      and_both _ _
      (not-false _ (none_any (meets F (moved s k L)) net.macros (λ m i. by (meets F (moved s k L) m)
      (λ e. absurd (let y : ⊥ = omega (arith, h, z, least_at (macro_stop s F L n) n net.macros m i, macro-met m k e) in y)) (λ e. e))))
      (and_both _ _
      (not-false _ (none_any (point_bars s on X T a k) X (λ p i. by (point_bars s on X T a k p)
      (λ e.
      let o = and_left (boxes_meet (p, p) (F, moved s k L)) _ e in
      let g = not-true (on p) (and_left (not (on p)) _ (and_right (boxes_meet (p, p) (F, moved s k L)) _ e)) in
      absurd (let y : ⊥ = omega (arith, h, z, least_at point_stop n X p i, stop-met point_own (p, p) k o g) in y))
      (λ e. e))))
      (not-false _ (none_any (edge_bars s on X T a k) T (λ e i. by (edge_bars s on X T a k e)
      (λ t.
      let o = and_left (boxes_meet e (F, moved s k L)) _ t in
      let g = not-true (edge_own e) (and_left (not (edge_own e)) _ (and_right (boxes_meet e (F, moved s k L)) _ t)) in
      absurd (let y : ⊥ = omega (arith, h, z, least_at (edge_stop s F L n edge_own) n T e i, stop-met edge_own e k o g) in y))
      (λ t. t)))))

  -- something is in the way
  macro-blocks : (d : ℕ) (m : Macro) → m ∈ net.macros → meets F (moved s d L) m ≡ true → allowed s on X T a net d ≡ false
  unfolding allowed swept clear
  macro-blocks d m i e = rw (any-in (meets F (moved s d L)) net.macros m i e) refl

  and-false : (p q : Bool) → q ≡ false → (p && q) ≡ false
  and-false true q e = e
  and-false false q e = refl

  point-blocks : (d : ℕ) → d < n → (p : Place) → p ∈ X → on p ≡ false → boxes_meet (p, p) (F, moved s d L) ≡ true →
      allowed s on X T a net d ≡ false
  unfolding allowed swept point_bars taken
  point-blocks d h p i g o =
      let untaken : any (same_place p) (far_ends s on T) ≡ false =
      none_any (same_place p) (far_ends s on T) (λ q j. by (same_place p q)
      (λ e. absurd (no-far d h q j (ap (λ (r : Place). boxes_meet (r, r) (F, moved s d L)) (sym (same_true p q e)) ∙ o)))
      (λ e. e))
      in
      let t : point_bars s on X T a d p ≡ true = and_both _ _ o (rw (g, untaken) refl) in
      let y : any (point_bars s on X T a d) X ≡ true = any-in (point_bars s on X T a d) X p i t in
      and-false (clear F (moved s d L) net.macros) _ (ap (λ (b : Bool). not b && not (any (edge_bars s on X T a d) T)) y)

  edge-blocks : (d : ℕ) → d < n → (e : Edge) → e ∈ T → edge_own e ≡ false → boxes_meet e (F, moved s d L) ≡ true →
      allowed s on X T a net d ≡ false
  unfolding allowed swept edge_bars only_in
  edge-blocks d h e i g o =
      let elsewhere : any (only_in e (F, moved s d L)) (far_ends s on T) ≡ false =
      none_any (only_in e (F, moved s d L)) (far_ends s on T) (λ q j. by (only_in e (F, moved s d L) q)
      (λ t.
      let k : low_corner e (F, moved s d L) ≡ q = same_true _ _ (and_left _ (same_place (high_corner e (F, moved s d L)) q) t) in
      let inner = box-holds (low_corner e (F, moved s d L)) F (moved s d L) (corner-in e (moved s d L) o) in
      absurd (no-far d h q j (ap (λ (r : Place). boxes_meet (r, r) (F, moved s d L)) (sym k) ∙ inner)))
      (λ t. t))
      in
      let t : edge_bars s on X T a d e ≡ true = and_both _ _ o (and_both _ _ (not-false _ g) (not-false _ elsewhere)) in
      let y : any (edge_bars s on X T a d) T ≡ true = any-in (edge_bars s on X T a d) T e i t in
      and-false (clear F (moved s d L) net.macros) _ (and-false (not (any (point_bars s on X T a d) X)) _ (ap not y))

  pub blocked : stop s on net X T a < n → allowed s on X T a net (stop s on net X T a) ≡ false
  blocked h =
      let z = stop-parts in
      by (leb A (min B C))
      (λ e.
      let q : stop s on net X T a ≡ A = let w = leb-true A (min B C) e in omega (arith, z, w) in
      either (λ k. absurd (let y : ⊥ = omega (arith, h, q, k) in y))
      (λ r.
      let k : macro_stop s F L n r.0 ≡ stop s on net X T a = sym (q ∙ r.1.1) in
      macro-blocks _ r.0 r.1.0
      (ap (λ (d : ℕ). meets F (moved s d L) r.0) (sym k) ∙ macro-is r.0 (omega (arith, h, k))))
      (least-is (macro_stop s F L n) n net.macros))
      (λ e. by (leb B C)
      (λ f.
      let q : stop s on net X T a ≡ B = let w = leb-false A (min B C) e in let v = leb-true B C f in omega (arith, z, w, v) in
      either (λ k. absurd (let y : ⊥ = omega (arith, h, q, k) in y))
      (λ r.
      let k : point_stop r.0 ≡ stop s on net X T a = sym (q ∙ r.1.1) in
      let t = stop_is point_own (r.0, r.0) (omega (arith, h, k)) in
      point-blocks _ h r.0 r.1.0 t.0 (ap (λ (d : ℕ). boxes_meet (r.0, r.0) (F, moved s d L)) (sym k) ∙ t.1))
      (least-is point_stop n X))
      (λ f.
      let q : stop s on net X T a ≡ C = let w = leb-false A (min B C) e in let v = leb-false B C f in omega (arith, z, w, v) in
      either (λ k. absurd (let y : ⊥ = omega (arith, h, q, k) in y))
      (λ r.
      let k : edge_stop s F L n edge_own r.0 ≡ stop s on net X T a = sym (q ∙ r.1.1) in
      let t = stop_is edge_own r.0 (omega (arith, h, k)) in
      edge-blocks _ h r.0 r.1.0 t.0 (ap (λ (d : ℕ). boxes_meet r.0 (F, moved s d L)) (sym k) ∙ t.1))
      (least-is (edge_stop s F L n edge_own) n T)))

  stop-most : stop s on net X T a ≤ n
  stop-most = omega (arith, stop-parts, least-most (macro_stop s F L n) n net.macros)

  -- The closed form is the greatest distance

  pub closed_is : reach s on net X T a ≡ closed s on net X T a
  unfolding reach closed
  closed_is =
      let ok = allowed s on X T a net in
      let down : (i j : ℕ) → i ≤ j → ok j ≡ true → ok i ≡ true = λ i j le. allowed-less c a at_a i j le in
      let k = stop s on net X T a in
      by (ok n)
      (λ e. greatest-is ok n n down (omega arith) (inr e) (inl refl) ∙ rw (closed, e) refl)
      (λ e.
      greatest-is ok n (k - 1) down (omega (arith, stop-most)) (before k refl) (after k refl e)
      ∙ rw (closed, e) refl)
    where
      before : (k : ℕ) → stop s on net X T a ≡ k → (k - 1 ≡ 0) ⊎ (allowed s on X T a net (k - 1) ≡ true)
      before zero z = inl refl
      before (suc k) z = inr (allowed-before (suc k - 1) (omega (arith, z)))

      after : (k : ℕ) → stop s on net X T a ≡ k → allowed s on X T a net n ≡ false →
          (k - 1 ≡ n) ⊎ (allowed s on X T a net (suc (k - 1)) ≡ false)
      after zero z e =
          by (ltb 0 n)
          (λ t. let none = ap (allowed s on X T a net) (sym z) ∙ blocked (omega (arith, z, ltb-true 0 n t)) in
          inr (contrapose _ _ (allowed-less c a at_a 0 (suc (zero - 1)) (omega arith)) none))
          (λ t. inl (omega (arith, ltb-false 0 n t)))
      after (suc j) z e =
          let k : suc (suc j - 1) ≡ stop s on net X T a = omega (arith, z) in
          inr (ap (allowed s on X T a net) k ∙ by (ltb (stop s on net X T a) n)
          (λ t. blocked (ltb-true (stop s on net X T a) n t))
          (λ t. let q : stop s on net X T a ≡ n = omega (arith, stop-most, ltb-false (stop s on net X T a) n t) in
          ap (allowed s on X T a net) q ∙ e))
