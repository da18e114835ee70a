-- What is allowed is what nothing blocks, and a bar is connected: the tests read as sentences. Two boxes meet in the box of their corners,
-- so where they have one place in common the corners are such places too.
-- Assumes nothing.
use mathlib.Core.Path.{◌≡◌, refl, sym, ap, ap₂, ◌∙◌, subst}
use mathlib.Core.Bool.{Bool, true, false, not, ◌&&◌, ◌||◌}
use mathlib.Core.Logic.{inl, inr}
use mathlib.Core.List.Memᴰ
use mathlib.Core.List.{List}
use Prim.Native.Nat.{ℕ}
use native.Mathlib.Omega.{arith}
use borrow.Author.Tests.{not-true, eqb-true}
use lib.Dec.{eqb}
use lib.IntN.{ℤ}
use lib.Signed.{le_z}
use Rattle.lists.specs.Any.{any}
use Rattle.lists.specs.Member.{◌∈◌}
use Rattle.lists.specs.Those.{those}
use Rattle.lists.proofs.TestLaws.{by, differ, either, and_left, and_right, and_both}
use Rattle.lists.proofs.AnyLaws.{any_none, none_any}
use Rattle.lists.proofs.MapLaws.{of_map}
use Rattle.lists.proofs.ThoseLaws.{in-those, of-those}
use Rattle.signed.specs.Order.{z_min, z_max}
use Rattle.signed.specs.Sides.{up, down, Le}
use Rattle.signed.proofs.SideLaws.{z_le-true, le-z_le, eq_of, signed}
use Rattle.signed.proofs.OrderLaws.{min-sides, max-sides}
use Rattle.plane.specs.declared.Place.{Place}
use Rattle.plane.specs.Place.{place, same_place}
use Rattle.plane.specs.Box.{Between, InBox}
use Rattle.plane.specs.Macro.{clear}
use Rattle.plane.proofs.PlaceLaws.{same_true, same_refl}
use Rattle.joined.specs.Joined.{Joined}
use Rattle.joined.specs.Labels.{equal, labels}
use Rattle.joined.proofs.JoinedLaws.{constant}
use Rattle.joined.proofs.LabelLaws.{equal-true, equal-false, labelled, joined_same, same-joined}
use Rattle.net.specs.Net.{Net}
use Rattle.slide.specs.declared.Side.{Side}
use Rattle.slide.specs.Side.{across}
use Rattle.slide.specs.Bend.{Edge, taken}
use Rattle.slide.specs.Bar.{same, level, on_bar, of_bar, hangs, ahead, far, long, shortest, far_ends}
use Rattle.slide.specs.Sweep.{low_corner, high_corner, boxes_meet, only_in, swept, point_bars, edge_bars, allowed, reach}
use Rattle.slide.specs.Sentences.{IsGreatest, IsFarEnd, InSwept, PointFree, EdgeFree, Unblocked, MovesAsFar}
use Rattle.slide.proofs.AcrossLaws.{level-true, true-level}
use Rattle.slide.proofs.BarLaws.{box-holds, some, shortest-le, greatest-le, greatest-passes, greatest-greatest}
use Rattle.slide.proofs.ReachLaws.{any-in, not-false}

-- A bar

pub is-greatest : (s : Side) (T : List Edge) (a : Place) → IsGreatest s T a
unfolding on_bar
is-greatest s T a = record {
  connected = λ p. (joined p, λ j. equal_as _ _ (joined_same (labelled same L) j));
  line = λ p e. sym (constant (across s) (λ u v m. level-true s u v (of-those (level s) T m).1) (joined p e));
  greatest = λ p q m e. ap (equal same (labels same L a)) ((labelled same L).ends p q (in-those (level s) T m (true-level s p q e)));
}
  where
    L : List Edge
    L = those (level s) T

    joined : (p : Place) → equal same (labels same L a) (labels same L p) ≡ true → Joined L a p
    joined p e = same-joined (labelled same L) a p (equal-true same _ _ e)

    equal_as : (x y : Place) → x ≡ y → equal same x y ≡ true
    equal_as x y e = by (equal same x y) (λ h. h) (λ h. absurd (equal-false same x y h e))

-- Where two boxes meet

-- along one axis: the spans of p and q, and of f and m
module _ (p q f m : ℤ) where
  abbrev low : ℤ
  low = z_max (z_min p q) (z_min f m)

  abbrev high : ℤ
  high = z_min (z_max p q) (z_max f m)

  common-span : (c : ℤ) → Between c p q → Between c f m → Le low c × Le c high
  common-span c h k =
      (omega (signed, h.0, k.0, max-sides (z_min p q) (z_min f m)), omega (signed, h.1, k.1, min-sides (z_max p q) (z_max f m)))

  common-order : (c : ℤ) → Between c p q → Between c f m → Le low high
  common-order c h k = let r = common-span c h k in omega (signed, r.0, r.1)

  span-low : Le low high → Between low p q × Between low f m
  span-low h =
      let l = max-sides (z_min p q) (z_min f m) in
      let r = min-sides (z_max p q) (z_max f m) in
      ((omega (signed, l), omega (signed, h, r)), (omega (signed, l), omega (signed, h, r)))

  span-high : Le low high → Between high p q × Between high f m
  span-high h =
      let l = max-sides (z_min p q) (z_min f m) in
      let r = min-sides (z_max p q) (z_max f m) in
      ((omega (signed, h, l), omega (signed, r)), (omega (signed, h, l), omega (signed, r)))

module _ (e : Edge) (u v : Place) where
  -- a place in both
  common-meet : (q : Place) → InBox q e.0 e.1 → InBox q u v → boxes_meet e (u, v) ≡ true
  unfolding boxes_meet low_corner high_corner
  common-meet q i k =
      and_both _ _
      (le-z_le _ _ (common-order e.0.x e.1.x u.x v.x q.x i.across k.across))
      (le-z_le _ _ (common-order e.0.y e.1.y u.y v.y q.y i.along k.along))

  -- the corners are in both
  meet-parts : boxes_meet e (u, v) ≡ true →
      Le (low_corner e (u, v)).x (high_corner e (u, v)).x × Le (low_corner e (u, v)).y (high_corner e (u, v)).y
  unfolding boxes_meet
  meet-parts h = (
    z_le-true _ _ (and_left _ (le_z (low_corner e (u, v)).y (high_corner e (u, v)).y) h),
    z_le-true _ _ (and_right (le_z (low_corner e (u, v)).x (high_corner e (u, v)).x) _ h),
  )

  low-common : boxes_meet e (u, v) ≡ true → InBox (low_corner e (u, v)) e.0 e.1 × InBox (low_corner e (u, v)) u v
  unfolding low_corner high_corner
  low-common h =
      let r = meet-parts h in
      let x = span-low e.0.x e.1.x u.x v.x r.0 in
      let y = span-low e.0.y e.1.y u.y v.y r.1 in
      (record { across = x.0; along = y.0 }, record { across = x.1; along = y.1 })

  high-common : boxes_meet e (u, v) ≡ true → InBox (high_corner e (u, v)) e.0 e.1 × InBox (high_corner e (u, v)) u v
  unfolding low_corner high_corner
  high-common h =
      let r = meet-parts h in
      let x = span-high e.0.x e.1.x u.x v.x r.0 in
      let y = span-high e.0.y e.1.y u.y v.y r.1 in
      (record { across = x.0; along = y.0 }, record { across = x.1; along = y.1 })

  -- both corners at f: no other place is in both
  one_number : (l h c z : ℤ) → l ≡ z → h ≡ z → Le l c → Le c h → c ≡ z
  one_number l h c z a b i k =
      let a0 = ap up a in
      let a1 = ap down a in
      let b0 = ap up b in
      let b1 = ap down b in
      eq_of c z (omega (arith, i, k, a0, a1, b0, b1))

  only-common : (f q : Place) → only_in e (u, v) f ≡ true → InBox q e.0 e.1 → InBox q u v → q ≡ f
  unfolding only_in low_corner high_corner
  only-common f q o i k =
      let l = same_true _ f (and_left _ (same_place (high_corner e (u, v)) f) o) in
      let h = same_true _ f (and_right (same_place (low_corner e (u, v)) f) _ o) in
      let x = common-span e.0.x e.1.x u.x v.x q.x i.across k.across in
      let y = common-span e.0.y e.1.y u.y v.y q.y i.along k.along in
      ap₂ place
      (one_number _ _ q.x f.x (ap (λ (p : Place). p.x) l) (ap (λ (p : Place). p.x) h) x.0 x.1)
      (one_number _ _ q.y f.y (ap (λ (p : Place). p.y) l) (ap (λ (p : Place). p.y) h) y.0 y.1)

  common-only : (f : Place) → boxes_meet e (u, v) ≡ true → ((q : Place) → InBox q e.0 e.1 → InBox q u v → q ≡ f) →
      only_in e (u, v) f ≡ true
  unfolding only_in
  common-only f h only =
      let l = low-common h in
      let k = high-common h in
      and_both _ _ (ap (λ (p : Place). same_place p f) (only _ l.0 l.1) ∙ same_refl f)
      (ap (λ (p : Place). same_place p f) (only _ k.0 k.1) ∙ same_refl f)

-- a place that meets a box is in it
at_place : (z x : ℤ) → Between z x x → z ≡ x
at_place z x h = eq_of z x (omega (signed, h.0, h.1, min-sides x x, max-sides x x))

meets-in : (p u v : Place) → boxes_meet (p, p) (u, v) ≡ true → InBox p u v
meets-in p u v b =
    let k = low-common (p, p) u v b in
    let is : low_corner (p, p) (u, v) ≡ p = ap₂ place (at_place _ p.x k.0.across) (at_place _ p.y k.0.along) in
    subst (λ (q : Place). InBox q u v) is k.1

-- a place that is taken is one of the points
taken_in : (X : List Place) (c : Place) → taken X c ≡ true → c ∈ X
unfolding taken
taken_in X c h = let r = some (same_place c) X h in Memᴰ.cast (same_true c r.0 r.1.1) r.1.0

in_taken : (X : List Place) (c : Place) → c ∈ X → taken X c ≡ true
unfolding taken
in_taken X c m = any-in (same_place c) X c m (same_refl c)

-- What is allowed

module _ (s : Side) (on : Place → Bool) (X : List Place) (T : List Edge) (a : Place) (net : Net) where
  module _ (d : ℕ) where
    abbrev F : Place
    F = (swept s on X T a d).0

    abbrev M : Place
    M = (swept s on X T a d).1

    point-free : (p : Place) → point_bars s on X T a d p ≡ false → InSwept s on X T a net d p → PointFree s on X T a net d p
    unfolding point_bars
    point-free p h i =
        by (on p) inl (λ e. by (taken (far_ends s on T) p) (λ t. inr (taken_in (far_ends s on T) p t))
        (λ t. differ (and_both _ _ (box-holds p F M i) (rw (e, t) refl)) h))

    free-point : (p : Place) → (InSwept s on X T a net d p → PointFree s on X T a net d p) → point_bars s on X T a d p ≡ false
    unfolding point_bars
    free-point p h = by (boxes_meet (p, p) (F, M)) (λ b. rw b (at (h (meets-in p F M b)))) (λ b. rw b refl)
      where
        at : PointFree s on X T a net d p → (not (on p) && not (taken (far_ends s on T) p)) ≡ false
        at (inl e) = rw e refl
        at (inr m) = by (on p) (λ e. rw e refl) (λ e. rw (e, in_taken (far_ends s on T) p m) refl)

    edge-free : (e : Edge) → edge_bars s on X T a d e ≡ false → (q : Place) → InBox q e.0 e.1 → InSwept s on X T a net d q →
        EdgeFree s on X T a net d e
    unfolding edge_bars
    edge-free e h q i k =
        by (of_bar s on e) inl (λ b. by (hangs s on e) (λ g. inr (inl g))
        (λ g. by (any (only_in e (F, M)) (far_ends s on T))
        (λ t. let r = some (only_in e (F, M)) (far_ends s on T) t in
        inr (inr (r.0, (r.1.0, λ c j l. only-common e F M r.0 c r.1.1 j l))))
        (λ t. differ (and_both _ _ (common-meet e F M q i k) (rw (b, g, t) refl)) h)))

    free-edge : (e : Edge) → ((q : Place) → InBox q e.0 e.1 → InSwept s on X T a net d q → EdgeFree s on X T a net d e) →
        edge_bars s on X T a d e ≡ false
    unfolding edge_bars
    free-edge e h =
        by (boxes_meet e (F, M))
        (λ b. let l = low-common e F M b in rw b (at b (h (low_corner e (F, M)) l.0 l.1)))
        (λ b. rw b refl)
      where
        at : boxes_meet e (F, M) ≡ true → EdgeFree s on X T a net d e →
            (not (of_bar s on e || hangs s on e) && not (any (only_in e (F, M)) (far_ends s on T))) ≡ false
        at b (inl g) = rw g refl
        at b (inr (inl g)) = by (of_bar s on e) (λ k. rw k refl) (λ k. rw (k, g) refl)
        at b (inr (inr (f, (m, only)))) =
            let some = any-in (only_in e (F, M)) (far_ends s on T) f m (common-only e F M f b only) in
            by (of_bar s on e || hangs s on e) (λ k. rw k refl) (λ k. rw (k, some) refl)

    allowed-unblocked : allowed s on X T a net d ≡ true → Unblocked s on X T a net d
    unfolding allowed
    allowed-unblocked h =
        let rest = and_right (clear F M net.macros) _ h in
        let points = not-true _ (and_left (not (any (point_bars s on X T a d) X)) _ rest) in
        let edges = not-true _ (and_right (not (any (point_bars s on X T a d) X)) _ rest) in
        record {
          macros = and_left _ _ h;
          points = λ p m i. point-free p (any_none (point_bars s on X T a d) X points p m) i;
          edges = λ e m q i k. edge-free e (any_none (edge_bars s on X T a d) T edges e m) q i k;
        }

    unblocked-allowed : Unblocked s on X T a net d → allowed s on X T a net d ≡ true
    unfolding allowed
    unblocked-allowed u =
        and_both _ _ u.macros
        (and_both _ _
        (not-false _ (none_any (point_bars s on X T a d) X (λ p m. free-point p (λ i. u.points p m i))))
        (not-false _ (none_any (edge_bars s on X T a d) T (λ e m. free-edge e (λ q i k. u.edges e m q i k)))))

  -- the far ends
  is-far-end : (f : Place) → f ∈ far_ends s on T → IsFarEnd s on T f
  unfolding far_ends
  is-far-end f m =
      let r = of_map (far on) (those (λ e. eqb (long s e) (shortest s on T)) (those (ahead s on) T)) m in
      let p = of-those (λ e. eqb (long s e) (shortest s on T)) (those (ahead s on) T) r.stands in
      let q = of-those (ahead s on) T p.0 in
      let is : long s r.entry ≡ shortest s on T = eqb-true _ _ p.1 in
      record {
        edge = r.entry;
        stands = q.0;
        hanging = q.1;
        least = λ e i h. omega (arith, is, shortest-le s on T e i h);
        end = r.is;
      }

  pub moves-as-far : MovesAsFar s on X T a net
  unfolding reach
  moves-as-far =
      let ok = allowed s on X T a net in
      let n = shortest s on T in
      record {
        allowed-is = λ d. (allowed-unblocked d, unblocked-allowed d);
        far-ends = is-far-end;
        most = greatest-le ok n;
        unblocked = either inl (λ h. inr (allowed-unblocked _ h)) (greatest-passes ok n);
        no-farther = λ k h u. greatest-greatest ok n k h (unblocked-allowed k u);
      }
