-- Allowed distances are closed downwards: a shorter move sweeps a part of the box. So the greatest may be sought from below, by halving
-- or in closed form: it is any number that passes whose next one does not.
-- Assumes nothing.
use mathlib.Core.Path.{◌≡◌, refl, sym, ap, ap₂, ◌∙◌}
use mathlib.Core.Bool.{Bool, true, false, not, ◌||◌}
use mathlib.Core.Logic.{◌⊎◌}
use mathlib.Core.List.{List}
use Prim.Native.Nat.{ℕ, suc, ◌≤◌}
use native.Mathlib.Omega.{arith}
use borrow.Author.Tests.{leb-true, leb-false}
use lib.Dec.{leb}
use lib.IntN.{ℤ}
use lib.Signed.{le_z}
use Rattle.lists.specs.Any.{any}
use Rattle.lists.specs.Member.{◌∈◌}
use Rattle.lists.proofs.TestLaws.{by, differ, either, contrapose, not-true, and_left, and_right, and_both}
use Rattle.lists.proofs.AnyLaws.{any_none, none_any}
use Rattle.signed.specs.Sides.{up, down, Le}
use Rattle.signed.specs.Order.{z_min, z_max}
use Rattle.signed.proofs.SideLaws.{z_le-true, le-z_le, eq_of, signed}
use Rattle.signed.proofs.OrderLaws.{min-sides, max-sides}
use Rattle.plane.specs.declared.Place.{Place}
use Rattle.plane.specs.Place.{place, same_place}
use Rattle.plane.specs.Macro.{clear}
use Rattle.plane.specs.Box.{Between, InBox}
use Rattle.plane.proofs.PlaceLaws.{same_true, same_refl}
use Rattle.plane.proofs.BoxLaws.{first-in-box, clear_within}
use Rattle.net.specs.Net.{Net}
use Rattle.slide.specs.declared.Side.{Side}
use Rattle.slide.specs.Side.{moved}
use Rattle.slide.specs.Bend.{Edge}
use Rattle.slide.specs.Bar.{of_bar, hangs, far_ends}
use Rattle.slide.specs.Sweep.{low_corner, high_corner, boxes_meet, only_in, first_place, last_place, swept, point_bars, edge_bars, allowed}
use Rattle.slide.specs.Sweep.{greatest}
use Rattle.slide.specs.Bars.{IsBar}
use Rattle.slide.proofs.AcrossLaws.{along-moved, across-moved, in-box}
use Rattle.slide.proofs.BarLaws.{first_on, last-on, covered, greatest-le, greatest-passes, greatest-greatest}

-- Where boxes meet, for a box within a box

low-span : (m a b c d : ℤ) → Between c a b → Between d a b → Le (z_max m (z_min a b)) (z_max m (z_min c d))
low-span m a b c d i j = omega (signed, i.0, j.0, max-sides m (z_min a b), max-sides m (z_min c d), min-sides c d)

high-span : (m a b c d : ℤ) → Between c a b → Between d a b → Le (z_min m (z_max c d)) (z_min m (z_max a b))
high-span m a b c d i j = omega (signed, i.1, j.1, min-sides m (z_max a b), min-sides m (z_max c d), max-sides c d)

module _ (e : Edge) (a b c d : Place) (i : InBox c a b) (j : InBox d a b) where
  record Nested : Type 0 where
    pub low_x : Le (low_corner e (a, b)).x (low_corner e (c, d)).x
    pub low-y : Le (low_corner e (a, b)).y (low_corner e (c, d)).y
    pub high-x : Le (high_corner e (c, d)).x (high_corner e (a, b)).x
    pub high-y : Le (high_corner e (c, d)).y (high_corner e (a, b)).y

  nested : Nested
  unfolding low_corner high_corner
  nested = record {
    low_x = low-span _ a.x b.x c.x d.x i.across j.across;
    low-y = low-span _ a.y b.y c.y d.y i.along j.along;
    high-x = high-span _ a.x b.x c.x d.x i.across j.across;
    high-y = high-span _ a.y b.y c.y d.y i.along j.along;
  }

  record Meets (f : Edge) : Type 0 where
    pub across : Le (low_corner e f).x (high_corner e f).x
    pub along : Le (low_corner e f).y (high_corner e f).y

  meets-parts : (f : Edge) → boxes_meet e f ≡ true → Meets f
  unfolding boxes_meet
  meets-parts f h = record {
    across = z_le-true _ _ (and_left _ (le_z (low_corner e f).y (high_corner e f).y) h);
    along = z_le-true _ _ (and_right (le_z (low_corner e f).x (high_corner e f).x) _ h);
  }

  pub meets-more : boxes_meet e (c, d) ≡ true → boxes_meet e (a, b) ≡ true
  unfolding boxes_meet
  meets-more h =
      let n = nested in
      let m = meets-parts (c, d) h in
      and_both _ _
      (le-z_le (low_corner e (a, b)).x (high_corner e (a, b)).x (omega (arith, n.low_x, n.high-x, m.across)))
      (le-z_le (low_corner e (a, b)).y (high_corner e (a, b)).y (omega (arith, n.low-y, n.high-y, m.along)))

  -- what meets the whole in one place meets the part in no other
  pub only-less : (q : Place) → boxes_meet e (c, d) ≡ true → only_in e (a, b) q ≡ true → only_in e (c, d) q ≡ true
  unfolding only_in
  only-less q h k =
      let n = nested in
      let m = meets-parts (c, d) h in
      let low : low_corner e (a, b) ≡ q = same_true _ _ (and_left _ (same_place (high_corner e (a, b)) q) k) in
      let high : high_corner e (a, b) ≡ q = same_true _ _ (and_right (same_place (low_corner e (a, b)) q) _ k) in
      let lx = ap (λ (p : Place). up p.x) low in
      let ly = ap (λ (p : Place). up p.y) low in
      let lx' = ap (λ (p : Place). down p.x) low in
      let ly' = ap (λ (p : Place). down p.y) low in
      let hx = ap (λ (p : Place). up p.x) high in
      let hy = ap (λ (p : Place). up p.y) high in
      let hx' = ap (λ (p : Place). down p.x) high in
      let hy' = ap (λ (p : Place). down p.y) high in
      let l : low_corner e (c, d) ≡ q =
      ap₂ place
      (eq_of (low_corner e (c, d)).x q.x (omega (arith, n.low_x, n.high-x, m.across)))
      (eq_of (low_corner e (c, d)).y q.y (omega (arith, n.low-y, n.high-y, m.along)))
      in
      let r : high_corner e (c, d) ≡ q =
      ap₂ place
      (eq_of (high_corner e (c, d)).x q.x (omega (arith, n.low_x, n.high-x, m.across)))
      (eq_of (high_corner e (c, d)).y q.y (omega (arith, n.low-y, n.high-y, m.along)))
      in
      and_both _ _ (ap (λ (p : Place). same_place p q) l ∙ same_refl q) (ap (λ (p : Place). same_place p q) r ∙ same_refl q)

pub any-in : {A : Type 0} (f : A → Bool) (l : List A) (x : A) → x ∈ l → f x ≡ true → any f l ≡ true
any-in f l x m e = by (any f l) (λ h. h) (λ h. differ e (any_none f l h x m))

pub not-false : (p : Bool) → p ≡ false → not p ≡ true
not-false p e = rw e refl

-- Shorter distances

module _ {s : Side} {net : Net} {X : List Place} {T : List Edge} {on : Place → Bool} (c : IsBar s net X T on) (a : Place)
    (at_a : on a ≡ true)
    (k d : ℕ) (le : k ≤ d) where
  abbrev first : Place
  first = first_place s on X T a

  abbrev last : Place
  last = last_place s on X T a

  shorter-in : InBox (moved s k last) first (moved s d last)
  shorter-in =
      let h = covered c a at_a last (last-on c a at_a) in
      let flat = c.flat first (first_on c a at_a) ∙ sym (c.flat last (last-on c a at_a)) in
      let u = ap up flat in
      let v = ap down flat in
      in-box s (moved s k last) first (moved s d last)
      (rw (along-moved s k last) h.0)
      (rw (along-moved s k last, along-moved s d last) (omega signed))
      (omega (arith, across-moved s k last))
      (omega (arith, le, across-moved s k last, across-moved s d last))

  point-less : (p : Place) → point_bars s on X T a k p ≡ true → point_bars s on X T a d p ≡ true
  unfolding point_bars swept
  point-less p h =
      and_both _ _
      (meets-more (p, p) first (moved s d last) first (moved s k last) (first-in-box first (moved s d last)) shorter-in (and_left _ _ h))
      (and_right (boxes_meet (p, p) (first, moved s k last)) _ h)

  edge-less : (e : Edge) → edge_bars s on X T a k e ≡ true → edge_bars s on X T a d e ≡ true
  unfolding edge_bars swept
  edge-less e h =
      let meets = and_left (boxes_meet e (first, moved s k last)) _ h in
      let rest = and_right (boxes_meet e (first, moved s k last)) _ h in
      let away = and_left (not (of_bar s on e || hangs s on e)) _ rest in
      let none = not-true _ (and_right (not (of_bar s on e || hangs s on e)) _ rest) in
      let inner = first-in-box first (moved s d last) in
      and_both _ _
      (meets-more e first (moved s d last) first (moved s k last) inner shorter-in meets)
      (and_both _ _ away
      (not-false _
      (none_any (only_in e (first, moved s d last)) (far_ends s on T) (λ q m.
      contrapose _ _ (only-less e first (moved s d last) first (moved s k last) inner shorter-in q meets)
      (any_none (only_in e (first, moved s k last)) (far_ends s on T) none q m)))))

  -- what is allowed for d is allowed for a shorter distance
  pub allowed-less : allowed s on X T a net d ≡ true → allowed s on X T a net k ≡ true
  unfolding allowed swept
  allowed-less h =
      let rest = and_right (clear first (moved s d last) net.macros) _ h in
      let points = not-true _ (and_left (not (any (point_bars s on X T a d) X)) _ rest) in
      let edges = not-true _ (and_right (not (any (point_bars s on X T a d) X)) _ rest) in
      and_both _ _
      (clear_within first (moved s k last) first (moved s d last) (first-in-box first (moved s d last)) shorter-in net.macros
      (and_left _ _ h))
      (and_both _ _
      (not-false _ (none_any _ X (λ p m. contrapose _ _ (point-less p) (any_none (point_bars s on X T a d) X points p m))))
      (not-false _ (none_any _ T (λ e m. contrapose _ _ (edge-less e) (any_none (edge_bars s on X T a d) T edges e m)))))

-- The greatest is told by itself and the next

pub greatest-is : (ok : ℕ → Bool) (n k : ℕ) → ((i j : ℕ) → i ≤ j → ok j ≡ true → ok i ≡ true) → k ≤ n →
    (k ≡ 0) ⊎ (ok k ≡ true) → (k ≡ n) ⊎ (ok (suc k) ≡ false) → greatest ok n ≡ k
greatest-is ok n k down le passes stops =
    let most = greatest-le ok n in
    let low : k ≤ greatest ok n = either (λ z. omega (arith, z)) (λ e. greatest-greatest ok n k le e) passes in
    let high : greatest ok n ≤ k =
    either (λ z. omega (arith, z, most))
    (λ e. either (λ z. omega (arith, z))
    (λ g. by (leb (greatest ok n) k) (λ t. leb-true (greatest ok n) k t)
    (λ t. differ (down (suc k) (greatest ok n) (next t) g) e))
    (greatest-passes ok n))
    stops
    in
    omega (arith, low, high)
  where
    next : leb (greatest ok n) k ≡ false → suc k ≤ greatest ok n
    next t = omega (arith, leb-false (greatest ok n) k t)
