-- Past a point: a point is the edge of it and itself, its own where it is on the bar, and the box meets it in itself alone.
-- Assumes nothing.
use mathlib.Core.Path.{◌≡◌, refl, sym, ap, ap₂, ◌∙◌}
use mathlib.Core.Bool.{Bool, true, false, not, ◌&&◌, ◌||◌}
use mathlib.Core.List.{List}
use Prim.Native.Nat.{ℕ, ◌≤◌, ◌<◌, min}
use native.Mathlib.Omega.{arith}
use lib.IntN.{ℤ}
use lib.Signed.{le_z}
use Rattle.lists.specs.Any.{any}
use Rattle.lists.proofs.TestLaws.{by, and_left, and_right}
use Rattle.lists.proofs.AnyLaws.{any-agree}
use Rattle.signed.specs.Sides.{Le}
use Rattle.signed.specs.Order.{z_min, z_max}
use Rattle.signed.proofs.SideLaws.{z_le-true, eq_of}
use Rattle.signed.proofs.OrderLaws.{min-sides, max-sides, min_self, max_self, z_eq-refl}
use Rattle.plane.specs.declared.Place.{Place}
use Rattle.plane.specs.Place.{place, same_place}
use Rattle.plane.specs.Flat.{place_at}
use Rattle.slide.specs.declared.Side.{Side}
use Rattle.slide.specs.Side.{across, moved}
use Rattle.slide.specs.Bend.{Edge, taken}
use Rattle.slide.specs.Bar.{level, of_bar, hangs, shortest, far_ends}
use Rattle.slide.specs.Sweep.{low_corner, high_corner, boxes_meet, only_in}
use Rattle.slide.specs.Stop.{edge_stop}
use Rattle.straight.specs.Table.{edges_in}
use Rattle.reach.specs.declared.Bar.{Bar}
use Rattle.reach.specs.declared.Way.{Way}
use Rattle.turned.specs.declared.Seen.{Seen}
use Rattle.turned.specs.Turned.{View, seen_point, spot_at}
use Rattle.reach.specs.Passing.{way, past}
use Rattle.turned.proofs.SeenLaws.{Sees}
use Rattle.reach.proofs.PassLaws.{Stands, as_seen}
use Rattle.reach.proofs.WayLaws.{past_is}

-- Where a box meets a point

low-point : (p f m : ℤ) → Le (z_max (z_min p p) (z_min f m)) (z_min (z_max p p) (z_max f m)) → z_max (z_min p p) (z_min f m) ≡ p
low-point p f m h =
    let k = rw (min_self p, max_self p) at h in
    rw (min_self p) (eq_of _ _ (omega (arith, k, max-sides p (z_min f m), min-sides p (z_max f m))))

high-point : (p f m : ℤ) → Le (z_max (z_min p p) (z_min f m)) (z_min (z_max p p) (z_max f m)) → z_min (z_max p p) (z_max f m) ≡ p
high-point p f m h =
    let k = rw (min_self p, max_self p) at h in
    rw (max_self p) (eq_of _ _ (omega (arith, k, max-sides p (z_min f m), min-sides p (z_max f m))))

twice : (t : Bool) → (t && t) ≡ t
twice true = refl
twice false = refl

-- the box of F and M meets p, and so in p alone
pub only-itself : (p F M q : Place) → boxes_meet (p, p) (F, M) ≡ true → only_in (p, p) (F, M) q ≡ same_place p q
unfolding boxes_meet only_in low_corner high_corner
only-itself p F M q e =
    let x = z_le-true _ _ (and_left _ (le_z (low_corner (p, p) (F, M)).y (high_corner (p, p) (F, M)).y) e) in
    let y = z_le-true _ _ (and_right (le_z (low_corner (p, p) (F, M)).x (high_corner (p, p) (F, M)).x) _ e) in
    let l : low_corner (p, p) (F, M) ≡ p = ap₂ place (low-point p.x F.x M.x x) (low-point p.y F.y M.y y) in
    let h : high_corner (p, p) (F, M) ≡ p = ap₂ place (high-point p.x F.x M.x x) (high-point p.y F.y M.y y) in
    ap₂ (λ (a b : Place). same_place a q && same_place b q) l h ∙ twice (same_place p q)

point-own : (s : Side) (on : Place → Bool) (p : Place) → (of_bar s on (p, p) || hangs s on (p, p)) ≡ on p
unfolding of_bar hangs level
point-own s on p = rw (z_eq-refl (across s p)) (by (on p) (λ e. rw e refl) (λ e. rw e refl))

-- whether the point bars the bar as far as the shortest edge
abbrev pub point_barring : Side → (Place → Bool) → Place → Place → List Edge → Place → Bool
point_barring s on F M T p = boxes_meet (p, p) (F, M) && (not (on p) && not (taken (far_ends s on T) p))

barring-is : (s : Side) (on : Place → Bool) (F M : Place) (T : List Edge) (p : Place)
    → (boxes_meet (p, p) (F, M) && (not (of_bar s on (p, p) || hangs s on (p, p)) && not (any (only_in (p, p) (F, M)) (far_ends s on T))))
    ≡ point_barring s on F M T p
unfolding taken
barring-is s on F M T p =
    by (boxes_meet (p, p) (F, M))
    (λ e. ap₂ (λ (t u : Bool). boxes_meet (p, p) (F, M) && (not t && not u)) (point-own s on p)
    (any-agree (only_in (p, p) (F, M)) (same_place p) (λ q. only-itself p F M q e) (far_ends s on T)))
    (λ e. rw e refl)

stop-own : (s : Side) (F L : Place) (n : ℕ) (own other : Edge → Bool) (x : Edge) → own x ≡ other x → edge_stop s F L n own x
    ≡ edge_stop s F L n other x
unfolding edge_stop
stop-own s F L n own other x e = rw (edge_stop, e) refl

module _ {v : View} {n e : ℕ} {on : Place → Bool} (r : Sees v n e on) {b : Bar} {F L : Place} (st : Stands v.side b F L)
    (most : b.most ≡ shortest v.side on (edges_in v.points v.keys e)) (i : ℕ) (h : i < n) where
  abbrev s : Side
  s = v.side

  abbrev p : Place
  p = place_at v.points i

  as-seen : seen_point v i ≡ as_seen s on (p, p)
  as-seen =
      ap (λ (t : Bool). let k : Seen = record { first = t; second = t; from = spot_at v i; to = spot_at v i } in k) (sym (r.is i h))

  pub point-past : (w : Way) → w.stop ≤ b.most
      → past v e b (seen_point v i) w
      ≡ way (min w.stop (edge_stop s F L b.most (λ y. on y.0) (p, p)))
      (w.free && not (point_barring s on F (moved s b.most L) (edges_in v.points v.keys e) p))
  point-past w l =
      ap (λ (t : Seen). past v e b t w) as-seen
      ∙ past_is r st most (p, p) (r.fits i h) (r.fits i h) w l
      ∙ ap₂ (λ (k : ℕ) (t : Bool). way (min w.stop k) (w.free && not t))
      (stop-own s F L b.most (λ y. of_bar s on y || hangs s on y) (λ y. on y.0) (p, p) (point-own s on p))
      (barring-is s on F (moved s b.most L) (edges_in v.points v.keys e) p)
