-- Edges stay written smaller place first: a bend is written so, and a slide keeps which end is the smaller.
-- Assumes nothing.
use mathlib.Core.Path.{◌≡◌, sym, ap, ◌∙◌}
use mathlib.Core.Bool.{Bool, true, false}
use mathlib.Core.Logic.{inl, inr}
use mathlib.Core.List.{List}
use Prim.Native.Nat.{ℕ}
use native.Mathlib.Omega.{arith}
use lib.IntN.{ℤ, pos, ◌-ℤ◌}
use lib.Signed.{lt_z}
use Rattle.lists.specs.Member.{◌∈◌}
use Rattle.lists.proofs.TestLaws.{by, differ, either}
use Rattle.signed.specs.Sides.{up, down, Lt}
use Rattle.signed.proofs.SideLaws.{z_lt-true, z_lt-false, sub-sides, up_pos, down_pos, eq_of, signed}
use Rattle.plane.specs.declared.Place.{Place}
use Rattle.plane.specs.Place.{before}
use Rattle.plane.proofs.PlaceLaws.{before-true, before-by-x, before-by-y, before-tie}
use Rattle.plane.proofs.PlaceOrder.{place-order}
use Rattle.joined.specs.Joined.{Link}
use Rattle.net.specs.Net.{Net}
use Rattle.slide.specs.declared.Side.{Side}
use Rattle.slide.specs.declared.Side.TheVariants.{Above, Below, Right, Left}
use Rattle.slide.specs.Side.{along, across, moved}
use Rattle.graph.specs.Edges.{edge_of}
use Rattle.slide.specs.Bend.{Edge, straight, bent, bends}
use Rattle.slide.specs.Slide.{shift, slide}
use Rattle.slide.specs.Bars.{IsBar, Allowed}
use Rattle.slide.specs.Promise.{Straight, Smaller}
use Rattle.slide.proofs.BendLaws.{Corner, each-bent}
use Rattle.slide.proofs.AcrossLaws.{along-moved, across-moved, one_place, before-along}
use Rattle.slide.proofs.EdgeLaws.{shift-on, shift-off, Hangs, hang, Kind, bar, first, second, other, kind}
use Rattle.slide.proofs.ShiftLaws.{moved-level}
use Rattle.slide.proofs.SlideLaws.{false-proper, Slid, of-slide}

-- Bends

edge-smaller : (a b : Place) → (a ≡ b → ⊥) → before (edge_of a b).0 (edge_of a b).1 ≡ true
unfolding edge_of
edge-smaller a b n =
    by (before a b) (λ e. rw (edge_of, e) e)
    (λ e. by (before b a) (λ g. rw (edge_of, e) g) (λ g. absurd (n (before-tie a b e g))))

pub bends-smaller : (X : List Place) (T : List Edge) (Y : List Place) (U : List Edge) → bends X T ≡ bent Y U → Smaller T → Smaller U
bends-smaller X T Y U e w a b m =
    each-bent (λ f. before f.0 f.1 ≡ true) split X T Y U e (λ f i. w f.0 f.1 i) (a, b) m
  where
    split : (f : Edge) (c : Place) → straight f ≡ false → Corner f.0 f.1 c → before f.0 f.1 ≡ true →
        (before (edge_of f.0 c).0 (edge_of f.0 c).1 ≡ true) × (before (edge_of c f.1).0 (edge_of c f.1).1 ≡ true)
    split f c s q h = (
      edge-smaller f.0 c (λ k. differ (ap (λ (p : Place). straight (p, f.1)) k ∙ q.second) s),
      edge-smaller c f.1 (λ k. differ (ap (λ (p : Place). straight (f.0, p)) (sym k) ∙ q.first) s),
    )

-- A slide

-- across and down, the other way round
fewer : (a b : ℤ) → Lt a b → Lt (pos 0 -ℤ b) (pos 0 -ℤ a)
fewer a b h = omega (arith, h, sub-sides (pos 0) a, sub-sides (pos 0) b, up_pos 0, down_pos 0)

more : (a b : ℤ) → Lt (pos 0 -ℤ b) (pos 0 -ℤ a) → Lt a b
more a b h = omega (arith, h, sub-sides (pos 0) a, sub-sides (pos 0) b, up_pos 0, down_pos 0)

never : (a b : ℤ) → a ≡ b → Lt a b → ⊥
never a b e h = let u = ap up e in let v = ap down e in omega (arith, h)

-- two upright edges whose ends lie the same way have the smaller place first together
same_way : (s : Side) (a b p q : Place) → along s a ≡ along s b → along s p ≡ along s q →
    (Lt (across s a) (across s b) → Lt (across s p) (across s q)) → (Lt (across s b) (across s a) → Lt (across s q) (across s p)) →
    before a b ≡ true → before p q ≡ true
unfolding along across
same_way Above a b p q e g h k o =
    either (λ z. absurd (never _ _ e z)) (λ z. before-by-y p q g (h z.1)) (before-true a b o)
same_way Below a b p q e g h k o =
    either (λ z. absurd (never _ _ e z)) (λ z. before-by-y p q g (more p.y q.y (k (fewer a.y b.y z.1)))) (before-true a b o)
same_way Right a b p q e g h k o =
    either (λ z. before-by-x p q (h z)) (λ z. absurd (never _ _ e z.1)) (before-true a b o)
same_way Left a b p q e g h k o =
    either (λ z. before-by-x p q (more p.x q.x (k (fewer a.x b.x z)))) (λ z. absurd (never _ _ e z.1)) (before-true a b o)

-- two level edges
pub same-level : (s : Side) (a b p q : Place) → across s a ≡ across s b → across s p ≡ across s q → along s p ≡ along s a →
    along s q ≡ along s b →
    before a b ≡ true → before p q ≡ true
same-level s a b p q e g h k o =
    by (lt_z (along s a) (along s b))
    (λ t. before-along s p q g (let z = z_lt-true (along s a) (along s b) t in rw (h, k) z)) λ t.
    by (lt_z (along s b) (along s a))
    (λ u. differ (place-order.along a b a o (before-along s b a (sym e) (z_lt-true _ _ u))) (place-order.never a)) λ u.
    let z : along s a ≡ along s b =
    eq_of _ _ (omega (signed, z_lt-false (along s a) (along s b) t, z_lt-false (along s b) (along s a) u))
    in
    differ o (ap (before a) (sym (one_place s a b z e)) ∙ place-order.never a)

module _ {s : Side} {on : Place → Bool} {net : Net} {X : List Place} {T : List Edge} (c : IsBar s net X T on)
    {f l : Place} {d : ℕ} (w : Allowed s net X T on f l d) where
  -- an end that moves does not pass the other
  module _ (a b : Place) (e : Link T a b) (h : Hangs s on a b) where
    up-still : (moved s d a ≡ b → ⊥) → Lt (across s a) (across s b) → Lt (across s (moved s d a)) (across s b)
    up-still n k =
        let t = w.short a b e h.near k in
        let r = across-moved s d a in
        by (lt_z (across s (moved s d a)) (across s b)) (λ z. z_lt-true _ _ z)
        (λ z. absurd (n (one_place s (moved s d a) b (along-moved s d a ∙ h.line)
        (eq_of _ _ (omega (arith, t, r, z_lt-false (across s (moved s d a)) (across s b) z))))))

    down-still : Lt (across s b) (across s a) → Lt (across s b) (across s (moved s d a))
    down-still k = omega (arith, k, across-moved s d a)

  shifted : (a b : Place) → (a, b) ∈ T → Kind s on a b → (shift s on d a ≡ shift s on d b → ⊥) → before a b ≡ true →
      before (shift s on d a) (shift s on d b) ≡ true
  shifted a b m (bar e g q) n o =
      rw (shift-on s on d a e, shift-on s on d b g)
      (same-level s a b (moved s d a) (moved s d b) q (moved-level s on d a b q) (along-moved s d a) (along-moved s d b) o)
  shifted a b m (first k) n o =
      let h = hang s on k in
      let ea = shift-on s on d a h.near in
      let eb = shift-off s on d b h.away in
      rw (ea, eb)
      (same_way s a b (moved s d a) b h.line (along-moved s d a ∙ h.line)
      (up-still a b (inl m) h (λ z. n (ea ∙ z ∙ sym eb))) (down-still a b (inl m) h) o)
  shifted a b m (second k) n o =
      let h = hang s on k in
      let ea = shift-off s on d a h.away in
      let eb = shift-on s on d b h.near in
      rw (ea, eb)
      (same_way s a b a (moved s d b) (sym h.line) (sym (along-moved s d b ∙ h.line))
      (down-still b a (inr m) h) (up-still b a (inr m) h (λ z. n (ea ∙ sym z ∙ sym eb))) o)
  shifted a b m (other e g) n o = rw (shift-off s on d a e, shift-off s on d b g) o

  pub slide-smaller : Straight T → Smaller T → Smaller (slide s on d T)
  slide-smaller lines small x y m = at (of-slide s on d T x y m)
    where
      at : Slid s on d T x y → before x y ≡ true
      at r =
          let o = shifted r.a r.b r.stands (kind s on c r.a r.b r.stands (lines r.a r.b r.stands))
          (λ z. differ r.two (false-proper x y (r.first ∙ z ∙ sym r.second))) (small r.a r.b r.stands)
          in
          rw (r.first, r.second) o
