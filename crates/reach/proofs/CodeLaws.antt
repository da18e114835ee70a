-- The code's small steps are those of the definitions.
-- Assumes nothing.
use mathlib.Core.Path.{◌≡◌, refl, sym, ap, ◌∙◌}
use mathlib.Core.Bool.{Bool, true, false, not, ◌&&◌, ◌||◌}
use mathlib.Core.List.{List}
use Prim.Native.Nat.{ℕ, zero, suc, ◌+◌, ◌-◌, ◌/◌, ◌≤◌, min, max}
use native.Mathlib.Omega.{arith}
use borrow.Author.Tests.{eq-eqb, ne_eqb}
use lib.Dec.{eqb, leb, ltb}
use lib.IntN.{ℤ}
use lib.ListN.{length}
use Rattle.lists.proofs.TestLaws.{by}
use Rattle.turned.specs.declared.Spot.{Spot}
use Rattle.turned.specs.declared.Face.{Face}
use Rattle.turned.specs.declared.Seen.{Seen}
use Rattle.reach.specs.declared.Bar.{Bar}
use Rattle.reach.specs.declared.Way.{Way}
use Rattle.plane.specs.Flat.{macro_at}
use Rattle.turned.specs.Steps.{up_to}
use Rattle.turned.specs.Turned.{face, View, seen_edge, seen_point, same_spot, ahead_of, long_of}
use Rattle.reach.specs.Passing.{past_macros, past_points, past_edges, way_of, own_of, front_of, low_of, high_of, ends_at}
use Rattle.reach.specs.Passing.{exempt, is_far, past, past_face, way, reached}

-- Ways

pub own-level : (e : Seen) → e.from.across ≡ e.to.across → (e.first && e.second) ≡ own_of e
unfolding own_of
own-level e k = rw (own_of, eq-eqb e.from.across e.to.across k) refl

pub own-not : (e : Seen) → (e.from.across ≡ e.to.across → ⊥) → (e.first || e.second) ≡ own_of e
unfolding own_of
own-not e k = rw (own_of, ne_eqb e.from.across e.to.across k) refl

-- the far end, by which end is on the bar
module _ (e : Seen) (n : ℕ) (c : Spot) (t : Bool) (d : ℕ) (p : t ≡ ahead_of e) (q : d ≡ long_of e) (far : Spot) (r : Bool)
    (s : r ≡ same_spot c far) where
  pub ends-first : e.first ≡ true → far ≡ e.to → ((t && eqb d n) && r) ≡ ends_at e n c
  unfolding ends_at
  ends-first h k =
      by (t && eqb d n) (λ g. rw (ends_at, ← p, ← q, g, h) (s ∙ ap (same_spot c) k)) (λ g. rw (ends_at, ← p, ← q, g) refl)

  pub ends-second : e.first ≡ false → far ≡ e.from → ((t && eqb d n) && r) ≡ ends_at e n c
  unfolding ends_at
  ends-second h k =
      by (t && eqb d n) (λ g. rw (ends_at, ← p, ← q, g, h) (s ∙ ap (same_spot c) k)) (λ g. rw (ends_at, ← p, ← q, g) refl)

-- past a macro
module _ (b : Bar) (f : Face) (w : Way) where
  abbrev pub faced : Bool
  faced = ltb f.starts b.last.along && (ltb b.first.along f.finishes && ltb b.first.across f.far)

  pub face-met : faced ≡ true → (d n : ℕ) → d ≡ f.near + 1 - b.first.across → n ≡ min w.stop d
      → way n (w.free && ltb b.most d) ≡ past_face b f w
  unfolding past_face
  face-met h d n e g = rw (g, e) (sym (rw (past_face, h) refl))

  pub face-not : faced ≡ false → w ≡ past_face b f w
  unfolding past_face
  face-not h = sym (rw (past_face, h) refl)

-- past an edge or a point
module _ (v : View) (e : ℕ) (b : Bar) (t : Seen) (w : Way) (o f : Bool) (p : o ≡ own_of t) (q : f ≡ front_of b t) where
  pub past_by : (o || not f) ≡ true → w ≡ past v e b t w
  unfolding past
  past_by h = sym (rw (past, sym p, sym q, h) refl)

  module _ (h : (o || not f) ≡ false) (d n : ℕ) (x : d ≡ min t.from.across t.to.across - b.first.across)
      (y : n ≡ min w.stop d) where
    pub past_near : (w.free && leb d b.most) ≡ true → (r : Bool) → r ≡ exempt v e b t → way n r ≡ past v e b t w
    unfolding past
    past_near g r s = rw (s, y) (sym (rw (past, sym p, sym q, h, sym x, g) refl))

    pub past-far : (w.free && leb d b.most) ≡ false → way n w.free ≡ past v e b t w
    unfolding past
    past-far g = rw y (sym (rw (past, sym p, sym q, h, sym x, g) refl))

pub exempt-same : (v : View) (e : ℕ) (b : Bar) (t : Seen) (s r : Bool) → s ≡ same_spot (low_of b t) (high_of b t) → s ≡ true
    → r ≡ is_far v e b.most (low_of b t) → r ≡ exempt v e b t
unfolding exempt
exempt-same v e b t s r p q h = rw (sym p ∙ q) h

pub exempt-not : (v : View) (e : ℕ) (b : Bar) (t : Seen) (s : Bool) → s ≡ same_spot (low_of b t) (high_of b t) → s ≡ false → false
    ≡ exempt v e b t
unfolding exempt
exempt-not v e b t s p q = rw (sym p ∙ q) refl

pub reach-free : (b : Bar) (w : Way) → w.free ≡ true → b.most ≡ reached b w
unfolding reached
reach-free b w h = rw (reached, h) refl

pub reach-stop : (b : Bar) (w : Way) → w.free ≡ false → w.stop - 1 ≡ reached b w
unfolding reached
reach-stop b w h = rw (reached, h) refl

pub front-is : (b : Bar) (e : Seen) (x y z : ℕ) → x ≡ min e.from.along e.to.along → y ≡ max e.from.along e.to.along
    → z ≡ max e.from.across e.to.across
    → (leb x b.last.along && (leb b.first.along y && leb b.first.across z)) ≡ front_of b e
unfolding front_of
front-is b e x y z p q r = rw (p, q, r) refl

-- The stop never grows

pub past-less : (v : View) (e : ℕ) (b : Bar) (t : Seen) (w : Way) → (past v e b t w).stop ≤ w.stop
unfolding past
past-less v e b t w = by (own_of t || not (front_of b t)) (λ h. rw (past, h) (omega arith)) (λ h. rw (past, h) (omega arith))

pub face-less : (b : Bar) (f : Face) (w : Way) → (past_face b f w).stop ≤ w.stop
unfolding past_face
face-less b f w = by (faced b f w) (λ h. rw (past_face, h) (omega arith)) (λ h. rw (past_face, h) (omega arith))

pub up-less : (f : ℕ → Way → Way) → ((k : ℕ) (w : Way) → (f k w).stop ≤ w.stop) → (n : ℕ) (w : Way) → (up_to f n w).stop ≤ w.stop
unfolding up_to
up-less f h zero w = omega arith
up-less f h (suc n) w = omega (arith, h n (up_to f n w), up-less f h n w)

way-less : (v : View) (n e : ℕ) (ms : List ℤ) (b : Bar) → (way_of v n e ms b).stop ≤ b.most
unfolding way_of past_macros past_points past_edges
way-less v n e ms b =
    let f = up-less (λ (i : ℕ). past_face b (face b.side (macro_at ms i))) (λ k w. face-less b _ w) (length ms / 4) (way b.most true) in
    let w = up_to (λ (i : ℕ). past_face b (face b.side (macro_at ms i))) (length ms / 4) (way b.most true) in
    let g = up-less (λ (i : ℕ). past v e b (seen_point v i)) (λ k w. past-less v e b _ w) n w in
    let u = up_to (λ (i : ℕ). past v e b (seen_point v i)) n w in
    let h = up-less (λ (k : ℕ). past v e b (seen_edge v k)) (λ k w. past-less v e b _ w) e u in
    omega (arith, f, g, h)

pub reach-less : (v : View) (n e : ℕ) (ms : List ℤ) (b : Bar) (d : ℕ) → d ≡ reached b (way_of v n e ms b) → d ≤ b.most
unfolding reached
reach-less v n e ms b d q =
    let l = way-less v n e ms b in
    by (way_of v n e ms b).free
    (λ h. let z : d ≡ b.most = q ∙ rw (reached, h) refl in omega (arith, z))
    (λ h. let z : d ≡ (way_of v n e ms b).stop - 1 = q ∙ rw (reached, h) refl in omega (arith, z, l))
