-- A way that is hopeless stays so, whatever else it goes past: it is barred, and stops no later. So it may end there, and the distance by
-- it is below what is needed, as the whole one is.
-- Assumes nothing.
use mathlib.Core.Path.{◌≡◌, refl, sym, ap, ◌∙◌}
use mathlib.Core.Bool.{true, false, not, ◌||◌}
use mathlib.Core.Logic.{inl, inr}
use mathlib.Core.List.{List}
use Prim.Native.Nat.{ℕ, zero, suc, ◌-◌, ◌/◌, ◌≤◌, max}
use native.Mathlib.Omega.{arith}
use borrow.Author.Tests.{ltb-true, ltb-false, le-leb, leb-true}
use lib.Dec.{ltb, leb}
use lib.IntN.{ℤ}
use lib.ListN.{length}
use Rattle.lists.proofs.TestLaws.{by, either, not-true, and_left, and_right, and_both}
use Rattle.plane.specs.Flat.{macro_at}
use Rattle.turned.specs.declared.Face.{Face}
use Rattle.turned.specs.declared.Seen.{Seen}
use Rattle.turned.specs.Steps.{up_to}
use Rattle.turned.specs.Turned.{View, seen_edge, seen_point, face}
use Rattle.reach.specs.declared.Bar.{Bar}
use Rattle.reach.specs.declared.Way.{Way}
use Rattle.reach.specs.Passing.{
  own_of,
  front_of,
  way,
  past,
  past_points,
  past_edges,
  past_face,
  past_macros,
  reached,
  way_of,
}
use Rattle.reach.specs.Hopeless.{hopeless, Alike, Near}
use Rattle.reach.proofs.CodeLaws.{faced, past-less, face-less, up-less}

module _ (need : ℕ) where
  -- what the test says
  barred : (w : Way) → hopeless need w ≡ true → (w.free ≡ false) × (w.stop ≤ need)
  unfolding hopeless
  barred w h = (
    not-true w.free (and_left (not w.free) (leb w.stop need) h),
    leb-true w.stop need (and_right (not w.free) (leb w.stop need) h),
  )

  barred-is : (w : Way) → w.free ≡ false → w.stop ≤ need → hopeless need w ≡ true
  unfolding hopeless
  barred-is w f l = and_both (not w.free) (leb w.stop need) (ap not f) (le-leb w.stop need l)

  -- past one thing

  past-barred : (v : View) (e : ℕ) (b : Bar) (t : Seen) (w : Way) → w.free ≡ false → (past v e b t w).free ≡ false
  unfolding past
  past-barred v e b t w f =
      by (own_of t || not (front_of b t)) (λ h. rw (past, h) f) (λ h. rw (past, h) (rw f f))

  face-barred : (b : Bar) (f : Face) (w : Way) → w.free ≡ false → (past_face b f w).free ≡ false
  unfolding past_face
  face-barred b f w g = by (faced b f w) (λ h. rw (past_face, h) (rw g refl)) (λ h. rw (past_face, h) g)

  pub past-hopeless : (v : View) (e : ℕ) (b : Bar) (t : Seen) (w : Way) → hopeless need w ≡ true → hopeless need (past v e b t w) ≡ true
  past-hopeless v e b t w h =
      let r = barred w h in
      barred-is (past v e b t w) (past-barred v e b t w r.0) (omega (arith, past-less v e b t w, r.1))

  pub face-hopeless : (b : Bar) (f : Face) (w : Way) → hopeless need w ≡ true → hopeless need (past_face b f w) ≡ true
  face-hopeless b f w h =
      let r = barred w h in
      barred-is (past_face b f w) (face-barred b f w r.0) (omega (arith, face-less b f w, r.1))

  -- past all of a kind

  module _ (f : ℕ → Way → Way) (keeps : (i : ℕ) (w : Way) → hopeless need w ≡ true → hopeless need (f i w) ≡ true)
      (less : (i : ℕ) (w : Way) → (f i w).stop ≤ w.stop) where
    up-hopeless : (k n : ℕ) (w : Way) → k ≤ n → hopeless need (up_to f k w) ≡ true → hopeless need (up_to f n w) ≡ true
    unfolding up_to
    up-hopeless k zero w l h = let z : k ≡ 0 = omega arith in rw z at h
    up-hopeless k (suc n) w l h =
        by (ltb n k)
        (λ e. let z : k ≡ suc n = omega (arith, ltb-true n k e) in rw z at h)
        (λ e. keeps n (up_to f n w) (up-hopeless k n w (ltb-false n k e) h))

    -- the loop ends, or stops on the way
    pub alike_end : (k n : ℕ) (w v : Way) → v ≡ up_to f k w → k ≤ n → n ≤ k → Alike need w v (up_to f n w)
    alike_end k n w v e l g =
        let z : k ≡ n = omega arith in
        let same = e ∙ ap (λ (j : ℕ). up_to f j w) z in
        record { same = inl same; less = rw same (up-less f less n w) }

    pub alike-stop : (k n : ℕ) (w v : Way) → v ≡ up_to f k w → k ≤ n → hopeless need v ≡ true → Alike need w v (up_to f n w)
    alike-stop k n w v e l h = record {
      same = inr (h, up-hopeless k n w l (sym (ap (hopeless need) e) ∙ h));
      less = rw e (up-less f less k w);
    }

    -- one kind after the other: u from v, where v is alike to x
    pub alike_then : (n : ℕ) (w v x u : Way) → Alike need w v x → Alike need v u (up_to f n v) → Alike need w u (up_to f n x)
    unfolding up_to
    alike_then n w v x u a c = record {
      same =
          either (λ e. either (λ g. inl (g ∙ ap (up_to f n) e)) (λ g. inr (g.0, sym (ap (λ y. hopeless need (up_to f n y)) e) ∙ g.1)) c.same)
          (λ e.
          let there = up-hopeless 0 n x (omega arith) e.1 in
          let here = up-hopeless 0 n v (omega arith) e.0 in
          either (λ g. inr (ap (hopeless need) g ∙ here, there)) (λ g. inr (g.0, there)) c.same)
          a.same;
      less = omega (arith, a.less, c.less);
    }

  -- past macros, points and edges

  module _ (ms : List ℤ) (b : Bar) (k : ℕ) (w v : Way) (at : v ≡ up_to (λ i. past_face b (face b.side (macro_at ms i))) k w)
      (h : k ≤ length ms / 4) where
    abbrev one-face : ℕ → Way → Way
    one-face i = past_face b (face b.side (macro_at ms i))

    pub macros-end : length ms / 4 ≤ k → Alike need w v (past_macros ms b w)
    unfolding past_macros
    macros-end l = alike_end one-face (λ i x. face-hopeless b _ x) (λ i x. face-less b _ x) k (length ms / 4) w v at h l

    pub macros-stop : hopeless need v ≡ true → Alike need w v (past_macros ms b w)
    unfolding past_macros
    macros-stop t = alike-stop one-face (λ i x. face-hopeless b _ x) (λ i x. face-less b _ x) k (length ms / 4) w v at h t

  module _ (u : View) (e : ℕ) (b : Bar) where
    abbrev one_seen : (ℕ → Seen) → ℕ → Way → Way
    one_seen t i = past u e b (t i)

    keeps : (t : ℕ → Seen) (i : ℕ) (w : Way) → hopeless need w ≡ true → hopeless need (one_seen t i w) ≡ true
    keeps t i w = past-hopeless u e b (t i) w

    less : (t : ℕ → Seen) (i : ℕ) (w : Way) → (one_seen t i w).stop ≤ w.stop
    less t i w = past-less u e b (t i) w

    module _ (n k : ℕ) (w v : Way) (at : v ≡ up_to (λ i. past u e b (seen_point u i)) k w) (h : k ≤ n) where
      pub points-end : n ≤ k → Alike need w v (past_points u n e b w)
      unfolding past_points
      points-end l = alike_end (one_seen (seen_point u)) (keeps (seen_point u)) (less (seen_point u)) k n w v at h l

      pub points-stop : hopeless need v ≡ true → Alike need w v (past_points u n e b w)
      unfolding past_points
      points-stop t = alike-stop (one_seen (seen_point u)) (keeps (seen_point u)) (less (seen_point u)) k n w v at h t

    module _ (k : ℕ) (w v : Way) (at : v ≡ up_to (λ i. past u e b (seen_edge u i)) k w) (h : k ≤ e) where
      pub edges-end : e ≤ k → Alike need w v (past_edges u e b w)
      unfolding past_edges
      edges-end l = alike_end (one_seen (seen_edge u)) (keeps (seen_edge u)) (less (seen_edge u)) k e w v at h l

      pub edges-stop : hopeless need v ≡ true → Alike need w v (past_edges u e b w)
      unfolding past_edges
      edges-stop t = alike-stop (one_seen (seen_edge u)) (keeps (seen_edge u)) (less (seen_edge u)) k e w v at h t

    -- the whole way
    pub way-alike : (n : ℕ) (ms : List ℤ) (w x y : Way) → Alike need (way b.most true) w (past_macros ms b (way b.most true)) →
        Alike need w x (past_points u n e b w) → Alike need x y (past_edges u e b x) → Alike need (way b.most true) y (way_of u n e ms b)
    unfolding way_of past_points past_edges
    way-alike n ms w x y p q r =
        alike_then (one_seen (seen_edge u)) (keeps (seen_edge u)) (less (seen_edge u)) e _ x _ y
        (alike_then (one_seen (seen_point u)) (keeps (seen_point u)) (less (seen_point u)) n _ w _ x p q) r

  -- the distance
  pub near-reached : (b : Bar) (w v x : Way) (d : ℕ) → Alike need w v x → d ≡ reached b v → Near need d (reached b x)
  unfolding reached
  near-reached b w v x d a q =
      q-is ∙ either (λ e. ap (λ y. max (reached b y) (need - 1)) e) both a.same
    where
      q-is : max d (need - 1) ≡ max (reached b v) (need - 1)
      q-is = ap (λ (j : ℕ). max j (need - 1)) q

      both : (hopeless need v ≡ true) × (hopeless need x ≡ true) → max (reached b v) (need - 1) ≡ max (reached b x) (need - 1)
      both h =
          let i = barred v h.0 in
          let j = barred x h.1 in
          rw (reached, i.0, j.0) (omega (arith, i.1, j.1))

  pub reached-less : (b : Bar) (v : Way) (d : ℕ) → v.stop ≤ b.most → d ≡ reached b v → d ≤ b.most
  unfolding reached
  reached-less b v d l q =
      by v.free
      (λ h. let z : d ≡ b.most = q ∙ rw (reached, h) refl in omega (arith, z))
      (λ h. let z : d ≡ v.stop - 1 = q ∙ rw (reached, h) refl in omega (arith, z, l))
