-- A bar's move as it is worked out, if it saves, is a move of the relation, and each such move is worked out so.
-- Assumes nothing.
use mathlib.Core.Path.{◌≡◌, refl, sym, ap, ap₂, ◌∙◌, subst}
use mathlib.Core.Bool.{Bool, true, false, not, ◌&&◌}
use mathlib.Core.Logic.{◌⊎◌, inl, inr, ◌↔◌}
use mathlib.Core.List.{List, [], ◌∷◌}
use Prim.Native.Nat.{ℕ, suc, ◌+◌, ◌-◌, ◌*◌, ◌≤◌, ◌<◌}
use native.Mathlib.Omega.{arith}
use borrow.Author.Tests.{lt-ltb, eqb-true, eqb-false}
use lib.Dec.{eqb, ltb}
use lib.ListN.{length}
use Rattle.lists.specs.Any.{any}
use Rattle.lists.specs.Member.{◌∈◌, here, there}
use Rattle.lists.specs.Those.{those}
use Rattle.lists.proofs.TestLaws.{by, differ, either, and_left, and_both}
use Rattle.lists.proofs.AnyLaws.{any_none, none_any}
use Rattle.lists.proofs.ThoseLaws.{of-those, those-hit, those-miss, those-none}
use Rattle.plane.specs.declared.Place.{Place}
use Rattle.plane.specs.Place.{before}
use Rattle.joined.specs.Joined.{Link, Joined}
use Rattle.joined.proofs.JoinedLaws.{then, back, joined-inside}
use Rattle.net.specs.Net.{Net}
use Rattle.slide.specs.declared.Side.{Side}
use Rattle.slide.specs.declared.Move.{Move}
use Rattle.slide.specs.Side.{across, weight}
use Rattle.slide.specs.Bend.{Edge}
use Rattle.slide.specs.Bar.{level, on_bar, ahead, behind, shortest}
use Rattle.slide.specs.Sweep.{first_place, last_place, reach, surplus, saving_of}
use Rattle.slide.specs.Slide.{tree_points, moves, distance_of, move_of}
use Rattle.slide.specs.Sentences.{IsGreatest}
use Rattle.slide.proofs.SentenceLaws.{is-greatest}
use Rattle.slide.proofs.RoundLaws.{on-itself, first-on-bar, moves-parts, distance-stays, no-saving}
use Rattle.slid_rules.specs.Many.{Many}
use Rattle.slid_rules.specs.Bar.{OnBar, EitherWay, Ahead, Behind, Ends, Fits}
use Rattle.slid_rules.specs.Round.{Moves}
use Rattle.slid_rules.proofs.ManyLaws.{many, counted}
use Rattle.slid_rules.proofs.BarIs.{Tests, ahead-is, behind-is}
use Rattle.slid_rules.proofs.FitsIs.{points-hold, ends-are, ends-only, reach-fits, fits-reach}

-- an entry that passes, where some do
one_passes : {A : Type 0} (f : A → Bool) (l : List A) → 0 < length (those f l) → (x : A) × ((x ∈ l) × (f x ≡ true))
one_passes f [] h = absurd (let z = rw (those-none f) at h in omega (arith, z))
one_passes f (x ∷ l) h =
    by (f x)
    (λ e. (x, (here refl, e)))
    (λ e. let r = one_passes f l (rw (those-miss f x l e) at h) in (r.0, (there r.1.0, r.1.1)))

module _ (s : Side) (T : List Edge) where
  -- the test for the bar of a is one for the bar of each of its points
  pub tests : (a b : Place) → on_bar s T a b ≡ true → Tests s T (on_bar s T a) (OnBar s T b)
  tests a b h =
      let g = is-greatest s T a in
      let j = (g.connected b).0 h in
      record {
        is = λ p. (λ e. then (back j) ((g.connected p).0 e), λ k. (g.connected p).1 (then j k));
        flat = λ p q e f. g.line p e ∙ sym (g.line q f);
        closed = g.greatest;
      }

  -- points of a bar with an edge are tree points
  pub bar-inside : (net : Net) (a p : Place) → a ∈ tree_points net T → Joined (those (level s) T) a p →
      p ∈ tree_points net T
  bar-inside net a p i j = joined-inside (λ u v m. ends-in u v (of-those (level s) T m).0) j i
    where
      ends-in : (u v : Place) → (u, v) ∈ T → (u ∈ tree_points net T) × (v ∈ tree_points net T)
      ends-in u v m = ((points-hold net T u).1 (inr (v, inl m)), (points-hold net T v).1 (inr (u, inr m)))

module _ (net : Net) (T : List Edge) where
  abbrev X : List Place
  X = tree_points net T

  first-in : (e : Edge) → e ∈ T → e.0 ∈ X
  first-in e m = (points-hold net T e.0).1 (inr (e.1, inl m))

  -- a move that saves
  module _ (s : Side) (e : Edge) (m : e ∈ T) where
    abbrev on : Place → Bool
    on = on_bar s T e.0

    abbrev F : Place
    F = first_place s on X T e.0

    abbrev B : Place → Type 0
    B = OnBar s T F

    t : Tests s T on B
    t = tests s T e.0 F (first-on-bar s T X e.0)

    inside : (p : Place) → B p → p ∈ X
    inside p b = bar-inside s T net e.0 p (first-in e m) (((is-greatest s T e.0).connected p).0 ((t.is p).1 b))

    as-far : moves net T s e ≡ true → distance_of net T s e ≡ reach s on net X T e.0
    unfolding distance_of
    as-far g = rw (distance_of, g) refl

    module _ (goes : moves net T s e ≡ true) (far : reach s on net X T e.0 ≡ 0 → ⊥) where
      abbrev a : ℕ
      a = length (those (ahead s on) T)

      abbrev b : ℕ
      b = length (those (behind s on) T)

      more : b < a
      more = (moves-parts net T s e goes).1

      hanging : (d : Edge) × ((d ∈ T) × (ahead s on d ≡ true))
      hanging = one_passes (ahead s on) T (omega (arith, more))

      abbrev distance_is : distance_of net T s e ≡ reach s on net X T e.0
      distance_is = as-far goes

      moves_so : Moves net T (move_of net T s e)
      unfolding move_of moves saving_of surplus
      moves_so = record {
        edge = e;
        stands = m;
        lies = and_left (level s e) _ goes;
        joined = (t.is e.0).0 (on-itself s T e.0);
        free = λ p i k. differ ((t.is p).1 k) (any_none on net.pins (moves-parts net T s e goes).0 p i);
        aheads = a;
        ahead = many (ahead s on) (EitherWay (Ahead s T B)) T (ahead-is s T on B t);
        behinds = b;
        behind = many (behind s on) (EitherWay (Behind s T B)) T (behind-is s T on B t);
        surplus = a - b - 1;
        more = omega (arith, more);
        last = last_place s on X T e.0;
        ends = ends-are s net T on B t e.0 (on-itself s T e.0) inside;
        fits =
            let h = hanging in
            rw distance_is (reach-fits s net T on B t e.0 (on-itself s T e.0) inside h.0 h.1.0 h.1.1 far);
        greatest = λ k f.
            let h = hanging in
            rw distance_is (fits-reach s net T on B t e.0 (on-itself s T e.0) inside h.0 h.1.0 h.1.1 k f);
        saves = ap (λ (n : ℕ). distance_of net T s e * n * weight net s) (let h = more in omega (arith, h));
      }

    pub saving-moves : ((move_of net T s e).saving ≡ 0 → ⊥) → Moves net T (move_of net T s e)
    unfolding move_of
    saving-moves n =
        by (moves net T s e)
        (λ g. moves_so g (λ z. n (no-saving s on net T (distance_of net T s e) (as-far g ∙ z))))
        (λ g. absurd (n (no-saving s on net T (distance_of net T s e) (distance-stays net T s e g))))

  -- A move of the relation is worked out so

  module _ (m : Move) (w : Moves net T m) where
    abbrev s : Side
    s = m.side

    abbrev e : Edge
    e = w.edge

    abbrev own : Place → Bool
    own = on_bar s T e.0

    abbrev its : Place → Type 0
    its = OnBar s T m.first

    u : Tests s T own its
    u = tests s T e.0 m.first (((is-greatest s T e.0).connected m.first).1 (back w.joined))

    all_in : (p : Place) → its p → p ∈ X
    all_in p b =
        bar-inside s T net e.0 p (first-in e w.stands) (((is-greatest s T e.0).connected p).0 ((u.is p).1 b))

    aheads-are : w.aheads ≡ length (those (ahead s own) T)
    aheads-are = counted (ahead s own) (EitherWay (Ahead s T its)) T (ahead-is s T own its u) w.aheads w.ahead

    behinds-are : w.behinds ≡ length (those (behind s own) T)
    behinds-are =
        counted (behind s own) (EitherWay (Behind s T its)) T (behind-is s T own its u) w.behinds w.behind

    -- so the numbers are the only ones
    pub aheads-one : (k : ℕ) → Many (EitherWay (Ahead s T its)) T k → k ≡ w.aheads
    aheads-one k h = counted (ahead s own) (EitherWay (Ahead s T its)) T (ahead-is s T own its u) k h ∙ sym aheads-are

    pub behinds-one : (k : ℕ) → Many (EitherWay (Behind s T its)) T k → k ≡ w.behinds
    behinds-one k h =
        counted (behind s own) (EitherWay (Behind s T its)) T (behind-is s T own its u) k h ∙ sym behinds-are

    surplus-is : surplus s own T ≡ suc w.surplus
    unfolding surplus
    surplus-is = let h = w.more in omega (arith, aheads-are, behinds-are, h)

    no-pin : any own net.pins ≡ false
    no-pin = none_any own net.pins (λ p i. by (own p) (λ k. absurd (w.free p i ((u.is p).0 k))) (λ k. k))

    it-moves : moves net T s e ≡ true
    unfolding moves
    it-moves = rw (w.lies, no-pin, lt-ltb 0 (surplus s own T) (omega (arith, surplus-is))) refl

    ahead-one : (d : Edge) × ((d ∈ T) × (ahead s own d ≡ true))
    ahead-one = one_passes (ahead s own) T (let h = w.more in omega (arith, aheads-are, h))

    abbrev first-place : Place
    first-place = first_place s own X T e.0

    abbrev last-place : Place
    last-place = last_place s own X T e.0

    ends_so : (m.first ≡ first-place) × (w.last ≡ last-place)
    ends_so = ends-only s net T own its u e.0 (on-itself s T e.0) all_in m.first w.last w.ends

    to-ends : (k : ℕ) → Fits s T its net m.first w.last k → Fits s T its net first-place last-place k
    to-ends k f =
        subst (λ (l : Place). Fits s T its net first-place l k) ends_so.1
        (subst (λ (c : Place). Fits s T its net c w.last k) ends_so.0 f)

    of-ends : (k : ℕ) → Fits s T its net first-place last-place k → Fits s T its net m.first w.last k
    of-ends k f =
        subst (λ (l : Place). Fits s T its net m.first l k) (sym ends_so.1)
        (subst (λ (c : Place). Fits s T its net c last-place k) (sym ends_so.0) f)

    far-as : reach s own net X T e.0 ≡ m.distance
    far-as =
        let d = ahead-one in
        let r = reach s own net X T e.0 in
        let stands = on-itself s T e.0 in
        let low = fits-reach s net T own its u e.0 stands all_in d.0 d.1.0 d.1.1 m.distance
        (to-ends m.distance w.fits) in
        by (eqb r 0)
        (λ z. omega (arith, eqb-true r 0 z, low))
        (λ z. let fits = reach-fits s net T own its u e.0 stands all_in d.0 d.1.0 d.1.1 (eqb-false r 0 z) in
        let high = w.greatest r (of-ends r fits) in
        omega (arith, low, high))

    distance-so : distance_of net T s e ≡ m.distance
    unfolding distance_of
    distance-so = rw (distance_of, it-moves) far-as

    pub move-is : move_of net T s e ≡ m
    unfolding move_of saving_of
    move-is =
        let saved : saving_of s own net T (distance_of net T s e) ≡ m.saving =
        ap₂ (λ (d n : ℕ). d * n * weight net s) distance-so surplus-is ∙ sym w.saves in
        λ i. record { saving = saved i; first = sym ends_so.0 i; side = s; distance = distance-so i }
