-- What the code offers for a bar is what the definitions offer.
-- Assumes nothing.
use mathlib.Core.Path.{◌≡◌, refl, sym, ap, ap₂, ◌∙◌}
use mathlib.Core.Bool.{Bool, true, false, not}
use mathlib.Core.List.{List}
use mathlib.Core.Logic.{◌⊎◌, inl, inr}
use Prim.Native.Nat.{ℕ, suc, ◌-◌, ◌*◌, ◌≤◌, ◌<◌, max}
use native.Mathlib.Omega.{arith}
use native.Mathlib.Nat.{suc-mul, mul-le-mul, mul-le-mul_right}
use borrow.Author.Tests.{le-leb, lt-leb, eqb-true, eqb-false}
use lib.Dec.{eqb, leb}
use lib.IntN.{ℤ}
use lib.ListN.{get_or}
use Rattle.lists.proofs.TestLaws.{by, either, differ}
use Rattle.plane.specs.declared.Place.{Place}
use Rattle.slide.specs.declared.Side.{Side}
use Rattle.slide.specs.declared.Move.{Move}
use Rattle.slide.specs.Slide.{better}
use Rattle.hanging.specs.declared.Hang.{Hang}
use Rattle.reach.specs.declared.Bar.{Bar}
use Rattle.reach.specs.declared.Size.{Size}
use Rattle.bars.specs.declared.Best.{Best}
use Rattle.plane.specs.Flat.{place_at}
use Rattle.hanging.specs.Hanging.{hang}
use Rattle.turned.specs.Turned.{View, view}
use Rattle.straight.specs.Table.{straight_bound, first_end}
use Rattle.labels.specs.Labelling.{leads}
use Rattle.reach.specs.Passing.{seen_by, way_of, reached}
use Rattle.reach.specs.Hopeless.{Near}
use Rattle.moves.specs.Moving.{weight_in, bar, held, opposite}
use Rattle.moves.proofs.MovingLaws.{better-less}
use Rattle.bars.specs.Offers.{Needed, rate_of, move_by, move, best, reach_of, taken, offered, offered_both}

-- Products that fit

pub rate-fits : (b c : ℕ) → b ≤ straight_bound → c < 256 → b * c ≤ straight_bound * 255
rate-fits b c h k = mul-le-mul h (let z : c ≤ 255 = omega (arith, k) in z)

pub saving-fits : (a b c : ℕ) → a ≤ 4294967296 → b ≤ straight_bound → c < 256 → a * (b * c) ≤ 4294967296 * (straight_bound * 255)
saving-fits a b c h k l = mul-le-mul h (rate-fits b c k l)

pub off : (p : Bool) → not p ≡ false → p ≡ true
off true e = refl
off false e = sym e

-- Offers

module _ (v : View) (z : Size) (h : Hang) (is : h ≡ hang v z.edges) where
  pub move-is : (x : ℕ) (p : Place) (d : ℕ) → x ≡ weight_in z.weights v.side → p ≡ place_at v.points v.label
      → move (d * ((h.ahead - h.behind) * x)) p v.side d ≡ move_by v z d
  move-is x p d e f =
      ap₂ (λ (g : Hang) (y : ℕ). move (d * ((g.ahead - g.behind) * y)) p v.side d) is e
      ∙ ap (λ (q : Place). move (move_by v z d).saving q v.side d) f

  pub reach-of : (ms : List ℤ) (b : Bar) (d : ℕ) → b ≡ bar v z.points h.shortest
      → d ≡ reached b (way_of (seen_by v.points v.keys v.labels b) z.points z.edges ms b) → d ≡ reach_of v z ms
  unfolding reach_of
  reach-of ms b d e q =
      q
      ∙ ap (λ (a : Bar). reached a (way_of (seen_by v.points v.keys v.labels a) z.points z.edges ms a))
      (e ∙ ap (λ (g : Hang). bar v z.points g.shortest) is)

  -- the distance asked for is that of the move, or both are too short to be the best
  abbrev Judged : List ℤ → Best → ℕ → Type 0
  Judged ms c d =
      (d ≡ reach_of v z ms)
      ⊎ ((better (move_by v z d) c.best ≡ false) × (better (move_by v z (reach_of v z ms)) c.best ≡ false))

  module _ (ms : List ℤ) (c : Best) (d need : ℕ) (near : Near need d (reach_of v z ms)) where
    -- by less than is needed a move saves less
    worse : 0 < rate_of v z → need * rate_of v z ≤ c.best.saving → (x : ℕ) → suc x ≤ need → better (move_by v z x) c.best ≡ false
    worse some much x h =
        sym (better-less (move_by v z x) c.best
        (omega (arith, some, much, suc-mul x (rate_of v z), mul-le-mul_right (rate_of v z) h)))

    judged : Needed c.best.saving (rate_of v z) need → Judged ms c d
    judged =
        either (λ l. inl (omega (arith, near, l)))
        (λ w.
        by (eqb d (reach_of v z ms)) (λ e. inl (eqb-true d (reach_of v z ms) e))
        (λ e.
        let apart = eqb-false d (reach_of v z ms) e in
        let low : suc d ≤ need = omega (arith, near, apart) in
        let low-2 : suc (reach_of v z ms) ≤ need = omega (arith, near, apart) in
        inr (worse w.0 w.1 d low, worse w.0 w.1 (reach_of v z ms) low-2)))

  -- as the code has the rate and the bar
  pub offer-judged : (ms : List ℤ) (c : Best) (b : Bar) (d need g : ℕ) → g ≡ weight_in z.weights v.side
      → b ≡ bar v z.points h.shortest
      → Near need d (reached b (way_of (seen_by v.points v.keys v.labels b) z.points z.edges ms b))
      → Needed c.best.saving ((h.ahead - h.behind) * g) need → Judged ms c d
  offer-judged ms c b d need g y e near w =
      let rate = ap₂ (λ (a : Hang) (x : ℕ). (a.ahead - a.behind) * x) is y in
      judged ms c d need (near ∙ ap (λ (x : ℕ). max x (need - 1)) (reach-of ms b _ e refl))
      (rw rate at w)

  module _ (ms : List ℤ) (seats : List ℕ) (c : Best) where
    pub offer-equal : h.ahead ≤ h.behind → c ≡ offered v z ms seats c
    unfolding offered
    offer-equal l =
        let t : leb (hang v z.edges).ahead (hang v z.edges).behind ≡ true =
        ap (λ (g : Hang). leb g.ahead g.behind) (sym is) ∙ le-leb h.ahead h.behind l
        in
        sym (rw (offered, t) refl)

    module _ (l : h.behind < h.ahead) where
      unequal : leb (hang v z.edges).ahead (hang v z.edges).behind ≡ false
      unequal = ap (λ (g : Hang). leb g.ahead g.behind) (sym is) ∙ lt-leb h.ahead h.behind l

      module _ (m : Move) (y : m ≡ move_by v z h.shortest) (t : Bool) (q : t ≡ better m c.best) where
        most : better (move_by v z (hang v z.edges).shortest) c.best ≡ t
        most = sym (q ∙ ap (λ (n : Move). better n c.best) (y ∙ ap (λ (g : Hang). move_by v z g.shortest) is))

        pub offer-weak : t ≡ false → c ≡ offered v z ms seats c
        unfolding offered
        offer-weak k = sym (rw (offered, unequal, most ∙ k) refl)

        module _ (k : t ≡ true) (u : Bool) (w : u ≡ held v seats z.pins) where
          pub offer-held : u ≡ true → c ≡ offered v z ms seats c
          unfolding offered
          offer-held g = sym (rw (offered, unequal, most ∙ k, sym w ∙ g) refl)

          module _ (g : u ≡ false) (n : Move) (d : ℕ) (f : n ≡ move_by v z d) (e : Judged ms c d) (s : Bool)
              (r : s ≡ better n c.best) where
            better-d : better (move_by v z d) c.best ≡ s
            better-d = sym (r ∙ ap (λ (a : Move). better a c.best) f)

            reached-move : s ≡ true → n ≡ move_by v z (reach_of v z ms)
            reached-move a = either (λ q. f ∙ ap (move_by v z) q) (λ x. differ (better-d ∙ a) x.0) e

            better-is : better (move_by v z (reach_of v z ms)) c.best ≡ s
            better-is =
                either (λ q. ap (λ (x : ℕ). better (move_by v z x) c.best) (sym q) ∙ better-d) (λ x. x.1 ∙ sym x.0 ∙ better-d) e

            pub offer-taken : s ≡ true → best v.label n ≡ offered v z ms seats c
            unfolding offered taken
            offer-taken a =
                ap (best v.label) (reached-move a)
                ∙ sym (rw (offered, unequal, most ∙ k, sym w ∙ g) (rw (taken, better-is ∙ a) refl))

            pub offer-left : s ≡ false → c ≡ offered v z ms seats c
            unfolding offered taken
            offer-left a = sym (rw (offered, unequal, most ∙ k, sym w ∙ g) (rw (taken, better-is ∙ a) refl))

module _ (pts : List ℤ) (ks lab : List ℕ) (z : Size) (ms : List ℤ) (seats : List ℕ) (s : Side) (k : ℕ) (c : Best)
    (t : Bool) (is : t ≡ leads s pts ks lab k) where
  pub both-not : t ≡ false → c ≡ offered_both pts ks lab z ms seats s k c
  unfolding offered_both
  both-not h = sym (rw (offered_both, sym is ∙ h) refl)

  pub both-level : t ≡ true → (a : ℕ) (o : Side) (x y : Best) → a ≡ first_end (get_or ks k 0) → o ≡ opposite s
      → x ≡ offered (view pts ks lab s (get_or lab a 0)) z ms seats c → y ≡ offered (view pts ks lab o (get_or lab a 0)) z ms seats x
      → y ≡ offered_both pts ks lab z ms seats s k c
  unfolding offered_both
  both-level h a o x y e f g j =
      j
      ∙ ap₂ (λ (r : Side) (b : Best). offered (view pts ks lab r (get_or lab a 0)) z ms seats b) f g
      ∙ ap (λ (i : ℕ). offered (view pts ks lab (opposite s) (get_or lab i 0)) z ms seats
      (offered (view pts ks lab s (get_or lab i 0)) z ms seats c)) e
      ∙ sym (rw (offered_both, sym is ∙ h) refl)
