-- The way of a bar is the closed form of its distance: past every macro, point and edge the stop is the least so far, and the way is
-- free as long as nothing bars it.
-- Assumes nothing.
use mathlib.Core.Path.{◌≡◌, refl, sym, ap, ap₂, ◌∙◌}
use mathlib.Core.Bool.{Bool, true, false, not, ◌&&◌, ◌||◌}
use mathlib.Core.List.{List, [], ◌∷◌, ◌++◌}
use Prim.Native.Nat.{ℕ, zero, suc, ◌-◌, ◌≤◌, ◌<◌, min}
use native.Mathlib.Omega.{arith}
use lib.Dec.{leb}
use Rattle.lists.specs.Any.{any}
use Rattle.plane.specs.declared.Place.{Place}
use Rattle.plane.proofs.Fits.{PlaceFits}
use Rattle.slide.specs.declared.Side.{Side}
use Rattle.slide.specs.Side.{across, moved}
use Rattle.slide.specs.Bend.{Edge}
use Rattle.slide.specs.Bar.{of_bar, hangs, shortest, far_ends}
use Rattle.slide.specs.Sweep.{boxes_meet, only_in}
use Rattle.slide.specs.Stop.{edge_stop, least_stop}
use Rattle.straight.specs.Table.{run, edges_in}
use Rattle.reach.specs.declared.Bar.{Bar}
use Rattle.turned.specs.declared.Seen.{Seen}
use Rattle.turned.specs.declared.Spot.{Spot}
use Rattle.reach.specs.declared.Way.{Way}
use Rattle.turned.specs.Steps.{up_to}
use Rattle.turned.specs.Turned.{raised, View}
use Rattle.reach.specs.Passing.{own_of, front_of, exempt, way, past}
use Rattle.turned.proofs.SeenLaws.{Sees}
use Rattle.turned.proofs.StepLaws.{run_more}
use Rattle.reach.proofs.PassLaws.{Stands, as_seen, front-is, beyond-is, meets-is, own_is}
use Rattle.reach.proofs.ExemptLaws.{exempt-is, any_last}

-- Stops and bars along a list

pub least-most : {A : Type 0} (g : A → ℕ) (n : ℕ) (l : List A) → least_stop g n l ≤ n
unfolding least_stop
least-most g n [] = omega arith
least-most g n (x ∷ l) = omega (arith, least-most g n l)

least-last : {A : Type 0} (g : A → ℕ) (n : ℕ) (l : List A) (x : A) → least_stop g n (l ++ (x ∷ [])) ≡ min (least_stop g n l) (g x)
unfolding least_stop
least-last g n [] x = omega arith
least-last g n (y ∷ l) x = omega (arith, least-last g n l x)

free_more : (t p q : Bool) → ((t && not p) && not q) ≡ (t && not (p || q))
free_more true true q = refl
free_more true false q = refl
free_more false p q = refl

module _ {A : Type 0} (g : A → ℕ) (bars : A → Bool) (n : ℕ) (f : ℕ → A) (step : ℕ → Way → Way) (k : ℕ)
    (steps : (j : ℕ) → j < k → (w : Way) → w.stop ≤ n → step j w ≡ way (min w.stop (g (f j))) (w.free && not (bars (f j)))) where
  abbrev after : Way → List A → Way
  after w l = way (min w.stop (least_stop g n l)) (w.free && not (any bars l))

  pub list-passed : (w : Way) → w.stop ≤ n → (m : ℕ) → m ≤ k → up_to step m w ≡ after w (run f 0 m)
  unfolding up_to run least_stop any
  list-passed w h zero l =
      let z : w.stop ≡ min w.stop n = omega (arith, h) in ap₂ way z (always w.free)
    where
      always : (t : Bool) → t ≡ (t && true)
      always true = refl
      always false = refl
  list-passed w h (suc m) l =
      let u = list-passed w h m (omega arith) in
      ap (step m) u
      ∙ steps m (omega arith) (after w (run f 0 m)) (omega (arith, h))
      ∙ ap₂ way
      (let a = least-last g n (run f 0 m) (f m) in omega (arith, a))
      (free_more w.free (any bars (run f 0 m)) (bars (f m)) ∙ ap (λ (t : Bool). w.free && not t)
      (sym (any_last bars (run f 0 m) (f m))))
      ∙ ap (after w) (sym (run_more f m))

-- the tests and numbers of a step by themselves
abbrev given : Bool → Bool → Bool → Bool → ℕ → ℕ → ℕ → Way
given o h z f m n d =
    elim (o || not h) as (λ u. Way) [ true ↦ way m f | false ↦ way (min m d) (elim (f && leb d n) as (λ u. Bool) [ true ↦ z | false ↦ f ]) ]

abbrev wanted : Bool → Bool → Bool → Bool → ℕ → ℕ → ℕ → Way
wanted o h z f m n d =
    way (min m (elim (h && not o) as (λ u. ℕ) [ true ↦ d | false ↦ n ])) (f && not ((h && leb d n) && (not o && not z)))

all-less : (m n : ℕ) → m ≤ n → m ≡ min m n
all-less m n h = omega (arith, h)

core : (o h z f : Bool) (m n d : ℕ) → m ≤ n → (t : Bool) → leb d n ≡ t → given o h z f m n d ≡ wanted o h z f m n d
core true true z true m n d l true e = rw e (ap (λ (i : ℕ). way i true) (all-less m n l))
core true true z true m n d l false e = rw e (ap (λ (i : ℕ). way i true) (all-less m n l))
core true true z false m n d l t e = ap (λ (i : ℕ). way i false) (all-less m n l)
core true false z true m n d l t e = ap (λ (i : ℕ). way i true) (all-less m n l)
core true false z false m n d l t e = ap (λ (i : ℕ). way i false) (all-less m n l)
core false true true true m n d l true e = rw e refl
core false true true true m n d l false e = rw e refl
core false true false true m n d l true e = rw e refl
core false true false true m n d l false e = rw e refl
core false true z false m n d l t e = refl
core false false z true m n d l t e = ap (λ (i : ℕ). way i true) (all-less m n l)
core false false z false m n d l t e = ap (λ (i : ℕ). way i false) (all-less m n l)

-- Past an edge

module _ {v : View} {n e : ℕ} {on : Place → Bool} (r : Sees v n e on) {b : Bar} {F L : Place} (st : Stands v.side b F L)
    (most : b.most ≡ shortest v.side on (edges_in v.points v.keys e)) (x : Edge) (f0 : PlaceFits x.0)
    (f1 : PlaceFits x.1) where
  abbrev s : Side
  s = v.side

  abbrev T : List Edge
  T = edges_in v.points v.keys e

  abbrev t : Seen
  t = as_seen s on x

  abbrev d : ℕ
  d = min t.from.across t.to.across - raised (across s F)

  abbrev from-b : ℕ
  from-b = min t.from.across t.to.across - b.first.across

  -- whether it bars the bar as far as the shortest edge
  abbrev barring : Bool
  barring = boxes_meet x (F, moved s b.most L)
      && (not (of_bar s on x || hangs s on x) && not (any (only_in x (F, moved s b.most L)) (far_ends s on T)))

  pub past_is : (w : Way) → w.stop ≤ b.most
      → past v e b t w ≡ way (min w.stop (edge_stop s F L b.most (λ y. of_bar s on y || hangs s on y) x)) (w.free && not barring)
  unfolding past edge_stop
  past_is w h =
      let a : edge_stop s F L b.most (λ y. of_bar s on y || hangs s on y) x
      ≡ elim (front_of b t && not (own_of t)) as (λ u. ℕ) [ true ↦ d | false ↦ b.most ] =
      rw (edge_stop, own_is st on x f0 f1, front-is st on x f0 f1)
      (ap (λ (i : ℕ). elim (front_of b t && not (own_of t)) as (λ u. ℕ) [ true ↦ i | false ↦ b.most ]) (beyond-is st on x f0 f1))
      in
      let c : barring ≡ ((front_of b t && leb d b.most) && (not (own_of t) && not (exempt v e b t))) =
      rw (meets-is st on x f0 f1, own_is st on x f0 f1, front-is st on x f0 f1, exempt-is r st most x f0 f1) refl
      in
      let p : past v e b t w ≡ wanted (own_of t) (front_of b t) (exempt v e b t) w.free w.stop b.most d =
      core (own_of t) (front_of b t) (exempt v e b t) w.free w.stop b.most from-b h (leb from-b b.most) refl
      ∙ ap (λ (c : Spot). wanted (own_of t) (front_of b t) (exempt v e b t) w.free w.stop b.most
      (min t.from.across t.to.across - c.across)) st.first
      in
      p ∙ ap₂ way (ap (λ (i : ℕ). min w.stop i) (sym a)) (ap (λ (i : Bool). w.free && not i) (sym c))
