-- The last point of a bar is the one with the greatest number that has its label.
-- Assumes nothing.
use mathlib.Core.Path.{◌≡◌, sym, ap, ◌∙◌}
use mathlib.Core.Bool.{Bool, true, false}
use mathlib.Core.List.{List}
use Prim.Native.Nat.{ℕ, zero, suc, ◌≤◌, ◌<◌}
use native.Mathlib.Omega.{arith}
use borrow.Author.Tests.{eqb-true, eqb-false}
use lib.Dec.{eqb}
use lib.IntN.{ℤ}
use Rattle.lists.specs.Member.{◌∈◌, there}
use Rattle.lists.specs.Those.{those}
use Rattle.lists.proofs.TestLaws.{by, differ}
use Rattle.lists.proofs.ThoseLaws.{in-those}
use Rattle.plane.specs.declared.Place.{Place}
use Rattle.plane.specs.Place.{before}
use Rattle.plane.specs.Flat.{place_at}
use Rattle.plane.proofs.PlaceLaws.{before-irrefl}
use Rattle.plane.proofs.PlaceOrder.{place-order}
use Rattle.net.specs.Net.{Net}
use Rattle.slide.specs.declared.Side.{Side}
use Rattle.slide.specs.Bend.{Edge}
use Rattle.slide.specs.Bar.{on_bar, last_of}
use Rattle.slide.specs.Sweep.{last_place}
use Rattle.slide.specs.Slide.{tree_points}
use Rattle.slide.proofs.BarLaws.{last_one, last-greatest}
use Rattle.straight.specs.Table.{edge_at, edges_in, points_in}
use Rattle.straight.proofs.RunLaws.{in-run, of-run}
use Rattle.reach.specs.declared.Size.{Size}
use Rattle.turned.specs.Steps.{up_to}
use Rattle.turned.specs.Turned.{View, on_it}
use Rattle.moves.specs.Moving.{chosen, last_on}
use Rattle.bars.proofs.MoveLaws.{Stood, self, later, not_after}

module _ {net : Net} {v : View} {z : Size} {ms : List ℤ} {seats : List ℕ} {k a : ℕ} (r : Stood net v z ms seats k a) where
  abbrev s : Side
  s = v.side

  abbrev T : List Edge
  T = edges_in v.points v.keys z.edges

  abbrev x : Edge
  x = edge_at v.points v.keys k

  abbrev on : Place → Bool
  on = on_bar s T x.0

  abbrev X : List Place
  X = tree_points net T

  -- l is the greatest number of a point of the bar among the first m
  pub record LastAmong (m l : ℕ) : Type 0 where
    pub low : l < z.points
    pub is-on : on_it v l ≡ true
    pub greatest : (i : ℕ) → i < m → on_it v i ≡ true → i ≤ l

  last-from : (m : ℕ) → m ≤ z.points → LastAmong m (up_to (λ i y. chosen (on_it v i) i y) m v.label)
  unfolding up_to chosen
  last-from zero h = record {
    low = r.label-low;
    is-on = r.label-on;
    greatest = λ i l e. absurd (let y : ⊥ = omega (arith, l) in y);
  }
  last-from (suc m) h =
      let p = last-from m (omega arith) in
      by (on_it v m)
      (λ e. rw (chosen, e) (record { low = omega (arith, h); is-on = e; greatest = λ i l g. omega (arith, l) }))
      (λ e. rw (chosen, e)
      (record {
        low = p.low;
        is-on = p.is-on;
        greatest = λ i l g. by (eqb i m)
            (λ q. differ (ap (on_it v) (sym (eqb-true i m q)) ∙ g) e)
            (λ q. let d = eqb-false i m q in p.greatest i (omega (arith, l, d)) g);
      }))

  abbrev end : ℕ
  end = last_on v z.points

  pub last-among : LastAmong z.points end
  unfolding last_on
  last-among = last-from z.points (omega arith)

  pub last-low : end < z.points
  last-low = last-among.low

  not-later : (p : Place) → p ∈ points_in v.points z.points → on p ≡ true → before (place_at v.points end) p ≡ false
  not-later p m e =
      let i = of-run (place_at v.points) z.points 0 p m in
      let h : i.number < z.points = omega (arith, i.high) in
      let g : on_it v i.number ≡ true = sym (r.sees.is i.number h) ∙ ap on (sym i.is) ∙ e in
      let l = last-among.greatest i.number h g in
      ap (before (place_at v.points end)) i.is
      ∙ by (eqb i.number end)
      (λ q. ap (λ (j : ℕ). before (place_at v.points end) (place_at v.points j)) (eqb-true i.number end q)
      ∙ before-irrefl (place_at v.points end))
      (λ q. not_after _ _ (r.ordered i.number end (later i.number end l q) last-low))

  pub last-is : last_place s on X T x.0 ≡ place_at v.points end
  unfolding last_place
  last-is =
      let f = last_of x.0 (those on X) in
      let g = self net v z ms seats k a r f (last_one x.0 (those on X)) in
      let m : place_at v.points end ∈ those on X =
      in-those on X (rw r.points (in-run (place_at v.points) z.points 0 end (omega arith) (omega (arith, last-low))))
      (r.sees.is end last-low ∙ last-among.is-on) in
      place-order.tie f (place_at v.points end)
      (last-greatest x.0 (those on X) (place_at v.points end) (there m))
      (not-later f g.0 g.1)
