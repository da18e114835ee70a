-- What is promised of the slid tree of an allowed net, from what is promised of its refined tree: there a point with a single edge that is
-- no pin would be loose.
-- Assumes nothing.
use mathlib.Core.Path.{◌≡◌, refl, sym, ap, ap₂, ◌∙◌, subst}
use mathlib.Core.Logic.{◌⊎◌, inl, inr}
use mathlib.Core.List.Memᴰ
use mathlib.Core.List.{List, [], ◌∷◌}
use Prim.Native.Nat.{ℕ, ◌+◌, ◌*◌, ◌<◌}
use native.Mathlib.Omega.{arith}
use lib.IntN.{ℤ}
use lib.ListN.{length}
use Rattle.lists.specs.Member.{◌∈◌, here, there}
use Rattle.lists.proofs.PermLaws.{order_same}
use Rattle.lists.proofs.TestLaws.{differ, either}
use Rattle.lent.specs.Told.{given}
use Rattle.plane.specs.declared.Place.{Place}
use Rattle.plane.specs.Flat.{macros_of}
use Rattle.plane.proofs.FlatLaws.{length-macros}
use Rattle.plane.proofs.PlaceOrder.{place-order, place_same}
use Rattle.joined.specs.Joined.{Link}
use Rattle.net.specs.declared.Net.{Net as Counts}
use Rattle.net.specs.declared.Weighing.{Weighing}
use Rattle.net.specs.Net.{Net, net_of}
use Rattle.net.specs.Pins.{pin_count}
use Rattle.net.specs.Allowed.{Allowed}
use Rattle.net.proofs.AllowedLaws.{allowed-positive}
use Rattle.net.proofs.PinLaws.{length-pins}
use Rattle.checks.specs.Check.{checked}
use Rattle.checks.proofs.GivenLaws.{given-allowed}
use Rattle.graph.proofs.GraphBounds.{spanning-inside, vertex-in-range}
use Rattle.refined.proofs.MetalLaws.{metal-low}
use Rattle.rules.specs.Edges.{Edge}
use Rattle.rules.specs.Refined.{EndOf, Loose}
use Rattle.rules.proofs.EdgeLaws.{edge_order}
use Rattle.interior.proofs.InteriorLaws.{clear-points}
use Rattle.rules.proofs.BestLaws.{best-joining}
use Rattle.rules.proofs.RefinedOurs.{refined-ours, refined-tree}
use Rattle.slide.specs.Promise.{Smaller, EndsPins, Given, Promise}
use Rattle.slide.proofs.AcrossLaws.{straight_line}
use Rattle.slide.proofs.EndLaws.{decide}
use Rattle.slide.proofs.InRange.{least_place, greatest_place, range-box, box-in-range}
use Rattle.slide.proofs.SlidSound.{slid-promise}
use Rattle.slide.proofs.StateLaws.{first-pin}
use Rattle.answers.specs.Graph.{point_count}
use Rattle.answers.specs.Refined.{refined_of, edges_in, total_in}
use Rattle.answers.specs.Slid.{slid_in, slid_of, slid_answer, slid_given, slid_tree}
use Rattle.answers.proofs.AnswerLaws.{only-given, room-enough}
use Rattle.router.specs.Slid.{PromisedSlid}
use Rattle.router.proofs.RefinedRange.{Ranged, refined-in-range}

-- Loose points

end_of : (x : Place) (e : Edge) → Dec (EndOf x e)
end_of x e =
    decide (place_same x e.0) (λ p. yes (inl p))
    (λ n. decide (place_same x e.1) (λ p. yes (inr p)) (λ m. no (λ k. either n m k)))

-- an edge at x other than e
abbrev Other : List Edge → Place → Edge → Type 0
Other L x e = (f : Edge) × ((f ∈ L) × (EndOf x f × (f ≡ e → ⊥)))

other-or-none : (L : List Edge) (x : Place) (e : Edge) → Other L x e ⊎ ((f : Edge) → f ∈ L → EndOf x f → f ≡ e)
other-or-none [] x e = inr (λ f m. elim m [ ])
other-or-none (g ∷ L) x e =
    either (λ r. inl (r.0, (there r.1.0, r.1.1)))
    (λ none.
    decide (end_of x g)
    (λ q. decide (order_same edge_order g e)
    (λ k. inr (λ f m p. either (λ i. i ∙ k) (λ i. none f i p) (Memᴰ.cases_cons m)))
    (λ n. inl (g, (here refl, (q, n)))))
    (λ n. inr (λ f m p. either (λ i. absurd (n (subst (EndOf x) i p))) (λ i. none f i p) (Memᴰ.cases_cons m))))
    (other-or-none L x e)

module _ (net : Net) (T : List Edge) where
  another : ((v : Place) (e : Edge) → Loose net T v e → ⊥) → (x : Place) (e : Edge) → e ∈ T → EndOf x e → (x ∈ net.pins → ⊥) → Other T x e
  another none x e m q free =
      either (λ r. r) (λ single. absurd (none x e (record { free = free; edge = m; end = q; single = single }))) (other-or-none T x e)

  never_both : Smaller T → (a b : Place) → (a, b) ∈ T → (b, a) ∈ T → ⊥
  never_both small a b m k = differ (place-order.along a b a (small a b m) (small b a k)) (place-order.never a)

  -- where no point is loose, an end that is no pin has an edge to another place too
  pub ends-pins : Smaller T → ((v : Place) (e : Edge) → Loose net T v e → ⊥) → EndsPins net.pins T
  ends-pins small none x z (inl m) free = at (another none x (x, z) m (inl refl) free)
    where
      at : Other T x (x, z) → (y : Place) × (Link T x y × (y ≡ z → ⊥))
      at (f, (i, (inl q, n))) =
          (f.1, (inl (subst (λ (p : Place). (p, f.1) ∈ T) (sym q) i), λ k. n (ap₂ (λ (a b : Place). (a, b)) (sym q) k)))
      at (f, (i, (inr q, n))) = (
        f.0,
        (
          inr (subst (λ (p : Place). (f.0, p) ∈ T) (sym q) i),
          λ k. never_both small x z m (subst (λ (p : Place). (p, x) ∈ T) k (subst (λ (p : Place). (f.0, p) ∈ T) (sym q) i)),
        ),
      )
  ends-pins small none x z (inr m) free = at (another none x (z, x) m (inr refl) free)
    where
      at : Other T x (z, x) → (y : Place) × (Link T x y × (y ≡ z → ⊥))
      at (f, (i, (inl q, n))) = (
        f.1,
        (
          inl (subst (λ (p : Place). (p, f.1) ∈ T) (sym q) i),
          λ k. never_both small z x m (subst (λ (p : Place). (x, p) ∈ T) k (subst (λ (p : Place). (p, f.1) ∈ T) (sym q) i)),
        ),
      )
      at (f, (i, (inr q, n))) =
          (f.0, (inr (subst (λ (p : Place). (f.0, p) ∈ T) (sym q) i), λ k. n (ap₂ (λ (a b : Place). (a, b)) k (sym q))))

  -- and the other way
  pub none-loose : EndsPins net.pins T → (v : Place) (e : Edge) → Loose net T v e → ⊥
  none-loose ends v e l = at l.end
    where
      -- an edge of v to y is e
      only : (y z : Place) → Link T v y → ((y ≡ e.0) × (v ≡ e.1)) ⊎ ((v ≡ e.0) × (y ≡ e.1))
      only y z (inl m) =
          let k = l.single (v, y) m (inl refl) in inr (ap (λ (g : Edge). g.0) k, ap (λ (g : Edge). g.1) k)
      only y z (inr m) =
          let k = l.single (y, v) m (inr refl) in inl (ap (λ (g : Edge). g.0) k, ap (λ (g : Edge). g.1) k)

      at : EndOf v e → ⊥
      at (inl q) =
          let r = ends v e.1 (inl (subst (λ (p : Place). (p, e.1) ∈ T) (sym q) l.edge)) l.free in
          r.1.1 (either (λ k. k.0 ∙ sym q ∙ k.1) (λ k. k.1) (only r.0 v r.1.0))
      at (inr q) =
          let r = ends v e.0 (inr (subst (λ (p : Place). (e.0, p) ∈ T) (sym q) l.edge)) l.free in
          r.1.1 (either (λ k. k.0) (λ k. k.1 ∙ sym q ∙ k.0) (only r.0 v r.1.0))

-- An allowed net

module _ {net : Net} (a : Allowed net) where
  refined-smaller : Smaller (edges_in net)
  unfolding edges_in refined_of
  refined-smaller x y m = (refined-tree a).smaller-first (x, y) m

  -- the refined tree is what the slider asks for
  pub refined-given : Given net (edges_in net)
  unfolding edges_in refined_of
  refined-given = record {
    one = (refined-tree a).one;
    free = λ x y m. (refined-tree a).clear-edges (x, y) m;
    smaller = refined-smaller;
    ordered = (refined-tree a).in_order;
    ends = ends-pins net (edges_in net) refined-smaller (refined-ours a).refines.prunes.none;
  }

  pub refined-ranged : Ranged (edges_in net)
  unfolding edges_in refined_of
  refined-ranged =
      refined-in-range a
      (λ e m. let i = spanning-inside net e.0 e.1 m in (vertex-in-range a e.0 i.0, vertex-in-range a e.1 i.1))
      (best-joining a).terminal (refined-ours a)

  pub slid-refined : Promise net (edges_in net) (slid_in net)
  unfolding slid_in
  slid-refined =
      let p = first-pin net.pins a.some-pin in slid-promise net a.upright p.0 p.1 (edges_in net) refined-given

  pub refined-few : length (edges_in net) < length net.pins + length net.macros * 4 + length net.pins
  unfolding edges_in refined_of
  refined-few = (refined-tree a).few

  pub slid-few : length (slid_in net) * 4 < (length net.pins + length net.macros * 4 + length net.pins) * 8
  slid-few = omega (arith, slid-refined.few, refined-few)

pub promised-slid : (w : Weighing) (pins macros : List ℤ) {net : Counts} → checked w pins macros ≡ given net → PromisedSlid w pins macros
unfolding slid_tree slid_given edges_in refined_of total_in
promised-slid w pins macros {net} g =
    let a = (given-allowed w pins macros g).1 in
    let r = slid-refined a in
    record {
      slid-given =
          λ room h.
          only-given (checked w pins macros) (slid_given w pins macros room) net g
          ∙ room-enough {A = ℕ × (ℤ × ℤ)} ((point_count pins macros + pin_count pins) * 8) room (slid_answer w pins macros) h;
      one = r.given.one;
      clear-edges = λ e m. r.given.free e.0 e.1 m;
      outside = λ e m. (clear-points e.0 e.1 (macros_of macros) a.upright).0 (r.given.free e.0 e.1 m);
      smaller-first = λ e m. r.given.smaller e.0 e.1 m;
      in_order = r.given.ordered;
      ends-pins = none-loose (net_of w pins macros) (slid_of w pins macros) r.given.ends;
      straight = λ Y U k e m. straight_line e.0 e.1 (r.lines Y U k e.0 e.1 m);
      back = r.back;
      no-dearer = r.cheaper;
      rounds = r.rounds;
      metal-low = metal-low (net_of w pins macros).weights (allowed-positive a) (slid_of w pins macros);
      in-range =
          λ e m.
          let b = r.within least_place greatest_place
          (λ x y i. let q = refined-ranged a (x, y) i in (range-box x q.0, range-box y q.1)) e.0 e.1 m in
          (box-in-range e.0 b.0, box-in-range e.1 b.1);
      few = omega (arith, slid-few a, length-pins pins, length-macros macros);
    }
