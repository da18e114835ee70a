-- The check of a bought-in tree: what is promised of it, from the check of the net alone; and that the refined tree and the slid tree
-- pass. Their edges are in order, so none stands twice; neither has a loose end; all their points are in range.
-- Assumes nothing.
use mathlib.Core.Path.{◌≡◌, refl, sym, ap, ◌∙◌}
use mathlib.Core.List.Perm
use mathlib.Core.List.{List, [], ◌∷◌}
use Prim.Native.Nat.{ℕ, ◌≤◌}
use native.Mathlib.Omega.{arith}
use lib.IntN.{ℤ, pos, nat_abs}
use lib.ListN.{length}
use Rattle.lists.specs.Any.{any}
use Rattle.lists.specs.Member.{◌∈◌}
use Rattle.lists.specs.Total.{total}
use Rattle.lists.proofs.MemberLaws.{is-in}
use Rattle.lists.proofs.TestLaws.{by, either}
use Rattle.lent.specs.Told.{Told, refused, given}
use Rattle.lent.specs.Entries.{flat}
use Rattle.lent.proofs.AfterLaws.{told-apart}
use Rattle.joined.specs.Cost.{lengths}
use Rattle.joined.specs.Joined.{Link, others}
use Rattle.joined.specs.OneTree.{Simple}
use Rattle.joined.proofs.OtherLaws.{link-others}
use Rattle.plane.specs.declared.Place.{Place}
use Rattle.plane.specs.Flat.{macros_of}
use Rattle.plane.proofs.PlaceOrder.{place_same}
use Rattle.net.specs.Net.{Net, net_of, weights_of, cost_in}
use Rattle.net.specs.declared.Net.{Net as Counts}
use Rattle.net.specs.declared.Weighing.{Weighing}
use Rattle.net.specs.Pins.{pin_count, pin_places}
use Rattle.net.specs.Tests.{out_of_range}
use Rattle.net.specs.Allowed.{Allowed}
use Rattle.net.proofs.PinLaws.{length-pins}
use Rattle.checks.specs.Check.{checked}
use Rattle.checks.proofs.GivenLaws.{given-allowed}
use Rattle.graph.specs.Numbers.{edge_numbers}
use Rattle.bought.specs.Bounds.{bought_bound}
use Rattle.bought.specs.Edges.{edges_of}
use Rattle.bought.specs.Passes.{Single, Passes}
use Rattle.bought.specs.Verdict.{edges_miscounted, unfit, verdict, bought}
use Rattle.bought.proofs.VerdictLaws.{miscounted-33, range-33, past-33, verdict-unfit}
use Rattle.bought.proofs.PassLaws.{passes-given, given-passes, pin-held, twice-35}
use Rattle.bought.proofs.LoneLaws.{lone-passes, lone-fails}
use Rattle.bought.proofs.OrderLaws.{same-bought}
use Rattle.bought.proofs.GivenLaws.{numbers-pass, first_pin, first-pin}
use Rattle.rules.specs.Edges.{Edge}
use Rattle.router.proofs.RefinedRange.{Ranged}
use Rattle.slide.specs.Promise.{Given}
use Rattle.slide.proofs.SlidSound.{simple}
use Rattle.answers.specs.Refined.{total_in, laid_of, laid_total, metal_of}
use Rattle.answers.specs.Slid.{slid_of, slid_total, slid_metal}
use Rattle.answers.specs.Bought.{checked_tree, sums_of}
use Rattle.answers.proofs.AnswerLaws.{only-given}
use Rattle.router.specs.Bought.{Listed, PromisedCheck}
use Rattle.router.proofs.SlidLaws.{refined-given, refined-ranged, refined-few, slid-refined, slid-few, promised-slid}

-- Our trees

module _ {net : Net} {T : List Edge} (g : Given net T) where
  simple-edges : Simple T
  simple-edges = simple g.smaller g.ordered

  all-pinned : (v : Place) → Single T v → v ∈ net.pins
  all-pinned v s = at (is-in place_same v net.pins)
    where
      -- an edge to another place is one of the others
      another : (y : Place) × (Link T v y × (y ≡ s.other → ⊥)) → ⊥
      another (y, (l, n)) = s.alone y (link-others s.link (either (λ e. n e.1) (λ e. n (e.1 ∙ e.0))) l)

      at : Dec (v ∈ net.pins) → v ∈ net.pins
      at (yes m) = m
      at (no n) = absurd (another (g.ends v s.other s.link n))

  pub tree-passes : Passes net T
  tree-passes = record {
    one = g.one;
    once = simple-edges.single;
    apart = λ e m. simple-edges.apart e.0 e.1 m;
    free = λ e m. g.free e.0 e.1 m;
    pinned = all-pinned;
  }

-- the cost that a check of a tree tells
cost_told : Told (ℤ × ℤ) → ℕ
cost_told (refused n) = 0
cost_told (given a) = nat_abs a.0

-- One pin

lone-list : (l : List Place) → length l ≡ 1 → (p : Place) × (l ≡ p ∷ [])
lone-list [] h = absurd (let z : ⊥ = omega arith in z)
lone-list (p ∷ []) h = (p, refl)
lone-list (p ∷ (q ∷ l)) h = absurd (let z : ⊥ = omega arith in z)

module _ (w : Weighing) (pins macros : List ℤ) {v : Counts} (g : checked w pins macros ≡ given v) where
  abbrev net : Net
  net = net_of w pins macros

  a : Allowed (net_of w pins macros)
  a = (given-allowed w pins macros g).1

  pin : first_pin net ∈ pin_places pins
  pin = first-pin a

  past : (edges : List ℤ) → checked_tree w pins macros edges ≡ bought net edges
  unfolding checked_tree
  past edges = only-given (checked w pins macros) (bought net edges) v g

  listed : (edges : List ℤ) {z : ℤ × ℤ} → bought net edges ≡ given z → Listed edges
  listed edges {z} e =
      by (edges_miscounted edges)
      (λ m. told-apart 33 z (sym (miscounted-33 net edges m) ∙ e))
      (λ m. by (any out_of_range edges) (λ r. told-apart 33 z (sym (range-33 net edges m r) ∙ e)) (λ r. record { counted = m; in-range = r }))

  to-verdict : (edges : List ℤ) → Listed edges → checked_tree w pins macros edges ≡ verdict net (edges_of edges)
  to-verdict edges l = past edges ∙ past-33 net edges l.counted l.in-range

  of-given : (edges : List ℤ) {z : ℤ × ℤ} → checked_tree w pins macros edges ≡ given z → Listed edges × Passes net (edges_of edges)
  of-given edges e =
      let l = listed edges (sym (past edges) ∙ e) in
      (l, given-passes net (edges_of edges) pin (sym (to-verdict edges l) ∙ e))

  twice-given : (edges : List ℤ) (x y : Place) (l : Link (edges_of edges) x y) → Link (others l) x y → Listed edges →
      (checked_tree w pins macros edges ≡ refused 34 → ⊥) → checked_tree w pins macros edges ≡ refused 35
  twice-given edges x y l k h n =
      by (any (unfit net.macros) (edges_of edges))
      (λ u. absurd (n (to-verdict edges h ∙ verdict-unfit net (edges_of edges) u)))
      (λ f. to-verdict edges h ∙ twice-35 net (edges_of edges) pin f x y l k)

  by-numbers : (T : List Edge) → Ranged T → length T ≤ bought_bound → Passes net T →
      checked_tree w pins macros (flat edge_numbers T) ≡ given (sums_of w pins macros T)
  by-numbers T ranged few ps = past (flat edge_numbers T) ∙ numbers-pass net pin T ranged few ps

  laid-few : length (laid_of w pins macros) ≤ bought_bound
  laid-few = omega (arith, refined-few a, a.few-pins, a.few-macros)

  laid-passes : checked_tree w pins macros (flat edge_numbers (laid_of w pins macros))
      ≡ given (pos (laid_total w pins macros), pos (metal_of w pins macros))
  unfolding total_in
  laid-passes = by-numbers (laid_of w pins macros) (refined-ranged a) laid-few (tree-passes (refined-given a))

  slid-bought : length (slid_of w pins macros) ≤ bought_bound
  slid-bought = omega (arith, slid-few a, a.few-pins, a.few-macros)

  slid-passes : checked_tree w pins macros (flat edge_numbers (slid_of w pins macros))
      ≡ given (pos (slid_total w pins macros), pos (slid_metal w pins macros))
  slid-passes =
      by-numbers (slid_of w pins macros) (promised-slid w pins macros g).in-range slid-bought (tree-passes (slid-refined a).given)

  lone-pin : pin_count pins ≡ 1 → (p : Place) × (pin_places pins ≡ p ∷ [])
  lone-pin h = lone-list (pin_places pins) (length-pins pins ∙ h)

  lone-given : pin_count pins ≡ 1 → checked_tree w pins macros [] ≡ given (pos 0, pos 0)
  unfolding lengths total flat
  lone-given h =
      let p = lone-pin h in
      by-numbers [] (λ e m. elim m [ ]) (omega arith) (lone-passes net p.0 p.1)

  -- V3 to V9
  pub promised-check : PromisedCheck w pins macros
  promised-check = record {
    passes = λ edges l ps. to-verdict edges l ∙ passes-given net (edges_of edges) pin ps;
    only = of-given;
    held = pin-held net;
    twice = twice-given;
    lone = lone-given;
    lone-only = λ h edges m e. let p = lone-pin h in lone-fails net p.0 p.1 (edges_of edges) m (of-given edges e).1;
    rearranged = λ edges edges' s.
        past edges
        ∙ same-bought (Perm.refl (pin_places pins)) pin pin (weights_of w) (macros_of macros) (macros_of macros) (λ x y. refl) edges edges' s
        ∙ sym (past edges');
    numbers = by-numbers;
    refined = laid-passes;
    slid = slid-passes;
  }

  -- a list that passes is one tree in words, and what is told is what it costs
  pub passes-told : (edges : List ℤ) (cost laid : ℕ) → checked_tree w pins macros edges ≡ given (pos cost, pos laid) →
      Passes net (edges_of edges) × (cost ≡ lengths (cost_in net) (edges_of edges))
  unfolding cost_told
  passes-told edges cost laid e =
      let p = of-given edges e in
      (p.1, ap cost_told (sym e ∙ promised-check.passes edges p.0 p.1))
