-- L18: metal with fractions is never cheaper. Metal of the net drawn d times as large leaves edges along the net's lines drawn large; these
-- are edges of the net's own grid, drawn large, and join what they joined.
-- Assumes nothing.
use mathlib.Core.Path.{◌≡◌, refl, sym, ap, ap₂, subst, ◌∙◌}
use mathlib.Core.Bool.{true}
use mathlib.Core.Logic.{inl}
use mathlib.Core.List.{List, [], ◌∷◌, map}
use Prim.Native.Nat.{ℕ, ◌*◌, ◌≤◌}
use native.Mathlib.Nat.{mul-le-mul_right}
use native.Mathlib.Omega.{arith}
use lib.IntN.{ℤ, pos, ◌*ℤ◌}
use Rattle.lists.specs.Member.{◌∈◌, here, there}
use Rattle.lists.specs.Total.{total}
use Rattle.lists.proofs.MapLaws.{in_map, of_map}
use Rattle.joined.specs.Joined.{Joined}
use Rattle.joined.specs.Pairs.{Each, moved_pair}
use Rattle.joined.specs.Cost.{lengths}
use Rattle.joined.proofs.JoinedLaws.{between}
use Rattle.joined.proofs.PairLaws.{each_none, each-cons, moved-each, moved-joined, joined-unmoved}
use Rattle.plane.specs.declared.Place.{Place}
use Rattle.plane.specs.declared.Macro.{Macro}
use Rattle.plane.specs.Place.{place}
use Rattle.plane.specs.Macro.{clear}
use Rattle.net.specs.Net.{Net, cost_in}
use Rattle.lines.specs.Lines.{x_lines, y_lines, Sides, Crossing, Neighbours, GridStep, across, along, UnitStep, ClearStep}
use Rattle.lines.specs.Edges.{Edge}
use Rattle.lines.proofs.EdgeLaws.{lines-sides, pin-crossing}
use Rattle.lines.proofs.StepLaws.{step_back, step-cases}
use Rattle.grid.proofs.BoxWalk.{grid-clear}
use Rattle.interior.proofs.ScaleLaws.{lt-times, times-lt}
use Rattle.grid_hanan.specs.Metal.{UnitMetal, LeastMetal}
use Rattle.grid_hanan.specs.Fine.{fine_place, fine_macro, fine_net, LeastInFractions}
use Rattle.grid_hanan.proofs.Hanan.{gridded}
use Rattle.grid_hanan.proofs.LeastLaws.{clear-least, tree-not-cheaper}
use Rattle.grid_hanan.proofs.FineLaws.{large-same, clear-fine, lengths-fine}

module _ (d : ℕ) (some : 1 ≤ d) where
  abbrev large : ℤ → ℤ
  large z = z *ℤ pos d

  abbrev to : Place → Place
  to p = fine_place d p

  place-apart : (p q : Place) → to p ≡ to q → p ≡ q
  place-apart p q e =
      ap₂ place
      (large-same d some p.x q.x (ap (λ (z : Place). z.x) e))
      (large-same d some p.y q.y (ap (λ (z : Place). z.y) e))

  -- neighbouring lines drawn large, from those that they are
  record Drawn (L : List ℤ) (s t : ℤ) : Type 0 where
    low : ℤ
    high : ℤ
    low-is : s ≡ large low
    high_is : t ≡ large high
    lines : Neighbours L low high

  drawn : (L : List ℤ) (s t : ℤ) → Neighbours (map large L) s t → Drawn L s t
  drawn L s t n =
      let u = of_map large L n.first in
      let v = of_map large L n.second in
      let k : Neighbours (map large L) (large u.entry) (large v.entry) =
      subst (λ (z : ℤ). Neighbours (map large L) (large u.entry) z) v.is
      (subst (λ (z : ℤ). Neighbours (map large L) z t) u.is n) in
      record {
        low = u.entry;
        high = v.entry;
        low-is = u.is;
        high_is = v.is;
        lines = record {
          first = u.stands;
          second = v.stands;
          rise = times-lt u.entry v.entry d k.rise;
          none = λ c i h l.
              k.none (large c) (in_map large i) (lt-times u.entry c d some h) (lt-times c v.entry d some l);
        };
      }

  module _ (xs ys : List ℤ) (ms : List Macro) where
    abbrev Large : Place → Place → Type 0
    Large = GridStep (map large xs) (map large ys) (map (fine_macro d) ms)

    clear-back : (a b p q : Place) → a ≡ to p → b ≡ to q → clear a b (map (fine_macro d) ms) ≡ true → clear p q ms ≡ true
    clear-back a b p q e h k =
        sym (clear-fine d some p q ms) ∙ sym (ap₂ (λ (x y : Place). clear x y (map (fine_macro d) ms)) e h) ∙ k

    -- a step that is one of the net's own grid, drawn large
    record Small (x y : Place) : Type 0 where
      from : Place
      onto : Place
      from_is : x ≡ to from
      onto-is : y ≡ to onto
      steps : GridStep xs ys ms from onto

    small-turned : {x y : Place} → Small x y → Small y x
    small-turned s = record { from = s.onto; onto = s.from; from_is = s.onto-is; onto-is = s.from_is; steps = step_back s.steps }

    level : (a b : Place) → Neighbours (map large xs) a.x b.x → a.y ≡ b.y → a.y ∈ map large ys →
        clear a b (map (fine_macro d) ms) ≡ true → Small a b
    level a b n e m h =
        let u = drawn xs a.x b.x n in
        let y = of_map large ys m in
        let p = place u.low y.entry in
        let q = place u.high y.entry in
        let i : a ≡ to p = ap₂ place u.low-is y.is in
        let j : b ≡ to q = ap₂ place u.high_is (sym e ∙ y.is) in
        record {
          from = p;
          onto = q;
          from_is = i;
          onto-is = j;
          steps = across (inl u.lines) refl y.stands (clear-back a b p q i j h);
        }

    upright : (a b : Place) → Neighbours (map large ys) a.y b.y → a.x ≡ b.x → a.x ∈ map large xs →
        clear a b (map (fine_macro d) ms) ≡ true → Small a b
    upright a b n e m h =
        let u = drawn ys a.y b.y n in
        let x = of_map large xs m in
        let p = place x.entry u.low in
        let q = place x.entry u.high in
        let i : a ≡ to p = ap₂ place x.is u.low-is in
        let j : b ≡ to q = ap₂ place (sym e ∙ x.is) u.high_is in
        record {
          from = p;
          onto = q;
          from_is = i;
          onto-is = j;
          steps = along (inl u.lines) refl x.stands (clear-back a b p q i j h);
        }

    small : (a b : Place) → Large a b → Small a b
    small =
        step-cases (map large xs) (map large ys) (map (fine_macro d) ms) Small
        record { turned = λ a b s. small-turned s; level = level; upright = upright }

    -- and so all edges
    record Smaller (G : List Edge) : Type 0 where
      edges : List Edge
      are : G ≡ map (moved_pair to) edges
      steps : Each (GridStep xs ys ms) edges

    smaller : (G : List Edge) → Each Large G → Smaller G
    smaller [] k = record { edges = []; are = refl; steps = each_none (GridStep xs ys ms) }
    smaller ((a, b) ∷ G) k =
        let s = small a b (k a b (here refl)) in
        let r = smaller G (λ x y m. k x y (there m)) in
        record {
          edges = (s.from, s.onto) ∷ r.edges;
          are = ap₂ (λ (e : Edge) (l : List Edge). e ∷ l) (ap₂ (λ (p q : Place). (p, q)) s.from_is s.onto-is) r.are;
          steps = each-cons (GridStep xs ys ms) s.from s.onto r.edges s.steps r.steps;
        }

    sides-fine : Sides xs ys ms → Sides (map large xs) (map large ys) (map (fine_macro d) ms)
    sides-fine s = record {
      left = λ m i. let r = of_map (fine_macro d) ms i in
          subst (λ (n : Macro). n.left ∈ map large xs) (sym r.is) (in_map large (s.left r.entry r.stands));
      right = λ m i. let r = of_map (fine_macro d) ms i in
          subst (λ (n : Macro). n.right ∈ map large xs) (sym r.is) (in_map large (s.right r.entry r.stands));
      bottom = λ m i. let r = of_map (fine_macro d) ms i in
          subst (λ (n : Macro). n.bottom ∈ map large ys) (sym r.is) (in_map large (s.bottom r.entry r.stands));
      top = λ m i. let r = of_map (fine_macro d) ms i in
          subst (λ (n : Macro). n.top ∈ map large ys) (sym r.is) (in_map large (s.top r.entry r.stands));
    }

  -- The net

  module _ (net : Net) {n : ℕ} (l : LeastMetal net n) where
    crossing-fine : (p : Place) → p ∈ net.pins → Crossing (map large (x_lines net)) (map large (y_lines net)) (to p)
    crossing-fine p i =
        let c = pin-crossing net p i in record { across = in_map large c.across; along = in_map large c.along }

    fine-at : (U : List Edge) → UnitMetal (fine_net d net) U → (o : Place) → o ∈ net.pins → n * d ≤ lengths (cost_in net) U
    fine-at U m o i =
        let xs = x_lines net in
        let ys = y_lines net in
        let g = gridded (map large xs) (map large ys) (map (fine_macro d) net.macros) net.weights
        (sides-fine xs ys net.macros (lines-sides net)) (to o) (crossing-fine o i) U m.units in
        let s = smaller xs ys net.macros g.edges g.each in
        let k : n ≤ lengths (cost_in net) s.edges =
        tree-not-cheaper net l s.edges
        (λ a b j. grid-clear net.macros net.weights xs ys a b (s.steps a b j))
        (λ p q h j.
        joined-unmoved to s.edges place-apart p q refl refl
        (subst (λ (G : List Edge). Joined G (to p) (to q)) s.are
        (g.joins (to p) (to q) (crossing-fine p h) (crossing-fine q j) (m.joins (to p) (to q) (in_map to h) (in_map to j))))) in
        let e : lengths (cost_in net) g.edges ≡ lengths (cost_in net) s.edges * d =
        ap (λ (G : List Edge). lengths (cost_in net) G) s.are ∙ lengths-fine d some net.weights s.edges in
        omega (arith, g.costs, e, mul-le-mul_right d k)

    -- L18: it costs no less
    fine-not-cheaper : (U : List Edge) → UnitMetal (fine_net d net) U → n * d ≤ lengths (cost_in net) U
    unfolding lengths total
    fine-not-cheaper U m = at net.pins refl
      where
        at : (ps : List Place) → net.pins ≡ ps → n * d ≤ lengths (cost_in net) U
        at [] e =
            let none : UnitMetal net [] =
            record { units = each_none (UnitStep net.macros); joins = λ p q i. let j : p ∈ [] = rw e at i in elim j [ ] } in
            let k : n ≤ 0 = l.least [] none in
            omega (arith, mul-le-mul_right d k)
        at (o ∷ ps) e = fine-at U m o (rw e (here refl))

    -- and the least is the same
    fine-least : LeastMetal (fine_net d net) (n * d)
    fine-least =
        let T : List Edge = map (moved_pair to) l.metal in
        let e : lengths (cost_in net) T ≡ n * d = lengths-fine d some net.weights l.metal ∙ ap (λ (k : ℕ). k * d) l.costs in
        subst (LeastMetal (fine_net d net)) e (clear-least (fine_net d net) T
        (moved-each to l.metal (UnitStep net.macros) (ClearStep (map (fine_macro d) net.macros))
        (λ a b u. clear-fine d some a b net.macros ∙ u.free) l.is-metal.units)
        (λ x y i j.
        let p = of_map to net.pins i in
        let q = of_map to net.pins j in
        between p.is q.is (moved-joined to l.metal (l.is-metal.joins p.entry q.entry p.stands q.stands)))
        (λ U m. omega (arith, e, fine-not-cheaper U m)))

-- L18: the least cost of all metal is that of metal in fractions too
pub least-in-fractions : (net : Net) {n : ℕ} → LeastMetal net n → LeastInFractions net n
least-in-fractions net l d some = fine-least d some net l
