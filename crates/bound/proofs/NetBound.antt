-- The bound of a net: no edges of the grid that join all pins cost less, and so, by Hanan's theorem, no metal anywhere; nor does any tree
-- of clear edges, such as the refined one. It is one number, the same for every order of the lists.
-- Assumes nothing.
use mathlib.Core.Path.{◌≡◌, refl, sym, ap, subst}
use mathlib.Core.Bool.{Bool}
use mathlib.Core.List.{List, reverse}
use Prim.Native.Nat.{ℕ, ◌≤◌}
use native.Mathlib.Omega.{arith}
use Rattle.lists.specs.Member.{Among}
use Rattle.lists.specs.Sorted.{Order, sorted}
use Rattle.lists.proofs.MemberLaws.{of_reverse}
use Rattle.lists.proofs.SortedLaws.{of-sorted, in-sorted, sorted-ascending, ascending-same}
use Rattle.joined.specs.Joined.{Link, Joins}
use Rattle.joined.specs.Cost.{lengths}
use Rattle.joined.specs.OneTree.{OneTree}
use Rattle.joined.specs.Pairs.{Each}
use Rattle.plane.specs.declared.Place.{Place}
use Rattle.plane.specs.declared.Macro.{Macro}
use Rattle.plane.specs.declared.Weights.{Weights}
use Rattle.plane.proofs.PlaceOrder.{place_same}
use Rattle.net.specs.Net.{Net, cost_in}
use Rattle.net.specs.Allowed.{Allowed}
use Rattle.lines.specs.declared.Axis.{Axis}
use Rattle.lines.specs.declared.Axis.TheVariants.{Across, Along}
use Rattle.lines.specs.Lines.{ClearStep}
use Rattle.lines.specs.Edges.{Edge, grid_edges}
use Rattle.lines.proofs.AxisLaws.{cost-length}
use Rattle.rules.specs.Terminal.{Path}
use Rattle.rules.specs.Trees.{Trees}
use Rattle.rules.proofs.RefinedOurs.{refined-tree}
use Rattle.rules.proofs.TreesOrder.{net_by, SameNet, turned}
use Rattle.rules.proofs.TreesOurs.{trees-only}
use Rattle.grid_hanan.specs.Metal.{UnitMetal, LeastMetal}
use Rattle.grid_hanan.proofs.Hanan.{hanan}
use Rattle.grid_hanan.proofs.LeastLaws.{metal-of}
use Rattle.best.specs.Tree.{JoinsPins}
use Rattle.best.proofs.OrderLaws.{link-same}
use Rattle.best.proofs.RefinedLaws.{one-tree-joined}
use Rattle.bound.specs.Order.{towards}
use Rattle.bound.specs.Bound.{SweptPins, BothWays, Bound}
use Rattle.bound.proofs.OrderLaws.{towards-order}
use Rattle.sweeps.proofs.SweepLaws.{swept-bound, swept_same}

module _ (net : Net) where
  sweep-holds : (pins : List Place) → Among pins net.pins → {n : ℕ} → SweptPins net pins n → (F : List Edge) → JoinsPins net F →
      n ≤ lengths (cost_in net) F
  sweep-holds pins h s F j =
      swept-bound place_same (grid_edges net) (cost-length net.weights) s F j.on-grid
      (λ p i q k. j.joins p q (h p i) (h q k))

  both_hold : (axis : Axis) {n : ℕ} → BothWays net axis n → (F : List Edge) → JoinsPins net F → n ≤ lengths (cost_in net) F
  both_hold axis b F j =
      omega (
        arith,
        b.greater,
        sweep-holds _ (λ p i. of-sorted (towards axis) net.pins p (of_reverse _ p i)) b.to_start F j,
        sweep-holds _ (of-sorted (towards axis) net.pins) b.to_end F j,
      )

  -- THE THEOREM: no edges of the grid that join all pins cost less
  pub bound-holds : {n : ℕ} → Bound net n → (F : List Edge) → JoinsPins net F → n ≤ lengths (cost_in net) F
  bound-holds b F j = omega (arith, b.greatest, both_hold Across b.by-x F j, both_hold Along b.by-y F j)

  module _ {n : ℕ} (b : Bound net n) where
    -- nor does any metal, in clear unit steps anywhere in the plane
    pub bound-metal : (U : List Edge) → UnitMetal net U → n ≤ lengths (cost_in net) U
    bound-metal U m =
        let g = hanan net U m in
        omega (arith, bound-holds b g.edges record { on-grid = g.on-grid; joins = g.joins }, g.within)

    -- nor does any list of clear edges that joins the pins, wherever their ends lie
    pub bound-clear : (T : List Edge) → Each (ClearStep net.macros) T → Joins net.pins T → n ≤ lengths (cost_in net) T
    bound-clear T c j = let r = metal-of net T c j in omega (arith, bound-metal r.0 r.1.0, r.1.1)

    -- so no one tree of clear edges that holds all pins: a slid one, or one that is bought
    pub bound-tree : (T : List Edge) → OneTree net.pins T → Each (ClearStep net.macros) T → n ≤ lengths (cost_in net) T
    bound-tree T one free = bound-clear T free (one-tree-joined one)

    -- and what is the cheapest of all metal costs no less
    pub bound-least : {k : ℕ} → LeastMetal net k → n ≤ k
    bound-least l = omega (arith, bound-metal l.metal l.is-metal, l.costs)

-- nor the refined tree
pub refined-not-below : {net : Net} → Allowed net → {n : ℕ} → Bound net n → {vs : List Place} {es : List Edge} {ks : List Path}
    {rs : List Edge} → Trees net vs es ks rs → n ≤ lengths (cost_in net) rs
refined-not-below {net} a {n} b t =
    subst (λ (rs : List Edge). n ≤ lengths (cost_in net) rs) (sym (trees-only a t).refined)
    (let tree = refined-tree a in bound-tree net b _ tree.one (λ p q m. tree.clear-edges (p, q) m))

-- ONE NUMBER, whatever the order of the lists

module _ {W : Weights} {ps qs : List Place} {ms ns : List Macro} (h : SameNet W ps qs ms ns) where
  sorted-same : {test : Place → Place → Bool} → Order test → sorted test ps ≡ sorted test qs
  sorted-same {test} o =
      ascending-same test o _ _ (sorted-ascending test o ps) (sorted-ascending test o qs)
      (λ p i. in-sorted test o qs p (h.to p (of-sorted test ps p i)))
      (λ p i. in-sorted test o ps p (h.from p (of-sorted test qs p i)))

  sweep-same : {l k : List Place} → l ≡ k → {m n : ℕ} → SweptPins (net_by W ps ms) l m → SweptPins (net_by W qs ns) k n → m ≡ n
  sweep-same {l} {k} e {m} {n} s t =
      swept_same (Link (grid_edges (net_by W ps ms))) (Link (grid_edges (net_by W qs ns)))
      record { to = link-same h; from = link-same (turned h); as-much = λ v w i. refl } s
      (subst (λ (z : List Place). SweptPins (net_by W qs ns) z n) (sym e) t)

  both-same : (axis : Axis) {m n : ℕ} → BothWays (net_by W ps ms) axis m → BothWays (net_by W qs ns) axis n → m ≡ n
  both-same axis b c =
      let e = sorted-same (towards-order axis) in
      omega (
        arith,
        b.greater,
        c.greater,
        sweep-same (ap reverse e) b.to_start c.to_start,
        sweep-same e b.to_end c.to_end,
      )

  pub bound-any-order : {m n : ℕ} → Bound (net_by W ps ms) m → Bound (net_by W qs ns) n → m ≡ n
  bound-any-order b c =
      omega (arith, b.greatest, c.greatest, both-same Across b.by-x c.by-x, both-same Along b.by-y c.by-y)
