-- L14, L17: a best tree is the cheapest of all metal, by Hanan's theorem. So no tree of clear edges costs less, wherever its points lie;
-- the refined tree is one.
-- Assumes nothing.
use mathlib.Core.Path.{◌≡◌, sym, subst}
use mathlib.Core.Bool.{true}
use mathlib.Core.Logic.{inl}
use mathlib.Core.List.{List}
use Prim.Native.Nat.{◌≤◌}
use Rattle.lists.specs.Member.{◌∈◌}
use Rattle.joined.specs.Joined.{Joined, stay}
use Rattle.joined.specs.Cost.{lengths}
use Rattle.joined.specs.OneTree.{OneTree}
use Rattle.joined.proofs.WayLaws.{way-joined}
use Rattle.plane.specs.declared.Place.{Place}
use Rattle.plane.specs.Macro.{clear}
use Rattle.plane.proofs.PlaceOrder.{place_same}
use Rattle.net.specs.Net.{Net, cost_in}
use Rattle.net.specs.Allowed.{Allowed}
use Rattle.lines.specs.Edges.{Edge}
use Rattle.rules.specs.Terminal.{Path}
use Rattle.rules.specs.Trees.{Trees}
use Rattle.rules.proofs.RefinedOurs.{refined-tree}
use Rattle.rules.proofs.TreesOurs.{trees-only}
use Rattle.grid_hanan.specs.Metal.{LeastMetal}
use Rattle.grid_hanan.proofs.LeastLaws.{grid-least, tree-not-cheaper}
use Rattle.best.specs.Tree.{IsBest}

-- all pairs of two points that one tree holds are joined
pub one-tree-joined : {pins : List Place} {T : List Edge} → OneTree pins T → (p q : Place) → p ∈ pins → q ∈ pins → Joined T p q
one-tree-joined {pins} {T} o p q i k = at (place_same p q)
  where
    at : Dec (p ≡ q) → Joined T p q
    at (yes e) = stay e
    at (no n) = way-joined (o p q (inl i) (inl k) n).free.way

module _ {net : Net} {O : List Edge} (b : IsBest net O) where
  -- L17: the cheapest of all metal
  pub best-least : LeastMetal net (lengths (cost_in net) O)
  best-least =
      grid-least net O b.all-joined.on-grid b.all-joined.joins (λ F on j. b.least F record { on-grid = on; joins = j })

  -- L17: one tree that holds all pins, of clear edges
  pub one-tree-not-cheaper : (T : List Edge) → OneTree net.pins T → ((x y : Place) → (x, y) ∈ T → clear x y net.macros ≡ true) →
      lengths (cost_in net) O ≤ lengths (cost_in net) T
  one-tree-not-cheaper T one free = tree-not-cheaper net best-least T free (one-tree-joined one)

-- L14: what the rules say the refined tree of an allowed net is, costs no less
pub refined-not-cheaper : {net : Net} → Allowed net → {O : List Edge} → IsBest net O → {vs : List Place} {es : List Edge} {ks : List Path}
    {rs : List Edge} → Trees net vs es ks rs → lengths (cost_in net) O ≤ lengths (cost_in net) rs
refined-not-cheaper {net} a {O} o t =
    subst (λ (rs : List Edge). lengths (cost_in net) O ≤ lengths (cost_in net) rs) (sym (trees-only a t).refined)
    (let tree = refined-tree a in one-tree-not-cheaper o _ tree.one (λ p q m. tree.clear-edges (p, q) m))
