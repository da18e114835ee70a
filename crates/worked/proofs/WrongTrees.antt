-- Wrong graphs and wrong trees of small nets, each shut out by the rules: docs/WRONG-TREES.md has one for every field of the relations.
-- What breaks a field at sight is refused by that field alone; the others differ from ours, and ours is the one solution.
-- Assumes nothing.
use mathlib.Core.Path.{◌≡◌, refl, sym, ap, ◌∙◌}
use mathlib.Core.List.{List, [], ◌∷◌, map}
use Prim.Native.Nat.{ℕ, ◌+◌}
use native.Mathlib.Omega.{arith}
use lib.IntN.{pos, negsuc}
use lib.ListN.{length}
use Rattle.lists.specs.Member.{◌∈◌, here}
use Rattle.lists.specs.Total.{total}
use Rattle.lists.proofs.TestLaws.{differ, either}
use Rattle.joined.specs.Cost.{lengths}
use Rattle.plane.specs.declared.Place.{Place}
use Rattle.plane.specs.declared.Macro.{Macro}
use Rattle.plane.specs.Place.{place}
use Rattle.plane.specs.Distance.{distance}
use Rattle.plane.specs.Cost.{plain}
use Rattle.plane.specs.Macro.{macro}
use Rattle.net.specs.Counts.{counted}
use Rattle.net.specs.Allowed.{Allowed}
use Rattle.net.specs.WorkedNets.{three_pins, on_sides}
use Rattle.net.specs.Pins.{flat_pins}
use Rattle.net.specs.Net.{Net, plainly}
use Rattle.checks.proofs.GivenLaws.{given-allowed}
use Rattle.checks.proofs.WorkedChecks.{answer, worked-checks}
use Rattle.graph.proofs.WorkedGraphs.{graph_of}
use Rattle.terminal.proofs.WorkedPaths.{tree_in}
use Rattle.union.proofs.WorkedUnions.{union}
use Rattle.refiner.proofs.WorkedTrees.{refined_of}
use Rattle.tree.specs.Edges.{edges_from}
use Rattle.rules.specs.Edges.{Edge}
use Rattle.rules.specs.Spanning.{Spanning}
use Rattle.rules.specs.Terminal.{Path, given_for}
use Rattle.rules.specs.Trees.{Trees}
use Rattle.rules.proofs.SpanningOurs.{graph-only}
use Rattle.rules.proofs.TerminalOurs.{paths-given}
use Rattle.rules.proofs.TreesOurs.{trees-only}
use Rattle.refined.specs.Ground.{ground_of}
use Rattle.beside.specs.Beside.{offer, is_point, take_seat, weighed}

abbrev at : ℕ → ℕ → Place
at x y = place (pos x) (pos y)

-- The nets, in which metal costs its length

abbrev plain_net : List Place → List Macro → Net
plain_net ps ms = record { pins = ps; macros = ms; weights = plain }

-- E4: three pins, no macro
abbrev pub three : Net
three = plain_net (at 0 0 ∷ at 4 0 ∷ at 2 3 ∷ []) ([])

three-allowed : Allowed three
unfolding answer
three-allowed = (given-allowed plainly three_pins.pins three_pins.macros worked-checks.three-pins).1

-- four pins on the tips of a cross: two rounds
abbrev pub cross : Net
cross = plain_net (at 0 1 ∷ at 1 0 ∷ at 1 2 ∷ at 2 1 ∷ []) ([])

cross-allowed : Allowed cross
unfolding answer flat_pins
cross-allowed =
    (given-allowed plainly (flat_pins cross.pins) [] {v = counted plainly 4 0} refl).1

-- three pins and a macro, one of whose corners is left bare by the round
abbrev slab : List Macro
slab = macro (pos 0) (pos 0) (pos 1) (pos 2) ∷ []

abbrev pub bare : Net
bare = plain_net (at 0 0 ∷ at 1 3 ∷ at 3 1 ∷ []) (slab)

bare-allowed : Allowed bare
unfolding answer flat_pins
bare-allowed =
    (given-allowed plainly (flat_pins bare.pins) (pos 0 ∷ pos 0 ∷ pos 1 ∷ pos 2 ∷ []) {v = counted plainly 3 1} refl).1

-- E6: a pin on the left side of that macro and one on the right
abbrev pub sides : Net
sides = plain_net (at 0 1 ∷ at 1 1 ∷ []) (slab)

sides-allowed : Allowed sides
unfolding answer
sides-allowed = (given-allowed plainly on_sides.pins on_sides.macros worked-checks.on-sides).1

-- three pins and a macro, where two points tie as u
abbrev pub tied : Net
tied = plain_net (at 0 3 ∷ at 1 0 ∷ at 3 2 ∷ []) (macro (pos 3) (pos 1) (pos 4) (pos 4) ∷ [])

tied-allowed : Allowed tied
unfolding answer flat_pins
tied-allowed =
    (given-allowed plainly (flat_pins tied.pins) (pos 3 ∷ pos 1 ∷ pos 4 ∷ pos 4 ∷ []) {v = counted plainly 3 1} refl).1

-- three pins and a macro, where no candidate has a gain above zero
abbrev pub even : Net
even = plain_net (at 0 3 ∷ at 1 0 ∷ at 2 2 ∷ []) (macro (pos 1) (pos 1) (pos 2) (pos 2) ∷ [])

even-allowed : Allowed even
unfolding answer flat_pins
even-allowed =
    (given-allowed plainly (flat_pins even.pins) (pos 1 ∷ pos 1 ∷ pos 2 ∷ pos 2 ∷ []) {v = counted plainly 3 1} refl).1

-- Graphs

-- E4, `edges` of Spanning: the edge (2, 3)–(4, 0) is left out
pub edge-left-out : (vs : List Place) → Spanning three vs ((at 0 0, at 2 3) ∷ (at 0 0, at 4 0) ∷ []) → ⊥
unfolding graph_of
edge-left-out vs s = let e : ◌≡◌ {A = ℕ} 2 3 = ap length (graph-only three s).1 in omega (arith, e)

-- `vertices-in-order`: a pin on a macro's corner is two vertices
pub vertex-twice : (vs : List Place) (es : List Edge) →
    Spanning (plain_net (at 0 0 ∷ []) (macro (pos 0) (pos 0) (pos 2) (pos 2) ∷ [])) (at 0 0 ∷ at 0 0 ∷ vs) es → ⊥
unfolding graph_of
vertex-twice vs es s = differ (s.vertices-in-order.0 (at 0 0) (here refl)) refl

-- E3, `seen` of May: an edge through the macro, in whatever list
pub through-macro : (vs : List Place) (es : List Edge) →
    Spanning (plain_net (at 0 0 ∷ at 10 0 ∷ []) (macro (pos 4) (negsuc 1) (pos 6) (pos 3) ∷ [])) vs es → (at 0 0, at 10 0) ∈ es → ⊥
unfolding graph_of
through-macro vs es s m =
    either (λ p. differ p.may.seen refl) (λ p. differ p.may.seen refl) ((s.edges (at 0 0) (at 10 0)).0 m).picked

-- Paths

-- E6, `in-turn` of Terminal: the path above the macro is as long as the one below it, and its bridge (0, 2)–(1, 2) is the greater one
pub other-side : (vs : List Place) (es rs : List Edge) (k : Path) → k.bridge ≡ (at 0 2, at 1 2) →
    Trees sides vs es (k ∷ []) rs → ⊥
unfolding tree_in distance
other-side vs es rs k b t =
    let e : map (given_for sides) (k ∷ []) ≡ ((at 0 0, at 1 0), 3) ∷ [] =
    ap (map (given_for sides)) (trees-only sides-allowed t).paths ∙ paths-given sides-allowed in
    let f = ap (λ (l : List (Edge × ℕ)). total (map (λ (x : Edge × ℕ). distance (at 0 0) x.0.0) l)) e in
    let g : ◌≡◌ {A = ℕ} 2 0 = sym (ap (λ (x : Edge). distance (at 0 0) x.0 + 0) b) ∙ f in
    omega (arith, g)

-- Refined trees: with whatever graph and paths

module _ {vs : List Place} {es : List Edge} {ks : List Path} where
  -- E4, `keeps` and `union`: no edge at all
  pub no_edge : Trees three vs es ks [] → ⊥
  unfolding answer tree_in union refined_of lengths edges_from distance ground_of offer is_point take_seat weighed
  no_edge t = let e : ◌≡◌ {A = ℕ} 0 7 = ap (lengths distance) (trees-only three-allowed t).refined in omega (arith, e)

  -- E4, `rounds`: no gain is reported without trying, so it is the union
  pub never-refined : Trees three vs es ks ((at 0 0, at 2 3) ∷ (at 0 0, at 4 0) ∷ []) → ⊥
  unfolding answer tree_in union refined_of lengths edges_from distance ground_of offer is_point take_seat weighed
  never-refined t = let e : ◌≡◌ {A = ℕ} 9 7 = ap (lengths distance) (trees-only three-allowed t).refined in omega (arith, e)

  -- E4, `in_order` of Refined: the right edges in another order
  pub other-order : Trees three vs es ks ((at 2 0, at 2 3) ∷ (at 0 0, at 2 0) ∷ (at 2 0, at 4 0) ∷ []) → ⊥
  unfolding graph_of
  other-order t = differ (t.refined.in_order.0 (at 0 0, at 2 0) (here refl)) refl

  -- the cross, `rounds`: one round, and idle in the second
  pub one-round : Trees cross vs es ks ((at 0 1, at 1 1) ∷ (at 0 1, at 2 1) ∷ (at 1 0, at 1 1) ∷ (at 1 1, at 1 2) ∷ []) → ⊥
  unfolding answer tree_in union refined_of lengths edges_from distance ground_of offer is_point take_seat weighed
  one-round t = let e : ◌≡◌ {A = ℕ} 5 4 = ap (lengths distance) (trees-only cross-allowed t).refined in omega (arith, e)

  -- the bare corner, `none` of Prunes: (0, 2), no pin, stays with its single edge
  pub never-pruned : Trees bare vs es ks
      ((at 0 0, at 1 0) ∷ (at 0 2, at 1 2) ∷ (at 1 0, at 1 1) ∷ (at 1 1, at 1 2) ∷ (at 1 1, at 3 1) ∷ (at 1 2, at 1 3) ∷ []) → ⊥
  unfolding answer tree_in union refined_of lengths edges_from distance ground_of offer is_point take_seat weighed
  never-pruned t = let e : ◌≡◌ {A = ℕ} 7 6 = ap (lengths distance) (trees-only bare-allowed t).refined in omega (arith, e)

  -- `first` of Takes: of two points with the same gain the later one, though the tree is then shorter
  pub later-point : Trees tied vs es ks ((at 0 3, at 1 2) ∷ (at 1 0, at 1 2) ∷ (at 1 2, at 3 2) ∷ []) → ⊥
  unfolding answer tree_in union refined_of lengths edges_from distance ground_of offer is_point take_seat weighed
  later-point t = let e : ◌≡◌ {A = ℕ} 6 7 = ap (lengths distance) (trees-only tied-allowed t).refined in omega (arith, e)

  -- `above` of Gain: an exchange for nothing, though pruning then makes the tree shorter
  pub exchange-for-nothing : Trees even vs es ks ((at 0 3, at 1 2) ∷ (at 1 0, at 1 2) ∷ (at 1 2, at 2 2) ∷ []) → ⊥
  unfolding answer tree_in union refined_of lengths edges_from distance ground_of offer is_point take_seat weighed
  exchange-for-nothing t = let e : ◌≡◌ {A = ℕ} 5 6 = ap (lengths distance) (trees-only even-allowed t).refined in omega (arith, e)
