-- A shifted net: its trees are the trees of the net, shifted.
-- Assumes nothing.
use mathlib.Core.Path.{◌≡◌, refl, sym, ap, ap₂, ◌∙◌, subst}
use mathlib.Core.Bool.{true}
use mathlib.Core.Logic.{◌⊎◌, inl, inr}
use mathlib.Core.List.Memᴰ
use mathlib.Core.List.{List, map}
use lib.IntN.{ℤ, ◌+ℤ◌, neg_ℤ}
use lib.ListN.{length-map}
use Rattle.lists.specs.Member.{◌∈◌}
use Rattle.lists.proofs.TestLaws.{either}
use Rattle.lists.proofs.MapLaws.{in_map, of_map}
use Rattle.plane.specs.declared.Place.{Place}
use Rattle.plane.specs.declared.Macro.{Macro}
use Rattle.plane.specs.declared.Weights.{Weights}
use Rattle.plane.specs.Place.{place}
use Rattle.plane.specs.Macro.{macro, clear}
use Rattle.net.specs.Net.{Net}
use Rattle.net.specs.Allowed.{Allowed}
use Rattle.graph.specs.Spanning.{vertices_of, spanning}
use Rattle.refiner.specs.Refined.{refined}
use Rattle.union.specs.Union.{union_of}
use Rattle.tree.specs.Edges.{tree_edges}
use Rattle.refined.specs.Ground.{ground_of}
use Rattle.rules.specs.Edges.{Edge}
use Rattle.rules.specs.Spanning.{CornerOf, Vertex, Quadrant, first, second, third, fourth, Lies}
use Rattle.rules.specs.Trees.{Equal}
use Rattle.rules.proofs.TerminalOurs.{our_paths}
use Rattle.rules.proofs.TreesOrder.{net_by, SameNet}
use Rattle.rules.proofs.TreesOurs.{trees-ours, trees-only}
use Rattle.rules.specs.Moved.{moved_edge, moved_path}
use Rattle.site.specs.Shift.{shift, shift_macro, shift_net}
use Rattle.site.proofs.ShiftLaws.{lt-there, le-there, add-neg, neg-add, before-there, cost-there, middle-place-there, clear-there}
use Rattle.rules.proofs.TreesMoved.{Moves}
use Rattle.rules.proofs.RefinedMoved.{trees-there}

module _ (dx dy : ℤ) where
  abbrev pub unshift : Place → Place
  unshift = shift (neg_ℤ dx) (neg_ℤ dy)

  pub unshifted : (p : Place) → unshift (shift dx dy p) ≡ p
  unshifted p = ap₂ place (add-neg dx p.x) (add-neg dy p.y)

  pub shifted : (p : Place) → shift dx dy (unshift p) ≡ p
  shifted p = ap₂ place (neg-add dx p.x) (neg-add dy p.y)

  pub macro-unshifted : (m : Macro) → shift_macro (neg_ℤ dx) (neg_ℤ dy) (shift_macro dx dy m) ≡ m
  macro-unshifted m =
      ap₂ (λ (f : ℤ → ℤ → Macro) (p : ℤ × ℤ). f p.0 p.1)
      (ap₂ macro (add-neg dx m.left) (add-neg dy m.bottom))
      (ap₂ (λ (a b : ℤ). (a, b)) (add-neg dx m.right) (add-neg dy m.top))

  lies-there : (q : Quadrant) (x y : Place) → Lies q x y → Lies q (shift dx dy x) (shift dx dy y)
  lies-there first x y l = (lt-there dx x.x y.x ∙ l.0, le-there dy x.y y.y ∙ l.1)
  lies-there second x y l = (le-there dx y.x x.x ∙ l.0, lt-there dy x.y y.y ∙ l.1)
  lies-there third x y l = (lt-there dx y.x x.x ∙ l.0, le-there dy y.y x.y ∙ l.1)
  lies-there fourth x y l = (le-there dx x.x y.x ∙ l.0, lt-there dy y.y x.y ∙ l.1)

  side-there : (d : ℤ) {v a b : ℤ} → (v ≡ a) ⊎ (v ≡ b) → (v +ℤ d ≡ a +ℤ d) ⊎ (v +ℤ d ≡ b +ℤ d)
  side-there d c = either (λ e. inl (ap (λ (z : ℤ). z +ℤ d) e)) (λ e. inr (ap (λ (z : ℤ). z +ℤ d) e)) c

  corner-there : (m : Macro) (v : Place) → CornerOf m v → CornerOf (shift_macro dx dy m) (shift dx dy v)
  corner-there m v c = (side-there dx c.0, side-there dy c.1)

abbrev pub refined_edges : Net → List Edge
refined_edges net = tree_edges (refined net (ground_of net) (union_of net))

-- A net, and another with the entries of the shifted one in whatever order
module _ (dx dy : ℤ) (W : Weights) (ps qs : List Place) (ms ns : List Macro)
    (h : SameNet W (map (shift dx dy) ps) qs (map (shift_macro dx dy) ms) ns) where
  vertex-there : (v : Place) → Vertex (net_by W ps ms) v → Vertex (net_by W qs ns) (shift dx dy v)
  vertex-there v (inl i) = inl (h.to (shift dx dy v) (in_map (shift dx dy) i))
  vertex-there v (inr (m, (i, c))) =
      inr (shift_macro dx dy m, (h.macros-to (shift_macro dx dy m) (in_map (shift_macro dx dy) i), corner-there dx dy m v c))

  pin-back : (v : Place) → v ∈ qs → unshift dx dy v ∈ ps
  pin-back v i =
      let s = of_map (shift dx dy) ps (h.from v i) in Memᴰ.cast (ap (unshift dx dy) s.is ∙ unshifted dx dy s.entry) s.stands

  vertex-back : (v : Place) → Vertex (net_by W qs ns) v → Vertex (net_by W ps ms) (unshift dx dy v)
  vertex-back v (inl i) = inl (pin-back v i)
  vertex-back v (inr (m, (i, c))) =
      let s = of_map (shift_macro dx dy) ms (h.macros-from m i) in
      let e : shift_macro (neg_ℤ dx) (neg_ℤ dy) m ≡ s.entry
      = ap (shift_macro (neg_ℤ dx) (neg_ℤ dy)) s.is ∙ macro-unshifted dx dy s.entry in
      inr (s.entry, (s.stands, subst (λ (z : Macro). CornerOf z (unshift dx dy v)) e (corner-there (neg_ℤ dx) (neg_ℤ dy) m v c)))

  pub moves-with : Moves (shift dx dy) (unshift dx dy) (net_by W ps ms) (net_by W qs ns)
  moves-with = record {
    to = record {
      undone = unshifted dx dy;
      order = before-there dx dy;
      lies = lies-there dx dy;
      costs = cost-there dx dy W;
      middle = middle-place-there dx dy;
      clears = λ x y. sym (h.clears (shift dx dy x) (shift dx dy y)) ∙ clear-there dx dy x y ms;
      pin = λ x i. h.to (shift dx dy x) (in_map (shift dx dy) i);
      vertex = vertex-there;
    };
    back = record {
      undone = shifted dx dy;
      order = before-there (neg_ℤ dx) (neg_ℤ dy);
      lies = lies-there (neg_ℤ dx) (neg_ℤ dy);
      costs = cost-there (neg_ℤ dx) (neg_ℤ dy) W;
      middle = middle-place-there (neg_ℤ dx) (neg_ℤ dy);
      clears =
          λ x y.
          sym (clear-there dx dy (unshift dx dy x) (unshift dx dy y) ms)
          ∙ ap₂ (λ (p q : Place). clear p q (map (shift_macro dx dy) ms)) (shifted dx dy x) (shifted dx dy y)
          ∙ h.clears x y;
      pin = pin-back;
      vertex = vertex-back;
    };
    count = sym (length-map ps (shift dx dy)) ∙ h.count;
  }

  -- so the trees that are given for it are those of the net, shifted
  pub trees-shifted : (a : Allowed (net_by W ps ms)) (b : Allowed (net_by W qs ns)) →
      Equal (map (shift dx dy) (vertices_of (net_by W ps ms))) (vertices_of (net_by W qs ns))
      (map (moved_edge (shift dx dy)) (spanning (net_by W ps ms))) (spanning (net_by W qs ns))
      (map (moved_path (shift dx dy)) (our_paths a)) (our_paths b)
      (map (moved_edge (shift dx dy)) (refined_edges (net_by W ps ms))) (refined_edges (net_by W qs ns))
  trees-shifted a b = trees-only b (trees-there moves-with (trees-ours a))

-- the shifted net itself
pub stays_same : (dx dy : ℤ) (net : Net) → SameNet net.weights (map (shift dx dy) net.pins) (shift_net dx dy net).pins
    (map (shift_macro dx dy) net.macros) (shift_net dx dy net).macros
stays_same dx dy net = record {
  to = λ x i. i;
  from = λ x i. i;
  count = refl;
  macros-to = λ x i. i;
  macros-from = λ x i. i;
  clears = λ x y. refl;
}

pub moves : (dx dy : ℤ) (net : Net) → Moves (shift dx dy) (unshift dx dy) net (shift_net dx dy net)
moves dx dy net =
    moves-with dx dy net.weights net.pins (shift_net dx dy net).pins net.macros (shift_net dx dy net).macros (stays_same dx dy net)
