-- The tables of an allowed net's terminal tree are what `union::start` asks for, what it makes of them is the net's union, and that is what
-- `refiner::refine` asks for.
-- Assumes nothing.
use mathlib.Core.Path.{◌≡◌, refl, ap, ◌∙◌}
use mathlib.Core.List.{List}
use Prim.Native.Nat.{ℕ}
use native.Mathlib.Omega.{arith}
use lib.IntN.{ℤ}
use lib.ListN.{length}
use Rattle.lists.specs.Member.{◌∈◌}
use Rattle.plane.specs.declared.Place.{Place}
use Rattle.plane.specs.Flat.{place_at}
use Rattle.net.specs.Allowed.{Allowed}
use Rattle.net.specs.Net.{Net}
use Rattle.graph.specs.Spanning.{vertices_of}
use Rattle.graph.proofs.GraphBounds.{few-vertices}
use Rattle.forest.specs.Edges.{Graph, graph, entries}
use Rattle.forest.specs.Labels.{Labels, labelled}
use Rattle.forest.specs.Parents.{Parents, parents}
use Rattle.keeping.specs.Kept.{terminal}
use Rattle.keeping.proofs.KeptLaws.{read-listed, entry_listed}
use Rattle.forest.proofs.Nearest.{fits}
use Rattle.forest.proofs.ParentLaws.{falls-parented}
use Rattle.keeping.proofs.WholeLaws.{of-kept}
use Rattle.terminal.specs.declared.TerminalTree.{TerminalTree}
use Rattle.terminal.specs.Number.{vertex_at, pin_numbers}
use Rattle.terminal.specs.Tree.{graph_of, tree_of}
use Rattle.terminal.specs.Tables.{Tables, Worked}
use Rattle.terminal.proofs.SettingOf.{setting, paths-count}
use Rattle.union.specs.Union.{union_points, start_of, union_of}
use Rattle.union.specs.Marks.{Startable}
use Rattle.union.proofs.StartLaws.{map-agree}
use Rattle.union.proofs.PlacedLaws.{place-at}
use Rattle.union.proofs.UnionSound.{union-less, union-below}

-- the start depends on the places of the union's points alone
start-agree : (g : Graph) (fars : List ℕ) (p : Parents) (ks : List ℕ) (f h : ℕ → Place) (n : ℕ) (pins : List ℕ) →
    ((v : ℕ) → v ∈ union_points g fars p ks n pins → f v ≡ h v) → start_of g fars p ks f n pins ≡ start_of g fars p ks h n pins
unfolding start_of
start-agree g fars p ks f h n pins a = rw (map-agree f h (union_points g fars p ks n pins) a) refl

module _ {net : Net} (a : Allowed net) {lent t : Tables} {r : TerminalTree} (w : Worked net lent t r) where
  abbrev g : Graph
  g = graph_of net

  abbrev n : ℕ
  n = length (vertices_of net)

  startable : Startable g n t.pins r.pins (tree_of net).labels.fars (tree_of net).parents t.kept r.kept
  unfolding tree_of terminal
  startable =
      let s = setting a in
      record {
        fits = fits s;
        falls = falls-parented g n (labelled g n (pin_numbers (vertices_of net) net.pins)) (few-vertices a) (fits s);
        vertices = few-vertices a;
        one_in = s.one_in;
        two_in = s.two_in;
        pins-few = omega (arith, w.pin-count, a.few-pins);
        pins-in = record { inside = λ i h. omega (arith, few-vertices a, s.sources-in _ (entry_listed _ _ _ _ w.pins-are i h)) };
        kept-few = omega (arith, w.bridges-are.count, paths-count a, a.few-pins);
        kept_in = record { inside = λ i h. (of-kept _ _ _ _ (entry_listed _ _ _ _ w.bridges-are i h)).0 };
        room = rw (read-listed _ _ _ _ w.bridges-are) (union-less a);
      }

  far-is : t.fars ≡ (tree_of net).labels.fars
  far-is = ap (λ (l : Labels). l.fars) w.labels-are

  pub worked-startable : Startable (graph t.ones t.twos t.spans r.edges) r.points t.pins r.pins t.fars
      (parents t.ups t.vias) t.kept r.kept
  worked-startable = rw (w.graph_is, w.vertex-count, far-is, w.parents-are) startable

  pub worked-start : start_of (graph t.ones t.twos t.spans r.edges) t.fars (parents t.ups t.vias)
      (entries t.kept 0 r.kept) (place_at t.points) r.points (entries t.pins 0 r.pins)
      ≡ union_of net
  unfolding union_of
  worked-start =
      rw (w.graph_is, w.vertex-count, far-is, w.parents-are, read-listed _ _ _ _ w.bridges-are, read-listed _ _ _ _ w.pins-are)
      (start-agree g (tree_of net).labels.fars (tree_of net).parents (tree_of net).bridges (place_at t.points)
      (vertex_at (vertices_of net)) n
      (pin_numbers (vertices_of net) net.pins)
      (λ v m.
      ap (λ (l : List ℤ). place_at l v) w.vertices-are ∙ place-at (vertices_of net) lent.points v (union-below a v m)))
