-- The kept paths: one fewer than the pins, none longer than a bound, their sum the total; and what the tables hold once the tree is worked
-- out are these paths, which can be given.
-- Assumes nothing.
use mathlib.Core.Path.{◌≡◌, refl, sym, ap, ap₂, ◌∙◌}
use mathlib.Core.List.{List, [], ◌∷◌, ◌++◌, map, append-nil}
use Prim.Native.Nat.{ℕ, suc, ◌*◌, ◌≤◌, ◌<◌}
use native.Mathlib.Nat.{suc-mul}
use native.Mathlib.Omega.{arith}
use lib.IntN.{pos}
use lib.ListN.{length, get_or, length-map}
use lib.Seq.{drop-nil, ext_get_or}
use Rattle.lists.specs.Member.{◌∈◌, here, there}
use Rattle.lists.specs.Total.{total}
use Rattle.lists.proofs.MemberLaws.{get_d-in}
use Rattle.lists.proofs.MapLaws.{of_map, get_d_map}
use Rattle.lent.specs.Over.{over}
use Rattle.plane.specs.declared.Place.{Place}
use Rattle.plane.specs.Place.{place}
use Rattle.net.specs.Allowed.{Allowed}
use Rattle.net.specs.Net.{Net}
use Rattle.sorted.proofs.NumberLaws.{entry_at}
use Rattle.graph.specs.Spanning.{vertices_of, spanning}
use Rattle.graph.specs.Numbers.{edge_from}
use Rattle.graph.proofs.VertexLaws.{pin-vertex, vertices-ascending}
use Rattle.graph.proofs.GraphBounds.{few-vertices, few-edges}
use Rattle.net.specs.Bounds.{pin_bound}
use Rattle.forest.specs.Bounds.{point_bound, path_bound}
use Rattle.forest.specs.Edges.{from, entries as entries_in, FirstBelow, Listed}
use Rattle.forest.specs.Labels.{labelled}
use Rattle.forest.specs.Parents.{parented}
use Rattle.bridges.specs.Bridges.{path_length}
use Rattle.keeping.specs.Kept.{kept_lengths, terminal}
use Rattle.forest.proofs.EdgeLaws.{get_d-from, length_from}
use Rattle.bridges.proofs.PathParts.{path-low}
use Rattle.keeping.proofs.KeptLaws.{read-listed, entry_listed}
use Rattle.keeping.proofs.WholeLaws.{of-kept}
use Rattle.forest.proofs.ForestLaws.{made-fine, made-falls}
use Rattle.forest.proofs.Nearest.{fits}
use Rattle.terminal.specs.declared.TerminalTree.{TerminalTree}
use Rattle.terminal.specs.Number.{edge_at, pin_numbers}
use Rattle.terminal.specs.Tree.{graph_of, tree_of, bridges_of, lengths_of, total_of, paths_of}
use Rattle.terminal.specs.Tables.{Tables, Fresh, Worked, path_at, paths_in, Givable}
use Rattle.terminal.proofs.NumberLaws.{get_d_over, count_of, pin-small}
use Rattle.terminal.proofs.SettingOf.{setting, paths-count}
use Rattle.terminal.proofs.WorkLaws.{worked-charted, edges-in, links-long}

-- The paths of a net

module _ (net : Net) where
  -- the length of the path over edge k
  abbrev pub length_over : ℕ → ℕ
  length_over = path_length (graph_of net) (tree_of net).labels.fars (tree_of net).parents

  pub lengths-over : lengths_of net ≡ map length_over (tree_of net).bridges
  unfolding tree_of terminal kept_lengths
  lengths-over = refl

  pub bridge-inside : (k : ℕ) → k ∈ (tree_of net).bridges → k < length (spanning net)
  unfolding tree_of terminal
  bridge-inside k m =
      let r = (of-kept (graph_of net) (tree_of net).labels (tree_of net).parents k m).0 in
      rw (count_of net.weights (vertices_of net) (spanning net)) at r

  -- their bridges and their lengths
  pub paths-bridges : map (λ (p : (Place × Place) × ℕ). p.0) (paths_of net) ≡ bridges_of net
  unfolding paths_of bridges_of
  paths-bridges = each (tree_of net).bridges
    where
      each : (ks : List ℕ)
          → map (λ (p : (Place × Place) × ℕ). p.0) (map (λ k. (edge_at (spanning net) k, length_over k)) ks)
          ≡ map (edge_at (spanning net)) ks
      each [] = refl
      each (k ∷ ks) = ap (λ (l : List (Place × Place)). edge_at (spanning net) k ∷ l) (each ks)

  pub paths-lengths : map (λ (p : (Place × Place) × ℕ). p.1) (paths_of net) ≡ lengths_of net
  unfolding paths_of
  paths-lengths = each (tree_of net).bridges ∙ sym lengths-over
    where
      each : (ks : List ℕ) → map (λ (p : (Place × Place) × ℕ). p.1) (map (λ k. (edge_at (spanning net) k, length_over k)) ks)
          ≡ map length_over ks
      each [] = refl
      each (k ∷ ks) = ap (λ (l : List ℕ). length_over k ∷ l) (each ks)

  -- T16: the total is the sum of the lengths
  pub total-sum : total_of net ≡ total (lengths_of net)
  unfolding tree_of terminal
  total-sum = refl

-- a list over nothing is itself
alone : (xs : List ℕ) → Listed xs [] xs (length xs)
unfolding over
alone xs = record {
  count = refl;
  table_is = sym (ap (λ (l : List ℕ). xs ++ l) (drop-nil (length xs)) ∙ append-nil xs);
}

-- numbers that are all small have a small sum
total-le : (b : ℕ) (l : List ℕ) → ((x : ℕ) → x ∈ l → x ≤ b) → total l ≤ length l * b
unfolding total
total-le b [] h = omega arith
total-le b (x ∷ l) h = omega (arith, h x (here refl), total-le b l (λ y m. h y (there m)), suc-mul (length l) b)

module _ {net : Net} (a : Allowed net) where
  pins-below : (m : ℕ) → m ≡ length (pin_numbers (vertices_of net) net.pins) →
      FirstBelow (pin_numbers (vertices_of net) net.pins) m point_bound
  pins-below m e = record {
    inside = λ i h.
        (let j : i < length (pin_numbers (vertices_of net) net.pins) = omega (arith, e, h) in
        let r = pin-small (vertices_of net) net.pins (vertices-ascending net) (λ q k. pin-vertex net k) _
        (get_d-in (pin_numbers (vertices_of net) net.pins) i 0 j) in
        omega (arith, r, few-vertices a));
  }

  pub path-small : (k : ℕ) → k ∈ (tree_of net).bridges → length_over net k ≤ path_bound
  unfolding tree_of terminal
  path-small k m =
      let pins = pin_numbers (vertices_of net) net.pins in
      let n = length (vertices_of net) in
      let same : entries_in pins 0 (length pins) ≡ pins = read-listed pins [] pins (length pins) (alone pins) in
      let t-is : (tree_of net).labels ≡ labelled (graph_of net) n (entries_in pins 0 (length pins)) =
      ap (labelled (graph_of net) n) (sym same) in
      let p-is : (tree_of net).parents ≡ parented (graph_of net) n (labelled (graph_of net) n (entries_in pins 0 (length pins))) =
      ap (λ (l : List ℕ). parented (graph_of net) n (labelled (graph_of net) n l)) (sym same) in
      let f = fits (setting a) in
      let inside = pins-below (length pins) refl in
      path-low (graph_of net) (tree_of net).labels.fars (tree_of net).parents f
      (made-falls (graph_of net) n (length pins) pins _ _ f (few-vertices a) inside t-is p-is)
      (made-fine (graph_of net) n (length pins) pins _ (tree_of net).parents f (few-vertices a) inside t-is p-is).low
      k (of-kept (graph_of net) (tree_of net).labels (tree_of net).parents k m).0

  length-small : (d : ℕ) → d ∈ lengths_of net → d ≤ path_bound
  length-small d m =
      let r = of_map (length_over net) (tree_of net).bridges (rw (lengths-over net) at m) in
      rw r.is (path-small r.entry r.stands)

  -- the total is far below what 64 bits hold
  pub total-small : total_of net ≤ pin_bound * path_bound
  total-small =
      let n : length (lengths_of net) ≡ length (tree_of net).bridges =
      ap length (lengths-over net) ∙ length-map (tree_of net).bridges (length_over net) in
      omega (arith, total-sum net, total-le path_bound (lengths_of net) length-small, n, paths-count a, a.few-pins)

  -- T14: m − 1 paths are kept
  pub paths-one-fewer : suc (length (paths_of net)) ≡ length net.pins
  unfolding paths_of
  paths-one-fewer =
      ap suc (length-map (tree_of net).bridges (λ k. (edge_at (spanning net) k, length_over net k))) ∙ paths-count a

  -- What the tables hold

  module _ {lent t : Tables} {r : TerminalTree} (fresh : Fresh lent) (w : Worked net lent t r) where
    -- one path fewer than pins
    pub kept-fewer : suc r.kept ≡ length net.pins
    kept-fewer = ap suc w.bridges-are.count ∙ paths-count a

    edge-read : (k : ℕ) → k < length (spanning net) → edge_from t.links (k * 4) ≡ edge_at (spanning net) k
    edge-read k h =
        sym (entry_at edge_from 4 t.links r.edges k (place (pos 0) (pos 0), place (pos 0) (pos 0)) (omega (arith, h, w.edge_count)))
        ∙ ap (λ (es : List (Place × Place)). edge_at es k) (edges-in a fresh (worked-charted w))

    -- the i-th kept path
    at : (i : ℕ) → i < length (tree_of net).bridges
        → path_at t.links t.kept t.longs i
        ≡ (edge_at (spanning net) (get_or (tree_of net).bridges i 0), length_over net (get_or (tree_of net).bridges i 0))
    at i h =
        let ks = (tree_of net).bridges in
        let k : get_or t.kept i 0 ≡ get_or ks i 0 =
        ap (λ (l : List ℕ). get_or l i 0) w.bridges-are.table_is ∙ get_d_over ks lent.kept i 0 h in
        let more : i < length (lengths_of net) = omega (arith, ap length (lengths-over net), length-map ks (length_over net), h) in
        let d : get_or t.longs i 0 ≡ length_over net (get_or ks i 0) =
        ap (λ (l : List ℕ). get_or l i 0) w.lengths-are.table_is
        ∙ get_d_over (lengths_of net) lent.longs i 0 more
        ∙ ap (λ (l : List ℕ). get_or l i 0) (lengths-over net)
        ∙ get_d_map (length_over net) ks i 0 0 h in
        let e : edge_from t.links (get_or t.kept i 0 * 4) ≡ edge_at (spanning net) (get_or ks i 0) =
        ap (λ (j : ℕ). edge_from t.links (j * 4)) k ∙ edge-read (get_or ks i 0) (bridge-inside net _ (get_d-in ks i 0 h)) in
        ap₂ (λ (q : Place × Place) (n : ℕ). (q, n)) e d

    pub worked-paths : paths_in t.links t.kept t.longs r.kept ≡ paths_of net
    unfolding paths_in paths_of
    worked-paths =
        let ks = (tree_of net).bridges in
        let f : ℕ → (Place × Place) × ℕ = path_at t.links t.kept t.longs in
        let g : ℕ → (Place × Place) × ℕ = λ k. (edge_at (spanning net) k, length_over net k) in
        let none : (Place × Place) × ℕ = ((place (pos 0) (pos 0), place (pos 0) (pos 0)), 0) in
        let n = r.kept in
        let count = w.bridges-are.count in
        ext_get_or none (map f (from 0 n)) (map g ks)
        (length-map (from 0 n) f ∙ length_from 0 n ∙ count ∙ sym (length-map ks g))
        (λ i h.
        (let j : i < n = omega (arith, length-map (from 0 n) f, length_from 0 n, h) in
        let j' : i < length (from 0 n) = omega (arith, length_from 0 n, j) in
        let m : i < length ks = omega (arith, count, j) in
        get_d_map f (from 0 n) i 0 none j' ∙ ap f (get_d-from 0 n i j ∙ omega arith) ∙ at i m ∙ sym (get_d_map g ks i 0 none m)))

    pub worked-givable : (room : ℕ) → length net.pins * 5 ≤ room → Givable t.links t.kept t.longs r.kept room
    worked-givable room h =
        record {
          edges-known = links-long a fresh (worked-charted w) ∙ fresh.links;
          few = omega (arith, kept-fewer, a.few-pins);
          bridge = λ i k.
              (let b = bridge-inside net _ (entry_listed _ _ t.kept r.kept w.bridges-are i k) in omega (arith, b, few-edges a));
          short = λ i k. length-small _ (entry_listed _ _ t.longs r.kept w.lengths-are i k);
          space = omega (arith, kept-fewer, h);
        }
