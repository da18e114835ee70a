-- Edges gone through in the order of their table, each giving some entries into lent space: the start, a turn and the end. What is given
-- for an edge is the edge itself, or its wires.
-- Assumes nothing.
use mathlib.Core.Path.{◌≡◌, refl, sym, ap, ap₂, ◌∙◌}
use mathlib.Core.List.{List, [], ◌∷◌, ◌++◌, append_assoc, append-nil}
use Prim.Native.Nat.{ℕ, suc, ◌+◌, ◌-◌, ◌*◌, ◌≤◌, ◌<◌}
use native.Mathlib.Omega.{arith}
use native.Mathlib.Numerals.{add-one}
use lib.IntN.{ℤ}
use lib.ListN.{length, get_or, length-append}
use lib.Seq.{sets}
use Rattle.lent.specs.Over.{over}
use Rattle.lent.specs.Entries.{flat}
use Rattle.lent.proofs.OverLaws.{over_none}
use Rattle.lent.proofs.EntryTable.{flat_append}
use Rattle.graph.specs.Numbers.{edge_numbers}
pub use Rattle.graph.proofs.GivenEdges.{Edge, sets-append, over-sets, edges-long}
use Rattle.tree.specs.Places.{ends_of}
use Rattle.tree.specs.Edges.{edges_from, table_edges}

-- an edge is given as it is
abbrev pub itself : Edge → List Edge
itself x = x ∷ []

abbrev pub all : List Edge → List Edge
all l = l

-- `part` gives some entries for an edge, `give` those of edges one after the other
module _ (part : Edge → List Edge) (give : List Edge → List Edge) (pts : List ℤ) (ks : List ℕ) (e : ℕ) (lent : List ℤ) where
  -- k edges are passed, `count` entries are given, and `table` is what the lent list became
  pub record Giving (table : List ℤ) (count k : ℕ) : Type 0 where
    pub done : List Edge
    pub counted : length done ≡ count
    pub written : table ≡ over (flat edge_numbers done) lent
    pub goal : done ++ give (edges_from pts ks k (e - k)) ≡ give (table_edges pts ks e)

  pub giving-none : Giving lent 0 0
  unfolding flat
  giving-none = record {
    done = [];
    counted = refl;
    written = sym (over_none lent);
    goal = let n : e - 0 ≡ e = omega arith in ap (λ (m : ℕ). give (edges_from pts ks 0 m)) n;
  }

  module _ {table : List ℤ} {count k : ℕ} (g : Giving table count k) where
    pub giving-more : ((x : Edge) (l : List Edge) → give (x ∷ l) ≡ part x ++ give l) → k < e → (x : Edge) → x ≡ ends_of pts (get_or ks k 0)
        → (count + length (part x)) * 4 ≤ length lent → (next : List ℤ) (r : ℕ) → next ≡ sets table (count * 4) (flat edge_numbers (part x))
        → r ≡ count + length (part x) → Giving next r (k + 1)
    unfolding edges_from
    giving-more step h x at room next r stored more = record {
      done = g.done ++ part x;
      counted = length-append g.done (part x) ∙ omega (arith, g.counted, more);
      written =
          stored
          ∙ ap (λ (t : List ℤ). sets t (count * 4) (flat edge_numbers (part x))) g.written
          ∙ over-sets (flat edge_numbers g.done) (flat edge_numbers (part x)) lent (count * 4)
          (edges-long g.done ∙ omega (arith, g.counted)) (omega (arith, edges-long (part x)))
          ∙ ap (λ (l : List ℤ). over l lent) (sym (flat_append edge_numbers g.done (part x)));
      goal =
          let n : e - k ≡ suc (e - (k + 1)) = omega arith in
          let next : edges_from pts ks k (e - k) ≡ x ∷ edges_from pts ks (k + 1) (e - (k + 1)) =
          ap (edges_from pts ks k) n ∙ ap₂ (λ (y : Edge) (i : ℕ). y ∷ edges_from pts ks i (e - (k + 1))) (sym at) (sym (add-one k)) in
          append_assoc g.done (part x) (give (edges_from pts ks (k + 1) (e - (k + 1))))
          ∙ ap (λ (l : List Edge). g.done ++ l) (sym (step x (edges_from pts ks (k + 1) (e - (k + 1)))) ∙ ap give (sym next))
          ∙ g.goal;
    }

    giving-done : give [] ≡ [] → k ≡ e → g.done ≡ give (table_edges pts ks e)
    unfolding edges_from
    giving-done none h =
        let n : e - k ≡ 0 = omega arith in
        sym (append-nil g.done)
        ∙ ap (λ (l : List Edge). g.done ++ l) (sym (ap (λ (m : ℕ). give (edges_from pts ks k m)) n ∙ none))
        ∙ g.goal

    pub giving-count : give [] ≡ [] → k ≡ e → count ≡ length (give (table_edges pts ks e))
    giving-count none h = sym g.counted ∙ ap length (giving-done none h)

    pub giving-end : give [] ≡ [] → k ≡ e → table ≡ over (flat edge_numbers (give (table_edges pts ks e))) lent
    giving-end none h = g.written ∙ ap (λ (l : List Edge). over (flat edge_numbers l) lent) (giving-done none h)
