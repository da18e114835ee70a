-- The tables of edges by numbers, filled edge by edge.
-- Assumes nothing.
use mathlib.Core.Path.{◌≡◌, refl, sym, ap, ap₂, ◌∙◌}
use mathlib.Core.List.{List}
use Prim.Native.Nat.{ℕ, ◌+◌, ◌*◌, ◌≤◌, ◌<◌}
use native.Mathlib.Omega.{arith}
use lib.IntN.{ℤ}
use lib.ListN.{length, set, replicate, length-replicate}
use Rattle.lent.specs.Entries.{entries}
use Rattle.lent.proofs.EntryTable.{length-entries}
use Rattle.plane.specs.declared.Place.{Place}
use Rattle.plane.specs.declared.Weights.{Weights}
use Rattle.plane.specs.Cost.{cost}
use Rattle.plane.specs.Flat.{place_from, place_at}
use Rattle.sorted.proofs.NumberLaws.{entry_at}
use Rattle.graph.specs.Numbers.{edge_numbers, edge_from}
use Rattle.graph.proofs.WidthLaws.{edge-width}
use Rattle.forest.specs.Bounds.{edge_bound}
use Rattle.forest.specs.Edges.{graph}
use Rattle.terminal.specs.Number.{number_of, edge_at, numbered}
use Rattle.terminal.proofs.FillLaws.{Filling, fill_none, fill_more, fill_end}

-- the first k edges are numbered
pub record Numbering (w : Weights) (vs : List Place) (es : List (Place × Place)) (ea eb el : List ℕ) (k : ℕ) : Type 0 where
  pub ones : Filling (λ e. number_of vs e.0) es (replicate edge_bound 0) ea k
  pub twos : Filling (λ e. number_of vs e.1) es (replicate edge_bound 0) eb k
  pub lengths : Filling (λ e. cost w e.0 e.1) es (replicate edge_bound 0) el k

module _ (w : Weights) (vs : List Place) (es : List (Place × Place)) where
  pub number-none : (ea eb el : List ℕ) → ea ≡ replicate edge_bound 0 → eb ≡ replicate edge_bound 0 → el ≡ replicate edge_bound 0
      → Numbering w vs es ea eb el 0
  number-none ea eb el p q r = record { ones = fill_none ea p; twos = fill_none eb q; lengths = fill_none el r }

  module _ (ea eb el : List ℕ) (k : ℕ) (m : Numbering w vs es ea eb el k) where
    -- one edge more: a and b are its ends as they were read
    pub number_more : (a b : Place) (i j d : ℕ) → k < length es → length es ≤ edge_bound → (a, b) ≡ edge_at es k
        → i ≡ number_of vs a → j ≡ number_of vs b → d ≡ cost w a b → Numbering w vs es (set ea k i) (set eb k j) (set el k d) (k + 1)
    number_more a b i j d h few e p q r =
        let room : k < length {A = ℕ} (replicate edge_bound 0) = omega (arith, length-replicate {A = ℕ} edge_bound 0) in
        record {
          ones = fill_more m.ones i _ h room (p ∙ ap (λ (x : Place × Place). number_of vs x.0) e);
          twos = fill_more m.twos j _ h room (q ∙ ap (λ (x : Place × Place). number_of vs x.1) e);
          lengths = fill_more m.lengths d _ h room (r ∙ ap (λ (x : Place × Place). cost w x.0 x.1) e);
        }

    pub number-end : (n : ℕ) → length es ≤ k → n ≡ length es → graph ea eb el n ≡ numbered w vs es
    unfolding numbered
    number-end n h e = rw (fill_end m.ones h, fill_end m.twos h, fill_end m.lengths h, e) refl

-- an edge read as two places of its table
pub read-edge : (s : List ℤ) (e k : ℕ) → k < e → (a b : Place) → a ≡ place_at s (k * 2) → b ≡ place_at s (k * 2 + 1)
    → (a, b) ≡ edge_at (entries edge_from 4 s e) k
read-edge s e k h a b p q =
    let i : k * 2 * 2 ≡ k * 4 = omega arith in
    let j : (k * 2 + 1) * 2 ≡ k * 4 + 2 = omega arith in
    ap₂ (λ (u v : Place). (u, v)) (p ∙ ap (place_from s) i) (q ∙ ap (place_from s) j) ∙ sym (entry_at edge_from 4 s e k _ h)

pub edge-entries : (s : List ℤ) (e : ℕ) → length (entries edge_from 4 s e) ≡ e
edge-entries s e = length-entries edge_numbers edge_from 4 edge-width s 0 e
