-- Edges put into lent space row by row: the start, a turn and the end of a row, and of all rows. Before that, stores one after the other.
-- Assumes nothing.
use mathlib.Core.Path.{◌≡◌, refl, sym, ap, ap₂, ◌∙◌}
use mathlib.Core.Bool.{true, false}
use mathlib.Core.List.{List, [], ◌∷◌, ◌++◌, append_assoc, append-nil}
use Prim.Native.Nat.{ℕ, suc, ◌+◌, ◌-◌, ◌*◌, ◌/◌, ◌≤◌, ◌<◌}
use native.Mathlib.Numerals.{add-one}
use native.Mathlib.Omega.{arith}
use lib.IntN.{ℤ}
use lib.ListN.{length, set, length-append}
use lib.Seq.{sets}
use Rattle.lists.specs.Sorted.{Ascending}
use Rattle.lent.specs.Over.{over}
use Rattle.lent.specs.Entries.{flat}
use Rattle.lent.proofs.OverLaws.{over_none, over-more}
use Rattle.lent.proofs.EntryTable.{flat_append, length-flat}
use Rattle.plane.specs.declared.Place.{Place}
use Rattle.plane.specs.declared.Macro.{Macro}
use Rattle.plane.specs.declared.Weights.{Weights}
use Rattle.plane.specs.Place.{before}
use Rattle.plane.specs.Flat.{places_of, place_at}
use Rattle.plane.proofs.FlatLaws.{length-places}
use Rattle.graph.specs.Numbers.{edge_numbers, edge_from}
use Rattle.graph.specs.Edges.{edges}
use Rattle.links.specs.Links.{PicksHeld, is_linked, row_from, row, rows}
use Rattle.links.proofs.LinkLaws.{row-none, row-hit, row-miss, rows_none, rows_more}
use Rattle.graph.proofs.WidthLaws.{edge-width}
use Rattle.graph.proofs.EdgeLaws.{length-edges}
use Rattle.graph.proofs.RowLaws.{rows-are-edges}

-- Stores one after the other

module _ {X : Type 0} where
  pub sets-append : (l : List X) (i j : ℕ) (xs ys : List X) → j ≡ i + length xs → sets (sets l i xs) j ys ≡ sets l i (xs ++ ys)
  sets-append l i j [] ys e = let f : j ≡ i = omega arith in rw f refl
  sets-append l i j (x ∷ xs) ys e = sets-append (set l i x) (suc i) j xs ys (omega arith)

  -- just past what is written
  pub over-sets : (xs ys lent : List X) (k : ℕ) → length xs ≡ k → k + length ys ≤ length lent
      → sets (over xs lent) k ys ≡ over (xs ++ ys) lent
  over-sets xs [] lent k e h = ap (λ (l : List X). over l lent) (sym (append-nil xs))
  over-sets xs (y ∷ ys) lent k e h =
      let n : length (xs ++ (y ∷ [])) ≡ suc k = length-append xs (y ∷ []) ∙ omega (arith, e) in
      ap (λ (l : List X). sets l (suc k) ys) (over-more xs lent k y e (omega arith))
      ∙ over-sets (xs ++ (y ∷ [])) ys lent (suc k) n (omega arith)
      ∙ ap (λ (l : List X). over l lent) (append_assoc xs (y ∷ []) ys)

abbrev pub Edge : Type 0
Edge = Place × Place

pub edges-long : (es : List Edge) → length (flat edge_numbers es) ≡ length es * 4
edges-long es = length-flat edge_numbers edge_from 4 edge-width es

-- A row: the a-th vertex's edges to later ones, from the i-th edge on

module _ (picked : List ℕ) (s : List ℤ) (n a i : ℕ) (lent : List ℤ) where
  -- vertices below b are passed, and `table` is what the lent list became
  pub record InRow (table : List ℤ) (count b : ℕ) : Type 0 where
    pub done : List Edge
    pub counted : count ≡ i + length done
    pub written : table ≡ sets lent (i * 4) (flat edge_numbers done)
    pub goal : done ++ row_from picked s a b (n - b) ≡ row picked s a n

  pub row-start : InRow lent i (a + 1)
  unfolding flat
  row-start = record {
    done = [];
    counted = omega arith;
    written = refl;
    goal = ap₂ (λ (b m : ℕ). row_from picked s a b m) (add-one a) (ap (λ (b : ℕ). n - b) (add-one a));
  }

  module _ {table : List ℤ} {count b : ℕ} (g : InRow table count b) (h : b < n) where
    -- what is left begins with b
    next : row_from picked s a b (n - b) ≡ row_from picked s a b (suc (n - (b + 1)))
    next = let e : n - b ≡ suc (n - (b + 1)) = omega arith in ap (row_from picked s a b) e

    hit : is_linked picked a b ≡ true → g.done ++ ((place_at s a, place_at s b) ∷ row_from picked s a (b + 1) (n - (b + 1))) ≡ row picked s a n
    hit t =
        ap (λ (l : List Edge). g.done ++ l)
        (ap (λ (c : ℕ). (place_at s a, place_at s b) ∷ row_from picked s a c (n - (b + 1))) (add-one b)
        ∙ sym (next ∙ row-hit picked s a b (n - (b + 1)) t))
        ∙ g.goal

    -- there is room for one edge more
    pub row_room : is_linked picked a b ≡ true → count + 1 ≤ i + length (row picked s a n)
    row_room t =
        omega (
          arith,
          g.counted,
          ap length (hit t),
          length-append g.done ((place_at s a, place_at s b) ∷ row_from picked s a (b + 1) (n - (b + 1))),
        )

    pub row_put : is_linked picked a b ≡ true → (after : List ℤ) → after ≡ sets table (count * 4) (edge_numbers (place_at s a, place_at s b))
        → InRow after (count + 1) (b + 1)
    unfolding flat
    row_put t after e = record {
      done = g.done ++ ((place_at s a, place_at s b) ∷ []);
      counted = omega (arith, g.counted, length-append g.done ((place_at s a, place_at s b) ∷ []));
      written =
          e
          ∙ ap (λ (l : List ℤ). sets l (count * 4) (edge_numbers (place_at s a, place_at s b))) g.written
          ∙ sets-append lent (i * 4) (count * 4) (flat edge_numbers g.done) (edge_numbers (place_at s a, place_at s b))
          (omega (arith, g.counted, edges-long g.done))
          ∙ ap (sets lent (i * 4)) (sym (flat_append edge_numbers g.done ((place_at s a, place_at s b) ∷ [])));
      goal = append_assoc g.done ((place_at s a, place_at s b) ∷ []) (row_from picked s a (b + 1) (n - (b + 1))) ∙ hit t;
    }

    pub row-pass : is_linked picked a b ≡ false → InRow table count (b + 1)
    row-pass t = record {
      done = g.done;
      counted = g.counted;
      written = g.written;
      goal =
          ap (λ (l : List Edge). g.done ++ l)
          (ap (λ (c : ℕ). row_from picked s a c (n - (b + 1))) (add-one b) ∙ sym (next ∙ row-miss picked s a b (n - (b + 1)) t))
          ∙ g.goal;
    }

  module _ {table : List ℤ} {count b : ℕ} (g : InRow table count b) (h : n ≤ b) where
    whole : g.done ≡ row picked s a n
    whole =
        let e : n - b ≡ 0 = omega arith in
        sym (append-nil g.done)
        ∙ ap (λ (l : List Edge). g.done ++ l) (sym (ap (row_from picked s a b) e ∙ row-none picked s a b))
        ∙ g.goal

    pub row-end : (count ≡ i + length (row picked s a n)) × (table ≡ sets lent (i * 4) (flat edge_numbers (row picked s a n)))
    row-end = (
      g.counted ∙ ap (λ (l : List Edge). i + length l) whole,
      g.written
          ∙ ap (λ (l : List Edge). sets lent (i * 4) (flat edge_numbers l)) whole,
    )

-- All rows

module _ (s : List ℤ) (picked : List ℕ) (lent : List ℤ) where
  abbrev pub all_rows : List Edge
  all_rows = rows picked s (length s / 2) 0 (length s / 2)

  -- rows below a are put
  pub record InRows (table : List ℤ) (count a : ℕ) : Type 0 where
    pub done : List Edge
    pub counted : count ≡ length done
    pub written : table ≡ over (flat edge_numbers done) lent
    pub goal : done ++ rows picked s (length s / 2) a (length s / 2 - a) ≡ all_rows

  pub rows_start : InRows lent 0 0
  unfolding flat
  rows_start = record {
    done = [];
    counted = refl;
    written = sym (over_none lent);
    goal = let n : length s / 2 - 0 ≡ length s / 2 = omega arith in ap (rows picked s (length s / 2) 0) n;
  }

  module _ {table : List ℤ} {count a : ℕ} (g : InRows table count a) (h : a < length s / 2) (room : length all_rows * 4 ≤ length lent) where
    turn : g.done ++ (row picked s a (length s / 2) ++ rows picked s (length s / 2) (a + 1) (length s / 2 - (a + 1))) ≡ all_rows
    turn =
        let n = length s / 2 in
        let e : n - a ≡ suc (n - (a + 1)) = omega arith in
        ap (λ (l : List Edge). g.done ++ l)
        (ap (λ (c : ℕ). row picked s a n ++ rows picked s n c (n - (a + 1))) (add-one a)
        ∙ sym (ap (rows picked s n a) e ∙ rows_more picked s n a (n - (a + 1))))
        ∙ g.goal

    -- there is room for a row more
    pub rows-room : (count + length (row picked s a (length s / 2))) * 4 ≤ length lent
    rows-room =
        let n = length s / 2 in
        let rest = rows picked s n (a + 1) (n - (a + 1)) in
        let long : length g.done + (length (row picked s a n) + length rest) ≡ length all_rows =
        ap (λ (k : ℕ). length g.done + k) (sym (length-append (row picked s a n) rest))
        ∙ sym (length-append g.done (row picked s a n ++ rest))
        ∙ ap length turn in
        omega (arith, g.counted, long, room)

    pub rows-turn : (after : List ℤ) (r : ℕ) → r ≡ count + length (row picked s a (length s / 2))
        → after ≡ sets table (count * 4) (flat edge_numbers (row picked s a (length s / 2))) → InRows after r (a + 1)
    rows-turn after r more e = record {
      done = g.done ++ row picked s a (length s / 2);
      counted = omega (arith, more, g.counted, length-append g.done (row picked s a (length s / 2)));
      written =
          e
          ∙ ap (λ (l : List ℤ). sets l (count * 4) (flat edge_numbers (row picked s a (length s / 2)))) g.written
          ∙ over-sets (flat edge_numbers g.done) (flat edge_numbers (row picked s a (length s / 2))) lent (count * 4)
          (edges-long g.done ∙ omega (arith, g.counted))
          (omega (arith, edges-long (row picked s a (length s / 2)), rows-room))
          ∙ ap (λ (l : List ℤ). over l lent) (sym (flat_append edge_numbers g.done (row picked s a (length s / 2))));
      goal = append_assoc g.done (row picked s a (length s / 2)) (rows picked s (length s / 2) (a + 1) (length s / 2 - (a + 1))) ∙ turn;
    }

  module _ (w : Weights) (ms : List Macro) (ascending : Ascending before (places_of s)) (p : PicksHeld w ms s picked (length s / 2)) where
    -- all rows are the edges, at most four a vertex
    pub rows_few : length all_rows ≤ length s / 2 * 4
    rows_few =
        omega (arith, ap length (rows-are-edges w ms s ascending picked p), length-edges w ms (places_of s), length-places s)

    pub rows_end : {table : List ℤ} {count a : ℕ} → InRows table count a → length s / 2 ≤ a
        → (count ≡ length (edges w ms (places_of s))) × (table ≡ over (flat edge_numbers (edges w ms (places_of s))) lent)
    rows_end {table} {count} {a} g h =
        let e : length s / 2 - a ≡ 0 = omega arith in
        let all : g.done ≡ edges w ms (places_of s) =
        sym (append-nil g.done)
        ∙ ap (λ (l : List Edge). g.done ++ l) (sym (ap (rows picked s (length s / 2) a) e ∙ rows_none picked s (length s / 2) a))
        ∙ g.goal
        ∙ rows-are-edges w ms s ascending picked p in
        (g.counted ∙ ap length all, g.written ∙ ap (λ (l : List Edge). over (flat edge_numbers l) lent) all)
