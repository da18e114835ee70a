-- How a tree is read back from the work. Segments are counted in the order of edges: from each crossing first the one along, then the one
-- across. From mask s at crossing v one goes on over any edge by which the number is had, else to two parts whose numbers add up to it,
-- else stops. Which edge and which parts are taken, where several would do, is left to the program.
use Rattle.std.specs.Prelude.{◌≡◌, Bool, true, false, ◌&&◌, ◌||◌, ◌⊎◌, List, [], ◌∷◌, ◌++◌, map, ℕ, ◌+◌, ◌*◌, ◌-◌, ◌/◌, ◌%◌, ◌≤◌, ◌<◌, eqb, ltb, ℤ, length, get_or}
use Rattle.std.proofs.lemmas.List.Edits.{sets}
use Rattle.lists.specs.Member.{◌∈◌}
use Rattle.plane.specs.Distance.{distance}
use Rattle.graph.specs.Numbers.{edge_numbers}
use Rattle.union.specs.Marks.{marks}
use Rattle.lines.specs.Bounds.{line_bound, segment_bound}
use Rattle.lines.specs.Edges.{Edge}
use Rattle.grid.specs.Rows.{at}
use Rattle.grid.specs.Tables.{crossing_at, target}
use Rattle.parts.specs.Numbers.{part_of}
use Rattle.parts.specs.Tables.{value_at, row_of}

-- segment k in the order of edges, and the other way: the last bit turned
unfoldable pub in_their_order : ℕ → ℕ
in_their_order k = elim (eqb (k % 2) 0) [ true ↦ k + 1 | false ↦ k - 1 ]

-- the edge of the segment that comes j-th in the order of edges
abbrev pub edge_at : List ℤ → List ℤ → ℕ → Edge
edge_at xs ys j = (crossing_at xs ys (in_their_order j / 2), crossing_at xs ys (target (in_their_order j)))

-- those of the first e that are marked
unfoldable pub marked_edges : List ℤ → List ℤ → List ℕ → ℕ → List Edge
marked_edges xs ys used e = map (edge_at xs ys) (marks used e)

-- the j-th put as edge `count` of a table, if it is marked: how many there are then
abbrev pub MarkedPut : List ℤ → List ℤ → List ℕ → ℕ → ℕ → List ℤ → ℕ → List ℤ → Type 0
MarkedPut xs ys used j count t r u =
    ((get_or used j 0 ≡ 0) × ((r ≡ count) × (u ≡ t)))
    ⊎ ((1 ≤ get_or used j 0) × ((r ≡ count + 1) × (u ≡ sets t (count * 4) (edge_numbers (edge_at xs ys j)))))

-- the plain length of the j-th, 0 where it is not marked
abbrev pub LengthOf : List ℤ → List ℤ → List ℕ → ℕ → ℕ → Type 0
LengthOf xs ys used j r =
    ((get_or used j 0 ≡ 0) × (r ≡ 0)) ⊎ ((1 ≤ get_or used j 0) × (r ≡ distance (edge_at xs ys j).0 (edge_at xs ys j).1))

-- the other end of segment k
unfoldable pub other_end : ℕ → ℕ → ℕ
other_end k v = elim (eqb (k / 2) v) [ true ↦ target k | false ↦ k / 2 ]

unfoldable pub touches : ℕ → ℕ → Bool
touches k v = eqb (k / 2) v || eqb (target k) v

-- the i-th of the four segments at v, in the order of their numbers; past all where it would come from outside the lines
unfoldable pub segment_at : ℕ → ℕ → ℕ
segment_at v i =
    elim (eqb i 0) [
      | true ↦ elim (ltb v line_bound) [ true ↦ segment_bound | false ↦ (v - line_bound) * 2 ]
      | false ↦ elim (eqb i 1) [ true ↦ elim (eqb v 0) [ true ↦ segment_bound | false ↦ v * 2 - 1 ] | false ↦ v * 2 + (i - 2) ]
    ]

-- segment k is an edge at v by which the number at v is had
unfoldable pub leads : List ℕ → List ℕ → ℕ → ℕ → Bool
leads costs row v k =
    ltb 0 (get_or costs k 0) && (touches k v && eqb (at row (other_end k v) + get_or costs k 0) (at row v))

-- the number of s at v is that of its part p and of the rest
unfoldable pub meets : ℕ → List ℕ → ℕ → ℕ → ℕ → Bool
meets m work s v p = part_of m p s && eqb (value_at work p v + value_at work (s - p) v) (value_at work s v)

-- what a search for such an edge, and for such a part, comes to
abbrev pub StepFound : List ℕ → ℕ → List ℕ → ℕ → ℕ → Type 0
StepFound costs e row v r =
    ((r < e) × (leads costs row v r ≡ true)) ⊎ ((r ≡ e) × ((k : ℕ) → k < e → leads costs row v k ≡ false))

abbrev pub PartFound : ℕ → List ℕ → ℕ → ℕ → ℕ → Type 0
PartFound m work s v r =
    ((1 ≤ r) × ((r < s) × (meets m work s v r ≡ true))) ⊎ ((r ≡ 0) × ((p : ℕ) → 1 ≤ p → p < s → meets m work s v p ≡ false))

-- the numbers js marked, from the table t to u
pub record Marked (js t u : List ℕ) : Type 0 where
  pub size : length u ≡ length t
  pub there : (j : ℕ) → j ∈ js → 1 ≤ get_or u j 0
  pub kept : (j : ℕ) → 1 ≤ get_or t j 0 → 1 ≤ get_or u j 0
  pub only : (j : ℕ) → 1 ≤ get_or u j 0 → (1 ≤ get_or t j 0) ⊎ (j ∈ js)

module _ (costs : List ℕ) (e : ℕ) where
  -- from v down a row over edges to u, the last edge first
  pub data Down (row : List ℕ) (v : ℕ) : ℕ → List ℕ → Type 0 where
    start : Down row v v []
    over : {u : ℕ} {js : List ℕ} (k : ℕ) → k < e → leads costs row u k ≡ true → Down row v u js →
        Down row v (other_end k u) (in_their_order k ∷ js)

  -- as far as it goes
  pub record Walked (row : List ℕ) (v u : ℕ) (t t' : List ℕ) : Type 0 where
    pub edges : List ℕ
    pub down : Down row v u edges
    pub rests : (k : ℕ) → k < e → leads costs row u k ≡ false
    pub marks : Marked edges t t'

  module _ (m : ℕ) (work : List ℕ) where
    pub data Route : ℕ → ℕ → List ℕ → Type 0 where
      stop : {s v : ℕ} → ((k : ℕ) → k < e → leads costs (row_of work s) v k ≡ false) →
          ((p : ℕ) → 1 ≤ p → p < s → meets m work s v p ≡ false) → Route s v []
      over : {s v : ℕ} {js : List ℕ} (k : ℕ) → k < e → leads costs (row_of work s) v k ≡ true → Route s (other_end k v) js →
          Route s v (in_their_order k ∷ js)
      met : {s v : ℕ} {is js : List ℕ} (p : ℕ) → 1 ≤ p → p < s → meets m work s v p ≡ true → Route p v is → Route (s - p) v js →
          Route s v (is ++ js)

    -- the tree of mask s from v on, marked
    pub record Traced (s v : ℕ) (t t' : List ℕ) : Type 0 where
      pub edges : List ℕ
      pub route : Route s v edges
      pub marks : Marked edges t t'

    -- the tree of the last of n masks, unless there is none, and what it costs
    abbrev pub ReadBack : ℕ → ℕ → List ℕ → List ℕ → ℕ → Type 0
    ReadBack n v t t' r =
        ((n < 2) × ((t' ≡ t) × (r ≡ 0))) ⊎ ((2 ≤ n) × (Traced (n - 1) v t t' × (r ≡ value_at work (n - 1) v)))
