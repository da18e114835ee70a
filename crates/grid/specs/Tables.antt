-- The grid as tables. Segment k leads from crossing k / 2, across where k is even and along where it is odd; its number in the table of
-- costs is what it costs where it is an edge of the grid, and 0 where it is none.
use Rattle.std.specs.Prelude.{◌≡◌, Bool, true, false, ◌&&◌, ◌⊎◌, List, map, ℕ, ◌+◌, ◌*◌, ◌/◌, ◌%◌, ◌≤◌, ◌<◌, ltb, eqb, ℤ, pos, length, get_or, take}
use Rattle.std.proofs.lemmas.List.Edits.{sets}
use Rattle.lists.specs.Total.{total}
use Rattle.lent.specs.Over.{over}
use Rattle.plane.specs.declared.Place.{Place}
use Rattle.plane.specs.declared.Macro.{Macro}
use Rattle.plane.specs.declared.Weights.{Weights}
use Rattle.plane.specs.Place.{place}
use Rattle.plane.specs.Cost.{cost}
use Rattle.plane.specs.Macro.{clear}
use Rattle.net.specs.Bounds.{cost_bound}
use Rattle.lines.specs.declared.Grid.{Grid}
use Rattle.lines.specs.Bounds.{line_bound, crossing_bound, segment_bound, unreached}
use Rattle.grid.specs.Rows.{at, lowered, Held, Quiet}

-- Segments

-- the place of a crossing, by tables of n lines, and by the tables of lines
abbrev pub crossing_by : ℕ → List ℤ → List ℤ → ℕ → Place
crossing_by n xs ys v = place (get_or xs (v / n) (pos 0)) (get_or ys (v % n) (pos 0))

abbrev pub crossing_at : List ℤ → List ℤ → ℕ → Place
crossing_at xs ys v = place (get_or xs (v / line_bound) (pos 0)) (get_or ys (v % line_bound) (pos 0))

-- the crossing that a segment leads to, and whether both its ends are within the lines
unfoldable pub target : ℕ → ℕ
target k = elim (eqb (k % 2) 0) [ true ↦ k / 2 + line_bound | false ↦ k / 2 + 1 ]

unfoldable pub is_segment : Grid → ℕ → Bool
is_segment g k =
    elim (eqb (k % 2) 0) [
      | true ↦ ltb (k / 2 / line_bound + 1) g.across && ltb (k / 2 % line_bound) g.along
      | false ↦ ltb (k / 2 / line_bound) g.across && ltb (k / 2 % line_bound + 1) g.along
    ]

-- what the segment of two places costs, 0 where it meets an interior
unfoldable pub segment_cost : Weights → List Macro → Place → Place → ℕ
segment_cost w ms a b = elim (clear a b ms) [ true ↦ cost w a b | false ↦ 0 ]

unfoldable pub edge_cost : Weights → List Macro → Grid → List ℤ → List ℤ → ℕ → ℕ
edge_cost w ms g xs ys k =
    elim (is_segment g k) [ true ↦ segment_cost w ms (crossing_at xs ys (k / 2)) (crossing_at xs ys (target k)) | false ↦ 0 ]

-- no segment between crossings costs more than metal between two places of an allowed net
abbrev pub Priced : Weights → List ℤ → List ℤ → Type 0
Priced w xs ys = (u v : ℕ) → cost w (crossing_at xs ys u) (crossing_at xs ys v) ≤ cost_bound

-- the first n numbers of a table of costs
pub record CostsTo (w : Weights) (ms : List Macro) (g : Grid) (xs ys : List ℤ) (n : ℕ) (t : List ℕ) : Type 0 where
  pub each : (k : ℕ) → k < n → get_or t k 0 ≡ edge_cost w ms g xs ys k

-- Rows

-- a row has a number for each crossing, none above the one for no way
pub record Row (t : List ℕ) : Type 0 where
  pub size : length t ≡ crossing_bound
  pub low : (v : ℕ) → at t v ≤ unreached

-- the row that a crossing starts with: 0 there, and no way elsewhere
pub record Starts (q : ℕ) (t : List ℕ) : Type 0 where
  pub row : Row t
  pub here : at t q ≡ 0
  pub elsewhere : (v : ℕ) → v < crossing_bound → (v ≡ q → ⊥) → at t v ≡ unreached

-- what asking one edge does to a row, from t to u, and whether it changed it: v is lowered by w; nothing where there is no edge
abbrev pub Lowered : ℕ → ℕ → ℕ → List ℕ → Bool → List ℕ → Type 0
Lowered v w c t m u =
    ((c ≡ 0) × ((m ≡ false) × (u ≡ t))) ⊎ ((1 ≤ c) × ((m ≡ ltb (at t w + c) (at t v)) × (u ≡ lowered v w c t)))

-- the first e numbers of a table of costs
module _ (costs : List ℕ) (e : ℕ) where
  -- what is asked of them: two a crossing; segments lead to crossings, and cost no more than all edges do
  pub record Fits : Type 0 where
    pub count : e ≤ segment_bound
    pub even : e % 2 ≡ 0
    pub ends : (k : ℕ) → k < e → 1 ≤ get_or costs k 0 → target k < crossing_bound
    pub low : (k : ℕ) → k < e → get_or costs k 0 ≤ unreached

  -- segment k is an edge and, read one way or the other, leads from v to w at cost c
  pub record Reads (k v w c : ℕ) : Type 0 where
    pub ends : ((v ≡ k / 2) × (w ≡ target k)) ⊎ ((v ≡ target k) × (w ≡ k / 2))
    pub price : c ≡ get_or costs k 0
    pub is : 1 ≤ get_or costs k 0

  abbrev pub Near : ℕ → ℕ → ℕ → Type 0
  Near v w c = (k : ℕ) × ((k < e) × Reads k v w c)

  -- segment k is an edge, and leads from its near end v to its far end w at cost c
  pub record Ahead (k v w c : ℕ) : Type 0 where
    pub near : v ≡ k / 2
    pub far : w ≡ target k
    pub price : c ≡ get_or costs k 0
    pub is : 1 ≤ get_or costs k 0

  -- the edges by which a pass on over the first n segments lowers values, and a pass back over those from n on
  abbrev pub Onward : ℕ → ℕ → ℕ → ℕ → Type 0
  Onward n v w c = (k : ℕ) × ((k < n) × Ahead k w v c)

  abbrev pub Backward : ℕ → ℕ → ℕ → ℕ → Type 0
  Backward n v w c = (k : ℕ) × (((n ≤ k) × (k < e)) × Ahead k v w c)

  -- a pass, from s to t: a change lowers the sum, and the edges asked are quiet, changed or not
  pub record Passed (asked : ℕ → ℕ → ℕ → Type 0) (moved : Bool) (s t : List ℕ) : Type 0 where
    pub held : Held Near s t
    pub less : moved ≡ true → total t < total s
    pub same : moved ≡ false → t ≡ s
    pub quiet : Quiet asked t

  -- a pass back and one on, from s to t: no edge lowers a value any more, or the sum fell and there is more to do
  pub record PassedBoth (more : Bool) (s t : List ℕ) : Type 0 where
    pub held : Held Near s t
    pub less : more ≡ true → total t < total s
    pub onward : Quiet (Onward e) t
    pub quiet : more ≡ false → Quiet Near t

-- Rows given

-- the numbers of a row at some crossings
unfoldable pub picked : List ℕ → List ℕ → List ℕ
picked row numbers = map (at row) numbers

module _ (near : ℕ → ℕ → ℕ → Type 0) where
  -- n stands at the crossing v of a row settled from the crossing q
  pub record Settled (q v n : ℕ) : Type 0 where
    pub start : List ℕ
    pub starts : Starts q start
    pub row : List ℕ
    pub held : Held near start row
    pub quiet : Quiet near row
    pub is : n ≡ at row v

  -- one row put into a table of 64 bits, from the number k on: settled from q, at the first m of these crossings
  pub record RowPut (numbers : List ℕ) (m q k : ℕ) (t u : List ℤ) : Type 0 where
    pub start : List ℕ
    pub starts : Starts q start
    pub row : List ℕ
    pub held : Held near start row
    pub quiet : Quiet near row
    pub list : u ≡ sets t k (map pos (picked row (take m numbers)))

  -- r rows at the front of a lent list, m numbers each: from each of these crossings to each
  pub record RowsOver (numbers : List ℕ) (m r : ℕ) (lent lent' : List ℤ) : Type 0 where
    pub done : List ℕ
    pub size : length done ≡ r * m
    pub each : (i j : ℕ) → i < r → j < m → Settled (get_or numbers i 0) (get_or numbers j 0) (get_or done (i * m + j) 0)
    pub list : lent' ≡ over (map pos done) lent
