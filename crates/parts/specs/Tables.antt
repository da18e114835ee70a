-- The lent work as a table: a row for each mask of all pins but the first, one number a crossing. Its rows are filled from small masks to
-- large ones, each settled from its start; `near` says which crossings an edge joins, and what it costs.
use Rattle.std.specs.Prelude.{◌≡◌, true, false, List, ℕ, ◌+◌, ◌*◌, ◌≤◌, ◌<◌, eqb, length, get_or, take, drop}
use Rattle.lines.specs.Bounds.{crossing_bound, unreached}
use Rattle.grid.specs.Rows.{at, Held, Quiet}
use Rattle.grid.specs.Tables.{Row, Starts}
use Rattle.parts.specs.Bounds.{mask_bound, work_bound}
use Rattle.parts.specs.Starts.{least, sums, trying}

-- the number of mask s at crossing v
abbrev pub value_at : List ℕ → ℕ → ℕ → ℕ
value_at work s v = get_or work (s * crossing_bound + v) 0

unfoldable pub row_of : List ℕ → ℕ → List ℕ
row_of work s = take crossing_bound (drop (s * crossing_bound) work)

-- the rows of the masks below n stand, none of their numbers above the one for no way
pub record RowsTo (n : ℕ) (work : List ℕ) : Type 0 where
  pub size : work_bound ≤ length work
  pub low : (p v : ℕ) → 1 ≤ p → p < n → v < crossing_bound → value_at work p v ≤ unreached

-- the number of the one pin of a mask, counted from 1; 0 where the mask has more pins than one
unfoldable pub lone_pin : ℕ → ℕ
lone_pin s =
    elim (eqb s 1) [
      | true ↦ 1
      | false ↦ elim (eqb s 2) [ true ↦ 2 | false ↦ elim (eqb s 4) [ true ↦ 3 | false ↦ elim (eqb s 8) [ true ↦ 4 | false ↦ 0 ] ] ]
    ]

-- part p of mask s tried, from the row t to u: each number is the least sum so far
pub record Tried (m : ℕ) (value : ℕ → ℕ → ℕ) (s p : ℕ) (t u : List ℕ) : Type 0 where
  pub row : Row u
  pub each : (v : ℕ) → v < crossing_bound → at u v ≡ trying m value s v p (at t v)

-- what the row of mask s starts with: 0 at the crossing of a lone pin, else the least sums over its parts
pub record Begun (m : ℕ) (numbers work : List ℕ) (s : ℕ) (t : List ℕ) : Type 0 where
  pub row : Row t
  pub lone : 1 ≤ lone_pin s → Starts (get_or numbers (lone_pin s) 0) t
  pub parts : lone_pin s ≡ 0 → (v : ℕ) → v < crossing_bound → at t v ≡ least unreached (sums m (value_at work) s v)

-- a row put into the work as that of mask s; all other numbers are as they were
pub record RowPut (s : ℕ) (row w u : List ℕ) : Type 0 where
  pub size : length u ≡ length w
  pub here : (v : ℕ) → v < crossing_bound → value_at u s v ≡ at row v
  pub below : (i : ℕ) → i < s * crossing_bound → get_or u i 0 ≡ get_or w i 0
  pub above : (i : ℕ) → s * crossing_bound + crossing_bound ≤ i → get_or u i 0 ≡ get_or w i 0

module _ (near : ℕ → ℕ → ℕ → Type 0) (m : ℕ) (numbers : List ℕ) where
  -- the row of mask s has been filled, from w to u
  pub record RowFilled (s : ℕ) (w u : List ℕ) : Type 0 where
    pub start : List ℕ
    pub begun : Begun m numbers w s start
    pub row : List ℕ
    pub held : Held near start row
    pub quiet : Quiet near row
    pub put : RowPut s row w u

  -- the row of mask s stands, settled from its start
  pub record MaskRow (work : List ℕ) (s : ℕ) : Type 0 where
    pub start : List ℕ
    pub begun : Begun m numbers work s start
    pub held : Held near start (row_of work s)
    pub quiet : Quiet near (row_of work s)

  -- the rows of all masks below n have been filled, from w to u
  pub record FilledTo (n : ℕ) (w u : List ℕ) : Type 0 where
    pub size : length u ≡ length w
    pub past : (i : ℕ) → mask_bound * crossing_bound ≤ i → get_or u i 0 ≡ get_or w i 0
    pub each : (s : ℕ) → 1 ≤ s → s < n → MaskRow u s
