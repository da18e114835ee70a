-- The graph as tables: a vertex is its number in the order of places, and edge k has two ends and a length.
use Rattle.std.specs.Prelude.{◌≡◌, List, [], ◌∷◌, ℕ, zero, suc, ◌≤◌, ◌<◌, length, get_or, set}
use Rattle.lent.specs.Over.{over}
use Rattle.forest.specs.Bounds.{point_bound, edge_bound, cost_bound}

-- the ends of the edges, smaller ones and greater ones, their lengths, and how many edges there are
pub record Graph : Type 0 where
  pub ones : List ℕ
  pub twos : List ℕ
  pub lengths : List ℕ
  pub count : ℕ

abbrev pub graph : List ℕ → List ℕ → List ℕ → ℕ → Graph
graph ea eb el e = record { ones = ea; twos = eb; lengths = el; count = e }

-- the ends of edge k and its length
abbrev pub one : Graph → ℕ → ℕ
one g k = get_or g.ones k 0

abbrev pub two : Graph → ℕ → ℕ
two g k = get_or g.twos k 0

abbrev pub len : Graph → ℕ → ℕ
len g k = get_or g.lengths k 0

-- n numbers from k on
unfoldable pub from : ℕ → ℕ → List ℕ
from k zero = []
from k (suc n) = k ∷ from (suc k) n

-- n entries of a table from k on
unfoldable pub entries : List ℕ → ℕ → ℕ → List ℕ
entries xs k zero = []
entries xs k (suc n) = get_or xs k 0 ∷ entries xs (suc k) n

-- the table xs with f k at each number k from i on, n of them
unfoldable pub filled : (ℕ → ℕ) → ℕ → ℕ → List ℕ → List ℕ
filled f i zero xs = xs
filled f i (suc n) xs = filled f (suc i) n (set xs i (f i))

-- What the code asks of the tables

pub record Fits (g : Graph) : Type 0 where
  pub count : g.count ≤ edge_bound
  pub one_in : (k : ℕ) → k < g.count → one g k < point_bound
  pub two_in : (k : ℕ) → k < g.count → two g k < point_bound
  pub some : (k : ℕ) → k < g.count → 1 ≤ len g k
  pub short : (k : ℕ) → k < g.count → len g k ≤ cost_bound

-- the ends of e edges are vertices
pub record Ends (ones twos : List ℕ) (e : ℕ) : Type 0 where
  pub count : e ≤ edge_bound
  pub one_in : (k : ℕ) → k < e → get_or ones k 0 < point_bound
  pub two_in : (k : ℕ) → k < e → get_or twos k 0 < point_bound

-- the first n entries of a table are edges whose ends are vertices
pub record Named (ones twos order : List ℕ) (n : ℕ) : Type 0 where
  pub edge : (i : ℕ) → i < n → get_or order i 0 < edge_bound
  pub one_in : (i : ℕ) → i < n → get_or ones (get_or order i 0) 0 < point_bound
  pub two_in : (i : ℕ) → i < n → get_or twos (get_or order i 0) 0 < point_bound

-- every entry is below n
pub record Below (n : ℕ) (xs : List ℕ) : Type 0 where
  pub below : (i : ℕ) → get_or xs i 0 < n

-- the first m entries are numbers below n
pub record FirstBelow (xs : List ℕ) (m n : ℕ) : Type 0 where
  pub inside : (i : ℕ) → i < m → get_or xs i 0 < n

-- a lent table holds xs over what stood there, n of them
pub record Listed (xs lent table : List ℕ) (n : ℕ) : Type 0 where
  pub count : n ≡ length xs
  pub table_is : table ≡ over xs lent
