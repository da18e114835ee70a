-- What an export leaves to its caller: the code that it returns, each lent list, and each number that goes through a pointer. `t` is what
-- the operation says, so that every field is an equation for refused calls too. A prime marks what stands there after the call.
use Rattle.std.specs.Prelude.{◌≡◌, List, map, ℕ, ℤ, pos, replicate}
use Rattle.lent.specs.Told.{Told, given, code}
use Rattle.lent.specs.Over.{after, value_after}
use Rattle.lent.specs.Entries.{flat}
use Rattle.net.specs.declared.Net.{Net as Counts}
use Rattle.net.specs.Net.{Net}
use Rattle.graph.specs.Numbers.{edge_numbers}
use Rattle.grid.specs.Distance.{Square}
use Rattle.lines.specs.Edges.{Edge}
use Rattle.parts.specs.Bounds.{work_bound}
use Rattle.best.specs.Tree.{BestTree}
use Rattle.sweeps.specs.Tables.{wide_crossings, arc_bound}
use Rattle.bound.specs.Bound.{Bound}

-- a graph: two lists and two counts
pub record GraphHanded (t : Told (ℕ × ℕ)) (xs ys lent other : List ℤ) (v e : ℕ) (r : ℤ) (lent' other' : List ℤ) (v' e' : ℕ) : Type 0 where
  pub answer : r ≡ pos (code t)
  pub vertices : lent' ≡ after t xs lent
  pub edges : other' ≡ after t ys other
  pub vertex-count : v' ≡ value_after (λ counts. counts.0) t v
  pub edge_count : e' ≡ value_after (λ counts. counts.1) t e

-- a terminal tree: a list, a count and a total
pub record PathsHanded (t : Told (ℕ × ℤ)) (xs lent : List ℤ) (n : ℕ) (z : ℤ) (r : ℤ) (lent' : List ℤ) (n' : ℕ) (z' : ℤ) : Type 0 where
  pub answer : r ≡ pos (code t)
  pub list : lent' ≡ after t xs lent
  pub count : n' ≡ value_after (λ tree. tree.0) t n
  pub total : z' ≡ value_after (λ tree. tree.1) t z

-- a refined tree and a slid one: a list, a count, a total and the metal to lay
pub record TreeHanded (t : Told (ℕ × (ℤ × ℤ))) (xs lent : List ℤ) (n : ℕ) (z l : ℤ) (r : ℤ) (lent' : List ℤ) (n' : ℕ) (z' l' : ℤ) : Type 0
  where
    pub answer : r ≡ pos (code t)
    pub list : lent' ≡ after t xs lent
    pub count : n' ≡ value_after (λ tree. tree.0) t n
    pub total : z' ≡ value_after (λ tree. tree.1.0) t z
    pub metal : l' ≡ value_after (λ tree. tree.1.1) t l

-- a best tree: as a refined one, of the tree that the program has chosen, where `said T` is what is said if that is T; and the work
pub record BestHanded (net : Net) (said : List Edge → Told (ℕ × (ℤ × ℤ))) (work : List ℕ) (lent : List ℤ) (n : ℕ) (z l : ℤ) (r : ℤ)
    (work' : List ℕ) (lent' : List ℤ) (n' : ℕ) (z' l' : ℤ) : Type 0 where
  pub tree : List Edge
  pub handed : TreeHanded (said tree) (flat edge_numbers tree) lent n z l r lent' n' z' l'
  pub cleared : work' ≡ after (said tree) (replicate work_bound 0) work
  pub best : (a : ℕ × (ℤ × ℤ)) → said tree ≡ given a → BestTree net tree

-- a lower bound: a number that is fixed by what it means, where `said n` is what is said if that is n; and both lists of work
pub record BoundHanded (net : Net) (said : ℕ → Told ℕ) (left rows : List ℕ) (b : ℕ) (r : ℤ) (left' rows' : List ℕ) (b' : ℕ) : Type 0 where
  pub bound : ℕ
  pub answer : r ≡ pos (code (said bound))
  pub first : left' ≡ after (said bound) (replicate arc_bound 0) left
  pub second : rows' ≡ after (said bound) (replicate wide_crossings 0) rows
  pub cost : b' ≡ value_after (λ n. n) (said bound) b
  pub is : (a : ℕ) → said bound ≡ given a → Bound net bound

-- wires, delays, and a net file that is written: a list and a count
pub record ListHanded {X : Type 0} (t : Told ℕ) (xs lent : List X) (n : ℕ) (r : ℤ) (lent' : List X) (n' : ℕ) : Type 0 where
  pub answer : r ≡ pos (code t)
  pub list : lent' ≡ after t xs lent
  pub count : n' ≡ value_after (λ m. m) t n

-- distances on the grid: a table of numbers that are fixed by what they mean, and how many there are
pub record SquareHanded (net : Net) (t : Told ℕ) (lent : List ℤ) (n : ℕ) (r : ℤ) (lent' : List ℤ) (n' : ℕ) : Type 0 where
  pub numbers : List ℕ
  pub answer : r ≡ pos (code t)
  pub list : lent' ≡ after t (map pos numbers) lent
  pub square : (k : ℕ) → t ≡ given k → Square net numbers
  pub count : n' ≡ value_after (λ m. m) t n

-- a charge
pub record ChargeHanded (t : Told ℕ) (h : ℕ) (r : ℤ) (h' : ℕ) : Type 0 where
  pub answer : r ≡ pos (code t)
  pub charge : h' ≡ value_after (λ m. m) t h

-- a bought-in tree that passes: its cost and its metal
pub record SumsHanded (t : Told (ℤ × ℤ)) (z l : ℤ) (r : ℤ) (z' l' : ℤ) : Type 0 where
  pub answer : r ≡ pos (code t)
  pub cost : z' ≡ value_after (λ sums. sums.0) t z
  pub metal : l' ≡ value_after (λ sums. sums.1) t l

-- the four numbers that a read gives through pointers
pub record Read : Type 0 where
  pub m : ℕ
  pub k : ℕ
  pub x : ℤ
  pub y : ℤ

-- a net file that is read: two lists, m, k and the two weights
pub record NetHanded (t : Told Counts) (xs ys lent other : List ℤ) (n : Read) (r : ℤ) (lent' other' : List ℤ) (n' : Read) : Type 0 where
  pub answer : r ≡ pos (code t)
  pub pins : lent' ≡ after t xs lent
  pub macros : other' ≡ after t ys other
  pub pin-count : n'.m ≡ value_after (λ net. net.pins) t n.m
  pub macro-count : n'.k ≡ value_after (λ net. net.macros) t n.k
  pub first : n'.x ≡ value_after (λ net. pos net.weights.across) t n.x
  pub second : n'.y ≡ value_after (λ net. pos net.weights.along) t n.y
