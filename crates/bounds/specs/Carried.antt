-- The tree before, seen from that of now.
use Rattle.std.specs.Prelude.{◌≡◌, ◌⊎◌, List, ℕ, suc, ◌≤◌, ◌<◌, ℤ, get_or}
use Rattle.plane.specs.declared.Macro.{Macro}
use Rattle.plane.specs.declared.Weights.{Weights}
use Rattle.plane.specs.Cost.{cost}
use Rattle.plane.specs.Flat.{place_at}
use Rattle.plane.specs.Rank.{InOrder}
use Rattle.tree.specs.Table.{tree_bound, key, first_end, second_end, Within}
use Rattle.longest.specs.Longest.{costs, longest, cut_of}
use Rattle.longest.specs.Hung.{Ties, Hanging, tall}
use Rattle.candidates.specs.Bounded.{Bounded}

-- the point i of m before has the number `at i` of n now, and all but `fresh` were there before
pub record Numbered (old : List ℤ) (m : ℕ) (pts : List ℤ) (n fresh : ℕ) (at : List ℕ) : Type 0 where
  pub low : (i : ℕ) → i < m → get_or at i 0 < n
  pub same : (i : ℕ) → i < m → place_at pts (get_or at i 0) ≡ place_at old i
  pub known : (j : ℕ) → j < n → (j ≡ fresh → ⊥) → (i : ℕ) × ((i < m) × (get_or at i 0 ≡ j))

-- the ends of the edge k before
abbrev pub one_in : List ℕ → List ℕ → ℕ → ℕ
one_in keys at k = get_or at (first_end (get_or keys k 0)) 0

abbrev pub two_in : List ℕ → List ℕ → ℕ → ℕ
two_in keys at k = get_or at (second_end (get_or keys k 0)) 0

abbrev pub key_in : List ℕ → List ℕ → ℕ → ℕ
key_in keys at k = key (one_in keys at k) (two_in keys at k)

-- the ends of each of f edges before are joined by edges no longer than it
abbrev pub CalmAt : Weights → List ℤ → List ℕ → List ℕ → List ℕ → List ℕ → ℕ → Type 0
CalmAt w pts el t keys at k =
    tall el t (one_in keys at k) (two_in keys at k) ≤ cost w (place_at pts (one_in keys at k)) (place_at pts (two_in keys at k))

abbrev pub Calm : Weights → List ℤ → List ℕ → List ℕ → List ℕ → ℕ → List ℕ → Type 0
Calm w pts el t keys f at = (k : ℕ) → k < f → CalmAt w pts el t keys at k

-- a bound x of an edge of now is most, or that of an edge before with the same key
abbrev pub Origin : List ℕ → ℕ → List ℕ → ℕ → List ℕ → ℕ → ℕ → Type 0
Origin before f at most was q x = (x ≡ most) ⊎ ((j : ℕ) × ((j < f) × ((key_in before at j ≡ q) × (x ≡ get_or was j 0))))

abbrev pub Origins : List ℕ → ℕ → List ℕ → List ℕ → ℕ → ℕ → List ℕ → List ℕ → Type 0
Origins before f at keys e most was bound = (k : ℕ) → k < e → Origin before f at most was (get_or keys k 0) (get_or bound k 0)

-- in a tree L is another edge than that of the candidate
abbrev pub Another : List ℕ → List ℕ → ℕ → ℕ → Type 0
Another keys el e n =
    (k u : ℕ) → k < e → u < n → (u ≡ first_end (get_or keys k 0) → ⊥) → (u ≡ second_end (get_or keys k 0) → ⊥) →
    cut_of el (longest keys el e n) (first_end (get_or keys k 0)) (second_end (get_or keys k 0)) u ≡ k → ⊥

-- the rows of a tree, and the bounds of its edges
pub record Held (w : Weights) (ms : List Macro) (pts : List ℤ) (n : ℕ) (keys : List ℕ) (e : ℕ) (bound : List ℕ) : Type 0 where
  pub rows : Ties
  pub hanging : Hanging keys (costs w pts keys e) e n rows
  pub bounded : Bounded w pts n ms keys e (costs w pts keys e) (longest keys (costs w pts keys e) e n) n bound

-- a tree of n points and e edges with the bounds of its edges
pub record Was (w : Weights) (ms : List Macro) (pts : List ℤ) (n : ℕ) (keys : List ℕ) (e : ℕ) (bound : List ℕ) : Type 0 where
  pub few : (n ≤ tree_bound) × (suc e ≡ n)
  pub ordered : InOrder pts n
  pub within : Within n keys
  pub another : Another keys (costs w pts keys e) e n
  pub held : Held w ms pts n keys e bound
