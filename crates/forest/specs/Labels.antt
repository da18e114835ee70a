-- Labels: how far each vertex is from its root, and the root.
--
-- T6: the root is the nearest source along the graph, of several the smallest; for the terminal tree the sources are the pins. Labels are
-- found by relaxation: each edge offers each of its ends the label of the other one, farther by its length, until a pass over all edges
-- changes nothing. That these are the least length of a walk to a source, and the smallest source at that length, is proved in
-- ../proofs/Nearest.antt.
use Rattle.std.specs.Prelude.{Bool, true, false, ◌||◌, List, [], ◌∷◌, ℕ, zero, suc, ◌+◌, ◌≤◌, ltb, get_or, set, replicate}
use Rattle.forest.specs.Bounds.{point_bound, unreached}
use Rattle.forest.specs.Edges.{Graph, one, two, len, from}

pub record Labels : Type 0 where
  pub fars : List ℕ
  pub roots : List ℕ

abbrev pub labels : List ℕ → List ℕ → Labels
labels f r = record { fars = f; roots = r }

abbrev pub far : Labels → ℕ → ℕ
far t v = get_or t.fars v 0

abbrev pub root : Labels → ℕ → ℕ
root t v = get_or t.roots v 0

-- nearer, or as near and of a smaller root
unfoldable pub better : ℕ → ℕ → ℕ → ℕ → Bool
better f r g s = elim (ltb f g) [ true ↦ true | false ↦ elim (ltb g f) [ true ↦ false | false ↦ ltb r s ] ]

-- u's label, d farther, is better than v's
unfoldable pub gains : ℕ → ℕ → ℕ → Labels → Bool
gains u v d t = better (far t u + d) (root t u) (far t v) (root t v)

-- v takes u's label, d farther, where that is better
unfoldable pub offer : ℕ → ℕ → ℕ → Labels → Labels
offer u v d t = elim (gains u v d t) [ true ↦ labels (set t.fars v (far t u + d)) (set t.roots v (root t u)) | false ↦ t ]

-- edge k offers both ways
unfoldable pub relax_edge : Graph → ℕ → Labels → Labels
relax_edge g k t = offer (two g k) (one g k) (len g k) (offer (one g k) (two g k) (len g k) t)

unfoldable pub moves : Graph → ℕ → Labels → Bool
moves g k t = gains (one g k) (two g k) (len g k) t || gains (two g k) (one g k) (len g k) (offer (one g k) (two g k) (len g k) t)

-- a pass over edges, and whether it changes a label
unfoldable pub relax : Graph → List ℕ → Labels → Labels
relax g [] t = t
relax g (k ∷ ks) t = relax g ks (relax_edge g k t)

unfoldable pub changes : Graph → List ℕ → Labels → Bool
changes g [] t = false
changes g (k ∷ ks) t = moves g k t || changes g ks (relax_edge g k t)

-- passes until one changes nothing, n at most
unfoldable pub settled : ℕ → Graph → List ℕ → Labels → Labels
settled zero g ks t = t
settled (suc n) g ks t = elim (changes g ks t) [ true ↦ settled n g ks (relax g ks t) | false ↦ t ]

-- each source is its own root, at no distance
unfoldable pub starts : List ℕ → Labels → Labels
starts [] t = t
starts (s ∷ ss) t = starts ss (labels (set t.fars s 0) (set t.roots s s))

-- no vertex is reached
abbrev pub unlabelled : Labels
unlabelled = labels (replicate point_bound unreached) (replicate point_bound 0)

-- the labels of a graph of n vertices with these sources
unfoldable pub labelled : Graph → ℕ → List ℕ → Labels
labelled g n sources = settled n g (from 0 g.count) (starts sources unlabelled)

-- What the code keeps of distances: each is small enough to add to

pub record Low (fars : List ℕ) : Type 0 where
  pub low : (v : ℕ) → get_or fars v 0 ≤ unreached
