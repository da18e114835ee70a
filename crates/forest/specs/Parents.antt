-- Parents, and the way to the root.
--
-- T7: the parent of a vertex that is no source is its smallest neighbour on a shortest way to the same root.
-- Through w a shortest way of v runs when w has v's root and w's distance with the edge between them is v's distance. Sources have no
-- parent: none of their neighbours is nearer.
use Rattle.std.specs.Prelude.{◌≡◌, Bool, true, false, ◌&&◌, List, [], ◌∷◌, map, ℕ, zero, suc, ◌+◌, ◌≤◌, ◌<◌, ltb, eqb, get_or, set, replicate}
use Rattle.lists.specs.Total.{total}
use Rattle.forest.specs.declared.Step.{Step}
use Rattle.forest.specs.Bounds.{point_bound, edge_bound}
use Rattle.forest.specs.Edges.{Graph, one, two, len, from, filled}
use Rattle.forest.specs.Labels.{Labels, far, root}

-- the step to a vertex over an edge
abbrev pub step : ℕ → ℕ → Step
step w k = record { to = w; via = k }

-- no step: its vertex and its edge are none
abbrev pub none : Step
none = step point_bound edge_bound

-- w has v's root, and a shortest way of v runs through w, over an edge of length d
unfoldable pub leads : Labels → ℕ → ℕ → ℕ → Bool
leads t w v d = eqb (root t w) (root t v) && eqb (far t w + d) (far t v)

-- the step from v to w over edge k of length d, where that leads and w is smaller
unfoldable pub nearer : Labels → ℕ → ℕ → ℕ → ℕ → Step → Step
nearer t v w k d best = elim (leads t w v d && ltb w best.to) [ true ↦ step w k | false ↦ best ]

-- the same for the other end of edge k, which joins a and b, where v is an end of it
unfoldable pub through : Labels → ℕ → ℕ → ℕ → ℕ → ℕ → Step → Step
through t v a b k d best =
    elim (eqb v a) [ true ↦ nearer t v b k d best | false ↦ elim (eqb v b) [ true ↦ nearer t v a k d best | false ↦ best ] ]

unfoldable pub parent_among : Graph → Labels → ℕ → List ℕ → Step → Step
parent_among g t v [] best = best
parent_among g t v (k ∷ ks) best = parent_among g t v ks (through t v (one g k) (two g k) k (len g k) best)

-- the step from v to its parent
unfoldable pub parent : Graph → Labels → ℕ → Step
parent g t v = parent_among g t v (from 0 g.count) none

-- for each vertex the parent, and the edge to it
pub record Parents : Type 0 where
  pub ups : List ℕ
  pub vias : List ℕ

abbrev pub parents : List ℕ → List ℕ → Parents
parents u o = record { ups = u; vias = o }

abbrev pub up : Parents → ℕ → ℕ
up p v = get_or p.ups v 0

abbrev pub via : Parents → ℕ → ℕ
via p v = get_or p.vias v 0

abbrev pub orphans : Parents
orphans = parents (replicate point_bound point_bound) (replicate point_bound edge_bound)

-- the vertices below n get their parents
unfoldable pub adopted : Graph → ℕ → Labels → Parents → Parents
adopted g n t p = parents (filled (λ v. (parent g t v).to) 0 n p.ups) (filled (λ v. (parent g t v).via) 0 n p.vias)

unfoldable pub parented : Graph → ℕ → Labels → Parents
parented g n t = adopted g n t orphans

-- In one pass over the edges: w becomes the parent of v over edge k of length d, where v is below n, that leads and w is smaller
unfoldable pub adopt_by : ℕ → Labels → ℕ → ℕ → ℕ → ℕ → Parents → Parents
adopt_by n t v w k d p =
    elim (ltb v n && (leads t w v d && ltb w (up p v))) [ true ↦ parents (set p.ups v w) (set p.vias v k) | false ↦ p ]

-- T8: a way goes from parent to parent and ends at the root: the edges on it, n at most
unfoldable pub way_of : Parents → ℕ → ℕ → List ℕ
way_of p zero v = []
way_of p (suc n) v = elim (ltb (up p v) point_bound) [ true ↦ via p v ∷ way_of p n (up p v) | false ↦ [] ]

-- the distance falls with each step, so there are no more steps than it
unfoldable pub way : List ℕ → Parents → ℕ → List ℕ
way fars p v = way_of p (get_or fars v 0) v

unfoldable pub way_length : List ℕ → List ℕ → Parents → ℕ → ℕ
way_length lengths fars p v = total (map (λ k. get_or lengths k 0) (way fars p v))

-- T8: the vertices after v on its way, n at most, by the table of parents alone
unfoldable pub climb : List ℕ → ℕ → ℕ → List ℕ
climb ups zero v = []
climb ups (suc n) v = elim (ltb (get_or ups v 0) point_bound) [ true ↦ get_or ups v 0 ∷ climb ups n (get_or ups v 0) | false ↦ [] ]

-- all of them
unfoldable pub way_after : List ℕ → List ℕ → ℕ → List ℕ
way_after fars ups v = climb ups (get_or fars v 0) v

-- What the recursion along parents leans on: a step goes over an edge, and the distance falls by its length, which is not 0
pub record Falls (lengths fars : List ℕ) (p : Parents) : Type 0 where
  pub edge : (v : ℕ) → v < point_bound → up p v < point_bound → via p v < edge_bound
  pub some : (v : ℕ) → v < point_bound → up p v < point_bound → 1 ≤ get_or lengths (via p v) 0
  pub falls : (v : ℕ) → v < point_bound → up p v < point_bound → get_or fars (up p v) 0 + get_or lengths (via p v) 0 ≡ get_or fars v 0

-- the same of distances and parents alone: a parent is nearer
pub record Nearing (fars ups : List ℕ) : Type 0 where
  pub nearer : (v : ℕ) → v < point_bound → get_or ups v 0 < point_bound → get_or fars (get_or ups v 0) 0 < get_or fars v 0
