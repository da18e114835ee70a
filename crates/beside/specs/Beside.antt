-- R23, R24: vertices of the graph beside the tree, and the candidates with them.
--
-- Roots and parents are those of the terminal tree with the tree's own vertices as sources (crate forest): the root of a vertex beside the
-- tree is the tree point v that it is joined to, and its way to the root is the way that is laid.
use Rattle.std.specs.Prelude.{Bool, true, false, not, ◌&&◌, ◌||◌, List, [], ◌∷◌, ℕ, zero, suc, ◌+◌, ◌-◌, ◌<◌, ltb, eqb, ℤ, get_or, set, replicate}
use Rattle.plane.specs.declared.Place.{Place}
use Rattle.plane.specs.declared.Macro.{Macro}
use Rattle.plane.specs.declared.Weights.{Weights}
use Rattle.plane.specs.Place.{same_place}
use Rattle.plane.specs.Cost.{cost}
use Rattle.plane.specs.Middle.{middle_place}
use Rattle.plane.specs.Flat.{place_at}
use Rattle.plane.specs.Rank.{rank}
use Rattle.forest.specs.Bounds.{point_bound}
use Rattle.forest.specs.Edges.{Graph}
use Rattle.forest.specs.Labels.{Labels, labelled}
use Rattle.forest.specs.Parents.{Parents, parented, way_after}
use Rattle.tree.specs.Table.{first_end, second_end, Tree}
use Rattle.candidates.specs.declared.Best.{Best}
use Rattle.beside.specs.declared.Choice.{Choice}
use Rattle.lists.specs.Turns.{turns}
use Rattle.longest.specs.Longest.{cut_of, costs, longest}
use Rattle.triples.specs.Triple.{sees, dropped}
use Rattle.candidates.specs.Candidate.{best, chosen}
use Rattle.candidates.specs.Candidate as tree
use Rattle.exchanges.specs.Exchange.{stands}

-- The ground: the graph's vertices, two numbers each, in order, how many they are, and its edges by the numbers of their ends
pub record Ground : Type 0 where
  pub places : List ℤ
  pub count : ℕ
  pub graph : Graph

abbrev pub ground : List ℤ → ℕ → Graph → Ground
ground vs n g = record { places = vs; count = n; graph = g }

-- p is the place of one of n points
unfoldable pub is_point : List ℤ → ℕ → Place → Bool
is_point pts n p = stands pts n (rank pts n p) p

-- R23: the tree points that are vertices, of c vertices from number i on
unfoldable pub sources_from : List ℤ → ℕ → List ℤ → ℕ → ℕ → List ℕ
sources_from pts n vs i zero = []
sources_from pts n vs i (suc c) =
    elim (is_point pts n (place_at vs i)) [ true ↦ i ∷ sources_from pts n vs (suc i) c | false ↦ sources_from pts n vs (suc i) c ]

-- the number of a vertex's root among the points of the tree
unfoldable pub take_seat : List ℤ → ℕ → List ℤ → List ℕ → ℕ → List ℕ → List ℕ
take_seat pts n vs roots i t = set t i (rank pts n (place_at vs (get_or roots i 0)))

unfoldable pub seats : List ℤ → ℕ → List ℤ → ℕ → List ℕ → List ℕ
seats pts n vs v roots = turns (take_seat pts n vs roots) 0 v (replicate point_bound 0)

-- the first v vertices have their roots among n points of a tree
pub record Seated (seat : List ℕ) (v n : ℕ) : Type 0 where
  pub seated : (u : ℕ) → u < v → get_or seat u 0 < n

-- R24: s is the place of one of these vertices
unfoldable pub on_way : List ℤ → Place → List ℕ → Bool
on_way vs s [] = false
on_way vs s (y ∷ ys) = same_place s (place_at vs y) || on_way vs s ys

-- R23: u is clear of a or of b;  R24: s is the place of no tree point but a and b, and of none on the way but u
unfoldable pub free : List ℤ → ℕ → List Macro → List ℤ → List ℕ → List ℕ → ℕ → ℕ → ℕ → Place → Bool
free pts n ms vs fars ups a b u s =
    sees ms (place_at pts a) (place_at pts b) (place_at vs u) && (not (dropped pts n a b a s)
    && not (on_way vs s (way_after fars ups u)))

-- R5: s, the middle of the three places axis by axis
abbrev pub middle_beside : List ℤ → List ℤ → ℕ → ℕ → ℕ → Place
middle_beside pts vs a b u = middle_place (place_at pts a) (place_at pts b) (place_at vs u)

-- R25: the way's cost is taken off the gain. The candidate of edge k from a to b and the vertex u, whose L is l and costs x
unfoldable pub weighed : Weights → List ℤ → ℕ → List Macro → List ℤ → List ℕ → List ℕ → ℕ → ℕ → ℕ → ℕ → ℕ → ℕ → Best → Best
weighed w pts n ms vs fars ups a b k u l x c =
    let s = middle_beside pts vs a b u in
    let d = cost w s (place_at vs u) + get_or fars u 0 in
    chosen (ltb (c.gain + d) x && free pts n ms vs fars ups a b u s) (best (x - d) k u l) c

-- R23: u is no tree point, so that its distance is not 0;  R24: v is neither a nor b;  R25: L is sought from v
unfoldable pub offer : Weights → List ℤ → ℕ → List Macro → List ℕ → List ℕ → List ℤ → List ℕ → List ℕ → List ℕ → ℕ → ℕ → ℕ → ℕ → Best
    → Best
offer w pts n ms el top vs fars ups seat a b k u c =
    let v = get_or seat u 0 in
    let l = cut_of el top a b v in
    chosen (eqb (get_or fars u 0) 0 || (eqb v a || (eqb v b || eqb l k))) c
    (weighed w pts n ms vs fars ups a b k u l (get_or el l 0) c)

-- edge k with all vertices
unfoldable pub offers : Weights → List ℤ → ℕ → List Macro → List ℕ → List ℕ → List ℕ → List ℤ → ℕ → List ℕ → List ℕ → List ℕ → ℕ → Best
    → Best
offers w pts n ms keys el top vs v fars ups seat k c =
    turns (offer w pts n ms el top vs fars ups seat (first_end (get_or keys k 0)) (second_end (get_or keys k 0)) k) 0 v c

-- R26: those beside the tree come after those on it, so only a greater gain counts;  edges and vertices come in order
unfoldable pub search : Weights → List ℤ → ℕ → List Macro → List ℕ → ℕ → List ℕ → List ℕ → List ℤ → ℕ → List ℕ → List ℕ → List ℕ → Best
    → Best
search w pts n ms keys e el top vs v fars ups seat c = turns (offers w pts n ms keys el top vs v fars ups seat) 0 e c

-- on the tree, or beside it where that gains more
abbrev pub choice : Bool → Best → Choice
choice k c = record { beside = k; best = c }

unfoldable pub either : Best → Best → Choice
either on off = elim (ltb on.gain off.gain) [ true ↦ choice true off | false ↦ choice false on ]

unfoldable pub chosen_of : Weights → List Macro → List ℤ → ℕ → List ℕ → ℕ → List ℤ → ℕ → List ℕ → List ℕ → List ℕ → Choice
chosen_of w ms pts n keys e vs v fars ups seat =
    let el = costs w pts keys e in
    let top = longest keys el e n in
    let on = tree.search w pts n ms keys e el top in
    either on (search w pts n ms keys e el top vs v fars ups seat on)

-- Of a tree

unfoldable pub labels_in : Ground → Tree → Labels
labels_in g t = labelled g.graph g.count (sources_from t.points t.count g.places 0 g.count)

unfoldable pub parents_in : Ground → Tree → Parents
parents_in g t = parented g.graph g.count (labels_in g t)

unfoldable pub seats_in : Ground → Tree → List ℕ
seats_in g t = seats t.points t.count g.places g.count (labels_in g t).roots

unfoldable pub chosen_in : Weights → List Macro → Ground → Tree → Choice
chosen_in w ms g t =
    chosen_of w ms t.points t.count t.edges.keys t.edges.size g.places g.count (labels_in g t).fars (parents_in g t).ups
    (seats_in g t)
