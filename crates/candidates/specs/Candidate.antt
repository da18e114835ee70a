-- Candidates, and the one that a round takes.
use Rattle.std.specs.Prelude.{Bool, true, false, ◌&&◌, ◌||◌, List, ℕ, ◌+◌, ◌-◌, ltb, eqb, ℤ, get_or}
use Rattle.plane.specs.declared.Place.{Place}
use Rattle.plane.specs.declared.Macro.{Macro}
use Rattle.plane.specs.declared.Weights.{Weights}
use Rattle.plane.specs.Cost.{cost}
use Rattle.plane.specs.Middle.{middle_place}
use Rattle.plane.specs.Flat.{place_at}
use Rattle.candidates.specs.declared.Best.{Best}
use Rattle.lists.specs.Turns.{turns}
use Rattle.tree.specs.Table.{first_end, second_end}
use Rattle.longest.specs.Longest.{cut_of, costs, longest}
use Rattle.triples.specs.Triple.{allowed}

-- the candidate of edge `edge` and point `point`, its L and its gain; with gain 0, none
abbrev pub best : ℕ → ℕ → ℕ → ℕ → Best
best g k u l = record { gain = g; edge = k; point = u; cut = l }

-- R5: s, the middle of the three places axis by axis
abbrev pub middle_of : List ℤ → ℕ → ℕ → ℕ → Place
middle_of pts a b u = middle_place (place_at pts a) (place_at pts b) (place_at pts u)

abbrev pub chosen : Bool → Best → Best → Best
chosen true new old = new
chosen false new old = old

-- R9: the gain is the cost of L minus that from s to u. The candidate of edge k from a to b and the point u, whose L is l and costs x: it
-- takes the place of the best so far where its gain is greater and it is allowed.
unfoldable pub weighed : Weights → List ℤ → ℕ → List Macro → ℕ → ℕ → ℕ → ℕ → ℕ → ℕ → Best → Best
weighed w pts n ms a b k u l x c =
    let d = cost w (middle_of pts a b u) (place_at pts u) in
    chosen (ltb (c.gain + d) x && allowed pts n ms a b u (middle_of pts a b u)) (best (x - d) k u l) c

-- R3: u is neither a nor b. That L is another edge than (a, b) is tested too; in a tree it always is.
unfoldable pub offer : Weights → List ℤ → ℕ → List Macro → List ℕ → List ℕ → ℕ → ℕ → ℕ → ℕ → Best → Best
offer w pts n ms el top a b k u c =
    let l = cut_of el top a b u in
    chosen (eqb u a || (eqb u b || eqb l k)) c (weighed w pts n ms a b k u l (get_or el l 0) c)

-- edge k with all points
unfoldable pub offers : Weights → List ℤ → ℕ → List Macro → List ℕ → List ℕ → List ℕ → ℕ → Best → Best
offers w pts n ms keys el top k c = turns (offer w pts n ms el top (first_end (get_or keys k 0)) (second_end (get_or keys k 0)) k) 0 n c

-- R10: a round takes the greatest gain above zero, then the smallest edge, then the smallest point. Edges and points come in order, so the
-- first of the greatest stays.
unfoldable pub search : Weights → List ℤ → ℕ → List Macro → List ℕ → ℕ → List ℕ → List ℕ → Best
search w pts n ms keys e el top = turns (offers w pts n ms keys el top) 0 e (best 0 0 0 0)

unfoldable pub found : Weights → List Macro → List ℤ → ℕ → List ℕ → ℕ → Best
found w ms pts n keys e =
    let el = costs w pts keys e in
    search w pts n ms keys e el (longest keys el e n)
