-- The verdict on a list of edges: rules C33 to C35 and C79.
use Rattle.std.specs.Prelude.{Bool, not, cond, ◌||◌, ◌&&◌, List, ℕ, suc, ◌/◌, ◌%◌, eqb, ltb, ℤ, pos, length, get_or, Result}
use Rattle.lists.specs.Any.{any}
use Rattle.lists.specs.Those.{those}
use Rattle.lists.specs.Sorted.{position}
use Rattle.lent.specs.Told.{Told, refused, given}
use Rattle.joined.specs.Cost.{lengths}
use Rattle.joined.specs.Table.{merged_by}
use Rattle.plane.specs.declared.Place.{Place}
use Rattle.plane.specs.declared.Macro.{Macro}
use Rattle.plane.specs.Place.{before, same_place}
use Rattle.plane.specs.Distance.{distance}
use Rattle.plane.specs.Macro.{clear}
use Rattle.net.specs.Net.{Net, cost_in}
use Rattle.net.specs.declared.Refusal.{Refusal}
use Rattle.net.specs.Answer.{told_by}
use Rattle.net.specs.Tests.{out_of_range}
use Rattle.forest.specs.Edges.{from, entries}
use Rattle.bought.specs.Bounds.{bought_bound}
use Rattle.bought.specs.Edges.{Edge, edges_of, ends_of, points_of}
use Rattle.bought.specs.declared.Sums.{Sums}

-- C33: not whole fours, or more edges than the bound
unfoldable pub edges_miscounted : List ℤ → Bool
edges_miscounted s = not (eqb (length s % 4) 0) || ltb bought_bound (length s / 4)

-- C34, for one edge: equal ends, or ends that are not clear of each other
unfoldable pub unfit : List Macro → Edge → Bool
unfit macros e = same_place e.0 e.1 || not (clear e.0 e.1 macros)

-- V3: an edge by the numbers of its ends among the points
abbrev pub end_numbers : List Place → Edge → ℕ × ℕ
end_numbers X e = (position before X e.0, position before X e.1)

-- V3: the first n labels are one
unfoldable pub one_group : List ℕ → ℕ → Bool
one_group t n = not (any (λ y. not (eqb y (get_or t 0 0))) (entries t 0 n))

-- V3, V4: one edge fewer than points, and all points joined
unfoldable pub is_tree : List Place → List Edge → Bool
is_tree pins T =
    let X = points_of pins T in
    eqb (length X) (suc (length T)) && one_group (merged_by (end_numbers X) T (from 0 (length X))) (length X)

-- how many of the ends are at a place
unfoldable pub ends_at : List Place → Place → ℕ
ends_at ends p = length (those (same_place p) ends)

-- V6: an end that has no other edge, and is no pin
unfoldable pub bare : List Place → List Place → Place → Bool
bare pins ends p = eqb (ends_at ends p) 1 && not (any (same_place p) pins)

-- C35: no one tree, or a point with a single edge that is no pin
unfoldable pub no_tree : List Place → List Edge → Bool
no_tree pins T = not (is_tree pins T) || any (bare pins (ends_of T)) (ends_of T)

-- C79: 34, over the whole list, then 35; otherwise its cost and its metal
unfoldable pub verdict : Net → List Edge → Told (ℤ × ℤ)
verdict net T =
    cond (any (unfit net.macros) T) (refused 34)
    (cond (no_tree net.pins T) (refused 35) (given (pos (lengths (cost_in net) T), pos (lengths distance T))))

-- C33, C79: 33, over the whole list, before them
unfoldable pub bought : Net → List ℤ → Told (ℤ × ℤ)
bought net s = cond (edges_miscounted s || any out_of_range s) (refused 33) (verdict net (edges_of s))

-- what the code's answer says
abbrev pub told_verdict : Result Sums Refusal → Told (ℤ × ℤ)
told_verdict = told_by (λ sums. (sums.cost, sums.metal))
