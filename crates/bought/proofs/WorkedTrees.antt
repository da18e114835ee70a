-- E27: bought-in trees worked, by computing the definition: each number, each order of numbers, and what a tree that passes is given.
-- Assumes nothing.
use mathlib.Core.Path.{◌≡◌, refl}
use mathlib.Core.List.{List, [], ◌∷◌, ◌++◌}
use lib.IntN.{ℤ, pos, negsuc}
use lib.ListN.{replicate}
use Rattle.lists.specs.Entries.{fours}
use Rattle.lists.specs.Those.{those}
use Rattle.lists.specs.Total.{total}
use Rattle.lists.specs.Sorted.{position}
use Rattle.lent.specs.Told.{Told, refused, given}
use Rattle.joined.specs.Cost.{lengths}
use Rattle.joined.specs.Table.{changed, merged_by}
use Rattle.plane.specs.declared.Weights.{Weights}
use Rattle.plane.specs.Place.{same_place}
use Rattle.plane.specs.Distance.{distance}
use Rattle.plane.specs.Cost.{plain}
use Rattle.net.specs.Net.{net_with}
use Rattle.net.specs.Tests.{out_of_range}
use Rattle.net.specs.WorkedNets.{Lists, one_pin, around_one, three_pins}
use Rattle.graph.proofs.WorkedGraphs.{graph_of as worked}
use Rattle.forest.specs.Edges.{from, entries}
use Rattle.bought.specs.Edges.{edges_of, ends_of, points_of}
use Rattle.bought.specs.Verdict.{edges_miscounted, unfit, one_group, is_tree, ends_at, bare, no_tree, verdict, bought}

-- to unfold this is to unfold all that it rests on
unfoldable pub judged : Weights → Lists → List ℤ → Told (ℤ × ℤ)
unfolding worked fours those total position lengths changed merged_by same_place distance out_of_range from entries
    edges_of ends_of points_of edges_miscounted unfit one_group is_tree ends_at bare no_tree verdict bought
judged w lists edges = bought (net_with w lists.pins lists.macros) edges

-- an edge as its four numbers
abbrev edge : ℤ → ℤ → ℤ → ℤ → List ℤ
edge a b c d = a ∷ (b ∷ (c ∷ (d ∷ [])))

-- around the macro 4, −2, 6, 3 of E3, from (0, 0) to (10, 0)
abbrev first : List ℤ
first = edge (pos 0) (pos 0) (pos 4) (negsuc 1)

abbrev below : List ℤ
below = edge (pos 4) (negsuc 1) (pos 6) (negsuc 1)

abbrev last : List ℤ
last = edge (pos 6) (negsuc 1) (pos 10) (pos 0)

abbrev tree : List ℤ
tree = first ++ (below ++ last)

-- the second edge of that tree from its other end
abbrev turned : List ℤ
turned = edge (pos 6) (negsuc 1) (pos 4) (negsuc 1)

-- through the macro, and with equal ends
abbrev through : List ℤ
through = edge (pos 0) (pos 0) (pos 10) (pos 0)

abbrev still : List ℤ
still = edge (pos 7) (pos 7) (pos 7) (pos 7)

-- with an end out of range
abbrev far : List ℤ
far = edge (pos 0) (pos 0) (pos 1000001) (pos 0)

pub record Table : Type 0 where
  -- it passes, in any order and from either end; weights 1 and 2 change its cost and not its metal
  pub passes : judged plain around_one tree ≡ given (pos 14, pos 14)
  pub other-order : judged plain around_one (last ++ (turned ++ first)) ≡ given (pos 14, pos 14)
  pub weighted : judged (record { across = 1; along = 2 }) around_one tree ≡ given (pos 18, pos 14)
  -- a lone pin: with no edge it passes, with an edge it never does
  pub lone : judged plain one_pin [] ≡ given (pos 0, pos 0)
  pub lone-edge : judged plain one_pin (edge (pos 5) (pos 5) (pos 6) (pos 5)) ≡ refused 35
  -- 33: not whole fours; a coordinate out of range, in the last edge too, and before any 34; more than 1,535 edges
  pub not-whole : judged plain around_one (tree ++ (pos 0 ∷ [])) ≡ refused 33
  pub out-of-range : judged plain around_one (still ++ far) ≡ refused 33
  pub too_many : judged plain around_one (replicate 6144 (pos 0)) ≡ refused 33
  pub as_many : judged plain around_one (replicate 6140 (pos 0)) ≡ refused 34
  -- 34: through a macro, inside one, with an end inside, and with equal ends, also twice; before any 35
  pub not-clear : judged plain around_one through ≡ refused 34
  pub within : judged plain around_one (edge (pos 5) (pos 0) (pos 5) (pos 1)) ≡ refused 34
  pub end-within : judged plain around_one (edge (pos 0) (pos 0) (pos 5) (pos 0)) ≡ refused 34
  pub equal-ends : judged plain around_one (tree ++ still) ≡ refused 34
  pub equal-twice : judged plain around_one (still ++ still) ≡ refused 34
  pub fit-first : judged plain around_one (below ++ (turned ++ through)) ≡ refused 34
  -- 35: no edge for two pins; an edge twice, from one end and from both; an edge left out, a pin left out, a bare point
  pub no_edge : judged plain around_one [] ≡ refused 35
  pub twice : judged plain around_one (tree ++ below) ≡ refused 35
  pub both_ends : judged plain around_one (tree ++ turned) ≡ refused 35
  pub left_out : judged plain around_one (first ++ last) ≡ refused 35
  pub pin-out : judged plain three_pins (edge (pos 0) (pos 0) (pos 4) (pos 0)) ≡ refused 35
  pub bare-point : judged plain around_one (tree ++ edge (pos 0) (pos 0) (pos 0) (pos 1)) ≡ refused 35
  -- 35: a ring through two pins with the third apart, one edge fewer than points and no bare point
  pub ring : judged plain three_pins (edge (pos 0) (pos 0) (pos 4) (pos 0) ++ (edge (pos 4) (pos 0) (pos 0) (pos 1)
      ++ edge (pos 0) (pos 1) (pos 0) (pos 0))) ≡ refused 35

pub table : Table
unfolding judged
table = record {
  passes = refl;
  other-order = refl;
  weighted = refl;
  lone = refl;
  lone-edge = refl;
  not-whole = refl;
  out-of-range = refl;
  too_many = refl;
  as_many = refl;
  not-clear = refl;
  within = refl;
  end-within = refl;
  equal-ends = refl;
  equal-twice = refl;
  fit-first = refl;
  no_edge = refl;
  twice = refl;
  both_ends = refl;
  left_out = refl;
  pin-out = refl;
  bare-point = refl;
  ring = refl;
}
