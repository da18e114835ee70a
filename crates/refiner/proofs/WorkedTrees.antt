-- The refined tree of places and keys, by computing the definitions: what crate worked works out, net by net.
-- Assumes nothing.
use mathlib.Core.List.{List, [], ◌∷◌}
use Prim.Native.Nat.{ℕ, zero, suc}
use lib.IntN.{ℤ, pos}
use lib.ListN.{length}
use Rattle.lists.specs.Any.{any}
use Rattle.signed.specs.Order.{z_min, z_max}
use Rattle.plane.specs.declared.Place.{Place}
use Rattle.plane.specs.declared.Macro.{Macro}
use Rattle.plane.specs.Place.{before, same_place}
use Rattle.plane.specs.Distance.{apart}
use Rattle.plane.specs.Cost.{cost, plain}
use Rattle.plane.specs.Middle.{middle, middle_place}
use Rattle.plane.specs.Macro.{span_meets, meets, clear}
use Rattle.plane.specs.Flat.{place_at, flat_places}
use Rattle.plane.specs.Rank.{later, rank}
use Rattle.lists.specs.Turns.{turns, seek}
use Rattle.tree.specs.Table.{first_end, second_end, tree}
use Rattle.longest.specs.Longest.{edge_cost, measure, costs, wins, longer, shorter}
use Rattle.longest.specs.Longest.{spread, spreads, hang, attach, pass, reached, start, longest, cut_of}
use Rattle.triples.specs.Triple.{sees, taken, dropped, allowed}
use Rattle.candidates.specs.Candidate.{weighed, offer, offers, search, found}
use Rattle.exchanges.specs.Exchange.{shift, closed, drop_two, stands, push, closing, opened}
use Rattle.exchanges.specs.Exchange.{bump, bump_at, carrying, lay, lays, laid_at, exchange}
use Rattle.exchanges.specs.Prune.{mark_of, mark, marks, count_ends, loose, loose_edge, first_loose, prune, pruned}
use Rattle.beside.specs.Beside.{Ground, ground, sources_from, seats, offers as offers_off, search as search_off, either, chosen_of}
use Rattle.beside.specs.Beside.{labels_in, parents_in, seats_in, chosen_in}
use Rattle.refiner.specs.Round.{exchange_with, exchange_in, rounds_in}
use Rattle.refiner.specs.Refined.{refined, add_cost, total}
use Rattle.forest.specs.Edges.{graph, from, filled}
use Rattle.forest.specs.Labels.{settled, starts, labelled}
use Rattle.forest.specs.Parents.{adopted, parented}

-- a table with room for more
unfoldable roomy : List ℤ → ℕ → List ℤ
roomy [] zero = []
roomy [] (suc n) = pos 0 ∷ (pos 0 ∷ roomy [] n)
roomy (x ∷ xs) n = x ∷ roomy xs n

unfoldable roomy_keys : List ℕ → ℕ → List ℕ
roomy_keys [] zero = []
roomy_keys [] (suc n) = 0 ∷ roomy_keys [] n
roomy_keys (x ∷ xs) n = x ∷ roomy_keys xs n

-- the first n edges of a table, by their ends
unfoldable edges_from : List ℤ → List ℕ → ℕ → List (Place × Place)
edges_from pts ks zero = []
edges_from pts [] (suc n) = []
edges_from pts (k ∷ ks) (suc n) = (place_at pts (first_end k), place_at pts (second_end k)) ∷ edges_from pts ks n

-- no vertex beside the tree
abbrev nowhere : Ground
nowhere = ground [] 0 (graph [] [] [] 0)

-- the refined edges and their total; to unfold this is to unfold all that it rests on
unfoldable pub refined_of : List Macro → List Place → List Place → List ℕ → List (Place × Place) × ℕ
unfolding any z_min z_max before same_place apart cost middle middle_place span_meets meets clear flat_places roomy roomy_keys edges_from turns
    seek edge_cost measure costs wins longer shorter spread spreads hang attach pass reached start longest cut_of sees taken dropped
    allowed weighed offer offers search found shift closed drop_two later rank stands push closing opened bump bump_at carrying lay lays
    laid_at exchange mark_of mark marks count_ends loose loose_edge first_loose prune pruned refined add_cost total
    sources_from seats offers_off search_off either chosen_of labels_in parents_in seats_in chosen_in exchange_with exchange_in rounds_in from filled
    settled starts labelled adopted parented
refined_of ms pins points keys =
    let t = tree (roomy (flat_places points) (length pins)) (length points) (roomy_keys keys (length pins)) (length keys) in
    let r = refined (record { pins = pins; macros = ms; weights = plain }) nowhere t in
    (edges_from r.points r.edges.keys r.edges.size, total plain r.points r.edges.keys r.edges.size)
