-- What is known of a candidate that a round takes.
use Rattle.std.specs.Prelude.{◌≡◌, true, false, List, ℕ, ◌<◌, ℤ, get_or}
use Rattle.lists.specs.Member.{◌∈◌}
use Rattle.plane.specs.declared.Place.{Place}
use Rattle.plane.specs.declared.Macro.{Macro}
use Rattle.plane.specs.Flat.{place_at}
use Rattle.joined.specs.Joined.{Alike}
use Rattle.joined.specs.Exchange.{Toward, steps}
use Rattle.triples.specs.Triple.{sees, dropped}
use Rattle.candidates.specs.Candidate.{middle_of}
use Rattle.tree.specs.Table.{first_end, second_end}
use Rattle.tree.specs.Places.{edges_of}

-- what is known of a candidate that a round takes: edge and L are two edges, u is a third point that sees the edge, the candidate is not
-- dropped, and L is a step of the way from u to the edge
pub record Taken (ms : List Macro) (pts : List ℤ) (n : ℕ) (ks : List ℕ) (e k l u : ℕ) : Type 0 where
  pub edge : k < e
  pub cut : l < e
  pub two : k ≡ l → ⊥
  pub point : u < n
  pub not_first : u ≡ first_end (get_or ks k 0) → ⊥
  pub not_second : u ≡ second_end (get_or ks k 0) → ⊥
  pub seen : sees ms (place_at pts (first_end (get_or ks k 0))) (place_at pts (second_end (get_or ks k 0))) (place_at pts u) ≡ true
  pub kept : dropped pts n (first_end (get_or ks k 0)) (second_end (get_or ks k 0)) u
      (middle_of pts (first_end (get_or ks k 0)) (second_end (get_or ks k 0)) u) ≡ false
  pub toward : Toward (edges_of pts ks e) (place_at pts u) (place_at pts (first_end (get_or ks k 0))) (place_at pts (second_end (get_or ks k 0)))
  pub one : Place
  pub other : Place
  pub on : (one, other) ∈ steps (place_at pts u) toward.free.points
  pub longest : Alike one other (place_at pts (first_end (get_or ks l 0))) (place_at pts (second_end (get_or ks l 0)))
