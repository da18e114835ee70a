-- R12, R13: a round removes (a, b) and L and lays edges from s to a, to b and to u, none of length zero.
use Rattle.std.specs.Prelude.{Bool, true, false, ◌&&◌, List, [], ◌∷◌, ℕ, zero, suc, ◌+◌, ◌-◌, ltb, ℤ, get_or, set}
use Rattle.plane.specs.declared.Place.{Place}
use Rattle.plane.specs.Place.{same_place}
use Rattle.plane.specs.Flat.{place_at}
use Rattle.plane.specs.Rank.{rank}
use Rattle.candidates.specs.declared.Best.{Best}
use Rattle.lists.specs.Turns.{turns}
use Rattle.tree.specs.Table.{key, first_end, second_end, Row, row, Tree}
use Rattle.candidates.specs.Candidate.{middle_of}
use Rattle.tree.specs.Table.{set_point}

-- Edges taken out

-- each entry from a number on gets the next one's value
unfoldable pub shift : ℕ → List ℕ → List ℕ
shift i xs = set xs i (get_or xs (suc i) 0)

-- n entries and one more: entry k is taken out
unfoldable pub closed : ℕ → ℕ → List ℕ → List ℕ
closed k n xs = turns shift k (n - k) xs

-- n entries and two more: entries k and l are taken out, the larger number first
unfoldable pub drop_two : ℕ → ℕ → ℕ → List ℕ → List ℕ
drop_two n k l xs = elim (ltb k l) [ true ↦ closed k n (closed l (n + 1) xs) | false ↦ closed l n (closed k (n + 1) xs) ]

-- Points

-- s is the place of point p
unfoldable pub stands : List ℤ → ℕ → ℕ → Place → Bool
stands pts n p s = ltb p n && same_place s (place_at pts p)

-- points moved on by one, with one in hand
pub record Hand : Type 0 where
  pub pts : List ℤ
  pub held : Place

abbrev pub hand : List ℤ → Place → Hand
hand p h = record { pts = p; held = h }

unfoldable pub push : ℕ → Hand → Hand
push i h = hand (set_point h.pts i h.held) (place_at h.pts i)

unfoldable pub closing : ℕ → Hand → List ℤ
closing n h = set_point h.pts n h.held

-- n points with s put in at number p
unfoldable pub opened : List ℤ → ℕ → ℕ → Place → List ℤ
opened pts n p s = closing n (turns push p (n - p) (hand pts s))

-- a new point at number p moves the numbers from p on
unfoldable pub bump : ℕ → ℕ → ℕ
bump p i = elim (ltb i p) [ true ↦ i | false ↦ i + 1 ]

unfoldable pub bump_at : ℕ → ℕ → List ℕ → List ℕ
bump_at p i xs = set xs i (key (bump p (first_end (get_or xs i 0))) (bump p (second_end (get_or xs i 0))))

-- Edges laid

-- the table from number i on, n entries in order, with q in hand
unfoldable pub carrying : ℕ → ℕ → ℕ → List ℕ → List ℕ
carrying i zero q xs = set xs i q
carrying i (suc n) q xs =
    elim (ltb q (get_or xs i 0)) [
      | true ↦ carrying (suc i) n (get_or xs i 0) (set xs i q)
      | false ↦ carrying (suc i) n q xs
    ]

-- R13: the edge of points p and a, where it has a length
unfoldable pub lay : ℕ → ℕ → Row → Row
lay p a r =
    elim (ltb p a) [
      | true ↦ row (carrying 0 r.size (key p a) r.keys) (r.size + 1)
      | false ↦ elim (ltb a p) [ true ↦ row (carrying 0 r.size (key a p) r.keys) (r.size + 1) | false ↦ r ]
    ]

-- edges one after the other, each by its two points
unfoldable pub lays : List (ℕ × ℕ) → Row → Row
lays [] r = r
lays (e ∷ es) r = lays es (lay e.0 e.1 r)

-- R13: from s to a, to b and to u
abbrev pub star : ℕ → ℕ → ℕ → ℕ → List (ℕ × ℕ)
star p a b u = (p, a) ∷ ((p, b) ∷ ((p, u) ∷ []))

-- s laid at number p, where it stands or is put
unfoldable pub laid_at : List ℤ → ℕ → List ℕ → ℕ → ℕ → ℕ → ℕ → ℕ → Place → Tree
laid_at pts n ks e p a b u s =
    elim (stands pts n p s) [
      | true ↦ record { points = pts; count = n; edges = lays (star p a b u) (row ks e) }
      | false ↦
          record {
            points = opened pts n p s;
            count = n + 1;
            edges = lays (star p (bump p a) (bump p b) (bump p u)) (row (turns (bump_at p) 0 e ks) e);
          }
    ]

unfoldable pub exchange : Best → List ℤ → ℕ → List ℕ → ℕ → Tree
exchange c pts n ks e =
    let k = get_or ks c.edge 0 in
    let s = middle_of pts (first_end k) (second_end k) c.point in
    laid_at pts n (drop_two (e - 2) c.edge c.cut ks) (e - 2) (rank pts n s) (first_end k) (second_end k) c.point s
