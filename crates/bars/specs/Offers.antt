-- The moves of bars, offered one after the other.
use Rattle.std.specs.Prelude.{◌≡◌, true, false, List, ◌⊎◌, ℕ, ◌-◌, ◌*◌, ◌≤◌, ◌<◌, leb, ℤ, pos, length, get_or}
use Rattle.plane.specs.declared.Place.{Place}
use Rattle.plane.specs.Place.{place}
use Rattle.plane.specs.Flat.{place_at}
use Rattle.slide.specs.declared.Side.{Side}
use Rattle.slide.specs.declared.Move.{Move}
use Rattle.slide.specs.declared.Side.TheVariants.{Above, Right}
use Rattle.straight.specs.Table.{straight_bound, first_end}
use Rattle.slide.specs.Slide.{better}
use Rattle.bars.specs.declared.Best.{Best}
use Rattle.reach.specs.declared.Size.{Size}
use Rattle.turned.specs.Steps.{up_to, Numbers}
use Rattle.turned.specs.Turned.{View, view}
use Rattle.labels.specs.Labelling.{leads}
use Rattle.hanging.specs.Hanging.{hang}
use Rattle.reach.specs.Passing.{reached, way_of}
use Rattle.moves.specs.Moving.{opposite, weight_in, held, bar}

abbrev pub move : ℕ → Place → Side → ℕ → Move
move g p s d = record { saving = g; first = p; side = s; distance = d }

abbrev pub best : ℕ → Move → Best
best l m = record { label = l; best = m }

-- what each unit of distance saves
abbrev pub rate_of : View → Size → ℕ
rate_of v z = ((hang v z.edges).ahead - (hang v z.edges).behind) * weight_in z.weights v.side

-- the move by d
abbrev pub move_by : View → Size → ℕ → Move
move_by v z d = move (d * rate_of v z) (place_at v.points v.label) v.side d

unfoldable pub reach_of : View → Size → List ℤ → ℕ
reach_of v z ms =
    let b = bar v z.points (hang v z.edges).shortest in reached b (way_of v z.points z.edges ms b)

-- by less than r a move at this rate saves less than so much; or r is at most 1
abbrev pub Needed : ℕ → ℕ → ℕ → Type 0
Needed saving rate r = (r ≤ 1) ⊎ ((0 < rate) × (r * rate ≤ saving))

unfoldable pub taken : View → Move → Best → Best
taken v m c = elim (better m c.best) [ true ↦ best v.label m | false ↦ c ]

unfoldable pub offered : View → Size → List ℤ → List ℕ → Best → Best
offered v z ms seats c =
    let h = hang v z.edges in
    elim (leb h.ahead h.behind) [
      | true ↦ c
      | false ↦
          elim (better (move_by v z h.shortest) c.best) [
            | false ↦ c
            | true ↦ elim (held v seats z.pins) [ true ↦ c | false ↦ taken v (move_by v z (reach_of v z ms)) c ]
          ]
    ]

-- the bar of edge k to both sides of the direction s, if the edge is a first one of it: a bar is met once
unfoldable pub offered_both : List ℤ → List ℕ → List ℕ → Size → List ℤ → List ℕ → Side → ℕ → Best → Best
offered_both pts ks lab z ms seats s k c =
    let l = get_or lab (first_end (get_or ks k 0)) 0 in
    elim (leads s pts ks lab k) [
      | true ↦ offered (view pts ks lab (opposite s) l) z ms seats (offered (view pts ks lab s l) z ms seats c)
      | false ↦ c
    ]

abbrev pub no_move : Best
no_move = best 0 (move 0 (place (pos 0) (pos 0)) Above 0)

-- every edge in turn, along rows and along columns
unfoldable pub searched : List ℤ → List ℕ → List ℕ → List ℕ → Size → List ℤ → List ℕ → Best
searched pts ks rows columns z ms seats =
    up_to
    (λ k c. offered_both pts ks columns z ms seats Right k (offered_both pts ks rows z ms seats Above k c))
    z.edges no_move

-- a table for labels as it is lent
pub record Fresh (t : List ℕ) : Type 0 where
  pub numbers : Numbers t
  pub room : length t ≡ straight_bound
