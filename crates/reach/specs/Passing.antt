-- The way of a bar past macros, points and edges.
use Rattle.std.specs.Prelude.{Bool, true, false, not, ◌&&◌, ◌||◌, List, ℕ, ◌+◌, ◌-◌, ◌/◌, min, max, eqb, ltb, leb, ℤ, length}
use Rattle.plane.specs.Flat.{macro_at}
use Rattle.turned.specs.declared.Spot.{Spot}
use Rattle.turned.specs.declared.Face.{Face}
use Rattle.turned.specs.declared.Seen.{Seen}
use Rattle.reach.specs.declared.Bar.{Bar}
use Rattle.reach.specs.declared.Way.{Way}
use Rattle.turned.specs.Steps.{up_to}
use Rattle.turned.specs.Turned.{View, view, seen_edge, seen_point, face, same_spot, ahead_of, long_of}

-- of the bar, or hanging from it
unfoldable pub own_of : Seen → Bool
own_of e = elim (eqb e.from.across e.to.across) [ true ↦ e.first && e.second | false ↦ e.first || e.second ]

-- it stands ahead of the bar, or across it
unfoldable pub front_of : Bar → Seen → Bool
front_of b e =
    leb (min e.from.along e.to.along) b.last.along
    && (leb b.first.along (max e.from.along e.to.along)
    && leb b.first.across (max e.from.across e.to.across))

-- where the box meets it
abbrev pub low_of : Bar → Seen → Spot
low_of b e = record {
  along = max (min e.from.along e.to.along) b.first.along;
  across = max (min e.from.across e.to.across) b.first.across;
}

abbrev pub high_of : Bar → Seen → Spot
high_of b e = record {
  along = min (max e.from.along e.to.along) b.last.along;
  across = min (max e.from.across e.to.across) b.top;
}

-- the edge is a shortest one ahead, and c its far end
unfoldable pub ends_at : Seen → ℕ → Spot → Bool
ends_at e n c =
    elim (ahead_of e && eqb (long_of e) n) [
      | true ↦ elim e.first [ true ↦ same_spot c e.to | false ↦ same_spot c e.from ]
      | false ↦ false
    ]

-- how a bar sees the tables
abbrev pub seen_by : List ℤ → List ℕ → List ℕ → Bar → View
seen_by pts ks lab b = view pts ks lab b.side b.label

unfoldable pub is_far : View → ℕ → ℕ → Spot → Bool
is_far v e n c = up_to (λ k t. t || ends_at (seen_edge v k) n c) e false

-- it meets the box in a far end and nowhere else
unfoldable pub exempt : View → ℕ → Bar → Seen → Bool
exempt v e b t = same_spot (low_of b t) (high_of b t) && is_far v e b.most (low_of b t)

abbrev pub way : ℕ → Bool → Way
way n t = record { stop = n; free = t }

-- past an edge or a point
unfoldable pub past : View → ℕ → Bar → Seen → Way → Way
past v e b t w =
    let d = min t.from.across t.to.across - b.first.across in
    elim (own_of t || not (front_of b t)) [
      | true ↦ w
      | false ↦ way (min w.stop d) (elim (w.free && leb d b.most) [ true ↦ exempt v e b t | false ↦ w.free ])
    ]

unfoldable pub past_face : Bar → Face → Way → Way
past_face b f w =
    let d = f.near + 1 - b.first.across in
    elim (ltb f.starts b.last.along && (ltb b.first.along f.finishes && ltb b.first.across f.far)) [
      | true ↦ way (min w.stop d) (w.free && ltb b.most d)
      | false ↦ w
    ]

unfoldable pub past_macros : List ℤ → Bar → Way → Way
past_macros ms b w = up_to (λ i. past_face b (face b.side (macro_at ms i))) (length ms / 4) w

unfoldable pub past_points : View → ℕ → ℕ → Bar → Way → Way
past_points v n e b w = up_to (λ i. past v e b (seen_point v i)) n w

unfoldable pub past_edges : View → ℕ → Bar → Way → Way
past_edges v e b w = up_to (λ k. past v e b (seen_edge v k)) e w

-- as far as the shortest edge if nothing bars that, else to one before the first thing that is met
unfoldable pub reached : Bar → Way → ℕ
reached b w = elim w.free [ true ↦ b.most | false ↦ w.stop - 1 ]

unfoldable pub way_of : View → ℕ → ℕ → List ℤ → Bar → Way
way_of v n e ms b = past_edges v e b (past_points v n e b (past_macros ms b (way b.most true)))
