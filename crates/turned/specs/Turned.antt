-- Places and macros turned as a bar has them that moves to a side, with natural numbers; edges and points as a bar sees them.
use Rattle.std.specs.Prelude.{Bool, ◌&&◌, ◌||◌, List, ℕ, ◌+◌, ◌-◌, ◌^◌, eqb, ltb, ℤ, get_or}
use Rattle.signed.specs.Sides.{up, down}
use Rattle.plane.specs.declared.Place.{Place}
use Rattle.plane.specs.declared.Macro.{Macro}
use Rattle.plane.specs.Flat.{place_at}
use Rattle.slide.specs.declared.Side.{Side}
use Rattle.slide.specs.Side.{along, across}
use Rattle.slide.specs.Stop.{starts, finishes, near_side, far_side}
use Rattle.straight.specs.Table.{first_end, second_end, edge_at}
use Rattle.turned.specs.declared.Spot.{Spot}
use Rattle.turned.specs.declared.Face.{Face}
use Rattle.turned.specs.declared.Seen.{Seen}

-- a number of 32 bits, raised above zero
unfoldable pub raised : ℤ → ℕ
raised z = (2 ^ 31 + up z) - down z

abbrev pub spot : Side → Place → Spot
spot s p = record { along = raised (along s p); across = raised (across s p) }

abbrev pub face : Side → Macro → Face
face s m = record {
  starts = raised (starts s m);
  finishes = raised (finishes s m);
  near = raised (near_side s m);
  far = raised (far_side s m);
}

unfoldable pub same_spot : Spot → Spot → Bool
same_spot a b = eqb a.along b.along && eqb a.across b.across

-- edge k is along the bars that move to the side
unfoldable pub level_at : Side → List ℤ → List ℕ → ℕ → Bool
level_at s pts ks k = eqb (spot s (edge_at pts ks k).0).across (spot s (edge_at pts ks k).1).across

-- What a bar sees the tables by: its side, its label, the points and their labels, the keys of the edges
pub record View : Type 0 where
  pub side : Side
  pub label : ℕ
  pub points : List ℤ
  pub keys : List ℕ
  pub labels : List ℕ

abbrev pub view : List ℤ → List ℕ → List ℕ → Side → ℕ → View
view pts ks lab s l = record { side = s; label = l; points = pts; keys = ks; labels = lab }

-- the point i is on the bar
abbrev pub on_it : View → ℕ → Bool
on_it v i = eqb (get_or v.labels i 0) v.label

abbrev pub spot_at : View → ℕ → Spot
spot_at v i = spot v.side (place_at v.points i)

-- two points as an edge
abbrev pub seen : View → ℕ → ℕ → Seen
seen v a b = record { first = on_it v a; second = on_it v b; from = spot_at v a; to = spot_at v b }

abbrev pub seen_edge : View → ℕ → Seen
seen_edge v k = seen v (first_end (get_or v.keys k 0)) (second_end (get_or v.keys k 0))

abbrev pub seen_point : View → ℕ → Seen
seen_point v i = seen v i i

-- An edge as a bar sees it: ahead of the bar, behind it, and how long across it

unfoldable pub ahead_of : Seen → Bool
ahead_of e =
    (e.first && ltb e.from.across e.to.across) || (e.second && ltb e.to.across e.from.across)

unfoldable pub behind_of : Seen → Bool
behind_of e =
    (e.first && ltb e.to.across e.from.across) || (e.second && ltb e.from.across e.to.across)

-- how far two numbers are apart
abbrev pub gap : ℕ → ℕ → ℕ
gap a b = (a - b) + (b - a)

abbrev pub long_of : Seen → ℕ
long_of e = gap e.from.across e.to.across
