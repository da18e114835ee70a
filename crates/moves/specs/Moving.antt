-- What is asked of a bar that may move, of tables.
use Rattle.std.specs.Prelude.{Bool, true, false, ◌||◌, List, [], ℕ, ◌+◌, ◌<◌, ℤ, get_or}
use Rattle.plane.specs.declared.Place.{Place}
use Rattle.plane.specs.declared.Weights.{Weights}
use Rattle.plane.specs.Place.{same_place}
use Rattle.plane.specs.Flat.{place_at}
use Rattle.net.specs.Pins.{pin_at}
use Rattle.slide.specs.declared.Side.{Side}
use Rattle.slide.specs.declared.Side.TheVariants.{Above, Below, Right, Left}
use Rattle.slide.specs.Side.{horizontal}
use Rattle.straight.specs.Table.{straight_bound}
use Rattle.turned.specs.Steps.{up_to, set_up_to}
use Rattle.turned.specs.Turned.{View, view, on_it, spot_at}
use Rattle.reach.specs.declared.Bar.{Bar}

unfoldable pub opposite : Side → Side
opposite Above = Below
opposite Below = Above
opposite Right = Left
opposite Left = Right

-- what a unit of a hanging edge costs
unfoldable pub weight_in : Weights → Side → ℕ
weight_in w s = elim (horizontal s) [ true ↦ w.along | false ↦ w.across ]

-- the tables as far as labels go
abbrev pub label_view : List ℕ → ℕ → View
label_view lab l = view [] [] lab Above l

-- the first m seats are numbers of points
pub record Seated (m : ℕ) (seats : List ℕ) : Type 0 where
  pub seat : (i : ℕ) → i < m → get_or seats i 0 < straight_bound

-- a pin, by the number of its point, is on the bar
unfoldable pub held : View → List ℕ → ℕ → Bool
held v seats m = up_to (λ i t. t || on_it v (get_or seats i 0)) m false

unfoldable pub chosen : Bool → ℕ → ℕ → ℕ
chosen true a b = a
chosen false a b = b

-- the last point of the bar
unfoldable pub last_on : View → ℕ → ℕ
last_on v n = up_to (λ i x. chosen (on_it v i) i x) n v.label

abbrev pub bar : View → ℕ → ℕ → Bar
bar v n d = record {
  side = v.side;
  label = v.label;
  first = spot_at v v.label;
  last = spot_at v (last_on v n);
  most = d;
  top = (spot_at v v.label).across + d;
}

-- the number of the point at p, and those of the first m pins
unfoldable pub seat_of : List ℤ → ℕ → Place → ℕ
seat_of pts n p = up_to (λ i x. chosen (same_place p (place_at pts i)) i x) n 0

unfoldable pub seats_of : List ℤ → ℕ → List ℤ → ℕ → List ℕ → List ℕ
seats_of pts n pins m t = set_up_to (λ j x. seat_of pts n (pin_at pins j)) m t
