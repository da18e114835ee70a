-- M10 in closed form: how far the bar's box may grow before it meets each thing ahead, found by one scan of macros, points and edges.
use Rattle.std.specs.Prelude.{Bool, true, false, not, ◌&&◌, ◌||◌, List, [], ◌∷◌, ℕ, ◌-◌, min, ℤ, pos, ◌+ℤ◌, ◌-ℤ◌}
use Rattle.std.specs.Int.Signed.{lt_z, le_z}
use Rattle.signed.specs.Sides.{up}
use Rattle.signed.specs.Order.{z_min, z_max}
use Rattle.plane.specs.declared.Place.{Place}
use Rattle.plane.specs.declared.Macro.{Macro}
use Rattle.net.specs.Net.{Net}
use Rattle.slide.specs.declared.Side.{Side}
use Rattle.slide.specs.declared.Side.TheVariants.{Above, Below, Right, Left}
use Rattle.slide.specs.Side.{along, across}
use Rattle.slide.specs.Bend.{Edge}
use Rattle.slide.specs.Bar.{of_bar, hangs, shortest}
use Rattle.slide.specs.Sweep.{first_place, last_place, allowed}

-- a macro's sides as a bar meets them: along the bar, and across it
unfoldable pub starts : Side → Macro → ℤ
starts Above m = m.left
starts Below m = m.left
starts Right m = m.bottom
starts Left m = m.bottom

unfoldable pub finishes : Side → Macro → ℤ
finishes Above m = m.right
finishes Below m = m.right
finishes Right m = m.top
finishes Left m = m.top

unfoldable pub near_side : Side → Macro → ℤ
near_side Above m = m.bottom
near_side Below m = pos 0 -ℤ m.top
near_side Right m = m.left
near_side Left m = pos 0 -ℤ m.right

unfoldable pub far_side : Side → Macro → ℤ
far_side Above m = m.top
far_side Below m = pos 0 -ℤ m.bottom
far_side Right m = m.right
far_side Left m = pos 0 -ℤ m.left

-- how far z lies beyond y, 0 if it does not
unfoldable pub beyond : ℤ → ℤ → ℕ
beyond y z = up (z -ℤ y)

-- the extent of an edge, or of a place as the edge of it and itself
unfoldable pub low_along : Side → Edge → ℤ
low_along s e = z_min (along s e.0) (along s e.1)

unfoldable pub high_along : Side → Edge → ℤ
high_along s e = z_max (along s e.0) (along s e.1)

unfoldable pub low_across : Side → Edge → ℤ
low_across s e = z_min (across s e.0) (across s e.1)

unfoldable pub high_across : Side → Edge → ℤ
high_across s e = z_max (across s e.0) (across s e.1)

module _ (s : Side) (f l : Place) where
  -- it stands ahead of the bar from f to l, or across it: a box that grows far enough meets it
  unfoldable pub edge_ahead : Edge → Bool
  edge_ahead e = (le_z (low_along s e) (along s l) && le_z (along s f) (high_along s e)) && le_z (across s f) (high_across s e)

  unfoldable pub macro_ahead : Macro → Bool
  macro_ahead m = (lt_z (starts s m) (along s l) && lt_z (along s f) (finishes s m)) && lt_z (across s f) (far_side s m)

  -- the least distance at which the box meets it, or n if it never does or is no hindrance
  unfoldable pub edge_stop : ℕ → (Edge → Bool) → Edge → ℕ
  edge_stop n own e = elim (edge_ahead e && not (own e)) [ true ↦ beyond (across s f) (low_across s e) | false ↦ n ]

  unfoldable pub macro_stop : ℕ → Macro → ℕ
  macro_stop n m = elim (macro_ahead m) [ true ↦ beyond (across s f) (near_side s m +ℤ pos 1) | false ↦ n ]

-- the least of n and the numbers of a list's entries
unfoldable pub least_stop : {A : Type 0} → (A → ℕ) → ℕ → List A → ℕ
least_stop g n [] = n
least_stop g n (x ∷ l) = min (g x) (least_stop g n l)

module _ (s : Side) (on : Place → Bool) (net : Net) (X : List Place) (T : List Edge) (a : Place) where
  -- where the first hindrance is met, at most the shortest hanging edge
  unfoldable pub stop : ℕ
  stop =
      let n = shortest s on T in
      let f = first_place s on X T a in
      let l = last_place s on X T a in
      min (least_stop (macro_stop s f l n) n net.macros)
      (min (least_stop (λ (p : Place). edge_stop s f l n (λ e. on e.0) (p, p)) n X)
      (least_stop (edge_stop s f l n (λ e. of_bar s on e || hangs s on e)) n T))

  -- to the far end if that is allowed, else to one before the first hindrance
  unfoldable pub closed : ℕ
  closed = elim (allowed s on X T a net (shortest s on T)) [ true ↦ shortest s on T | false ↦ stop - 1 ]
