-- Bars and what hangs from them, by the side to which they would move: rules M5, M6 and M10.
use Rattle.std.proofs.Common.{sym, ap, ap₂}
use Rattle.std.specs.Prelude.{Bool, true, false, not, ◌&&◌, ◌||◌, List, [], ◌∷◌, map, ℕ, min, eqb, ℤ, pos, negsuc}
use Rattle.std.proofs.Math.Decide.{ℕ_discrete}
use Rattle.std.proofs.Math.IntN.{pos-ne-negsuc}
use Rattle.std.specs.Int.Signed.{lt_z}
use Rattle.lists.specs.Those.{those}
use Rattle.signed.specs.Order.{z_eq}
use Rattle.plane.specs.declared.Place.{Place}
use Rattle.plane.specs.Place.{place, before}
use Rattle.plane.specs.Distance.{apart}
use Rattle.joined.specs.Labels.{equal, labels}
use Rattle.slide.specs.declared.Side.{Side}
use Rattle.slide.specs.Side.{across}
use Rattle.slide.specs.Bend.{Edge}

-- equality of whole numbers and of places, decided
abbrev size : ℤ → ℕ
size (pos n) = n
size (negsuc n) = n

unfoldable same_number : Discrete ℤ
same_number (pos m) (pos n) = elim (ℕ_discrete m n) [ yes e ↦ yes (ap pos e) | no k ↦ no (λ e. k (ap size e)) ]
same_number (pos m) (negsuc n) = no (pos-ne-negsuc m n)
same_number (negsuc m) (pos n) = no (λ e. pos-ne-negsuc n m (sym e))
same_number (negsuc m) (negsuc n) = elim (ℕ_discrete m n) [ yes e ↦ yes (ap negsuc e) | no k ↦ no (λ e. k (ap size e)) ]

unfoldable pub same : Discrete Place
unfolding same_number ℕ_discrete
same a b =
    elim (same_number a.x b.x) [
      | yes e ↦ elim (same_number a.y b.y) [ yes f ↦ yes (ap₂ place e f) | no k ↦ no (λ e. k (ap (λ p. p.y) e)) ]
      | no k ↦ no (λ e. k (ap (λ p. p.x) e))
    ]

-- an edge along a bar's line, or on a parallel to it
unfoldable pub level : Side → Edge → Bool
level s e = z_eq (across s e.0) (across s e.1)

-- M5: p is a point of the bar of a: level edges join the two. Level edges that share a point are on one line.
unfoldable pub on_bar : Side → List Edge → Place → Place → Bool
on_bar s T a p = let label = labels same (those (level s) T) in equal same (label a) (label p)

-- In what follows a bar is given by the test `on` for its points.

-- M5: an edge of the bar
unfoldable pub of_bar : Side → (Place → Bool) → Edge → Bool
of_bar s on e = level s e && (on e.0 && on e.1)

-- M6: an edge at right angles to the bar that ends at one of its points
unfoldable pub hangs : Side → (Place → Bool) → Edge → Bool
hangs s on e = not (level s e) && (on e.0 || on e.1)

-- M6: it hangs on the side, or on the other side
unfoldable pub ahead : Side → (Place → Bool) → Edge → Bool
ahead s on e =
    (on e.0 && lt_z (across s e.0) (across s e.1)) || (on e.1 && lt_z (across s e.1) (across s e.0))

unfoldable pub behind : Side → (Place → Bool) → Edge → Bool
behind s on e =
    (on e.0 && lt_z (across s e.1) (across s e.0)) || (on e.1 && lt_z (across s e.0) (across s e.1))

-- M6: the far end of a hanging edge, that is not on the bar
unfoldable pub far : (Place → Bool) → Edge → Place
far on e = elim (on e.0) [ true ↦ e.1 | false ↦ e.0 ]

unfoldable pub long : Side → Edge → ℕ
long s e = apart (across s e.0) (across s e.1)

-- the least of a list of numbers, 0 of none
unfoldable pub least : List ℕ → ℕ
least [] = 0
least (n ∷ []) = n
least (n ∷ (m ∷ l)) = min n (least (m ∷ l))

-- M10: how long the shortest edges are that hang on the side
unfoldable pub shortest : Side → (Place → Bool) → List Edge → ℕ
shortest s on T = least (map (long s) (those (ahead s on) T))

-- M9: their far ends
unfoldable pub far_ends : Side → (Place → Bool) → List Edge → List Place
far_ends s on T = map (far on) (those (λ e. eqb (long s e) (shortest s on T)) (those (ahead s on) T))

-- M8: the first and the last of a and the points of a list, in the order of places
unfoldable pub first_of : Place → List Place → Place
first_of a [] = a
first_of a (p ∷ l) = elim (before p a) [ true ↦ first_of p l | false ↦ first_of a l ]

unfoldable pub last_of : Place → List Place → Place
last_of a [] = a
last_of a (p ∷ l) = elim (before a p) [ true ↦ last_of p l | false ↦ last_of a l ]
