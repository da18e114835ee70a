-- Places are equal or not, and the points of a tree, in order, are each once.
-- Assumes nothing.
use mathlib.Core.Path.{sym, ap, ◌∙◌}
use mathlib.Core.List.{List}
use Prim.Native.Nat.{ℕ}
use lib.IntN.{ℤ}
use Rattle.lists.specs.Member.{Once}
use Rattle.lists.proofs.TestLaws.{by, differ}
use Rattle.plane.specs.declared.Place.{Place}
use Rattle.plane.specs.Place.{before, same_place}
use Rattle.plane.specs.Flat.{place_at}
use Rattle.plane.specs.Rank.{InOrder}
use Rattle.plane.proofs.PlaceLaws.{same_true, same_refl, before-irrefl}
use Rattle.tree.specs.Places.{points_of}
use Rattle.tree.proofs.ListingLaws.{listing-once}

pub same-place : Discrete Place
same-place a b =
    by (same_place a b) (λ t. yes (same_true a b t)) (λ t. no (λ e. differ (ap (same_place a) (sym e) ∙ same_refl a) t))

-- points in order are each once
pub order-once : (pts : List ℤ) (n : ℕ) → InOrder pts n → Once (points_of pts n)
order-once pts n o =
    listing-once (place_at pts) n (λ i j l h e. differ (ap (before (place_at pts i)) (e) ∙ o i j l h) (before-irrefl (place_at pts i)))
