-- Gaps and distance: the absolute value of a number that is not below zero, and how far numbers lie apart (the same both ways, 0 exactly
-- at equal numbers, additive through a number between, the triangle), from which cost has its laws. Of distance, which is plain length,
-- only what metal needs.
-- Assumes nothing.
use mathlib.Core.Path.{◌≡◌, ap₂}
use mathlib.Core.Bool.{false}
use Prim.Native.Nat.{ℕ, ◌+◌, ◌-◌, ◌^◌, ◌≤◌, ◌<◌, min, max}
use lib.IntN.{ℤ, pos, ◌-ℤ◌, nat_abs}
use lib.Signed.{lt_z, le_z}
use mir.Syntax.{w32}
use mir.Val.{SFits}
use Rattle.lists.proofs.TestLaws.{by}
use Rattle.signed.specs.Sides.{up, down, Le}
use Rattle.signed.proofs.SideLaws.{one_side, of-sfits, sub-sides, abs-sides, up_pos, down_pos, eq_of, signed}
use Rattle.signed.proofs.OrderLaws.{min-sides, max-sides}
use Rattle.plane.specs.declared.Place.{Place}
use Rattle.plane.specs.Box.{Between}
use Rattle.plane.specs.Distance.{apart, distance}

-- the absolute value of a number that is not below zero
pub unturned : (d : ℤ) → lt_z d (pos 0) ≡ false → d ≡ pos (nat_abs d)
unturned d e = eq_of _ _ (omega (signed, one_side d, abs-sides d, up_pos (nat_abs d), down_pos (nat_abs d), up_pos 0, down_pos 0))

-- what omega needs of `apart`
pub apart-sides : (a b : ℤ) → apart a b ≡ max (up a + down b) (up b + down a) - min (up a + down b) (up b + down a)
unfolding apart
apart-sides a b = omega (signed, sub-sides a b, abs-sides (a -ℤ b), one_side (a -ℤ b))

pub apart_fits : (a b : ℤ) → SFits w32 a → SFits w32 b → apart a b < 2 ^ 32
apart_fits a b f g = omega (signed, apart-sides a b, of-sfits w32 a f, of-sfits w32 b g)

-- the same both ways
pub apart-comm : (a b : ℤ) → apart a b ≡ apart b a
apart-comm a b = omega (signed, apart-sides a b, apart-sides b a)

pub distance-comm : (a b : Place) → distance a b ≡ distance b a
unfolding distance
distance-comm a b = ap₂ ◌+◌ (apart-comm a.x b.x) (apart-comm a.y b.y)

-- 0 exactly at equal places
pub apart-self : (a : ℤ) → apart a a ≡ 0
apart-self a = omega (signed, apart-sides a a)

pub apart_none : (a b : ℤ) → apart a b ≡ 0 → a ≡ b
apart_none a b e = eq_of a b (omega (signed, apart-sides a b))

pub distance_self : (a : Place) → distance a a ≡ 0
unfolding distance
distance_self a = omega (signed, apart-self a.x, apart-self a.y)

pub distance_none : (a b : Place) → distance a b ≡ 0 → a ≡ b
unfolding distance
distance_none a b e =
    let across : a.x ≡ b.x = apart_none a.x b.x (omega signed) in
    let along : a.y ≡ b.y = apart_none a.y b.y (omega signed) in
    ap₂ (λ (x y : ℤ). record { x = x; y = y }) across along

-- in order, the distance is what is between; linear facts, so that `omega` need not split
pub apart-ordered : (a b : ℤ) → Le a b → up a + down b + apart a b ≡ up b + down a
apart-ordered a b h = omega (signed, h, apart-sides a b)

apart-covers : (a b : ℤ) → up a + down b ≤ up b + down a + apart a b
apart-covers a b = omega (signed, apart-sides a b)

apart-covered : (a b : ℤ) (n : ℕ) → up a + down b ≤ up b + down a + n → up b + down a ≤ up a + down b + n → apart a b ≤ n
apart-covered a b n h k = omega (signed, apart-sides a b)

-- additive through a number between
ordered-through : (s a b : ℤ) → Le a s → Le s b → apart s a + apart s b ≡ apart a b
ordered-through s a b h k =
    omega (signed, h, k, apart-comm s a, apart-ordered a s h, apart-ordered s b k, apart-ordered a b (omega (signed, h, k)))

pub apart-through : (s a b : ℤ) → Between s a b → apart s a + apart s b ≡ apart a b
apart-through s a b h =
    by (le_z a b)
    (λ e. ordered-through s a b (omega (signed, h.0, min-sides a b)) (omega (signed, h.1, max-sides a b)))
    (λ e.
    let r = ordered-through s b a (omega (signed, h.0, min-sides a b)) (omega (signed, h.1, max-sides a b)) in
    omega (signed, r, apart-comm a b))

-- the triangle
pub apart-triangle : (a b c : ℤ) → apart a c ≤ apart a b + apart b c
apart-triangle a b c =
    apart-covered a c (apart a b + apart b c)
    (omega (signed, apart-covers a b, apart-covers b c))
    (omega (signed, apart-covers b a, apart-covers c b, apart-comm a b, apart-comm b c))

-- How far at most
