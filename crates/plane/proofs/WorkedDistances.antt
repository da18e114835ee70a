-- Distances, costs and middles at both ends of the coordinates' range and of an i32's, and across zero, by computing the definitions.
-- Assumes nothing.
use mathlib.Core.Path.{◌≡◌, refl}
use lib.IntN.{ℤ, pos, negsuc}
use Rattle.signed.specs.Order.{z_min, z_max}
use Rattle.plane.specs.Place.{place}
use Rattle.plane.specs.Distance.{apart, distance}
use Rattle.plane.specs.declared.Weights.{Weights}
use Rattle.plane.specs.Cost.{cost, plain}
use Rattle.plane.specs.Middle.{middle}

-- −1,000,000 and 1,000,000, and the ends of an i32
abbrev low : ℤ
low = negsuc 999999

abbrev high : ℤ
high = pos 1000000

abbrev least : ℤ
least = negsuc 2147483647

abbrev greatest : ℤ
greatest = pos 2147483647

-- twice as dear along as across, and the dearest that bytes allow
abbrev dear_along : Weights
dear_along = record { across = 1; along = 2 }

abbrev dearest : Weights
dearest = record { across = 255; along = 255 }

pub record Table : Type 0 where
  pub across-range : distance (place low low) (place high high) ≡ 4000000
  pub back-across : distance (place high low) (place low high) ≡ 4000000
  pub at_low : distance (place low low) (place low low) ≡ 0
  pub at_high : distance (place high high) (place high high) ≡ 0
  pub from_low : distance (place low low) (place (pos 0) (negsuc 0)) ≡ 1999999
  pub from-high : distance (place high high) (place (pos 0) (negsuc 0)) ≡ 2000001
  pub across-i32 : distance (place least least) (place greatest greatest) ≡ 8589934590
  pub plain-cost : cost plain (place low low) (place high high) ≡ 4000000
  pub dear-along : cost dear_along (place (pos 0) (negsuc 0)) (place (pos 3) (pos 4)) ≡ 13
  pub dearest-across-i32 : cost dearest (place least least) (place greatest greatest) ≡ 2190433320450
  pub middle-of-ends : middle low high (negsuc 0) ≡ negsuc 0
  pub middle-of-i32 : middle greatest least (pos 0) ≡ pos 0
  pub middle-of-two-low : middle low high low ≡ low

pub worked-distances : Table
unfolding apart distance cost z_min z_max middle
worked-distances = record {
  across-range = refl;
  back-across = refl;
  at_low = refl;
  at_high = refl;
  from_low = refl;
  from-high = refl;
  across-i32 = refl;
  plain-cost = refl;
  dear-along = refl;
  dearest-across-i32 = refl;
  middle-of-ends = refl;
  middle-of-i32 = refl;
  middle-of-two-low = refl;
}
