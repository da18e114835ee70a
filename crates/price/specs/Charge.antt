-- The charge for metal: rules B2 to B4.
use Rattle.std.specs.Prelude.{Bool, not, cond, List, [], ◌∷◌, ℕ, ◌+◌, ◌*◌, ◌/◌, ◌%◌, ltb}
use Rattle.lent.specs.Told.{Told, refused, given}
use Rattle.bands.specs.declared.Band.{Band}

-- B2: a rate is for so many units of metal
abbrev pub units : ℕ
units = 1000

-- far above the metal of any net, and low enough that no charge at the highest rate overflows: 2^53
abbrev pub metal_bound : ℕ
metal_bound = 9007199254740992

-- B4: from thousandths to whole ones, the nearest; half way between two, the even one
unfoldable pub rounded : ℕ → ℕ
rounded n = cond (ltb (n % units * 2) units) (n / units) (cond (ltb units (n % units * 2)) (n / units + 1) (n / units + n / units % 2))

-- B4: metal times rate counts thousandths of a hundredth
unfoldable pub charge : ℕ → ℕ → ℕ
charge metal rate = rounded (metal * rate)

-- B3: the limit is not below the metal
unfoldable pub reaches : ℕ → Band → Bool
reaches metal b = not (ltb b.limit metal)

-- B3, C32: the first band of the list that reaches the metal sets the rate; 32 where none does
unfoldable pub by_first : ℕ → List Band → Told ℕ
by_first metal [] = refused 32
by_first metal (b ∷ bs) = cond (reaches metal b) (given (charge metal b.rate)) (by_first metal bs)
