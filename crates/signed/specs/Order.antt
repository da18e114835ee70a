-- Equality as a test, the smaller and the greater of two whole numbers.
use Rattle.std.specs.Prelude.{Bool, true, false, eqb, ℤ, pos, negsuc}
use Rattle.std.specs.Int.Signed.{le_z}

abbrev pub z_eq : ℤ → ℤ → Bool
z_eq (pos a) (pos b) = eqb a b
z_eq (pos a) (negsuc b) = false
z_eq (negsuc a) (pos b) = false
z_eq (negsuc a) (negsuc b) = eqb a b

unfoldable pub z_min : ℤ → ℤ → ℤ
z_min a b = elim (le_z a b) [ true ↦ a | false ↦ b ]

unfoldable pub z_max : ℤ → ℤ → ℤ
z_max a b = elim (le_z a b) [ true ↦ b | false ↦ a ]
