-- Floats of 64 bits: the operations that the rules name, each of which rounds once.
use Rattle.std.specs.Prelude.{Bool, true, false, ℕ, pos, negsuc, Float}
use Rattle.std.specs.Float.{nan, inf, fin, binary64}
use Rattle.std.specs.Float.Ieee.{add, mul, of_int, lt}

abbrev pub plus : Float → Float → Float
plus a b = add binary64 a b

abbrev pub times : Float → Float → Float
times a b = mul binary64 a b

-- a whole number; lengths and loads are far below 2^53, up to which none is rounded
abbrev pub whole : ℕ → Float
whole n = of_int binary64 (pos n)

-- 0.5 is 1 · 2^-1
abbrev pub half : Float → Float
half x = times x (fin false 1 (negsuc 0))

abbrev pub zero : Float
zero = fin false 0 (pos 0)

unfoldable pub finite : Float → Bool
finite nan = false
finite (inf s) = false
finite (fin s m e) = true

-- above zero, which minus zero is not
abbrev pub positive : Float → Bool
positive x = lt zero x
