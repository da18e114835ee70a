-- L9: how large a net with a best tree may be, and the work that is lent for it. Five pins, sixteen sets of all pins but the first, and
-- the work are named here once for the definitions, and as constants of `Best` in crate best for the code. Macros, lines and crossings are
-- the grid's.
use Rattle.std.specs.Prelude.{ℕ}

abbrev pub best_pins : ℕ
best_pins = 5

abbrev pub mask_bound : ℕ
mask_bound = 16

-- L16
abbrev pub work_bound : ℕ
work_bound = 65536
