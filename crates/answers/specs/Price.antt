-- The price among the operations: rule C75. What a list of bands charges for metal stands in `price` (specs/Price.antt).
use Rattle.std.specs.Prelude.{List, ℕ, ℤ}
use Rattle.lent.specs.Told.{Told, only_if}
use Rattle.net.specs.declared.Weighing.{Weighing}
use Rattle.checks.specs.Check.{checked}
use Rattle.price.specs.Price.{priced}
use Rattle.answers.specs.Refined.{metal_of}

-- C75: 11 to 18, then what the bands say of the metal
unfoldable pub net_price : Weighing → List ℤ → List ℤ → List ℕ → Told ℕ
net_price w pins macros bands = only_if (checked w pins macros) (priced (metal_of w pins macros) bands)
