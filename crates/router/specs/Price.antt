-- What is promised of the price (B6). What a list of bands charges for metal stands in `price` (specs/Price.antt).
use Rattle.std.specs.Prelude.{◌≡◌, List, ℕ, ◌≤◌, ℤ}
use Rattle.lent.specs.Told.{given}
use Rattle.net.specs.declared.Weighing.{Weighing}
use Rattle.answers.specs.Price.{net_price}
use Rattle.answers.specs.Refined.{metal_of}

-- B6: of any two nets that the list prices, the one with more metal is charged no less; it is so of every list (`never_less`)
abbrev pub NeverLess : List ℕ → Type 0
NeverLess bands =
    (w w' : Weighing) (pins macros pins' macros' : List ℤ) (h h' : ℕ) → metal_of w pins macros ≤ metal_of w' pins' macros' →
    net_price w pins macros bands ≡ given h → net_price w' pins' macros' bands ≡ given h' → h ≤ h'
