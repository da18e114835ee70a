-- The number of each refusal, and what an answer of the code says: rules C1 to C41.
use Rattle.std.specs.Prelude.{ℕ, Result, Ok, Err}
use Rattle.lent.specs.Told.{Told, refused, given}
use Rattle.net.specs.declared.Refusal.{Refusal}
use Rattle.net.specs.declared.Refusal.TheVariants.{Blocks, Sums, Layout, PinList, MacroList, Range, Sides, SamePlace, Overlap}
use Rattle.net.specs.declared.Refusal.TheVariants.{PinInside, WeightRange, Space, Bands, Reach, BandOrder, GridSize}
use Rattle.net.specs.declared.Refusal.TheVariants.{EdgeList, EdgeNotClear, NotATree, BestSize, TechnologyRange}
use Rattle.net.specs.declared.Refusal.TheVariants.{DriverNotPin, DelayNotFinite}

unfoldable pub number : Refusal → ℕ
number Blocks = 1
number Sums = 2
number Layout = 3
number PinList = 11
number MacroList = 12
number Range = 13
number Sides = 14
number SamePlace = 15
number Overlap = 16
number PinInside = 17
number WeightRange = 18
number Space = 21
number Bands = 31
number Reach = 32
number BandOrder = 37
number GridSize = 36
number EdgeList = 33
number EdgeNotClear = 34
number NotATree = 35
number BestSize = 41
number TechnologyRange = 38
number DriverNotPin = 39
number DelayNotFinite = 40

-- C50, C52: what the code gives is told by f, and what it refuses by its number
unfoldable pub told_by : {T A : Type 0} → (T → A) → Result T Refusal → Told A
told_by f (Ok t) = given (f t)
told_by f (Err r) = refused (number r)
