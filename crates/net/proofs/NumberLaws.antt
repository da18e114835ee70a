-- The numbers of refusals are small and none is 0.
-- Assumes nothing.
use Prim.Native.Nat.{◌≤◌}
use lib.Dec.{lit≤}
use Rattle.net.specs.declared.Refusal.{Refusal}
use Rattle.net.specs.declared.Refusal.TheVariants.{Blocks, Sums, Layout, PinList, MacroList, Range, Sides, SamePlace, Overlap}
use Rattle.net.specs.declared.Refusal.TheVariants.{PinInside, WeightRange, Space, Bands, Reach, BandOrder, GridSize}
use Rattle.net.specs.declared.Refusal.TheVariants.{EdgeList, EdgeNotClear, NotATree, BestSize, TechnologyRange}
use Rattle.net.specs.declared.Refusal.TheVariants.{DriverNotPin, DelayNotFinite}
use Rattle.net.specs.Answer.{number}

pub number-bounds : (f : Refusal) → (1 ≤ number f) × (number f ≤ 41)
unfolding number
number-bounds Blocks = (lit≤ tt, lit≤ tt)
number-bounds Sums = (lit≤ tt, lit≤ tt)
number-bounds Layout = (lit≤ tt, lit≤ tt)
number-bounds PinList = (lit≤ tt, lit≤ tt)
number-bounds MacroList = (lit≤ tt, lit≤ tt)
number-bounds Range = (lit≤ tt, lit≤ tt)
number-bounds Sides = (lit≤ tt, lit≤ tt)
number-bounds SamePlace = (lit≤ tt, lit≤ tt)
number-bounds Overlap = (lit≤ tt, lit≤ tt)
number-bounds PinInside = (lit≤ tt, lit≤ tt)
number-bounds WeightRange = (lit≤ tt, lit≤ tt)
number-bounds Space = (lit≤ tt, lit≤ tt)
number-bounds Bands = (lit≤ tt, lit≤ tt)
number-bounds Reach = (lit≤ tt, lit≤ tt)
number-bounds BandOrder = (lit≤ tt, lit≤ tt)
number-bounds GridSize = (lit≤ tt, lit≤ tt)
number-bounds EdgeList = (lit≤ tt, lit≤ tt)
number-bounds EdgeNotClear = (lit≤ tt, lit≤ tt)
number-bounds NotATree = (lit≤ tt, lit≤ tt)
number-bounds BestSize = (lit≤ tt, lit≤ tt)
number-bounds TechnologyRange = (lit≤ tt, lit≤ tt)
number-bounds DriverNotPin = (lit≤ tt, lit≤ tt)
number-bounds DelayNotFinite = (lit≤ tt, lit≤ tt)
