-- An allowed net in words: what the theory of graph and trees may take for granted.
use Rattle.std.specs.Prelude.{◌≡◌, true, false, ◌≤◌, ◌%◌, ℤ, length}
use mathlib.Core.List.{List, Memᴰ}
use Rattle.std.specs.Int.Signed.{lt_z}
use Rattle.lists.specs.Any.{NoTwo}
use Rattle.plane.specs.declared.Place.{Place}
use Rattle.plane.specs.declared.Macro.{Macro}
use Rattle.plane.specs.declared.Weights.{Weights}
use Rattle.plane.specs.Place.{same_place}
use Rattle.plane.specs.Cost.{Positive}
use Rattle.plane.specs.Macro.{inside, interiors_meet}
use Rattle.net.specs.Bounds.{pin_bound, macro_bound, weight_bound, pin_width, macro_width}
use Rattle.net.specs.Pins.{pin_loads}
use Rattle.net.specs.Net.{Net}
use Rattle.net.specs.Tests.{out_of_range, no_load}

-- the lists hold whole entries only, and the loads, of which the net itself knows nothing, are in range [11]
pub record Whole (pins macros : List ℤ) : Type 0 where
  pub threes : length pins % pin_width ≡ 0
  pub fours : length macros % macro_width ≡ 0
  pub loads : (z : ℤ) → Memᴰ z (pin_loads pins) → no_load z ≡ false

pub record PlaceInRange (p : Place) : Type 0 where
  pub x : out_of_range p.x ≡ false
  pub y : out_of_range p.y ≡ false

pub record MacroInRange (m : Macro) : Type 0 where
  pub left : out_of_range m.left ≡ false
  pub bottom : out_of_range m.bottom ≡ false
  pub right : out_of_range m.right ≡ false
  pub top : out_of_range m.top ≡ false

pub record Upright (m : Macro) : Type 0 where
  pub across : lt_z m.left m.right ≡ true
  pub along : lt_z m.bottom m.top ≡ true

-- each weight from 1 to the bound
pub record Weighted (w : Weights) : Type 0 where
  pub positive : Positive w
  pub across : w.across ≤ weight_bound
  pub along : w.along ≤ weight_bound

pub record Allowed (net : Net) : Type 0 where
  pub some-pin : 1 ≤ length net.pins
  pub few-pins : length net.pins ≤ pin_bound
  pub few-macros : length net.macros ≤ macro_bound
  pub weighted : Weighted net.weights
  pub pins-in-range : (p : Place) → Memᴰ p net.pins → PlaceInRange p
  pub macros-in-range : (m : Macro) → Memᴰ m net.macros → MacroInRange m
  pub upright : (m : Macro) → Memᴰ m net.macros → Upright m
  pub pins-apart : NoTwo same_place net.pins
  pub macros-apart : NoTwo interiors_meet net.macros
  pub pins-outside : (p : Place) → Memᴰ p net.pins → (m : Macro) → Memᴰ m net.macros → inside p m ≡ false
