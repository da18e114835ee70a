-- Every field of a place and of a macro in a local fits an i32; with this a machine's reading of a field is the field.
use mir.Syntax.{w32}
use mir.Val.{SFits}
use Rattle.plane.specs.declared.Place.{Place}
use Rattle.plane.specs.declared.Macro.{Macro}

pub record PlaceFits (p : Place) : Type 0 where
  pub x : SFits w32 p.x
  pub y : SFits w32 p.y

pub record MacroFits (m : Macro) : Type 0 where
  pub left : SFits w32 m.left
  pub bottom : SFits w32 m.bottom
  pub right : SFits w32 m.right
  pub top : SFits w32 m.top
