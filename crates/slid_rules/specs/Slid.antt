-- The slid tree: rules M1 to M14.
use Rattle.std.specs.Prelude.{◌≡◌, ◌⊎◌, ◌↔◌, List, length}
use Rattle.lists.specs.Member.{◌∈◌}
use Rattle.lists.specs.Sorted.{first_then, Ascending}
use Rattle.plane.specs.declared.Place.{Place}
use Rattle.plane.specs.Place.{before}
use Rattle.net.specs.Net.{Net}
use Rattle.joined.specs.OneTree.{Point}
use Rattle.slide.specs.Bend.{Edge}
use Rattle.slid_rules.specs.Bend.{Bends, GivenBack}
use Rattle.slid_rules.specs.Round.{Rounds}

-- R2: X are the tree points, each once
pub record Points (net : Net) (T : List Edge) (X : List Place) : Type 0 where
  pub ordered : Ascending before X
  pub holds : (p : Place) → (p ∈ X) ↔ Point net.pins T p

-- N16: W are the edges of U, in order
pub record InOrder (U W : List Edge) : Type 0 where
  pub ordered : Ascending (first_then before before) W
  pub holds : (e : Edge) → (e ∈ W) ↔ (e ∈ U)

-- M2, M14: the edges T, bent, then as many rounds at most as there are points after bending
pub record Slid (net : Net) (T : List Edge) (X : List Place) (S : List Edge) : Type 0 where
  pub points : List Place
  pub edges : List Edge
  pub bends : Bends X T points edges
  pub start : List Edge
  pub order : InOrder edges start
  pub rounds : Rounds net (length points) start S

-- M1, M4: S is the slid tree of the edges T
pub record SlidTree (net : Net) (T S : List Edge) : Type 0 where
  pub points : List Place
  pub tree : Points net T points
  pub slid : (GivenBack points T × (S ≡ T)) ⊎ Slid net T points S
