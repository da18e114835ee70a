-- What is asked of a bar and of the distance by which it moves, for the tree to stay one tree: less than M5 to M10 give.
use Rattle.std.specs.Prelude.{◌≡◌, Bool, true, false, List, ℕ, ◌+◌, ◌≤◌, ℤ}
use Rattle.lists.specs.Member.{◌∈◌}
use Rattle.signed.specs.Sides.{up, down, Le, Lt}
use Rattle.plane.specs.declared.Place.{Place}
use Rattle.plane.specs.Macro.{clear}
use Rattle.net.specs.Net.{Net}
use Rattle.joined.specs.Joined.{Link}
use Rattle.slide.specs.declared.Side.{Side}
use Rattle.slide.specs.Side.{along, across, moved}
use Rattle.slide.specs.Bend.{Edge}

-- the test `on` is true of the points of a bar: tree points of one line, with every level edge that has an end among them, and no pin
pub record IsBar (s : Side) (net : Net) (X : List Place) (T : List Edge) (on : Place → Bool) : Type 0 where
  pub height : ℤ
  pub flat : (p : Place) → on p ≡ true → across s p ≡ height
  pub inside : (p : Place) → on p ≡ true → p ∈ X
  pub closed : (a b : Place) → (a, b) ∈ T → across s a ≡ across s b → on a ≡ on b
  pub free : (p : Place) → p ∈ net.pins → on p ≡ false

-- q is a far end of an edge that hangs from the bar
pub record FarEnd (s : Side) (T : List Edge) (on : Place → Bool) (q : Place) : Type 0 where
  pub near : Place
  pub point : on near ≡ true
  pub edge : Link T near q
  pub line : along s near ≡ along s q

-- the distance d is allowed for a bar whose ends are first and last
pub record Allowed (s : Side) (net : Net) (X : List Place) (T : List Edge) (on : Place → Bool) (first last : Place) (d : ℕ) : Type 0 where
  pub first_on : on first ≡ true
  pub last_on : on last ≡ true
  pub covers : (p : Place) → on p ≡ true → Le (along s first) (along s p) × Le (along s p) (along s last)
  -- the box meets no interior
  pub empty : clear first (moved s d last) net.macros ≡ true
  -- nor a tree point, but for far ends
  pub meets : (q : Place) → q ∈ X → on q ≡ false → Le (along s first) (along s q) → Le (along s q) (along s last) →
      Le (across s first) (across s q) → Le (across s q) (across s (moved s d last)) → FarEnd s T on q
  -- and no edge that hangs on the side is shorter
  pub short : (a b : Place) → Link T a b → on a ≡ true → Lt (across s a) (across s b) →
      d + (up (across s a) + down (across s b)) ≤ up (across s b) + down (across s a)
