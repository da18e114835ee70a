-- A bar, what hangs from it, and how far it can move: rules M5 to M10.
use Rattle.std.specs.Prelude.{◌≡◌, true, false, ◌⊎◌, List, ℕ, ◌≤◌}
use Rattle.lists.specs.Member.{◌∈◌}
use Rattle.lists.specs.Those.{those}
use Rattle.signed.specs.Sides.{Lt}
use Rattle.plane.specs.declared.Place.{Place}
use Rattle.plane.specs.Place.{before}
use Rattle.plane.specs.Distance.{apart}
use Rattle.plane.specs.Box.{InBox}
use Rattle.plane.specs.Macro.{clear}
use Rattle.net.specs.Net.{Net}
use Rattle.joined.specs.Joined.{Link, Joined}
use Rattle.joined.specs.OneTree.{Point}
use Rattle.slide.specs.declared.Side.{Side}
use Rattle.slide.specs.Side.{across, moved}
use Rattle.slide.specs.Bend.{Edge}
use Rattle.slide.specs.Bar.{level}

-- M5: p is a point of the bar of a: edges on the bar's line, or on parallels to it, join the two. It is the greatest
-- such set.
abbrev pub OnBar : Side → List Edge → Place → Place → Type 0
OnBar s T a p = Joined (those (level s) T) a p

-- an edge, read one way or the other
abbrev pub EitherWay : (Place → Place → Type 0) → Edge → Type 0
EitherWay R e = R e.0 e.1 ⊎ R e.1 e.0

-- B says what the bar's points are
module _ (s : Side) (T : List Edge) (B : Place → Type 0) where
  -- M6: an edge hangs from the bar's point p on the side, and q is its far end
  abbrev pub Ahead : Place → Place → Type 0
  Ahead p q = Link T p q × (B p × Lt (across s p) (across s q))

  -- M6: or on the other side
  abbrev pub Behind : Place → Place → Type 0
  Behind p q = Link T p q × (B p × Lt (across s q) (across s p))

  -- M9: q is the far end of an edge that hangs on the side, and none that hangs there is shorter
  pub record FarEnd (q : Place) : Type 0 where
    pub near : Place
    pub hangs : Ahead near q
    pub shortest : (u v : Place) → Ahead u v → apart (across s near) (across s q) ≤ apart (across s u) (across s v)

  -- M8: f and l are the bar's first and last place
  pub record Ends (f l : Place) : Type 0 where
    pub first : B f
    pub none_before : (p : Place) → B p → before p f ≡ false
    pub last : B l
    pub none_after : (p : Place) → B p → before l p ≡ false

  -- M8, M9: nothing blocks a move by d: the closed box that the bar sweeps, from its first place to where its last
  -- one comes, meets
  pub record Free (net : Net) (f l : Place) (d : ℕ) : Type 0 where
    -- no interior
    pub macros : clear f (moved s d l) net.macros ≡ true
    -- no tree point but those of the bar and such far ends
    pub points : (p : Place) → Point net.pins T p → InBox p f (moved s d l) → B p ⊎ FarEnd p
    -- no edge but those of the bar and those that hang from it, which end at a point of it, and such as meet the box
    -- in a far end alone
    pub edges : (e : Edge) → e ∈ T → (q : Place) → InBox q e.0 e.1 → InBox q f (moved s d l) →
        (B e.0 ⊎ B e.1)
        ⊎ ((g : Place) × (FarEnd g × ((r : Place) → InBox r e.0 e.1 → InBox r f (moved s d l) → r ≡ g)))

  -- M10: and no edge that hangs on the side is shorter than d
  pub record Fits (net : Net) (f l : Place) (d : ℕ) : Type 0 where
    pub short : (p q : Place) → Ahead p q → d ≤ apart (across s p) (across s q)
    pub free : Free net f l d
