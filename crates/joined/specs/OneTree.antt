-- One tree: rule R20.
use Rattle.std.specs.Prelude.{◌≡◌, ◌⊎◌, List, ◌∷◌}
use Rattle.lists.specs.Member.{◌∈◌, Once}
use Rattle.joined.specs.Joined.{Link, others}
use Rattle.joined.specs.Way.{Way, Free}

module _ {A : Type 0} (pins : List A) (T : List (A × A)) where
  -- R20, the points: the pins and the ends of the edges
  abbrev pub Point : A → Type 0
  Point x = (x ∈ pins) ⊎ ((z : A) × Link T x z)

  -- R20: one loop-free way along the edges, and only one
  pub record OneWay (x y : A) : Type 0 where
    pub free : Free T x y
    pub only : (ps : List A) → Way T x ps y → Once (x ∷ ps) → ps ≡ free.points

  -- R20: all pins are held as one tree when there is such a way from each point to each other one
  abbrev pub OneTree : Type 0
  OneTree = (x y : A) → Point x → Point y → (x ≡ y → ⊥) → OneWay x y

-- no pair twice, read either way, and none with equal ends: what a list of edges in order, each once, has by itself
pub record Simple {A : Type 0} (T : List (A × A)) : Type 0 where
  pub apart : (a b : A) → (a, b) ∈ T → a ≡ b → ⊥
  pub single : (a b : A) (l : Link T a b) → Link (others l) a b → ⊥
