-- Chains of paths, joinings, and our way: rules T17 to T20. A path is anything that has two ends; the ends are pins.
use Rattle.std.specs.Prelude.{◌≡◌, List, [], ◌∷◌}
use Rattle.lists.specs.Member.{◌∈◌, Among, Once}
use Rattle.joined.specs.Joined.{Alike}

module _ {A B : Type 0} (ends : B → A × A) where
  -- T3: a path is read from either end
  abbrev pub Reads : B → A → A → Type 0
  Reads b x y = Alike x y (ends b).0 (ends b).1

  -- T17: a chain is one path or more, each starting where the one before it stopped
  pub data Chain : A → List B → A → Type 0 where
    last : {b : B} {x y : A} → Reads b x y → Chain x (b ∷ []) y
    next : {b : B} {bs : List B} {x y z : A} → Reads b x y → Chain y bs z → Chain x (b ∷ bs) z

  -- a chain of paths of J
  pub record Leads (J : List B) (x y : A) : Type 0 where
    pub paths : List B
    pub chain : Chain x paths y
    pub among : Among paths J

  -- T18: from each pin to each other one a chain of its paths leads; T19: so with one pin nothing is asked
  abbrev pub Joining : List A → List B → Type 0
  Joining pins J = (x y : A) → x ∈ pins → y ∈ pins → (x ≡ y → ⊥) → Leads J x y

  -- T20: our way is the chain of kept paths that repeats none
  pub record OurWay (K : List B) (x y : A) (paths : List B) : Type 0 where
    pub chain : Chain x paths y
    pub among : Among paths K
    pub once : Once paths
