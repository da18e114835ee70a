-- Walks by any steps, by the places on them: steps of one unit, along the grid and along clear edges share their laws.
use Rattle.std.specs.Prelude.{◌≡◌, List, [], ◌∷◌, ℕ, ◌≤◌}
use Rattle.joined.specs.Way.{long}

module _ {A : Type 0} where
  -- from a point, through those of a list, each one step from the one before it, to a point: the last of them
  pub data Walk (R : A → A → Type 0) : A → List A → A → Type 0 where
    stop : {x y : A} → x ≡ y → Walk R x [] y
    go : {x y z : A} {ps : List A} → R x y → Walk R y ps z → Walk R x (y ∷ ps) z

  -- a walk that costs at most so much
  pub record Within (R : A → A → Type 0) (d : A → A → ℕ) (x y : A) (most : ℕ) : Type 0 where
    pub points : List A
    pub walk : Walk R x points y
    pub within : long d x points ≤ most

  -- a walk that costs just so much
  pub record Exactly (R : A → A → Type 0) (d : A → A → ℕ) (x y : A) (n : ℕ) : Type 0 where
    pub points : List A
    pub walk : Walk R x points y
    pub costs : long d x points ≡ n
