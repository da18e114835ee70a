-- Ways along the pairs of a list, by the points on them.
use Rattle.std.specs.Prelude.{◌≡◌, ◌⊎◌, List, [], ◌∷◌, ℕ, ◌+◌}
use Rattle.lists.specs.Member.{Once}
use Rattle.joined.specs.Joined.{Link, Alike}

module _ {A : Type 0} where
  -- from a point, through those of a list, each linked to the one before it, to a point: the last of them
  pub data Way (L : List (A × A)) : A → List A → A → Type 0 where
    stop : {x y : A} → x ≡ y → Way L x [] y
    go : {x y z : A} {ps : List A} → Link L x y → Way L y ps z → Way L x (y ∷ ps) z

  -- a loop-free way: no point twice
  pub record Free (L : List (A × A)) (x y : A) : Type 0 where
    pub points : List A
    pub way : Way L x points y
    pub once : Once (x ∷ points)

  -- the sum of the lengths of its steps
  unfoldable pub long : (A → A → ℕ) → A → List A → ℕ
  long d x [] = 0
  long d x (y ∷ ps) = d x y + long d y ps

  -- the step of a and b, made either way, is on the way from x through ps
  abbrev pub On : A → A → A → List A → Type 0
  On a b x [] = ⊥
  On a b x (y ∷ ps) = Alike a b x y ⊎ On a b y ps

  -- no step twice, made either way
  abbrev pub NoStepTwice : A → List A → Type 0
  NoStepTwice x [] = Unit {0}
  NoStepTwice x (y ∷ ps) = (On x y y ps → ⊥) × NoStepTwice y ps

  -- a way turned round, in front of points that follow its start
  unfoldable pub turned : A → List A → List A → List A
  turned x [] qs = qs
  turned x (y ∷ ps) qs = turned y ps (x ∷ qs)
