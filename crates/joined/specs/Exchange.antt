-- One round of the refiner on the pairs of a tree: rules R7 to R13.
use Rattle.std.specs.Prelude.{◌≡◌, List, [], ◌∷◌, ◌++◌}
use Rattle.lists.specs.Member.{◌∈◌}
use Rattle.joined.specs.Joined.{Link, Alike}
use Rattle.joined.specs.Way.{Way, Free}

module _ {A : Type 0} where
  -- R8, the way that L is on: from u, loop-free, to the near one of a and b, and not through the far one
  pub record Toward (T : List (A × A)) (u a b : A) : Type 0 where
    pub near : A
    pub far : A
    pub ends : Alike near far a b
    pub free : Free T u near
    pub short : far ∈ (u ∷ free.points) → ⊥

  -- the steps of a way, in order; the edge L is one of them
  unfoldable pub steps : A → List A → List (A × A)
  steps x [] = []
  steps x (y ∷ ps) = (x, y) ∷ steps y ps

  -- a way parted at its step from p to q
  pub record Parted (T : List (A × A)) (x p q y : A) (ps : List A) : Type 0 where
    pub first : List A
    pub second : List A
    pub before : Way T x first p
    pub link : Link T p q
    pub after : Way T q second y
    pub whole : ps ≡ first ++ (q ∷ second)

  abbrev pub three : A → A → A → List A
  three a b u = a ∷ (b ∷ (u ∷ []))

  -- R13: s–a, s–b and s–u are laid, none of length zero: laid same s (three a b u)
  unfoldable pub laid : Discrete A → A → List A → List (A × A)
  laid same s [] = []
  laid same s (x ∷ l) = elim (same s x) [ yes e ↦ laid same s l | no e ↦ (s, x) ∷ laid same s l ]
