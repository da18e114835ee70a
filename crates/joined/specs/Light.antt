-- Items by their weights: in order, and up to a weight or above it.
use Rattle.std.specs.Prelude.{not, List, [], ◌∷◌, ℕ, ◌≤◌, ltb}
use Rattle.lists.specs.Member.{◌∈◌}
use Rattle.lists.specs.Those.{those}

module _ {B : Type 0} (weight : B → ℕ) where
  -- T12: bridges come by the length of their paths
  abbrev pub Rising : List B → Type 0
  Rising [] = Unit {0}
  Rising (e ∷ L) = ((d : B) → d ∈ L → weight e ≤ weight d) × Rising L

  -- the same, read from the other end
  abbrev pub Falling : List B → Type 0
  Falling [] = Unit {0}
  Falling (e ∷ L) = ((d : B) → d ∈ L → weight d ≤ weight e) × Falling L

  -- the items above weight t, and those up to it
  unfoldable pub heavy : ℕ → List B → List B
  heavy t L = those (λ e. ltb t (weight e)) L

  unfoldable pub light : ℕ → List B → List B
  light t L = those (λ e. not (ltb t (weight e))) L
