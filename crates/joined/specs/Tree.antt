-- Trees and forests as lists of pairs.
use Rattle.std.specs.Prelude.{◌≡◌, List, [], ◌∷◌, suc, length}
use Rattle.lists.specs.Member.{◌∈◌, Once, rest}
use Rattle.joined.specs.Joined.{Joined, Joins}

module _ {A : Type 0} where
  -- all points are joined, and there is one pair fewer than points
  pub record TreeOn (X : List A) (T : List (A × A)) : Type 0 where
    pub once : Once X
    pub joins : Joins X T
    pub size : suc (length T) ≡ length X

  -- no pair joins what the pairs after it join
  abbrev pub Forest : List (A × A) → Type 0
  Forest [] = Unit {0}
  Forest (e ∷ T) = (Joined T e.0 e.1 → ⊥) × Forest T

  -- no pair joins what the others join
  abbrev pub Cuts : List (A × A) → Type 0
  Cuts T = (a b : A) (m : (a, b) ∈ T) → Joined (rest m) a b → ⊥
