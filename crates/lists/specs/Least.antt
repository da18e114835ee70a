-- A least entry of a list, by any relation.
use Rattle.std.specs.Prelude.{List}
use Rattle.lists.specs.Member.{◌∈◌}

pub record Least {A : Type 0} (le : A → A → Type 0) (l : List A) : Type 0 where
  pub entry : A
  pub stands : entry ∈ l
  pub below : (y : A) → y ∈ l → le entry y
