-- What holds of each pair of a list, and pairs whose points go where a map takes them.
use Rattle.std.specs.Prelude.{List}
use Rattle.lists.specs.Member.{◌∈◌}

-- P holds of the two points of each pair
abbrev pub Each : {A : Type 0} → (A → A → Type 0) → List (A × A) → Type 0
Each P F = (a b : _) → (a, b) ∈ F → P a b

abbrev pub moved_pair : {A B : Type 0} → (A → B) → A × A → B × B
moved_pair f e = (f e.0, f e.1)
