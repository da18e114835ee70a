-- The entries of a list that pass a test, in their order.
use Rattle.std.specs.Prelude.{Bool, true, false, List, [], ◌∷◌}

unfoldable pub those : {A : Type 0} → (A → Bool) → List A → List A
those f [] = []
those f (x ∷ l) = elim (f x) [ true ↦ x ∷ those f l | false ↦ those f l ]
