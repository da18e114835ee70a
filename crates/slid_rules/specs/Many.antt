-- How many entries of a list are such.
use Rattle.std.specs.Prelude.{◌≡◌, ◌⊎◌, List, [], ◌∷◌, ℕ, suc}

module _ {A : Type 0} (P : A → Type 0) where
  abbrev pub Many : List A → ℕ → Type 0
  Many [] n = n ≡ 0
  Many (x ∷ l) n = (P x × ((k : ℕ) × (Many l k × (n ≡ suc k)))) ⊎ ((P x → ⊥) × Many l n)
