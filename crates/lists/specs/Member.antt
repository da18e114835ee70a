-- Membership by position, and lists without repeats.
use mathlib.Core.List.{List, [], ◌∷◌, Memᴰ}
pub use mathlib.Core.List.Memᴰ.{head as here}
pub use mathlib.Core.List.Memᴰ.{tail as there}

infix 45 ◌∈◌
-- x stands in the list: `here` at its head, `there` further on
abbrev pub ◌∈◌ : {A : Type 0} → A → List A → Type 0
◌∈◌ x l = Memᴰ x l

module _ {A : Type 0} where
  -- each entry of the first list stands in the second
  abbrev pub Among : List A → List A → Type 0
  Among l m = (x : A) → x ∈ l → x ∈ m

  -- no entry stands twice
  abbrev pub Once : List A → Type 0
  Once [] = Unit {0}
  Once (x ∷ l) = (x ∈ l → ⊥) × Once l

  -- the list without the position at which an entry stands
  unfoldable pub rest : {x : A} {l : List A} → x ∈ l → List A
  rest (here {xs = l} e) = l
  rest (there {x = y} m) = y ∷ rest m
