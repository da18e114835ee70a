-- The entries of a flat list, two, three or four numbers each.
use Rattle.std.specs.Prelude.{List, [], ◌∷◌}

module _ {A B : Type 0} where
  -- an entry of each two numbers; one that is left over at the end is none
  unfoldable pub twos : (A → A → B) → List A → List B
  twos entry [] = []
  twos entry (a ∷ []) = []
  twos entry (a ∷ (b ∷ rest)) = entry a b ∷ twos entry rest

  -- an entry of each three numbers; up to two that are left over at the end are none
  unfoldable pub threes : (A → A → A → B) → List A → List B
  threes entry [] = []
  threes entry (a ∷ []) = []
  threes entry (a ∷ (b ∷ [])) = []
  threes entry (a ∷ (b ∷ (c ∷ rest))) = entry a b c ∷ threes entry rest

  -- an entry of each four numbers; up to three that are left over at the end are none
  unfoldable pub fours : (A → A → A → A → B) → List A → List B
  fours entry [] = []
  fours entry (a ∷ []) = []
  fours entry (a ∷ (b ∷ [])) = []
  fours entry (a ∷ (b ∷ (c ∷ []))) = []
  fours entry (a ∷ (b ∷ (c ∷ (d ∷ rest)))) = entry a b c d ∷ fours entry rest
