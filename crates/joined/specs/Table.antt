-- Labels of points that are numbers, held as a table: the form in which a program has them, and what it keeps by them.
use Rattle.std.specs.Prelude.{true, false, List, [], ◌∷◌, map, ℕ, ◌<◌, eqb, get_or}
use Rattle.lists.specs.Member.{◌∈◌}

-- b becomes a, and every other number stays
unfoldable pub changed : ℕ → ℕ → ℕ → ℕ
changed a b x = elim (eqb x b) [ true ↦ a | false ↦ x ]

-- The item at the head of the list is offered first. It is kept where its ends have different labels, and then the label of its second
-- end becomes that of its first, throughout the table.
unfoldable pub kept_by : {B : Type 0} → (B → ℕ × ℕ) → List B → List ℕ → List B
kept_by ends [] t = []
kept_by ends (e ∷ L) t =
    let p = get_or t (ends e).0 0 in
    let q = get_or t (ends e).1 0 in
    elim (eqb p q) [ true ↦ kept_by ends L t | false ↦ e ∷ kept_by ends L (map (changed p q) t) ]

-- Items that are all taken, one after another: the label of the second end becomes that of the first, throughout the table.
unfoldable pub merged_by : {B : Type 0} → (B → ℕ × ℕ) → List B → List ℕ → List ℕ
merged_by ends [] t = t
merged_by ends (e ∷ L) t = merged_by ends L (map (changed (get_or t (ends e).0 0) (get_or t (ends e).1 0)) t)

-- both ends of each item are numbers below n
abbrev pub Below : {B : Type 0} → (B → ℕ × ℕ) → ℕ → List B → Type 0
Below {B} ends n L = (e : B) → e ∈ L → ((ends e).0 < n) × ((ends e).1 < n)
