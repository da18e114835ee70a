-- Items offered in an order, each with a pair of points: those that are kept, and what is asked for the choice to be the best.
use Rattle.std.specs.Prelude.{true, false, List, [], ◌∷◌, map, reverse, ℕ}
use Rattle.lists.specs.Member.{◌∈◌, Once}
use Rattle.joined.specs.Joined.{Joined, Joins, Inside}
use Rattle.joined.specs.Labels.{equal, labels}
use Rattle.joined.specs.Light.{Rising, light}

-- T13: a bridge is kept where those kept before it do not join its two roots.
-- Here the item at the head of the list is offered last, so that what is offered before it is the rest of the list.
unfoldable pub keep : {A B : Type 0} → Discrete A → (B → A × A) → List B → List B
keep same ends [] = []
keep same ends (e ∷ L) =
    let before = keep same ends L in
    let label = labels same (map ends before) in
    elim (equal same (label (ends e).0) (label (ends e).1)) [ true ↦ before | false ↦ e ∷ before ]

-- the items kept, in the order kept, when the item at the head of the list is offered first
unfoldable pub kept : {A B : Type 0} → Discrete A → (B → A × A) → List B → List B
kept same ends L = reverse (keep same ends (reverse L))

-- The same as a relation, with nothing that computes: where `before` are kept already, of the items `offered`, one after another, `chosen`
-- are kept. An item is kept exactly when its ends are not joined by those kept before it.
pub data Keeping {A B : Type 0} (ends : B → A × A) : List B → List B → List B → Type 0 where
  over : {before : List B} → Keeping ends before [] []
  takes : {e : B} {before offered chosen : List B} → (Joined (map ends before) (ends e).0 (ends e).1 → ⊥) →
      Keeping ends (e ∷ before) offered chosen → Keeping ends before (e ∷ offered) (e ∷ chosen)
  leaves : {e : B} {before offered chosen : List B} → Joined (map ends before) (ends e).0 (ends e).1 →
      Keeping ends before offered chosen → Keeping ends before (e ∷ offered) chosen

module _ {A B : Type 0} (ends : B → A × A) (weight : B → ℕ) where
  -- what is asked of the items that are offered to join the points X: they join them, and the lighter comes first
  pub record Offered (X : List A) (L : List B) : Type 0 where
    pub once : Once X
    pub some : A
    pub stands : some ∈ X
    pub inside : Inside X (map ends L)
    pub joins : Joins X (map ends L)
    pub rising : Rising weight L

  -- what is asked of a path with the given ends and length, that the items may be compared with it: those that are no longer join its ends
  abbrev pub Dominated : List B → A × A → ℕ → Type 0
  Dominated L e t = Joined (map ends (light weight t L)) e.0 e.1
