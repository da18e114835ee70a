-- Points that hang on roots by their parents, and items whose roots are joined: the union of the kept paths has this form.
use Rattle.std.specs.Prelude.{◌≡◌, List, ◌++◌, map, ℕ, ◌<◌}
use Rattle.lists.specs.Member.{◌∈◌, Once}
use Rattle.joined.specs.Tree.{TreeOn}

-- each point that is no root with its parent, and the items' own edges
unfoldable pub grown : {A B : Type 0} → (A → A) → (B → A × A) → List A → List B → List (A × A)
grown parent edge N K = map (λ v. (v, parent v)) N ++ map edge K

-- the roots of the ends of an item's edge
unfoldable pub rooted : {A B : Type 0} → (A → A) → (B → A × A) → B → A × A
rooted root edge k = (root (edge k).0, root (edge k).1)

-- the points R are roots, the others N hang on them, and the items K are a tree over the roots
pub record Hangs {A B : Type 0} (parent root : A → A) (distance : A → ℕ) (edge : B → A × A) (R N : List A) (K : List B) : Type 0 where
  pub once : Once (R ++ N)
  pub roots : TreeOn R (map (rooted root edge) K)
  pub itself : (r : A) → r ∈ R → root r ≡ r
  pub rooting : (v : A) → v ∈ (R ++ N) → root v ∈ R
  pub stands : (v : A) → v ∈ N → parent v ∈ (R ++ N)
  pub nearer : (v : A) → v ∈ N → distance (parent v) < distance v
  pub alike : (v : A) → v ∈ N → root (parent v) ≡ root v
  pub ends : (k : B) → k ∈ K → ((edge k).0 ∈ (R ++ N)) × ((edge k).1 ∈ (R ++ N))
