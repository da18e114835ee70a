-- Labels: each point has one, and two points have the same exactly when they are joined. They are had by folding the pairs.
use Rattle.std.specs.Prelude.{◌≡◌, Bool, true, false, List, [], ◌∷◌}
use Rattle.lists.specs.Member.{◌∈◌}
use Rattle.joined.specs.Joined.{Joined}

module _ {A : Type 0} (same : Discrete A) where
  -- the test of equality that a decision gives
  unfoldable pub equal : A → A → Bool
  equal x y = elim (same x y) [ yes e ↦ true | no e ↦ false ]

  -- b becomes a, and everything else stays
  unfoldable pub renamed : A → A → A → A
  renamed a b x = elim (same x b) [ yes e ↦ a | no e ↦ x ]

  -- the labels once p and q are joined too: the label of q becomes that of p
  unfoldable pub merge : (A → A) → A → A → A → A
  merge f p q x = renamed (f p) (f q) (f x)

  -- the pair at the head of the list is read last
  unfoldable pub labels : List (A × A) → A → A
  labels [] x = x
  labels (e ∷ L) x = merge (labels L) e.0 e.1 x

-- f labels the points as the pairs of L join them
pub record Labels {A : Type 0} (L : List (A × A)) (f : A → A) : Type 0 where
  pub own : (x : A) → f (f x) ≡ f x
  pub to : (x : A) → Joined L x (f x)
  pub ends : (a b : A) → (a, b) ∈ L → f a ≡ f b
