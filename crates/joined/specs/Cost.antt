-- What is asked of the length between two points. That it is 0 at equal points only, additive through a box, or no longer than a way
-- round is not asked here.
use Rattle.std.specs.Prelude.{◌≡◌, List, map, ℕ}
use Rattle.lists.specs.Total.{total}

module _ {A : Type 0} (d : A → A → ℕ) where
  pub record Cost : Type 0 where
    pub even : (a b : A) → d a b ≡ d b a
    pub none : (a : A) → d a a ≡ 0

  -- the sum of the lengths of the pairs
  unfoldable pub lengths : List (A × A) → ℕ
  lengths T = total (map (λ (e : A × A). d e.0 e.1) T)
