-- Points joined by a list of pairs, each pair read either way.
use Rattle.std.specs.Prelude.{◌≡◌, ◌⊎◌, List}
use Rattle.std.proofs.Common.{inl, inr}
use Rattle.lists.specs.Member.{◌∈◌, rest}

module _ {A : Type 0} where
  -- a pair of the list, read one way or the other
  abbrev pub Link : List (A × A) → A → A → Type 0
  Link L x y = ((x, y) ∈ L) ⊎ ((y, x) ∈ L)

  -- all pairs but the one of a link
  unfoldable pub others : {L : List (A × A)} {x y : A} → Link L x y → List (A × A)
  others (inl m) = rest m
  others (inr m) = rest m

  -- x and y are a and b, in this order or the other
  abbrev pub Alike : A → A → A → A → Type 0
  Alike x y a b = ((x ≡ a) × (y ≡ b)) ⊎ ((x ≡ b) × (y ≡ a))

  -- two points are one, or link after link leads from the first to the second
  pub data Joined (L : List (A × A)) : A → A → Type 0 where
    stay : {x y : A} → x ≡ y → Joined L x y
    step : {x y z : A} → Link L x y → Joined L y z → Joined L x z

  -- every two of the points are joined
  abbrev pub Joins : List A → List (A × A) → Type 0
  Joins X L = (x y : A) → x ∈ X → y ∈ X → Joined L x y

  -- both ends of each pair are among the points
  abbrev pub Inside : List A → List (A × A) → Type 0
  Inside X L = (a b : A) → (a, b) ∈ L → (a ∈ X) × (b ∈ X)

  -- how x and y are joined by the pairs of L and the pair of v and w: by L alone, or over the pair, read forwards or backwards
  pub data Across (L : List (A × A)) (v w x y : A) : Type 0 where
    beside : Joined L x y → Across L v w x y
    forwards : Joined L x v → Joined L w y → Across L v w x y
    backwards : Joined L x w → Joined L v y → Across L v w x y
