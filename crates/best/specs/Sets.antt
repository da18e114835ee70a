-- L10, L11: edges that join points, and what is asked of a table of the cost of joining a point v with a set S of pins. The sets are of any
-- type M, each with the list of its pins: the lower bound never looks inside.
use Rattle.std.specs.Prelude.{◌≡◌, Bool, true, false, List, ℕ, ◌+◌, ◌≤◌, ◌<◌}
use Rattle.lists.specs.Member.{◌∈◌}
use Rattle.joined.specs.Joined.{Link, Joined}
use Rattle.joined.specs.Cost.{lengths}

module _ {A : Type 0} where
  -- each pair of F is an edge of G, read either way
  abbrev pub Edges : List (A × A) → List (A × A) → Type 0
  Edges G F = (a b : A) → (a, b) ∈ F → Link G a b

  -- F joins v with each of the pins
  abbrev pub Reaches : List (A × A) → A → List A → Type 0
  Reaches F v pins = (p : A) → p ∈ pins → Joined F v p

module _ {A M : Type 0} (pins_of : M → List A) (G : List (A × A)) (d : A → A → ℕ) where
  -- the edges F join v with all pins of S, at cost n
  pub record JoinsAt (F : List (A × A)) (S : M) (v : A) (n : ℕ) : Type 0 where
    pub on-grid : Edges G F
    pub reaches : Reaches F v (pins_of S)
    pub cost : lengths d F ≡ n

  module _ (cap : ℕ) (T : M → A → ℕ) where
    -- S in two parts, those of its pins that pass a test and those that fail it: at each point S costs no more than both
    pub record Split (S : M) (f : A → Bool) : Type 0 where
      pub first : M
      pub second : M
      pub first-pins : (p : A) → p ∈ pins_of first → (p ∈ pins_of S) × (f p ≡ true)
      pub second-pins : (p : A) → p ∈ pins_of second → (p ∈ pins_of S) × (f p ≡ false)
      pub sum : (v : A) → T first v + T second v < cap → T S v ≤ T first v + T second v

    -- what is asked of the table, of values below the cap: nothing is left to lower
    pub record Closed : Type 0 where
      -- a lone pin costs nothing at its own place
      pub at_pin : (S : M) (v : A) → ((p : A) → p ∈ pins_of S → p ≡ v) → T S v ≡ 0
      -- one edge further
      pub further : (S : M) (v w : A) → Link G v w → T S w + d v w < cap → T S v ≤ T S w + d v w
      -- two parts that meet
      pub split : (S : M) (f : A → Bool) (p q : A) → p ∈ pins_of S → q ∈ pins_of S → f p ≡ true → f q ≡ false → Split S f
