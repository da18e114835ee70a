-- A row of numbers, one for each crossing, lowered along the edges until nothing changes. What is said of it does not say in which order
-- the edges were taken: the rules fix the numbers and not the way to them.
use Rattle.std.specs.Prelude.{◌≡◌, true, false, ◌⊎◌, List, ℕ, ◌+◌, ◌≤◌, ◌<◌, ltb, get_or, set, length}

-- the value at v
abbrev pub at : List ℕ → ℕ → ℕ
at t v = get_or t v 0

-- the value at v lowered to that at w and c more, where that is less
unfoldable pub lowered : ℕ → ℕ → ℕ → List ℕ → List ℕ
lowered v w c t = elim (ltb (at t w + c) (at t v)) [ true ↦ set t v (at t w + c) | false ↦ t ]

-- near v w c: an edge of cost c leads from v to w
module _ (near : ℕ → ℕ → ℕ → Type 0) where
  -- t is what became of the row s: not above it, and each value is the one it started with or no less than over an edge
  pub record Held (s t : List ℕ) : Type 0 where
    pub size : length t ≡ length s
    pub below : (v : ℕ) → at t v ≤ at s v
    pub why : (v : ℕ) → (at t v ≡ at s v) ⊎ ((w : ℕ) × ((c : ℕ) × (near v w c × (at t w + c ≤ at t v))))

  -- no edge lowers a value any more
  abbrev pub Quiet : List ℕ → Type 0
  Quiet t = (v w c : ℕ) → near v w c → at t v ≤ at t w + c

-- all numbers of a list are below n, and so is what is read past its end
abbrev pub Below : ℕ → List ℕ → Type 0
Below n t = (i : ℕ) → at t i < n
