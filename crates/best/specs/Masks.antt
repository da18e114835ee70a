-- Sets of pins as masks, a test for each pin, and a table of costs by mask as a program fills it: a start value for each point, and then
-- lowered along the edges until nothing changes.
use Rattle.std.specs.Prelude.{◌≡◌, Bool, true, false, ◌&&◌, ◌⊎◌, List, [], ◌∷◌, ℕ, ◌+◌, ◌≤◌, ◌<◌, length}
use Rattle.lists.specs.Member.{◌∈◌}
use Rattle.joined.specs.Joined.{Link}

module _ {A : Type 0} where
  -- the pins whose bit is set
  unfoldable pub chosen : List Bool → List A → List A
  chosen [] ps = []
  chosen (b ∷ bs) [] = []
  chosen (true ∷ bs) (p ∷ ps) = p ∷ chosen bs ps
  chosen (false ∷ bs) (p ∷ ps) = chosen bs ps

  -- the mask of those chosen pins that pass a test
  unfoldable pub passing : (A → Bool) → List Bool → List A → List Bool
  passing f [] ps = []
  passing f (b ∷ bs) [] = []
  passing f (b ∷ bs) (p ∷ ps) = (b && f p) ∷ passing f bs ps

  -- a mask that is not empty, with a bit for each pin
  pub record Mask (pins : List A) : Type 0 where
    pub bits : List Bool
    pub size : length bits ≡ length pins
    pub pin : A
    pub some : pin ∈ chosen bits pins

  abbrev pub mask_pins : (pins : List A) → Mask pins → List A
  mask_pins pins S = chosen S.bits pins

  -- all pins of S are at v: S is one pin, as pins differ
  abbrev pub Lone : (pins : List A) → Mask pins → A → Type 0
  Lone pins S v = (p : A) → p ∈ mask_pins pins S → p ≡ v

-- a mask in two that share no bit
pub data Halves : List Bool → List Bool → List Bool → Type 0 where
  none : Halves [] [] []
  left : {s bs cs : List Bool} → Halves s bs cs → Halves (true ∷ s) (true ∷ bs) (false ∷ cs)
  right : {s bs cs : List Bool} → Halves s bs cs → Halves (true ∷ s) (false ∷ bs) (true ∷ cs)
  neither : {s bs cs : List Bool} → Halves s bs cs → Halves (false ∷ s) (false ∷ bs) (false ∷ cs)

module _ {A : Type 0} (pins : List A) (G : List (A × A)) (d : A → A → ℕ) (cap : ℕ) (T : Mask pins → A → ℕ) where
  -- the value that T(S, v) starts with: nothing at a lone pin, else the least sum over two halves, and the cap where that is not below it
  pub record Start (S : Mask pins) (v : A) (n : ℕ) : Type 0 where
    pub at_pin : Lone pins S v → n ≡ 0
    pub at_split : (P Q : Mask pins) → Halves S.bits P.bits Q.bits → T P v + T Q v < cap → n ≤ T P v + T Q v
    pub why : n < cap → (Lone pins S v × (n ≡ 0)) ⊎
        ((P : Mask pins) × ((Q : Mask pins) × (Halves S.bits P.bits Q.bits × (n ≡ T P v + T Q v))))

  -- the table at the end: never above its start, nothing left to lower, and each value its start or no less than over an edge
  pub record Filled : Type 0 where
    pub start : Mask pins → A → ℕ
    pub starts : (S : Mask pins) (v : A) → Start S v (start S v)
    pub below : (S : Mask pins) (v : A) → T S v ≤ start S v
    pub settled : (S : Mask pins) (v w : A) → Link G v w → T S w + d v w < cap → T S v ≤ T S w + d v w
    pub held : (S : Mask pins) (v : A) → T S v < cap → (T S v ≡ start S v) ⊎ ((w : A) × (Link G v w × (T S w + d v w ≤ T S v)))
