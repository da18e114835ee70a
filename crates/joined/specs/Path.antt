-- Terminal paths: rules T1 to T5. The graph is a list of pairs of points, and some of the points are pins.
use Rattle.std.specs.Prelude.{◌≡◌, ◌⊎◌, List, ◌∷◌, ℕ}
use Rattle.lists.specs.Member.{◌∈◌, Once}
use Rattle.joined.specs.Way.{Way, long}

-- T2: a terminal path is loop-free, leads from a pin to a different one, and has no pin in between
pub record TerminalPath {A : Type 0} (L : List (A × A)) (pins : List A) : Type 0 where
  pub start : A
  pub finish : A
  -- the points on it after the first one
  pub points : List A
  pub way : Way L start points finish
  pub once : Once (start ∷ points)
  pub start-pin : start ∈ pins
  pub finish-pin : finish ∈ pins
  pub apart : start ≡ finish → ⊥
  pub inner : (v : A) → v ∈ (start ∷ points) → v ∈ pins → (v ≡ start) ⊎ (v ≡ finish)

module _ {A : Type 0} {L : List (A × A)} {pins : List A} where
  abbrev pub ends_of : TerminalPath L pins → A × A
  ends_of c = (c.start, c.finish)

  -- the sum over its edges
  abbrev pub length_of : (A → A → ℕ) → TerminalPath L pins → ℕ
  length_of d c = long d c.start c.points
