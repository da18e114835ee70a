-- Capacitance and delay of a rooted tree: rules Y3 to Y6. Points are of any kind A; `apart` says how long an edge is, in plain length
-- whatever the net's weights, and `load` what a point's load is, 0 where it is no pin. Each operation rounds once, in the order written.
use Rattle.std.specs.Prelude.{ℕ, Bool, cond, List, [], ◌∷◌, ◌++◌, Float}
use Rattle.floats.specs.declared.Technology.{Technology}
use Rattle.floats.specs.Float.{plus, times, half, whole}
use Rattle.elmore.specs.Rooted.{Branches, none, branch}

abbrev pub technology : Float → Float → Technology
technology r c = record { resistance = r; capacitance = c }

-- Y3: an edge's resistance or capacitance, the technology's number for a unit times the edge's length
abbrev pub edge_value : Float → ℕ → Float
edge_value unit n = times unit (whole n)

-- Y4: what a child adds to the capacitance of its parent, its own capacitance first added to that of the edge
abbrev pub with_child : Float → Float → Float → Float
with_child sum child edge = plus sum (plus child edge)

-- Y5: a child's delay, from its parent's, the edge's resistance and capacitance, and the child's capacitance
abbrev pub child_delay : Float → Float → Float → Float → Float
child_delay parent resistance edge child = plus parent (times resistance (plus (half edge) child))

module _ {A : Type 0} (apart : A → A → ℕ) (load : A → ℕ) (t : Technology) where
  abbrev pub edge_resistance : A → A → Float
  edge_resistance a b = edge_value t.resistance (apart a b)

  abbrev pub edge_capacitance : A → A → Float
  edge_capacitance a b = edge_value t.capacitance (apart a b)

  -- Y4: the children of p added, one by one, to a sum
  unfoldable pub gathered : A → Float → Branches A → Float
  gathered p sum none = sum
  gathered p sum (branch c below beside) =
      gathered p (with_child sum (gathered c (whole (load c)) below) (edge_capacitance p c)) beside

  -- Y4: a point's capacitance, its load and then child by child
  abbrev pub capacitance : A → Branches A → Float
  capacitance p b = gathered p (whole (load p)) b

  -- Y5: the delay of a child c of p
  abbrev pub delay_of_child : A → Float → A → Branches A → Float
  delay_of_child p d c below = child_delay d (edge_resistance p c) (edge_capacitance p c) (capacitance c below)

  -- Y5: the points that hang from p, where the delay is d, each with its delay
  unfoldable pub delays : A → Float → Branches A → List (A × Float)
  delays p d none = []
  delays p d (branch c below beside) =
      (c, delay_of_child p d c below) ∷ (delays c (delay_of_child p d c below) below ++ delays p d beside)

-- the delay that a list has for a point, and `d` where it has none
unfoldable pub delay_in : {A : Type 0} → (A → A → Bool) → A → Float → List (A × Float) → Float
delay_in same q d [] = d
delay_in same q d (x ∷ l) = delay_in same q (cond (same x.0 q) x.1 d) l
