-- Edges put in place of others: they have a property, join what those joined, at least among some places, and cost no more. Such exchanges
-- follow each other.
-- Assumes nothing.
use mathlib.Core.List.{List}
use Prim.Native.Nat.{◌≤◌}
use native.Mathlib.Omega.{arith}
use Rattle.joined.specs.Joined.{Joined}
use Rattle.joined.specs.Pairs.{Each}
use Rattle.joined.specs.Cost.{lengths}
use Rattle.plane.specs.declared.Place.{Place}
use Rattle.plane.specs.declared.Weights.{Weights}
use Rattle.plane.specs.Cost.{cost}
use Rattle.lines.specs.Edges.{Edge}

-- edges with the property P in place of F, as far as the places X see
pub record Instead (w : Weights) (P : Place → Place → Type 0) (X : Place → Type 0) (F : List Edge) : Type 0 where
  pub edges : List Edge
  pub each : Each P edges
  pub joins : (p q : Place) → X p → X q → Joined F p q → Joined edges p q
  pub costs : lengths (cost w) edges ≤ lengths (cost w) F

-- all places
abbrev pub Anywhere : Place → Type 0
Anywhere p = Unit {0}

module _ {w : Weights} {P : Place → Place → Type 0} where
  pub instead-same : {X : Place → Type 0} {F : List Edge} → Each P F → Instead w P X F
  instead-same {F = F} k = record { edges = F; each = k; joins = λ p q h l j. j; costs = omega arith }

  pub instead-then : {Q : Place → Place → Type 0} {X Y Z : Place → Type 0} {F : List Edge} → (r : Instead w P X F) →
      Instead w Q Y r.edges → ((p : Place) → Z p → X p) → ((p : Place) → Z p → Y p) → Instead w Q Z F
  instead-then r t f g = record {
    edges = t.edges;
    each = t.each;
    joins = λ p q h l j. t.joins p q (g p h) (g q l) (r.joins p q (f p h) (f q l) j);
    costs = omega (arith, r.costs, t.costs);
  }
