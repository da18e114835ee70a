-- Bounds that go with their edges: each is most, or that of an edge before with the same key.
-- Assumes nothing.
use mathlib.Core.Path.{◌≡◌}
use mathlib.Core.Logic.{inl}
use mathlib.Core.List.{List}
use Prim.Native.Nat.{ℕ, ◌≤◌}
use native.Mathlib.Omega.{arith}
use lib.ListN.{length, replicate}
use Rattle.tree.specs.Table.{tree_bound}
use Rattle.longest.proofs.HungLaws.{same-entry, same_length}
use Rattle.bounds.specs.Carried.{Origins}

module _ (before : List ℕ) (f : ℕ) (at keys : List ℕ) (e most : ℕ) (was : List ℕ) where
  pub record Carrying (next : List ℕ) : Type 0 where
    pub room : length next ≡ tree_bound
    pub each : Origins before f at keys e most was next

  pub carrying-start : e ≤ tree_bound → Carrying (replicate tree_bound most)
  carrying-start h = record {
    room = same_length tree_bound most;
    each = λ k l. inl (same-entry tree_bound most k (omega (arith, h, l)));
  }
