-- Bounds: what an edge can gain at most, by its number. An edge whose bound is no more than what is gained already changes nothing.
use Rattle.std.specs.Prelude.{◌≡◌, List, ℕ, ◌≤◌, ◌<◌, ℤ, length, get_or}
use Rattle.plane.specs.declared.Macro.{Macro}
use Rattle.plane.specs.declared.Weights.{Weights}
use Rattle.tree.specs.Table.{tree_bound, first_end, second_end}
use Rattle.candidates.specs.declared.Best.{Best}
use Rattle.candidates.specs.Candidate.{offer}

-- a best so far that gains b changes nothing more by the offers u below n that are not `but`
abbrev pub Shut : (ℕ → Best → Best) → ℕ → ℕ → ℕ → Type 0
Shut f n but b = (u : ℕ) → u < n → (u ≡ but → ⊥) → (c : Best) → b ≤ c.gain → f u c ≡ c

-- the bounds of e edges on the tree, for all points but one
pub record Bounded (w : Weights) (pts : List ℤ) (n : ℕ) (ms : List Macro) (keys : List ℕ) (e : ℕ) (el top : List ℕ) (but : ℕ)
    (bound : List ℕ) : Type 0 where
  pub room : length bound ≡ tree_bound
  pub shut : (k : ℕ) → k < e →
      Shut (offer w pts n ms el top (first_end (get_or keys k 0)) (second_end (get_or keys k 0)) k) n but (get_or bound k 0)
