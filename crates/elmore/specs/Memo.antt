-- A memo of capacitances: for each point a capacitance, and the number of the visit for which it was worked out. An entry is used for that
-- visit only, so nothing need be known of how often a point is visited.
use Rattle.std.specs.Prelude.{◌≡◌, ℕ, ◌+◌, ◌*◌, ◌<◌, ◌≤◌, List, length, ℤ, slice_index, slice_index_or, Float}
use Rattle.std.specs.Float.{nan}
use Rattle.tree.specs.Table.{tree_bound}
use Rattle.floats.specs.declared.Technology.{Technology}
use Rattle.elmore.specs.declared.Visit.{Visit}
use Rattle.elmore.specs.Elmore.{capacitance}
use Rattle.elmore.specs.Table.{hung, apart_in, load_in}

-- a visit in the tables of a tree
pub record Inside (v : Visit) : Type 0 where
  pub point-low : v.point < tree_bound
  pub parent-low : v.up < tree_bound
  pub steps_low : v.left ≤ tree_bound

-- the number of a visit by its parent and the steps left below it: no other visit's of that point, and not 0
abbrev pub visit_number : ℕ → ℕ → ℕ
visit_number up left = up * (tree_bound + 1) + left + 1

-- each entry is the capacitance of its point, for the visit whose number stands beside it
pub record Memo (pts : List ℤ) (ks : List ℕ) (e : ℕ) (loads : List ℕ) (t : Technology) (held : List Float) (whose : List ℕ) : Type 0 where
  pub held-long : length held ≡ tree_bound
  pub whose-long : length whose ≡ tree_bound
  pub entry : (up left p : ℕ) → left ≤ tree_bound → p < tree_bound → slice_index whose p ≡ visit_number up left
      → slice_index_or held p nan ≡ capacitance (apart_in pts) (load_in loads) t p (hung ks e left up p)
