-- What a bridge stands for, said of places. A kept path is here what is given for it, its bridge and its length (`paths_of`); its ends are
-- the roots of the bridge's ends. What is promised of the kept paths is said of the paths themselves, in `rules`.
use Rattle.std.specs.Prelude.{◌≡◌, List, ◌∷◌, ℕ}
use Rattle.lists.specs.Member.{◌∈◌}
use Rattle.joined.specs.Way.{On, turned}
use Rattle.joined.specs.Path.{TerminalPath, length_of}
use Rattle.plane.specs.declared.Place.{Place}
use Rattle.net.specs.Net.{Net, cost_in}
use Rattle.graph.specs.Spanning.{spanning}
use Rattle.terminal.specs.Tree.{root_of, roots_of}
use Rattle.terminal.specs.Roots.{WayUp}

-- a kept path as it is given: its bridge and its length
abbrev pub KeptPath : Type 0
KeptPath = (Place × Place) × ℕ

module _ (net : Net) where
  -- a terminal path of the net's graph
  abbrev pub PathOf : Type 0
  PathOf = TerminalPath (spanning net) net.pins

  -- the two pins that a kept path joins
  abbrev pub kept_ends : KeptPath → Place × Place
  kept_ends k = roots_of net k.0

  -- T10: the path that a bridge b stands for, from root to root over both ways, is a terminal path; T4: its length l counts every edge.
  pub record Stands (b : Place × Place) (l : ℕ) : Type 0 where
    pub path : PathOf
    pub start_is : path.start ≡ root_of net b.0
    pub finish-is : path.finish ≡ root_of net b.1
    -- from one root down the way of b's first end, over b, and up the way of its second end to the other root
    pub is-edge : b ∈ spanning net
    pub first_way : List Place
    pub first-up : WayUp net b.0 first_way
    pub second_way : List Place
    pub second-up : WayUp net b.1 second_way
    pub points-are : path.points ≡ turned b.0 first_way (b.1 ∷ second_way)
    pub over-bridge : On b.0 b.1 path.start path.points
    pub length-is : length_of (cost_in net) path ≡ l
