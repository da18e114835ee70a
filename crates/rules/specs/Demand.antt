-- What the mission demands of the trees (D3), over a net, its spanning graph's edges G, the kept paths ks and the refined tree's edges rs.
-- Chains, joinings and our way are those of `joined` (specs/Chain.antt), terminal paths too (specs/Path.antt). These records
-- say how good the trees are; which trees they are is said in Trees.antt.
use Rattle.std.specs.Prelude.{◌≡◌, true, List, map, suc, ◌+◌, ◌*◌, ◌≤◌, ◌<◌, length}
use Rattle.lists.specs.Member.{◌∈◌, Once}
use Rattle.lists.specs.Sorted.{Ascending}
use Rattle.lists.specs.Total.{total, most}
use Rattle.joined.specs.Cost.{lengths}
use Rattle.joined.specs.Path.{TerminalPath, ends_of, length_of}
use Rattle.joined.specs.Chain.{Chain, Joining, OurWay}
use Rattle.joined.specs.OneTree.{OneTree}
use Rattle.plane.specs.declared.Place.{Place}
use Rattle.plane.specs.Place.{before}
use Rattle.plane.specs.Macro.{clear}
use Rattle.net.specs.Net.{Net, cost_in}
use Rattle.rules.specs.Edges.{Edge, edge_before}
use Rattle.rules.specs.Terminal.{Path, path_ends, path_cost}

module _ (net : Net) (G : List Edge) where
  -- T2: k is a terminal path of the graph
  pub record TerminalAs (k : Path) : Type 0 where
    pub path : TerminalPath G net.pins
    pub start_is : path.start ≡ k.start
    pub points-are : path.points ≡ k.points
    pub finish-is : path.finish ≡ k.finish

  pub record BestJoining (ks : List Path) : Type 0 where
    -- T14: m − 1 paths, each a terminal path, none twice
    pub count : suc (length ks) ≡ length net.pins
    pub terminal : (k : Path) → k ∈ ks → TerminalAs k
    pub once : Once ks
    -- D3b: they are a joining
    pub joining : Joining path_ends net.pins ks
    -- D3c: every joining is at least as long, each path counted in full
    pub shortest : (js : List (TerminalPath G net.pins)) → Joining ends_of net.pins js →
        total (map (path_cost net) ks) ≤ total (map (length_of (cost_in net)) js)
    -- T20: between two different pins there is our way, the chain of kept paths with none twice, and no other
    pub way : (x y : Place) → x ∈ net.pins → y ∈ net.pins → (x ≡ y → ⊥) → (w : List Path) × OurWay path_ends ks x y w
    pub only : {x y : Place} {v w : List Path} → OurWay path_ends ks x y v → OurWay path_ends ks x y w → v ≡ w
    -- D3d: the longest path of every chain is at least as long as the longest on our way
    pub lowest : {x y : Place} → (x ≡ y → ⊥) → {w : List Path} → OurWay path_ends ks x y w →
        {cs : List (TerminalPath G net.pins)} → Chain ends_of x cs y → most (map (path_cost net) w) ≤ most (map (length_of (cost_in net)) cs)

pub record RefinedTree (net : Net) (ks : List Path) (rs : List Edge) : Type 0 where
  -- D3e, R20: one tree that holds all pins
  pub one : OneTree net.pins rs
  -- D3f, R21: the two ends of each edge are clear of each other
  pub clear-edges : (e : Edge) → e ∈ rs → clear e.0 e.1 net.macros ≡ true
  -- N16: each edge smaller place first, and edges in order, so none twice
  pub smaller-first : (e : Edge) → e ∈ rs → before e.0 e.1 ≡ true
  pub in_order : Ascending edge_before rs
  -- D3g: the total is at most our joining's
  pub no_longer : lengths (cost_in net) rs ≤ total (map (path_cost net) ks)
  -- C65: fewer edges than n + m, so that 4(n + m) numbers hold them
  pub few : length rs < length net.pins + length net.macros * 4 + length net.pins
