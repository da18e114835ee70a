-- All that is promised of an allowed net, in one place. The check is the only premise: `promised` (proofs/Published.antt) gives this record
-- wherever it answers "allowed". The contracts of the operations say which numbers are given; here is what these numbers are.
use Rattle.std.specs.Prelude.{◌≡◌, true, ◌⊎◌, List, map, ℕ, ◌+◌, ◌*◌, ◌≤◌, ℤ, pos, length}
use Rattle.lists.specs.Member.{◌∈◌}
use Rattle.lists.specs.Total.{total}
use Rattle.lent.specs.Told.{given}
use Rattle.lent.specs.Entries.{flat}
use Rattle.joined.specs.Joined.{Joins}
use Rattle.joined.specs.Cost.{lengths}
use Rattle.plane.specs.declared.Place.{Place}
use Rattle.plane.specs.declared.Macro.{Macro}
use Rattle.plane.specs.Distance.{distance}
use Rattle.plane.specs.Macro.{clear}
use Rattle.plane.specs.Flat.{macros_of}
use Rattle.net.specs.declared.Weighing.{Weighing}
use Rattle.net.specs.Pins.{pin_count, pin_places}
use Rattle.net.specs.Net.{net_of, cost_in}
use Rattle.refined.specs.Wires.{wires_of_edge}
use Rattle.refined.specs.Promise.{Horizontal, Vertical, EdgeWires}
use Rattle.rules.specs.Edges.{Edge}
use Rattle.rules.specs.Terminal.{Path, given_for, path_cost}
use Rattle.interior.specs.Interior.{PlanePoint, Interior, Box}
use Rattle.rules.specs.Refined.{Refined, TreesThrough, FallsThrough}
use Rattle.rules.specs.Trees.{Trees, Equal}
use Rattle.rules.specs.Demand.{BestJoining, RefinedTree}
use Rattle.answers.specs.Graph.{net_vertices, net_edges, point_count, graphed}
use Rattle.answers.specs.Terminal.{paths_of, paths_total, terminal_tree}
use Rattle.answers.specs.Refined.{laid_of, laid_total, metal_of, laid_answer, refined_tree}
use Rattle.answers.specs.Wires.{wires_of, wired}

pub record Promised (w : Weighing) (pins macros : List ℤ) : Type 0 where
  -- D1b: with the space that is asked for, each operation gives (C61 to C68)
  pub graph-given : (v e : ℕ) → point_count pins macros * 2 ≤ v → point_count pins macros * 16 ≤ e
      → graphed w pins macros v e ≡ given (length (net_vertices w pins macros), length (net_edges w pins macros))
  pub terminal-given : (room : ℕ) → pin_count pins * 5 ≤ room
      → terminal_tree w pins macros room ≡ given (length (paths_of w pins macros), pos (paths_total w pins macros))
  pub refined-given : (room : ℕ) → (point_count pins macros + pin_count pins) * 4 ≤ room
      → refined_tree w pins macros room ≡ given (laid_answer w pins macros)
  pub wires-given : (room : ℕ) → (point_count pins macros + pin_count pins) * 8 ≤ room
      → wired w pins macros room ≡ given (length (wires_of w pins macros))
  -- D2a: what is given are the trees of the rules, and there are no others
  pub kept : List Path
  pub trees : Trees (net_of w pins macros) (net_vertices w pins macros) (net_edges w pins macros) kept (laid_of w pins macros)
  pub only : {vs : List Place} {es : List Edge} {ks : List Path} {rs : List Edge} → Trees (net_of w pins macros) vs es ks rs
      → Equal vs (net_vertices w pins macros) es (net_edges w pins macros) ks kept rs (laid_of w pins macros)
  -- T14 to T16: each kept path is given by its bridge and its length, and the total is their sum
  pub paths : paths_of w pins macros ≡ map (given_for (net_of w pins macros)) kept
  pub paths-sum : paths_total w pins macros ≡ total (map (path_cost (net_of w pins macros)) kept)
  -- C66: the total is the sum of what the edges cost;  R22: the metal to lay that of their plain lengths, which is no more
  pub total-sum : laid_total w pins macros ≡ lengths (cost_in (net_of w pins macros)) (laid_of w pins macros)
  pub metal-sum : metal_of w pins macros ≡ lengths distance (laid_of w pins macros)
  pub metal-low : metal_of w pins macros ≤ laid_total w pins macros
  -- G7: the graph joins all its vertices
  pub connected : Joins (net_vertices w pins macros) (net_edges w pins macros)
  -- D3, of the kept paths and of the refined tree
  pub best : BestJoining (net_of w pins macros) (net_edges w pins macros) kept
  pub tree : RefinedTree (net_of w pins macros) kept (laid_of w pins macros)
  -- D3g in the numbers reported
  pub no_longer : laid_total w pins macros ≤ paths_total w pins macros
  -- D3f with points: none with fractions either lies in an edge's box and in an interior
  pub outside : (e : Edge) → e ∈ laid_of w pins macros → (m : Macro) → m ∈ macros_of macros → (q : PlanePoint) →
      Box e.0 e.1 q → Interior m q → ⊥
  -- R20: every tree on the way there is one tree as well;  R14, D2f: each exchange is for a tree shorter by the gain
  pub between : {rs : List Edge} (r : Refined (net_of w pins macros) (net_edges w pins macros) kept rs)
      → TreesThrough (net_of w pins macros) (net_edges w pins macros) (length (pin_places pins)) r.start r.refines.rounded
      r.refines.rounds
  pub falls : {rs : List Edge} (r : Refined (net_of w pins macros) (net_edges w pins macros) kept rs)
      → FallsThrough (net_of w pins macros) (net_edges w pins macros) (length (pin_places pins)) r.start r.refines.rounded
      r.refines.rounds
  -- W1: the wires are those of the edges, edge after edge
  pub wires-of-edges : wires_of w pins macros ≡ flat wires_of_edge (laid_of w pins macros)
  -- D2c, W2 to W4: an edge's wires lead from its smaller place to its larger one in the edge's box, first across and then up
  pub edge-wires : (e : Edge) → e ∈ laid_of w pins macros → EdgeWires e (wires_of_edge e)
  pub wires-straight : (x : Edge) → x ∈ wires_of w pins macros → Horizontal x ⊎ Vertical x
  -- R21: no wire meets an interior;  R22: together they are the metal to lay
  pub wires-clear : (x : Edge) → x ∈ wires_of w pins macros → clear x.0 x.1 (macros_of macros) ≡ true
  pub wires-sum : lengths distance (wires_of w pins macros) ≡ metal_of w pins macros
