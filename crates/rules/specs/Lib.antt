-- What the trees of a net are: the page that a buyer must believe, under the numbers of docs/RULES.md.
--
-- WHAT IT IS. Graph, terminal tree and refined tree as relations over places and edges. No table, no number of a vertex and no function of
-- the router is named here: these files use only a net (`Net`), the order of places, the cost of metal between two, the middle of three,
-- what is clear (`plane`), and ways, chains and trees over any points (`joined`). For every allowed net `Spanning`, `Terminal`, `Refined`
-- and `Trees` have our answer as their one solution; so they say all that there is to say, and how the answer is worked out is nobody's
-- business but the prover's. `BestJoining` and `RefinedTree` (D3) say how good that answer is.
--
-- HOW IT IS WRITTEN. A list of vertices or edges is said by what stands in it (`↔`), and by its order where it is given; "the nearest",
-- "the longest", "the first" are said by comparison with every other. So the order of a net's lists is nowhere, and that it does not
-- matter follows from "one solution" alone (`trees-same`).
--
--   Edges      Edge, edge_before, edge_cost       edges, their order and their cost
--              Same T U                         the same edges, as sets
--   Spanning   Vertex, Lies, May, Picks         vertices; quadrants; what a vertex may pick, and what it picks
--              Spanning net vs es               vs and es are vertices and edges of the graph, in order
--   Terminal   Path, given_for                   a path of the tree with its bridge; what is given for it
--              Root, Parent, Up, Bridge         roots, parents and ways; what a bridge stands for
--              Terminal net G ks                ks are the kept paths, in the order kept
--   Refined    OnSome, Union                    an edge of one of the paths; the start
--              Shortest, Lowest, Beside, Reach  a vertex beside the tree, the tree point that it is joined to, and the way
--              Candidate, Cut, Gain, Takes      a candidate, its L and its gain; the one that a round takes
--              After, Round, Rounds             which edges are there after a round; at most m of them
--              TreesThrough, FallsThrough       the trees between are trees; each round makes them shorter by its gain
--              Loose, Strips, Prunes            points that go, in any order, until there is none
--              Refined net G ks rs              rs are the edges of the refined tree, in order
--   Trees      Trees net vs es ks rs            all three;  Equal: the same four lists
--   Moved      moved_edge, moved_path             where a map of the plane takes them
--   Demand     BestJoining net G ks             D3 of the kept paths;  RefinedTree: D3 of the refined tree
--
-- THE THEOREMS (proofs/)
--   SpanningOurs   graph-ours, graph-only                     what is given is the graph, and there is no other
--   TerminalOurs   terminal-ours, terminal-only               the same of the terminal tree
--   RefinedOurs    refined-ours, refined-only, refined-tree   the same of the refined tree, and D3 of it;  between-trees
--   TreesOurs      trees-ours, trees-only                     all three at once;  trees-same: for every order of pins and macros
--   RefinedMoved   trees-there                                a map of the plane that keeps what the rules ask carries the trees along
--   BestLaws       best-joining                               D3 of the kept paths
--   PrunesOnly     prunes-only                                every order of pruning leaves the same edges
pub mod Edges
pub mod Spanning
pub mod Terminal
pub mod Refined
pub mod Trees
pub mod Moved
pub mod Demand
