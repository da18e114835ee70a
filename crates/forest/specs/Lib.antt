-- Roots, parents and ways on tables of vertex numbers.
--
-- A vertex is its number in the order of places, and an edge its number in the order of edges: so the order of numbers is the order of
-- places, and every tie is settled by the smaller number. A graph is three tables, the two ends of each edge and its length. The length is
-- whatever the caller hands over, from 1 to `cost_bound`: for a net it is what the edge costs. Labels and parents are tables too, by vertex.
-- They are worked out from any set of sources, each of them a vertex; for the terminal tree these are the pins. The definitions are ways of
-- computing on these tables, the same that the code goes; that they are what rules T6 to T8 say is proved beside them, in ../proofs: that
-- labels are nearest sources (Nearest), that parents are the smallest neighbours on shortest ways and lead to the root (Homeward).
--
--   Bounds     point_bound, edge_bound, cost_bound     640 points and 2,560 edges, each at most 32,000,000 long
--              unreached, path_bound                 the distance of a vertex that no source has reached; a path's length at most
--   Edges      graph ea eb el e                     a graph by its tables
--              one g k, two g k, len g k            the ends of edge k and its length
--              from k n, entries xs k n             n numbers, or n entries of a table, from k on
--              filled f i n xs                      the table xs with f k at each number k from i on, n of them
--              Fits, Ends, Named, FirstBelow, Below                    what the code asks of tables
--              Listed xs lent table n               a lent table holds xs over what stood there, and n is how many
--   Labels     labels f r, far t v, root t v        for each vertex the distance to its root, and the root
--              labelled g n sources                 the labels of a graph of n vertices, by relaxation until nothing changes
--   Parents    parent g t v                         the step from v to its parent: the vertex, and the edge to it
--              parented g n t, up p v, via p v      the table of these steps, read
--              adopt_by n t v w k d p                the same table, an edge at a time
--              way fars p v, way_length ..           the edges on v's way to its root, and the sum of their lengths
--   Setting    Setting g n d sources, Whole ..      what the theorems suppose: lengths by d, vertices below n; joined, with a source
pub mod Bounds
pub mod Edges
pub mod Labels
pub mod Parents
pub mod Setting
