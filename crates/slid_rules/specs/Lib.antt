-- What the slid tree is: rules M1 to M14 as a relation over places and edges, with our tree as its one solution.
--
-- WHAT IT IS. The definitions of crate slide compute: they label points, search for distances and scan for the best
-- move. Here the same rules are said with no table and no search: a bar is what level edges join, the distance is the
-- greatest that nothing blocks, the round's move is one that no other beats, and a list of edges is said by what
-- stands in it and by its order. A reader who believes this page need not read how the tree is worked out.
--
-- HOW IT IS WRITTEN. A bar is given by what its points are, `B`. A move goes to a `Side`; `across` rises towards it,
-- so all is said once for the four sides. How many edges hang is a number n with `Many`: n entries of the list are
-- such.
--
--   Many P l n                    n entries of l are such
--   Bend      BendAt, Bends       where a slanted edge bends; the points and edges after all bends
--             GivenBack           both places of some bend are taken
--   Bar       OnBar               the points of a bar: level edges join them
--             Ahead, Behind       edges that hang on the side, and on the other
--             FarEnd              the far ends of the shortest on the side
--             Free, Fits          nothing blocks a distance; it is allowed
--   Round     Moves               a bar that moves, by how much, and what that saves
--             After, Slides       the edges after a move; a round
--             Still, Rounds       no bar saves; the rounds until then, or until the limit
--   Slid      SlidTree net T S    S is the slid tree of the edges T
--   Saves     SavesThrough        what each round keeps and saves
--
-- THE THEOREMS (proofs/)
--   SlidOurs  slid-ours           what is given is such a tree
--             slid-only           and there is no other
--   SlidSaves slid-saves          each round of a refined tree keeps one tree and saves what M11 says
pub mod Many
pub mod Bend
pub mod Bar
pub mod Round
pub mod Slid
pub mod Saves
