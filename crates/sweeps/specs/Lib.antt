-- Sweeps: a number that no edges of a graph cost less than if they join some of its points.
--
-- Heights stand above points, one height for each point of the graph. Where heights, each 0 at its own pin, never fall over an edge by
-- more than it costs all together, edges that join a point with the pins cost at least the sum of the heights there. A sweep makes such
-- heights: each pin is raised until it meets the next one in a list, and what its heights fall is taken off what is left of the edges'
-- costs.
--
-- The definition speaks of points and walks only and has one solution, so the search for heights may be any. The program has a number for
-- each arc of a grid of up to 384 lines along each axis; what is asked of its tables says nothing of the order in which arcs are visited.
--
--   Raises   Raise, raised, falls       a height for each point, 0 at one pin; their sums, and what they fall over an edge together
--            Packed G d R               over no edge, read either way, do they fall by more than it costs
--   Sweep    Nearest, Heights, Swept    each pin raised until it meets one behind it in a list; the sum of the raises
--   Tables   SweptTable                 the sweep by numbers, as the program makes it
--
-- THE THEOREMS (proofs/)
--   PackedLaws   packed-bound           no edges that join a point with the pins cost less than the heights there
--   SweepLaws    swept-bound            no edges that join the pins cost less than a sweep's number;  swept-same: there is one such number
--   LiftLaws     swept-points           a sweep by numbers is one by points
pub mod Raises
pub mod Sweep
pub mod Tables
