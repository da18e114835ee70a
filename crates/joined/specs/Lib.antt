-- Points joined by pairs: trees, loop-free ways, and the shortest joining.
--
-- WHAT IT IS ABOUT. The rules speak of pins that terminal paths join, and of tree points that edges join. Both are points of any type A and
-- a list of things with two ends. This theory says, over any A, what is joined, what a tree is, that a tree has exactly one loop-free
-- way between two points, that Kruskal's choice is a joining which no joining is shorter than, and that the refiner's exchange and its
-- pruning keep a tree a tree. Later crates put in pins or places for points, the ends of paths or edges for pairs, the length of a path or
-- the distance of two places for the cost. Nothing here knows a coordinate, and nothing needs the points to be in an order.
--
-- WHICH REPRESENTATION, AND WHY.
--  * Pairs are a LIST of A × A, read either way (`Link`), and membership is a position. So all pairs but this one (`others l`, or `rest m`)
--    needs no search, and lists in which a pair stands twice need no care: that a tree has none is a theorem.
--  * `Joined` and `Way` are data whose last constructor carries an equation, so that an end is exchanged for an equal one for free. One law
--    carries most of the proofs: `carried`, what a map makes of joined points is joined when it is so for each pair.
--  * A TREE is: all points joined, and one pair fewer than points. An exchange is then two facts, that all is still joined and that the
--    count is right; that each pair is a cut, that no pair stands twice and that the loop-free way is unique follow.
--  * Both counts are by contracting a pair: to join n points takes n − 1 pairs (`enough`), and a forest has no more (`at_most`). From
--    `enough` alone follows that no joining is shorter: for each t the kept items up to t with another joining's paths above t join all
--    points, so at each height no more kept ones than others stand above it, and sums compare layer by layer.
--  * Labels are there to decide and to compute what is joined: the second end's label becomes the first's, as in a program's table. They
--    carry no theorem but that they are equal exactly on joined points.
--  * `keep` reads its list from the end, so that what is offered before an item is the rest of the list; `kept` is the same in the order
--    of offering, and `kept_by` the same by a table, as code does it.
--
-- WHAT IS ASKED, each in one record or name: `Discrete A`, where two points must be told apart; `Cost d`; `Offered` and `Dominated`, what
-- Kruskal's choice needs of the bridges; `Hangs`, what the union of the kept paths must look like.
--
-- WHAT THE RULES SAY (Path.antt, Chain.antt, OneTree.antt, Keep.antt, Exchange.antt)
--   TerminalPath L pins       a loop-free path along L between different pins, with no pin inside
--   Chain ends x bs y         a chain of the paths bs leads from x to y
--   Joining ends pins J       a chain of paths of J leads from each pin to each other
--   OurWay ends K x y bs      bs is the chain of kept paths from x to y that repeats none
--   OneWay, OneTree pins T    exactly one loop-free way along T; such a way from each point, pin or end of an edge, to each other
--   kept same ends L          the items of L that are kept, each offered after those before it
--   Keeping ends bs L ks      the same as a relation: after bs, of the items L those of ks are kept
--   Toward T u a b            the tree way from u to the one of a and b that comes first
--   steps x ps                the edges of a way, of which the refiner's L is one
--   laid same s l             the pairs from s to the points of l, none of length zero
--
-- JOINED (Joined.antt)
--   Link L x y                a pair of L has the ends x and y, read one way or the other
--   others l                  all pairs but the one of the link l
--   Alike x y a b             x and y are a and b, in this order or the other
--   Joined L x y              x and y are one, or link after link leads from x to y
--   Joins X L, Inside X L     every two of X are joined; both ends of each pair are among X
--   Across L v w x y          x and y are joined by L and the pair of v and w: beside it, or over it
-- PAIRS (Pairs.antt)
--   Each P L                  P holds of the two points of each pair
--   moved_pair f e             the pair of the points to which f takes those of e
-- TREES AND WAYS (Tree.antt, Way.antt, OneTree.antt)
--   TreeOn X T                T joins all of X, with one pair fewer than points
--   Forest T, Cuts T          no pair joins what the pairs after it, or all others, join
--   Way L x ps y              from x through ps, each linked to the one before, to y
--   Free L x y                a loop-free way
--   On, NoStepTwice           a step on a way; no step twice
--   turned x ps qs            a way turned round, in front of points that follow its start
--   Simple T                  no pair twice and none with equal ends
--   Cost d, lengths d T       what is asked of a length between points; the sum over pairs
-- LABELS AND KEEPING (Labels.antt, Light.antt, Keep.antt, Table.antt)
--   renamed same a b x        a for b, and any other x for itself
--   labels same L x           the label of x by the pairs of L
--   Labels L f                f labels points as L joins them
--   keep same ends L          what is kept when the last of L is offered first
--   Rising, Falling           by weight, read from the head
--   light w t L, heavy        the items up to weight t, and those above
--   Offered ends w X L        the items L join X, the lighter offered first
--   Dominated ends w L e t    items of weight t at most join the ends e
--   kept_by ends L t           what a pass over L keeps by the table of labels t, which it relabels by `changed`
--   merged_by ends L t         the table of labels after all of L
-- EXCHANGE AND UNION (Exchange.antt, Graft.antt)
--   Parted T x p q y ps       a way parted at its step from p to q
--   grown, rooted, Hangs      points that hang on roots by their parents, and items whose roots are a tree
pub mod Joined
pub mod Pairs
pub mod Tree
pub mod Way
pub mod OneTree
pub mod Cost
pub mod Labels
pub mod Light
pub mod Keep
pub mod Table
pub mod Path
pub mod Chain
pub mod Exchange
pub mod Graft
