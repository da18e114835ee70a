-- The slid tree: rules M1 to M15, as definitions that compute, over places and edges alone.
--
-- WHAT IT IS ABOUT. A refined tree is a list of edges, pairs of places. Its slanted edges are bent; then, round by round, the bar that
-- saves most moves to the side on which more edges hang.
--
-- WHICH REPRESENTATION, AND WHY.
--  * ONE DIRECTION. A bar moves to a `Side`. `along` and `across` are the two numbers of a place as such a bar has them, `across` rising
--    towards the side. Everything after Side.antt is said once by them, and the four sides are told apart in ../proofs/AcrossLaws.antt and
--    ../proofs/TouchLaws.antt.
--  * A BAR is the test `on` for its points: those that level edges join with one of them. Joined is decided by the labels of `joined`,
--    whose laws say all that is needed: points of one line, closed under level edges.
--  * THE DISTANCE is the greatest number that passes the test `allowed`, sought downwards: M10 as it stands. The closed form by one scan
--    (Stop.antt) is proved equal to it, so code need not search.
--  * A MOVE is a map of points: the bar's points move, others stay; edges whose ends become one go. That all is still joined is then one
--    use of `carried`, and the count is right because no more points become one than edges go.
--  * The edges are in order after bending and after each round, so code that holds them in order has the same list at each step.
--
--   Side       Side, along, across, moved      the four ways to move
--              weight, weight_along             what a unit costs at right angles to a bar, and along it
--   Bend       straight, bends X T             edges along one axis; the tree made of such, or given back
--   Bar        level, on_bar, of_bar, hangs      a bar and what hangs from it;  ahead, behind: on the side, on the other
--              shortest, far_ends               the shortest hanging edge on the side, the far ends of such
--   Sweep      swept, allowed, reach           the box that is swept, the test of a distance, the greatest
--              surplus, saving_of               how many more edges hang on the side; what a move saves
--   Stop       stop, closed                    the distance in closed form
--   Slide      tree_points                      the pins and the ends of edges, in order
--              slide, move_of, better, choice   the edges after a move; a bar's move; the round's choice
--              rounds, slid                    rounds, and the slid tree
--   Bars       IsBar, Allowed                  what is asked for a move to keep the tree: less than the definitions give
--   Promise    Clear, Straight, Smaller        properties of edges
--              EndsPins, Within, Sound
--              Given, Slidable, State          what is asked of a refined tree's edges; by code besides; before each round
--              Round, RoundsOf, Promise        what is promised of each round, and of the slid tree
--   Sentences  IsGreatest, MovesAsFar          what a bar is and what blocks it, in words of points and places
--
-- THE THEOREMS
--   GlueLaws       glue                        clear segments of one line that share a place are together clear
--   BendLaws       bends-do, bends-tree        bends keep the tree, clear, the cost;  BendEnds bends-ends: loose ends stay pins
--   EdgeLaws       at-bar                      each edge with an end on the bar is of the bar or hangs
--   SlideLaws      slide-tree, slide-clear     a move keeps one tree, clear and straight, and saves exactly the saving (slide-saves)
--   EndLaws        slide-ends                  loose ends stay pins;  RangeLaws, SmallerLaws: the range, smaller place first
--   BarLaws        is-bar, is-allowed          the definitions give what is asked;  LabelledBars: by any labels, over numbers too
--   ReachLaws      allowed-less, greatest-is   shorter distances are allowed;  StopLaws closed-is: the closed form
--   ChoiceLaws     choice-best, best-again     no bar has a better move;  OneMove one-move: a bar has one move, from whichever edge
--   MergeLaws      merged                      the points after a move are two ascending runs merged
--   RoundLaws      round-sound, rounds-of      rounds keep what is promised, and the cost falls by what each saves
--   SlidSound      slid-promise                the slid tree of a refined tree;  ListOrder slid-same: whatever the order of the lists
--   StateLaws      bent-state, next-state      what code has before the first round, and before the next
--   MoveRange      choice-carries              what moves in a round stays in range
--   SentenceLaws   is-greatest, moves-as-far   the sentences
pub mod Side
pub mod Bend
pub mod Bar
pub mod Sweep
pub mod Stop
pub mod Slide
pub mod Bars
pub mod Promise
pub mod Sentences
