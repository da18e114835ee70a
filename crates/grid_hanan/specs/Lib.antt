-- Hanan's theorem for trees (L17, L18): no metal anywhere in the plane joins a net's pins for less than edges of its grid do.
--
-- Hanan (1966) has it for pins alone, Ganley and Cohoon (1994) with obstacles. Here it is said of a net as the router has it: with macros,
-- whose interiors no metal enters, a weight along each axis, and any number of pins. Metal is a list of unit steps of the plane, each clear
-- of the interiors, which joins the pins: it need be no tree, may stand off the die, and may hold steps of no use or the same step twice.
-- A step that stands twice costs twice; of metal in which each step stands once, the sum is what is laid, and overlaps count once.
-- Steps of a fraction of a unit are unit steps of the net drawn larger, and are no cheaper either.
--
-- THE IDEA. Every coordinate of the metal is taken for a line beside the net's own, so that each step is an edge from a crossing to the
-- next. Lines that are not the net's are taken out again one by one: all that lies on such a line moves onto the next line below or above,
-- and points that fall together become one. No side of a macro lies between, so what was clear stays clear. Of the edges that end on the
-- line some come from below and some from above; it moves to where more of them come from, and the sum does not rise.
--
--   Metal      UnitMetal net U       clear unit steps that join all pins
--              GridMetal net most    edges of the grid that join all pins for at most so much
--              LeastMetal net n      n is the least that metal which joins the pins costs: some costs just that, none costs less
--   Fine       fine_net d net         the net drawn d times as large;  fine_place, fine_macro
--              LeastInFractions net n   n is the least of metal in steps of any fraction too
--   Balance    Balanced, goes_up      what edges cost when a line moves down or up, and where it goes
--
-- THE THEOREMS
--   Hanan      hanan                 for all metal that joins the pins there are edges of the grid that do, for no more
--   LeastLaws  grid-least            the cheapest edges of the grid that join all pins are the cheapest metal
--              tree-not-cheaper      no clear edges that join all pins cost less than the cheapest metal, wherever their ends lie
--              least-alike           the least cost is one number
--   FineMetal  least-in-fractions    drawn d times as large, a net's least cost is d times as much: fractions make nothing cheaper
pub mod Metal
pub mod Fine
pub mod Balance
