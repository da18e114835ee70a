-- The same net on every site: a net of whole entries, in range, moved by a fixed amount in x and in y.
--
--   Shift    shift, shift_entry, shift_macro, shift_net    a place, a pin with its load, a macro and a net, moved
--   Sites    OnDie pins macros                          whole entries, in range
--            Shifted dx dy pins pins' macros macros'    both are on the die, and the second are the first moved, in any order
--   Kept     tie, table, Kept                           what settles ties and what the trees start from, and that a shift keeps it
--
-- THE THEOREMS (proofs/): what a shift does to what the operations answer with. One theorem of the published operations is made of them
-- (promises/specs/EverySite).
--   NetShift     trees-shifted    graph, terminal tree and refined tree, by the rules alone
--   SlidShift    slid-there       the slid tree
--   TreeShift    wires-there, metal-there, verdict-there    wires, metal, and what is said of a bought-in tree
--   GridShift    square-there     distances on the grid;  BestShift: best-there, what a best tree costs
--   DelayShift   marks-there      delays
--   CheckShift   check-there      the check
pub mod Shift
pub mod Sites
pub mod Kept
