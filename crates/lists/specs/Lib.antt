-- Lists, for contracts and proofs: searches by a test, entries of a flat list, membership by position, sorted lists, sums.
--
-- A test is a function to Bool, so that definitions compute. A search is the disjunction of the tests in list order. Every scan of the
-- router is one of the two searches below, so the laws of a scan (../proofs/AnyLaws.antt) are proved once.
-- A list of places, macros or edges is handed over flat, some numbers an entry; how entries follow each other in it is proved once too,
-- for every width (../proofs/EntryLaws.antt).
--
-- Membership is a position, not a bare fact: from `m : x ∈ l` one can go on to `rest m`, the list without that one position, also where x
-- stands in l more than once. So a list but for one edge needs no search and no test of equality, and counting is the pigeonhole
-- (../proofs/MemberLaws.antt): a list without repeats is no longer than a list that holds its entries.
-- Properties of lists (`Once`, `Ascending`) are recursive on the list: their parts are the parts of a pair, which `omega` reads.
-- Sorting is over any order that is given by its test, so that places, edges and bridges share it (../proofs/SortedLaws.antt).
--
--   any f xs          some entry of xs passes f
--   any_two f xs       two entries at different positions pass f, the earlier one as its first argument
--   NoTwo f xs        no entry passes f together with one after it, in words
--   twos, threes, fours entry s    the entries of a flat list, of two, three or four numbers each
--   x ∈ l             x stands in l: `here e` at the head, to which it is equal by e, `there m` further on
--   Among l m         each entry of l stands in m
--   Once l            no entry stands twice in l
--   rest m            the list in which m is a position, without that position
--   those f l         the entries that pass f, in their order
--   Order before      the test `before` is a strict order that leaves no tie
--   first_then p q     the order of pairs by p on their first parts, then by q on their second
--   put before a l    a put into the sorted list l, unless it is there
--   sorted before l   the entries of l in order, each once
--   Ascending before l    each entry comes before all that follow it
--   position before l a   where a stands in the ascending list l, counted from 0
--   carry, carry_all   sorted insertion as a program does it, from the front
--   Least le l        an entry of l that is `le` each entry
--   total l, most l   the sum and the greatest of a list of numbers
--   above t l         how many numbers of a list are above t
--   turns f i n s     the state s after f at the n numbers from i on
--   seek t i n        the first of these numbers that passes t
pub mod Any
pub mod Entries
pub mod Member
pub mod Those
pub mod Sorted
pub mod Carry
pub mod Least
pub mod Total
pub mod Turns
