-- The text that the program `route` prints of a tree and of a refusal, as bytes of ASCII.
--
--   Text    decimal n, whole z                a natural and a whole number in decimal digits
--           line numbers, edge_line w e        numbers with spaces between them; the line of an edge
--           header h                          the first line of a tree's text
--           tree_text w h edges                the header, and a line for each edge
--           refused_text n                     the line of a refusal
--   Put     Put buffer at piece later next    a piece put into a buffer
--           Wrote before piece after          a piece put on a page: a buffer with its next byte
--           Filled text buffer later count    a whole text at the front of a buffer
pub mod Text
pub mod Put
