-- The text that the program `route` prints for a file.
--
--   Route   header_of net t pins macros        what the header says
--           trees_text net pins macros         the text of the trees of two flat lists
--           answer_text t pins macros          the text by the answer of a read
--           route_text file                    what is printed for a file
pub mod Route
