-- Labels of points, by which a bar is told: one table for each direction.
--
--   Labelling  labelled                   the labels of points by level edges, the greater of two becoming the smaller
--              Own                        which labels no other point has
--              leads, labels_for           an edge from which its bar is met;  which table tells a bar
--
-- ../proofs/LabelLaws.antt: two points have the same label exactly when level edges join them, and none is above its point.
pub mod Labelling
