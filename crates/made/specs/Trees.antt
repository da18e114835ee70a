-- The refined tree's part of what is known of both trees.
use Rattle.refiner.specs.declared.Refined.{Refined}
use Rattle.made.specs.declared.Trees.{Trees}

abbrev pub refined_part : Trees → Refined
refined_part t = record { points = t.points; edges = t.edges; total = t.total }
