-- The paths given are those of the net's terminal tree.
use Rattle.std.proofs.Common.{List, ℕ, ap, ◌∙◌, length, arith}
use Rattle.lent.specs.Over.{over}
use Rattle.lent.specs.Entries.{flat}
use Rattle.plane.specs.declared.Place.{Place}
use Rattle.net.proofs.PinLaws.{length-pins}
use Rattle.terminal.specs.Tree.{path_numbers}
use Rattle.terminal.proofs.PathLaws.{paths-one-fewer, kept-fewer, worked-paths, worked-givable}
use Rattle.made.proofs.FreshTables.{fresh}
use Rattle.made.proofs.terminal_tree.Goals as goal

pub give_paths-requires : goal.give_paths-requires
give_paths-requires c =
    worked-givable c.requires.counted.allowed fresh c.work-tree.ensures (length c.args.paths.now)
    (omega (arith, c.requires.pins_in_bounds, length-pins c.args.pins.now))

pub returns-clause-kept_value : goal.returns-clause-kept_value
returns-clause-kept_value c =
    let a = c.requires.counted.allowed in
    omega (arith, kept-fewer a fresh c.work-tree.ensures, paths-one-fewer a)

pub returns-clause-paths_after : goal.returns-clause-paths_after
returns-clause-paths_after c =
    c.give_paths.ensures
    ∙ ap (λ (ps : List ((Place × Place) × ℕ)). over (flat path_numbers ps) c.args.paths.now)
    (worked-paths c.requires.counted.allowed fresh c.work-tree.ensures)
