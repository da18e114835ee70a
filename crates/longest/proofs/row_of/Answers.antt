-- What is known after the climb is the row of the point.
use Rattle.longest.proofs.RowLaws.{row-point}
use Rattle.longest.proofs.row_of.Goals as goal

pub returns : goal.returns
returns c =
    let m = c.climb.ensures in
    record {
      begun = m.begun;
      by_index = λ t told fresh. row-point _ _ c.requires.0 t told _ _ c.requires.1.0 m.begun (m.by_index t told fresh);
    }
