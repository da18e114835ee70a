-- The later of the two hangs on the other, and so the row is that of the edge.
use Rattle.std.proofs.Common.{arith}
use Rattle.lists.proofs.TestLaws.{either}
use Rattle.longest.proofs.RowLaws.{row-after, row_before}
use Rattle.longest.proofs.start.Goals as goal

pub returns-then-turn-a-clause-by_index : goal.returns-then-turn-a-clause-by_index
returns-then-turn-a-clause-by_index c t told fresh paired =
    let m = c.climb.ensures in
    either (λ p. row-after _ _ c.requires.0 t told _ _ _ (m.by_index t told fresh) m.begun c.requires.1.0.0 p.0 p.1)
    (λ p. absurd (let z : ⊥ = omega (arith, p.1) in z)) paired

pub returns-else-turn-a-clause-by_index : goal.returns-else-turn-a-clause-by_index
returns-else-turn-a-clause-by_index c t told fresh paired =
    let m = c.climb-else-turn-a.ensures in
    either (λ p. absurd (let z : ⊥ = omega (arith, p.1) in z))
    (λ p. row_before _ _ c.requires.0 t told _ _ _ (m.by_index t told fresh) m.begun c.requires.1.0.1 p.0 p.1) paired
