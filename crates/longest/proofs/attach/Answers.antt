-- In each of the four cases of an edge: neither end hangs, one of them, or both.
use Rattle.std.proofs.Common.{arith}
use Rattle.longest.proofs.HungLaws.{pass-neither, pass-both, pass-first, pass-second}
use Rattle.longest.proofs.attach.Goals as goal

pub returns-in-0-eq0-clause-by_index : goal.returns-in-0-eq0-clause-by_index
returns-in-0-eq0-clause-by_index c ks el e n r few fewer w hk ea eb h =
    pass-neither ks el e n _ _ r h few fewer w _ _ _ hk ea eb (omega arith) (omega arith)

pub returns-in-0-default-clause-by_index : goal.returns-in-0-default-clause-by_index
returns-in-0-default-clause-by_index c ks el e n r few fewer w hk ea eb h =
    pass-first ks el e n _ _ r h few fewer w _ _ _ hk ea eb (omega arith) (λ z. omega arith) _ c.hang.ensures

pub returns-in_default-eq0-clause-by_index : goal.returns-in_default-eq0-clause-by_index
returns-in_default-eq0-clause-by_index c ks el e n r few fewer w hk ea eb h =
    pass-second ks el e n _ _ r h few fewer w _ _ _ hk ea eb (λ z. omega arith) (omega arith) _ c.hang-in_default-eq0.ensures

pub returns-in_default-clause-by_index : goal.returns-in_default-clause-by_index
returns-in_default-clause-by_index c ks el e n r few fewer w hk ea eb h =
    pass-both ks el e n _ _ r h few fewer w _ _ _ hk ea eb (λ z. omega arith) (λ z. omega arith)
