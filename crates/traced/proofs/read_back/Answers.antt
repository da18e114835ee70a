use Rattle.std.proofs.Common.{refl, inl, inr, arith}
use Rattle.parts.proofs.WorkLaws.{rows-fewer}
use Rattle.traced.proofs.read_back.Goals as goal

pub returns-then-n-lt2 : goal.returns-then-n-lt2
returns-then-n-lt2 c = inl (c.if-n-lt2.true, (refl, refl))

pub trace-requires : goal.trace-requires
trace-requires c =
    let q = c.requires.rows_to in
    let h = c.if-n-lt2.false in
    record {
      fits = c.requires.fits;
      rows_to = (rows-fewer _ _ _ (omega (arith, h)) q.0, ((omega (arith, h), omega (arith, h, q.1.0)), q.1.1));
    }

pub returns : goal.returns
returns c = inr (c.if-n-lt2.false, (c.trace.ensures, c.from.ensures))
