use Rattle.std.proofs.Common.{sym, subst, arith}
use Rattle.grid.specs.Tables.{Row}
use Rattle.parts.proofs.WorkLaws.{row_low}
use Rattle.traced.proofs.RouteLaws.{trace-stop, trace-met}
use Rattle.traced.proofs.+trace.Goals as goal

pub walk-u-requires-clause-row : goal.walk-u-requires-clause-row
walk-u-requires-clause-row t c =
    let p = c.requires.rows_to in
    (subst Row (sym c.get_row.ensures) (row_low _ _ _ p.1.0.0 (omega arith) p.1.0.1 p.0), p.1.1)

pub returns-in-Some : goal.returns-in-Some
returns-in-Some t c =
    let found = c.in-Some.ensures in
    trace-met _ _ _ _ _ _ _ _ _ _ _ _ _ c.get_row.ensures c.walk-u.ensures.0 found.0 found.1 c.trace.ensures c.trace-in-Some.ensures

pub returns-in_default : goal.returns-in_default
returns-in_default t c =
    trace-stop _ _ _ _ _ _ _ 0 _ _ _ c.get_row.ensures c.walk-u.ensures.0 (omega arith) c.in_default.ensures
