-- `bars::choice` meets its contract: labels along rows and along columns, the pins' seats, and the search by them.
-- Assumes nothing.
use Prim.Native.Nat.{ℕ}
use native.Mathlib.Omega.{arith}
use lib.ListN.{length-replicate}
use Rattle.net.specs.Bounds.{pin_bound}
use Rattle.straight.proofs.TableLaws.{within-small}
use Rattle.bars.proofs.CallLaws.{labelled-numbers, seated, searched-by}
use Rattle.bars.proofs.choice.Statement.{statement}
use Rattle.bars.proofs.choice.Tie as tie

label-requires : tie.Need-label-requires
label-requires c κs = let h = c.requires.0.0 in (h.few, (h.fewer, within-small _ _ h.few h.within))

label-requires-2 : tie.Need-label-requires-2
label-requires-2 c κs = let h = c.requires.0.0 in (h.few, (h.fewer, within-small _ _ h.few h.within))

seat-requires : tie.Need-seat-requires
seat-requires c κs =
    let p = c.requires.0 in
    ((p.0.few, p.0.ordered), p.1)

search-requires : tie.Need-search-requires
search-requires c κs =
    let p = c.requires in
    let h = p.0.0 in (
      ((h.few, h.fewer), within-small _ _ h.few h.within),
      (
        (
          p.0.1.0,
          rw c.seat.ensures
              (seated _ _ _ _ _ h.few (omega (arith, p.0.1, length-replicate {A = ℕ} pin_bound 0))),
        ),
        (
          rw c.label.ensures
              (labelled-numbers _ _ _ _ _ _ (λ k l. h.within.ends k) h.few (omega (arith, h.few, p.1.0.room)) p.1.0.numbers),
          rw c.label-2.ensures
              (labelled-numbers _ _ _ _ _ _ (λ k l. h.within.ends k) h.few (omega (arith, h.few, p.1.1.room)) p.1.1.numbers),
        ),
      ),
    )

returns : tie.Need-returns
returns c = (
  (
    c.label.ensures,
    c.label-2.ensures,
  ),
  searched-by _ _ _ _ _ _ _ _ _ _ _ c.search.ensures c.label.ensures
      c.label-2.ensures c.seat.ensures,
)

pub choice_spec : {M : Type 1} → statement M
choice_spec = tie.close (tie.spec label-requires label-requires-2 seat-requires search-requires returns)
