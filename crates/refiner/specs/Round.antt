-- A round on a ground: its exchange on the tree, or beside it once the way is laid; and all rounds.
use Rattle.std.specs.Prelude.{true, false, List, ℕ, zero, suc, eqb, ℤ, get_or}
use Rattle.plane.specs.declared.Macro.{Macro}
use Rattle.plane.specs.declared.Weights.{Weights}
use Rattle.forest.specs.Parents.{way_after}
use Rattle.tree.specs.Table.{Tree}
use Rattle.beside.specs.declared.Choice.{Choice}
use Rattle.candidates.specs.Candidate.{best}
use Rattle.exchanges.specs.Exchange.{exchange}
use Rattle.beside.specs.Beside.{Ground, labels_in, parents_in, seats_in, chosen_in}
use Rattle.refiner.specs.Graft.{grafted}

-- R12, R27: the exchange of a choice: beside the tree, once the way is laid
unfoldable pub exchange_with : List ℤ → List ℕ → List ℕ → List ℕ → Tree → Choice → Tree
exchange_with vs fars ups seat t c =
    elim c.beside [
      | true ↦
          let g = grafted vs (way_after fars ups c.best.point) c.best.point
          (record { tree = t; last = get_or seat c.best.point 0; edge = c.best.edge; cut = c.best.cut }) in
          exchange (best c.best.gain g.edge g.last g.cut) g.tree.points g.tree.count g.tree.edges.keys
          g.tree.edges.size
      | false ↦ exchange c.best t.points t.count t.edges.keys t.edges.size
    ]

unfoldable pub exchange_in : Ground → Tree → Choice → Tree
exchange_in g t c = exchange_with g.places (labels_in g t).fars (parents_in g t).ups (seats_in g t) t c

-- R15: at most m rounds, and the first that finds no gain is the last
unfoldable pub rounds_in : Weights → List Macro → Ground → ℕ → Tree → Tree
rounds_in w ms g zero t = t
rounds_in w ms g (suc m) t =
    let c = chosen_in w ms g t in
    elim (eqb c.best.gain 0) [ true ↦ t | false ↦ rounds_in w ms g m (exchange_in g t c) ]
