-- The order of edges is an order, and having the same edges is an equivalence.
-- Assumes nothing.
use mathlib.Core.List.{List}
use Rattle.lists.specs.Sorted.{Order}
use Rattle.lists.proofs.OrderLaws.{pair-order}
use Rattle.plane.specs.Place.{before}
use Rattle.plane.proofs.PlaceOrder.{place-order}
use Rattle.rules.specs.Edges.{Edge, edge_before, Same}

pub edge_order : Order edge_before
edge_order = pair-order before before place-order place-order

pub same_turn : {T U : List Edge} → Same T U → Same U T
same_turn h = (h.1, h.0)

pub same_then : {T U R : List Edge} → Same T U → Same U R → Same T R
same_then h k = (λ e m. k.0 e (h.0 e m), λ e m. h.1 e (k.1 e m))
