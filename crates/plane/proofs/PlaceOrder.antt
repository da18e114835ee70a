-- The order of places as an order in the sense of sorted lists, and with it equality of places decided.
-- Assumes nothing.
use Rattle.lists.specs.Sorted.{Order}
use Rattle.lists.proofs.PermLaws.{order_same}
use Rattle.plane.specs.declared.Place.{Place}
use Rattle.plane.specs.Place.{before}
use Rattle.plane.proofs.PlaceLaws.{before-irrefl, before-trans, before-tie}

pub place-order : Order before
place-order = record { never = before-irrefl; along = before-trans; tie = before-tie }

pub place_same : Discrete Place
place_same = order_same place-order
