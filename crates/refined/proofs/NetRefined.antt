-- What is promised of a refined tree holds of an allowed net's: the union that refining starts with is ready for its rounds.
-- Assumes nothing.
use Rattle.net.specs.Net.{Net}
use Rattle.net.specs.Allowed.{Allowed}
use Rattle.union.specs.Union.{union_of}
use Rattle.refiner.specs.Refined.{refined}
use Rattle.refiner.specs.Promise.{Promise, Tabled}
use Rattle.refiner.proofs.RefinedSound.{refined-promise, refined-tabled}
use Rattle.refined.specs.Ground.{ground_of}
use Rattle.refined.proofs.NetGround.{union-ready, union-strangers}

module _ {net : Net} (a : Allowed net) where
  pub union-promise : Promise net (union_of net) (refined net (ground_of net) (union_of net))
  union-promise = refined-promise net (ground_of net) (union_of net) (union-ready a)

  pub union-tabled : Tabled net (ground_of net) (refined net (ground_of net) (union_of net))
  union-tabled = refined-tabled net (ground_of net) (union_of net) (union-ready a) (union-strangers a)
