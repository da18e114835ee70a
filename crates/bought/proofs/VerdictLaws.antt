-- The verdict by its cases, in the order of the tests.
-- Assumes nothing.
use mathlib.Core.Path.{◌≡◌, refl, ap₂, ◌∙◌}
use mathlib.Core.Bool.{true, false, not}
use mathlib.Core.List.{List, [], ◌∷◌}
use Prim.Native.Nat.{◌+◌, ◌/◌, ◌%◌, ◌≤◌}
use borrow.Author.Tests.{eqb-true, ltb-false, not-false}
use lib.Dec.{eqb, ltb}
use lib.IntN.{ℤ, pos}
use lib.ListN.{length}
use Rattle.lists.specs.Any.{any}
use Rattle.lists.specs.Total.{total}
use Rattle.lists.proofs.TestLaws.{or-none}
use Rattle.lent.specs.Told.{refused, given}
use Rattle.joined.specs.Cost.{lengths}
use Rattle.plane.specs.Distance.{distance}
use Rattle.plane.specs.Cost.{cost, plain}
use Rattle.plane.proofs.CostLaws.{cost-plain}
use Rattle.net.specs.Net.{Net, cost_in}
use Rattle.net.specs.Tests.{out_of_range}
use Rattle.bought.specs.Bounds.{bought_bound}
use Rattle.bought.specs.Edges.{Edge, edges_of}
use Rattle.bought.specs.Verdict.{edges_miscounted, unfit, no_tree, verdict, bought}

module _ (net : Net) (T : List Edge) where
  pub verdict-unfit : any (unfit net.macros) T ≡ true → verdict net T ≡ refused 34
  unfolding verdict
  verdict-unfit e = rw e refl

  module _ (fit : any (unfit net.macros) T ≡ false) where
    pub verdict-none : no_tree net.pins T ≡ true → verdict net T ≡ refused 35
    unfolding verdict
    verdict-none e = rw (fit, e) refl

    pub verdict-passed : no_tree net.pins T ≡ false → verdict net T ≡ given (pos (lengths (cost_in net) T), pos (lengths distance T))
    unfolding verdict
    verdict-passed e = rw (fit, e) refl

module _ (net : Net) (s : List ℤ) where
  pub miscounted-33 : edges_miscounted s ≡ true → bought net s ≡ refused 33
  unfolding bought
  miscounted-33 e = rw e refl

  module _ (counted : edges_miscounted s ≡ false) where
    pub range-33 : any out_of_range s ≡ true → bought net s ≡ refused 33
    unfolding bought
    range-33 e = rw (counted, e) refl

    pub whole : length s % 4 ≡ 0
    unfolding edges_miscounted
    whole =
        eqb-true (length s % 4) 0
        (not-false (eqb (length s % 4) 0) (or-none (not (eqb (length s % 4) 0)) (ltb bought_bound (length s / 4)) counted).0)

    pub few : length s / 4 ≤ bought_bound
    unfolding edges_miscounted
    few = ltb-false bought_bound (length s / 4) (or-none (not (eqb (length s % 4) 0)) (ltb bought_bound (length s / 4)) counted).1

    module _ (inside : any out_of_range s ≡ false) where
      pub past-33 : bought net s ≡ verdict net (edges_of s)
      unfolding bought
      past-33 = rw (counted, inside) refl

      pub unfit-34 : any (unfit net.macros) (edges_of s) ≡ true → bought net s ≡ refused 34
      unfit-34 e = past-33 ∙ verdict-unfit net (edges_of s) e

      module _ (fit : any (unfit net.macros) (edges_of s) ≡ false) where
        pub none-35 : no_tree net.pins (edges_of s) ≡ true → bought net s ≡ refused 35
        none-35 e = past-33 ∙ verdict-none net (edges_of s) fit e

        pub passed : no_tree net.pins (edges_of s) ≡ false →
            bought net s ≡ given (pos (lengths (cost_in net) (edges_of s)), pos (lengths distance (edges_of s)))
        passed e = past-33 ∙ verdict-passed net (edges_of s) fit e

-- with weights of 1 the cost is the metal
pub plain-lengths : (T : List Edge) → lengths (cost plain) T ≡ lengths distance T
unfolding lengths total
plain-lengths [] = refl
plain-lengths (e ∷ T) = ap₂ ◌+◌ (cost-plain e.0 e.1) (plain-lengths T)
