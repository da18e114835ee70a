-- The distances on the grid among the operations: what is promised of the table of an allowed net.
-- Assumes nothing.
use mathlib.Core.Path.{◌≡◌, refl, ◌∙◌}
use mathlib.Core.List.{List}
use lib.IntN.{ℤ}
use Rattle.lent.specs.Told.{given}
use Rattle.net.specs.declared.Net.{Net as Counts}
use Rattle.net.specs.declared.Weighing.{Weighing}
use Rattle.net.specs.Net.{weights_of}
use Rattle.checks.specs.Check.{checked}
use Rattle.checks.proofs.GivenLaws.{given-allowed}
use Rattle.grid.proofs.SquareLaws.{square-true, squares-same}
use Rattle.answers.specs.Distances.{distances_given, grid_distances}
use Rattle.answers.proofs.DistanceLaws.{grid-enough, within-grid}
use Rattle.answers.proofs.AnswerLaws.{only-given}
use Rattle.router.specs.Distances.{PromisedDistances}

-- L7, L8, from the check alone
pub promised-distances : (w : Weighing) (pins macros : List ℤ) {v : Counts} → checked w pins macros ≡ given v →
    PromisedDistances w pins macros
unfolding grid_distances
promised-distances w pins macros {v} g =
    let a = (given-allowed w pins macros g).1 in
    record {
      table-given = λ h k room l.
          only-given (checked w pins macros) (distances_given w pins macros room) v g
          ∙ grid-enough w pins macros room (within-grid pins macros h k) l;
      table-true = λ numbers s. square-true a numbers s;
      table-only = λ t u s r. squares-same (weights_of w)
          (record { to = λ p m. m; from = λ p m. m; count = refl; clears = λ x y. refl }) a a t u s r;
    }
