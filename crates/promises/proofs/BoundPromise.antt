-- What is promised of the lower bound of an allowed net: no tree of clear edges costs less, and refined, slid, best and bought-in trees are
-- such.
-- Assumes nothing.
use mathlib.Core.Path.{◌≡◌, refl, ◌∙◌}
use mathlib.Core.List.{List}
use native.Mathlib.Omega.{arith}
use borrow.Author.Tests.{le-ltb}
use lib.IntN.{ℤ}
use Rattle.lists.proofs.TestLaws.{or-neither}
use Rattle.lent.specs.Told.{given}
use Rattle.plane.specs.Flat.{macros_of}
use Rattle.net.specs.declared.Net.{Net as Counts}
use Rattle.net.specs.declared.Weighing.{Weighing}
use Rattle.net.specs.Pins.{pin_places}
use Rattle.net.specs.Net.{Net, net_of, weights_of}
use Rattle.net.specs.Allowed.{Allowed}
use Rattle.checks.specs.Check.{checked}
use Rattle.checks.proofs.GivenLaws.{given-allowed}
use Rattle.rules.proofs.TreesOrder.{SameNet}
use Rattle.bought.specs.Edges.{edges_of}
use Rattle.sweeps.specs.Tables.{wide_crossings, arc_bound}
use Rattle.bound.proofs.NetBound.{bound-holds, bound-metal, bound-tree, bound-any-order}
use Rattle.answers.specs.Refined.{total_in, edges_in}
use Rattle.answers.specs.Slid.{slid_in}
use Rattle.answers.specs.Bound.{bound_given, lower_bound}
use Rattle.answers.proofs.AnswerLaws.{only-given}
use Rattle.answers.proofs.BoundLaws.{bound-enough}
use Rattle.router.proofs.SlidLaws.{refined-given, slid-refined}
use Rattle.promises.specs.LowerBound.{PromisedBound}
use Rattle.promises.proofs.BoughtLaws.{passes-told}

module _ (w : Weighing) (pins macros : List ℤ) {v : Counts} (g : checked w pins macros ≡ given v) where
  abbrev net : Net
  net = net_of w pins macros

  a : Allowed (net_of w pins macros)
  a = (given-allowed w pins macros g).1

  itself : SameNet (weights_of w) (pin_places pins) (pin_places pins) (macros_of macros) (macros_of macros)
  itself = record {
    to = λ p i. i;
    from = λ p i. i;
    count = refl;
    macros-to = λ m i. i;
    macros-from = λ m i. i;
    clears = λ x y. refl;
  }

  -- U6, U7, from the check alone
  pub promised-bound : PromisedBound w pins macros
  unfolding lower_bound total_in
  promised-bound = record {
    bound-given = λ left rows n l r.
        only-given (checked w pins macros) (bound_given w pins macros left rows n) v g
        ∙ bound-enough w pins macros left rows n (or-neither _ _ (le-ltb left arc_bound l) (le-ltb rows wide_crossings r));
    one = λ m n b c. bound-any-order itself b c;
    grid = λ n b. bound-holds net b;
    metal = λ n b. bound-metal net b;
    refined = λ n b. let t = refined-given a in bound-tree net b (edges_in net) t.one t.free;
    slid = λ n b. let t = (slid-refined a).given in bound-tree net b (slid_in net) t.one t.free;
    best = λ n b T t. bound-holds net b T t.best.all-joined;
    bought = λ n b edges cost laid e.
        let p = passes-told w pins macros g edges cost laid e in
        omega (arith, p.1, bound-tree net b (edges_of edges) p.0.one (λ x y m. p.0.free (x, y) m));
  }
