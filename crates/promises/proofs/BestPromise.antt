-- What is promised of the best tree of an allowed net, whichever is given.
-- Assumes nothing.
use mathlib.Core.Path.{◌≡◌, ◌∙◌}
use mathlib.Core.List.{List}
use Prim.Native.Nat.{ℕ, ◌+◌, ◌*◌, ◌≤◌}
use native.Mathlib.Nat.{mul-le-mul}
use native.Mathlib.Omega.{arith}
use borrow.Author.Tests.{le-ltb}
use lib.IntN.{ℤ, pos}
use lib.ListN.{length}
use Rattle.lists.proofs.TestLaws.{or-neither}
use Rattle.lent.specs.Told.{given}
use Rattle.joined.specs.Cost.{lengths}
use Rattle.plane.specs.Flat.{macros_of}
use Rattle.plane.proofs.FlatLaws.{length-macros}
use Rattle.net.specs.declared.Net.{Net as Counts}
use Rattle.net.specs.declared.Weighing.{Weighing}
use Rattle.net.specs.Pins.{pin_count, macro_count}
use Rattle.net.specs.Net.{Net, net_of, cost_in}
use Rattle.net.proofs.AllowedLaws.{allowed-positive}
use Rattle.net.proofs.PinLaws.{length-pins}
use Rattle.checks.specs.Check.{checked}
use Rattle.checks.proofs.GivenLaws.{given-allowed}
use Rattle.refined.proofs.MetalLaws.{metal-low}
use Rattle.lines.specs.declared.Axis.TheVariants.{Across, Along}
use Rattle.lines.specs.Lines.{x_lines, y_lines}
use Rattle.lines.specs.Edges.{Edge}
use Rattle.lines.proofs.GridCost.{line-count}
use Rattle.bought.specs.Edges.{edges_of}
use Rattle.bought.specs.Passes.{Passes}
use Rattle.interior.proofs.InteriorLaws.{clear-points}
use Rattle.grid_hanan.proofs.FineMetal.{least-in-fractions}
use Rattle.parts.specs.Bounds.{work_bound}
use Rattle.best.specs.Tree.{IsBest}
use Rattle.best.proofs.BestLaws.{best-pinned}
use Rattle.best.proofs.BestTree.{best-alike}
use Rattle.best.proofs.RefinedLaws.{best-least, one-tree-not-cheaper}
use Rattle.best.proofs.CallLaws.{best-few}
use Rattle.answers.specs.Best.{best_numbers, best_given, best_tree}
use Rattle.answers.specs.Bought.{checked_tree}
use Rattle.answers.specs.Slid.{slid_in}
use Rattle.answers.proofs.AnswerLaws.{only-given}
use Rattle.answers.proofs.BestLaws.{best-enough, within-best}
use Rattle.router.specs.Best.{PromisedBest}
use Rattle.router.proofs.BestLaws.{no-dearer}
use Rattle.router.proofs.SlidLaws.{slid-refined}
use Rattle.promises.proofs.BoughtLaws.{promised-check, passes-told}

pub best-passes : (net : Net) (T : List Edge) → IsBest net T → Passes net T
best-passes net T b = record {
  one = b.one-tree;
  once = b.simple.single;
  apart = λ e m. b.simple.apart e.0 e.1 m;
  free = λ e m. b.free e.0 e.1 m;
  pinned = λ v s. best-pinned net T b v s.other s.link s.alone;
}

module _ (w : Weighing) (pins macros : List ℤ) {v : Counts} (g : checked w pins macros ≡ given v) where
  -- what the check passes is one tree of clear edges
  bought-not-cheaper : {T : List Edge} → IsBest (net_of w pins macros) T → (edges : List ℤ) (cost laid : ℕ) →
      checked_tree w pins macros edges ≡ given (pos cost, pos laid) → lengths (cost_in (net_of w pins macros)) T ≤ cost
  bought-not-cheaper b edges cost laid e =
      let p = passes-told w pins macros g edges cost laid e in
      omega (arith, p.1, one-tree-not-cheaper b (edges_of edges) p.0.one (λ x y m. p.0.free (x, y) m))

  -- L11 to L18, from the check alone
  pub promised-best : PromisedBest w pins macros
  unfolding best_tree
  promised-best =
      let net = net_of w pins macros in
      let a = (given-allowed w pins macros g).1 in
      record {
        best-given = λ h k work room l n T.
            only-given (checked w pins macros) (best_given w pins macros work room T) v g
            ∙ best-enough w pins macros work room T (within-best pins macros h k)
            (or-neither _ _ (le-ltb work work_bound l) (le-ltb room (best_numbers pins macros) n));
        least = λ T b. b.best.least;
        alike = λ T U b c. best-alike net T U b.best c.best;
        passes = λ T b. best-passes net T b.best;
        checks = λ h k T b.
            (promised-check w pins macros g).numbers T (λ e m. b.in-range e.0 e.1 m)
            (omega (
              arith,
              best-few net T b.best (omega (arith, h, length-pins pins)) (omega (arith, k, length-macros macros)),
            ))
            (best-passes net T b.best);
        outside = λ T b e m. (clear-points e.0 e.1 (macros_of macros) a.upright).0 (b.best.free e.0 e.1 m);
        metal = λ T b. best-least b.best;
        fractions = λ T b. least-in-fractions net (best-least b.best);
        refined = λ T b. no-dearer a T b.best;
        slid = λ T b. let s = (slid-refined a).given in one-tree-not-cheaper b.best (slid_in net) s.one s.free;
        bought = λ T b. bought-not-cheaper b.best;
        metal-low = λ T b. metal-low net.weights (allowed-positive a) T;
        few = λ T b.
            let x : length (x_lines net) ≤ pin_count pins + macro_count macros * 2 =
            omega (arith, line-count Across net, length-pins pins, length-macros macros) in
            let y : length (y_lines net) ≤ pin_count pins + macro_count macros * 2 =
            omega (arith, line-count Along net, length-pins pins, length-macros macros) in
            omega (arith, b.best.few, mul-le-mul x y);
      }
