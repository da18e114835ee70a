-- Weights of 1 weigh nothing: what they are is `plain`, and costs, totals and, where no pin has a load, files follow.
-- Assumes nothing.
use mathlib.Core.Path.{refl, ap, ◌∙◌}
use mathlib.Core.List.{List}
use lib.IntN.{ℤ}
use Rattle.plane.specs.declared.Weights.{Weights}
use Rattle.plane.specs.Cost.{cost, plain}
use Rattle.plane.proofs.CostLaws.{cost-plain}
use Rattle.net.specs.Net.{plainly}
use Rattle.net.specs.Tests.{no_weight, weights_wrong}
use Rattle.net.proofs.HandedLaws.{weights-handed}
use Rattle.checks.proofs.CodeLaws.{not-18}
use Rattle.encoded.specs.Layout.{file_bytes}
use Rattle.older.proofs.FirstRelease.{plain-file}
use Rattle.joined.specs.Cost.{lengths}
use Rattle.refined.proofs.MetalLaws.{length-plain}
use Rattle.answers.specs.Refined.{total_in, laid_of}
use Rattle.promises.specs.FirstRelease.{AsFirst}

pub as_first : (pins macros : List ℤ) → AsFirst pins macros
unfolding no_weight weights_wrong total_in
as_first pins macros = record {
  not-18 = not-18 plainly pins macros refl;
  cost-is = λ a b. ap (λ (v : Weights). cost v a b) (weights-handed plain) ∙ cost-plain a b;
  metal-is =
      ap (λ (v : Weights). lengths (cost v) (laid_of plainly pins macros)) (weights-handed plain)
      ∙ length-plain (laid_of plainly pins macros);
  file-is = λ e. ap (λ (v : Weights). file_bytes v pins macros) (weights-handed plain) ∙ plain-file pins macros e;
}
