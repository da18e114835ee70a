-- The price: an allowed net's is what the bands say of its metal; a charge is never by a refused net; and B6 of the published answers.
-- Assumes nothing.
use mathlib.Core.Path.{◌≡◌}
use mathlib.Core.List.{List}
use Prim.Native.Nat.{ℕ}
use lib.IntN.{ℤ}
use Rattle.lent.specs.Told.{Told, refused, given, only_if}
use Rattle.lent.proofs.AfterLaws.{told-apart}
use Rattle.net.specs.declared.Net.{Net as Counts}
use Rattle.net.specs.declared.Weighing.{Weighing}
use Rattle.checks.specs.Check.{checked}
use Rattle.price.specs.Price.{priced}
use Rattle.price.proofs.LongerLaws as longer
use Rattle.answers.specs.Refined.{metal_of}
use Rattle.answers.specs.Price.{net_price}
use Rattle.answers.proofs.AnswerLaws.{only-given}
use Rattle.router.specs.Price.{NeverLess}

-- an answer that is given is the next one's
given-past : {A B : Type 0} (t : Told A) (next : Told B) (b : B) → only_if t next ≡ given b → next ≡ given b
unfolding only_if
given-past (refused n) next b e = told-apart n b e
given-past (given a) next b e = e

module _ (w : Weighing) (pins macros : List ℤ) where
  -- D1b: an allowed net gets what the bands say of its metal
  pub price-allowed : {net : Counts} (bands : List ℕ) → checked w pins macros ≡ given net
      → net_price w pins macros bands ≡ priced (metal_of w pins macros) bands
  unfolding net_price
  price-allowed {net} bands g = only-given (checked w pins macros) (priced (metal_of w pins macros) bands) net g

  -- a charge is what the bands say
  pub charged-by : (bands : List ℕ) (h : ℕ) → net_price w pins macros bands ≡ given h → priced (metal_of w pins macros) bands ≡ given h
  unfolding net_price
  charged-by bands h e = given-past (checked w pins macros) (priced (metal_of w pins macros) bands) h e

-- B6: by every list, with no premise
pub never_less : (bands : List ℕ) → NeverLess bands
never_less bands w w' pins macros pins' macros' h h' more e f =
    longer.longer-never-less more bands (charged-by w pins macros bands h e) (charged-by w' pins' macros' bands h' f)
