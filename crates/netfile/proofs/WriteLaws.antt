-- The answer of a write by its cases: what the check refuses, too little room, and room enough; and that every allowed net fits into the
-- longest file.
-- Assumes nothing.
use mathlib.Core.Path.{◌≡◌, refl, ap}
use mathlib.Core.List.{List}
use Prim.Native.Nat.{ℕ, ◌≤◌, ◌<◌}
use native.Mathlib.Omega.{arith}
use borrow.Author.Tests.{lt-ltb, le-ltb}
use lib.IntN.{ℤ}
use lib.ListN.{length}
use Rattle.lent.specs.Told.{Told, refused, given, only_if}
use Rattle.net.specs.declared.Weighing.{Weighing}
use Rattle.net.specs.declared.Net.{Net as Counts}
use Rattle.net.specs.Net.{weights_of}
use Rattle.net.proofs.PinLaws.{pin-numbers}
use Rattle.net.proofs.CountLaws.{PinsCounted, MacrosCounted, pins-counted, macros-counted}
use Rattle.checks.specs.Check.{checked}
use Rattle.checks.proofs.PassedLaws.{passed-all}
use Rattle.blocks.specs.Sizes.{block_count, file_blocks}
use Rattle.encoded.specs.Layout.{stored, file_bytes}
use Rattle.netfile.specs.Write.{fitted, written, written_within}
use Rattle.blocks.proofs.SizeLaws.{lists-in-file}
use Rattle.encoded.proofs.StoredLaws.{stored-few}

pub fitted_short : (needed room : ℕ) → room < needed → fitted needed room ≡ refused 21
unfolding fitted
fitted_short needed room h = rw (lt-ltb room needed h) refl

pub fitted-given : (needed room : ℕ) → needed ≤ room → fitted needed room ≡ given needed
unfolding fitted
fitted-given needed room h = rw (le-ltb room needed h) refl

module _ (w : Weighing) (pins macros : List ℤ) (room : ℕ) where
  pub written-refused : (n : ℕ) → checked w pins macros ≡ refused n → written w pins macros room ≡ refused n
  unfolding written_within only_if
  written-refused n e = ap (λ (t : Told Counts). only_if t (fitted (length (file_bytes (weights_of w) pins macros)) room)) e

  pub written-allowed : (net : Counts) → checked w pins macros ≡ given net → written w pins macros room
      ≡ fitted (length (file_bytes (weights_of w) pins macros)) room
  unfolding written_within only_if
  written-allowed net e = ap (λ (t : Told Counts). only_if t (fitted (length (file_bytes (weights_of w) pins macros)) room)) e

-- lists that passed the check, by their lengths
module _ (w : Weighing) (pins macros : List ℤ) (net : Counts) (allowed : checked w pins macros ≡ given net) where
  pub pins-ok : PinsCounted pins
  pins-ok = pins-counted pins (passed-all w pins macros net allowed).past.past.past.past.past.past.past.past.passed

  pub macros-ok : MacrosCounted macros
  macros-ok = macros-counted macros (passed-all w pins macros net allowed).past.past.past.past.past.past.past.passed

  -- F16: no allowed net takes more blocks than the longest file has
  pub allowed-blocks : block_count (length (stored pins).numbers) (length macros) ≤ file_blocks
  allowed-blocks =
      lists-in-file (length (stored pins).numbers) (length macros)
      (omega (arith, stored-few pins, pin-numbers pins pins-ok.whole, pins-ok.few))
      (omega (arith, macros-ok.whole, macros-ok.few))
