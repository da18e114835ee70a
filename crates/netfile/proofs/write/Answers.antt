-- `netfile::write` meets its contract: what the check refuses is refused, and a checked net is written, with the weights that it was given.
-- Assumes nothing.
use Rattle.std.proofs.Common.{◌≡◌, ◌∙◌, sym, ap, ap₂, ℕ, length}
use Rattle.lent.specs.Told.{Told, given}
use Rattle.lent.specs.Over.{after}
use Rattle.plane.specs.declared.Weights.{Weights}
use Rattle.net.specs.declared.Net.{Net as Counts}
use Rattle.net.specs.Answer.{told_by}
use Rattle.net.specs.Net.{weights_of}
use Rattle.checks.specs.Check.{checked}
use Rattle.checks.proofs.GivenLaws.{given-counts}
use Rattle.encoded.specs.Layout.{file_bytes}
use Rattle.netfile.specs.Write.{fitted}
use Rattle.netfile.proofs.WriteLaws.{written-allowed, allowed-blocks}
use Rattle.netfile.proofs.write.Goals as goal

pub write_checked-requires : goal.write_checked-requires
unfolding told_by
write_checked-requires c = allowed-blocks c.args.w c.args.pins.now c.args.macros.now _ (sym c.in_ok-net.ensures)

pub returns : goal.returns
unfolding told_by
returns c =
    let a = c.args in
    let allowed : checked a.w a.pins.now a.macros.now ≡ given c.in_ok-net.net = sym c.in_ok-net.ensures in
    let found = ap (λ (n : Counts). n.weights) (given-counts _ _ _ allowed) in
    let e =
    ap (λ (w : Weights). fitted (length (file_bytes w a.pins.now a.macros.now)) (length a.bytes.now)) found
    ∙ sym (written-allowed a.w a.pins.now a.macros.now (length a.bytes.now) _ allowed) in
    record {
      answer = c.write_checked.ensures.answer ∙ e;
      lent =
          c.write_checked.ensures.lent
          ∙ ap₂ (λ (t : Told ℕ) (w : Weights). after t (file_bytes w a.pins.now a.macros.now) a.bytes.now) e found;
    }
