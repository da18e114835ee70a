-- `checks::any_out_of_range` meets its contract: a hit ends the scan, a miss leaves the rest, and at the end nothing is left.
-- Assumes nothing.
use Rattle.std.proofs.Common.{◌≡◌, ◌∙◌, sym, ap, arith, rules, drop-cons, get_or, ℕ, ◌<◌, ◌+◌, drop, length, add-one}
use mathlib.Core.Bool.{Bool}
use mathlib.Core.List.{List, ◌∷◌}
use mir.Syntax.{w32}
use mir.Val.{SFits, to_z, of_z}
use mir.ValLaws.{to_z-of_z}
use lib.ListN.{drop_of_length-le}
use lib.IntN.{ℤ, pos}
use Rattle.lists.proofs.AnyLaws.{any-hit, any-miss, any-end}
use Rattle.net.specs.Tests.{out_of_range}
use Rattle.checks.proofs.any_out_of_range.Goals as goal

-- the next number of a scan
next : (s : List ℤ) (i : ℕ) → i < length s → drop i s ≡ get_or s i (pos 0) ∷ drop (i + 1) s
next s i h = rw add-one (drop-cons s i (pos 0) h)

-- what the call says of a number of 32 bits
told : (s : List ℤ) (i : ℕ) (t : Bool) → SFits w32 (get_or s i (pos 0)) → t ≡ out_of_range (to_z w32 (of_z w32 (get_or s i (pos 0)))) → t ≡ out_of_range (get_or s i (pos 0))
told s i t f e = e ∙ ap out_of_range (to_z-of_z w32 _ f)

pub returns-then-is_out_of_range : goal.returns-then-is_out_of_range
returns-then-is_out_of_range c =
    sym
    (c.loop-z.invariant
    ∙ any-hit out_of_range _ _ _ (next c.args.numbers.now c.loop-z.z-index (omega arith))
    (sym (told c.args.numbers.now _ _ (search rules) c.is_out_of_range.ensures) ∙ c.if-is_out_of_range.true))

pub loop-z-preserved : goal.loop-z-preserved
loop-z-preserved c =
    c.loop-z.invariant
    ∙ any-miss out_of_range _ _ _ (next c.args.numbers.now c.loop-z.z-index (omega arith))
    (sym (told c.args.numbers.now _ _ (search rules) c.is_out_of_range.ensures) ∙ c.if-is_out_of_range.false)

pub returns : goal.returns
returns c = sym (c.loop-z.invariant ∙ any-end out_of_range _ (drop_of_length-le c.args.numbers.now (omega arith)))
