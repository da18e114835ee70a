-- `blocks::coordinate_of` meets its contract: the coordinate of a word is what the machine reads from its bits.
-- Assumes nothing.
use Rattle.std.proofs.Common.{sym, ◌∙◌, w32, rules}
use mir.ValLaws.{to_z-of_z}
use Rattle.blocks.proofs.WordLaws.{coordinate-is}
use Rattle.blocks.proofs.coordinate_of.Goals as goal

pub returns : goal.returns
returns c = to_z-of_z w32 _ (search rules) ∙ c.cast_signed.ensures ∙ sym (coordinate-is c.args.w)
