-- The words passed are laid out from the block's first byte on.
use Rattle.std.proofs.Common.{◌≡◌, ◌*◌, take}
use Rattle.std.proofs.lemmas.List.Edits.{sets}
use Rattle.blocks.specs.Sizes.{block_bytes}
use Rattle.blocks.specs.Words.{bytes_of}
use Rattle.blocks.proofs.put_block.Given as goal

abbrev pub invariant-loop-i : goal.invariant-loop-i
invariant-loop-i l = l.bytes ≡ sets l.initial.bytes (l.number * block_bytes) (bytes_of (take l.i l.fn.block))
