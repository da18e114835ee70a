-- The first j blocks of the list are laid out.
use Rattle.std.proofs.Common.{◌≡◌, ◌*◌}
use Rattle.std.proofs.lemmas.List.Edits.{sets}
use Rattle.blocks.specs.Kind.{kind_word, kind_width}
use Rattle.blocks.specs.Sizes.{block_bytes}
use Rattle.blocks.specs.Words.{bytes_of}
use Rattle.encoded.specs.Layout.{list_blocks}
use Rattle.encoded.proofs.put_list.Given as goal

abbrev pub invariant-loop-j : goal.invariant-loop-j
invariant-loop-j l =
    l.bytes
    ≡ sets l.initial.bytes (l.first * block_bytes) (bytes_of (list_blocks (kind_word l.fn.kind) (kind_width l.fn.kind) l.first l.j l.numbers))
