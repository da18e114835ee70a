-- The file as it was before there were loads, and as the first release laid it out, which knew no weights either: what a file with loads of
-- 0, and one with weights of 1 too, is held to. Its pins are a flat list of places, two numbers each.
use Rattle.std.specs.Prelude.{List, [], ◌∷◌, ◌++◌, ℕ, ◌+◌, ◌/◌, ℤ, length}
use Rattle.plane.specs.declared.Weights.{Weights}
use Rattle.net.specs.Bounds.{macro_width}
use Rattle.net.specs.Pins.{macro_count}
use Rattle.blocks.specs.Sizes.{head_kind, pin_kind, macro_kind, place_width, blocks_for}
use Rattle.blocks.specs.Words.{bytes_of}
use Rattle.blocks.specs.Block.{block}
use Rattle.encoded.specs.Layout.{all_blocks, laid_bytes}

-- F25: without loads, with any weights
abbrev pub unloaded_file : Weights → List ℤ → List ℤ → List ℕ
unloaded_file w places macros = laid_bytes w (record { kind = pin_kind; width = place_width; numbers = places }) macros

-- F9: m and k, and zeros behind them
abbrev pub first_head : ℕ → ℕ → List ℕ
first_head m k = block head_kind 0 0 (m ∷ (k ∷ []))

abbrev pub first_file : List ℤ → List ℤ → List ℕ
first_file places macros =
    bytes_of (first_head (length places / place_width) (macro_count macros)
    ++ (all_blocks pin_kind place_width 1 places ++ all_blocks macro_kind macro_width (1 + blocks_for (length places)) macros))
