-- The kinds of blocks of entries, as the code has them: the word that such a block begins with (F2, F24) and the numbers of an entry (F6).
use Rattle.std.specs.Prelude.{ℕ}
use Rattle.net.specs.Bounds.{pin_width, macro_width}
use Rattle.blocks.specs.declared.Kind.{Kind}
use Rattle.blocks.specs.declared.Kind.TheVariants.{Pins, Macros, Loaded}
use Rattle.blocks.specs.Sizes.{pin_kind, macro_kind, loaded_kind, place_width}

abbrev pub kind_word : Kind → ℕ
kind_word Pins = pin_kind
kind_word Macros = macro_kind
kind_word Loaded = loaded_kind

abbrev pub kind_width : Kind → ℕ
kind_width Pins = place_width
kind_width Macros = macro_width
kind_width Loaded = pin_width
