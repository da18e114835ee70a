-- What the program `route` prints for a file: rules P1 to P5.
use Rattle.std.specs.Prelude.{List, ℕ, ℤ, pos}
use Rattle.lent.specs.Told.{Told, refused, given}
use Rattle.net.specs.declared.Net.{Net as Counts}
use Rattle.net.specs.Net.{handed}
use Rattle.blocks.specs.Sizes.{pin_list_bound, macro_list_bound}
use Rattle.decoded.specs.Held.{pins_in, macros_in}
use Rattle.netfile.specs.Read.{read_file}
use Rattle.answers.specs.Terminal.{paths_total}
use Rattle.answers.specs.Refined.{laid_of, laid_total, metal_of}
use Rattle.text.specs.declared.Header.{Header}
use Rattle.text.specs.Text.{tree_text, refused_text}

-- P2: what the header says of the trees of two flat lists, of which the check has counted `net`; `terminal` is the terminal tree's total
abbrev pub header_of : Counts → ℤ → List ℤ → List ℤ → Header
header_of net terminal pins macros = record {
  pins = net.pins;
  macros = net.macros;
  terminal = terminal;
  refined = pos (laid_total (handed net.weights) pins macros);
  metal = pos (metal_of (handed net.weights) pins macros);
}

-- the text of these trees
unfoldable pub trees_text : Counts → List ℤ → List ℤ → List ℕ
trees_text net pins macros =
    tree_text net.weights (header_of net (pos (paths_total (handed net.weights) pins macros)) pins macros)
    (laid_of (handed net.weights) pins macros)

-- P4: the text by the answer of a read that takes these lists, one line where it is refused
unfoldable pub answer_text : Told Counts → List ℤ → List ℤ → List ℕ
answer_text (refused n) pins macros = refused_text (pos n)
answer_text (given net) pins macros = trees_text net pins macros

-- P1: the text for the bytes of a file, read as a net file
unfoldable pub route_text : List ℕ → List ℕ
route_text file = answer_text (read_file file pin_list_bound macro_list_bound) (pins_in file) (macros_in file)
