-- E15: the net of E4, from the bytes of its file to the four lines that `route` prints, by computing the definitions.
-- Assumes nothing.
use mathlib.Core.Path.{◌≡◌, refl}
use mathlib.Core.List.{List, [], ◌∷◌, ◌++◌}
use Prim.Native.Nat.{ℕ}
use lib.ListN.{replicate}
use Rattle.plane.specs.Cost.{plain}
use Rattle.net.specs.WorkedNets.{three_pins}
use Rattle.encoded.specs.Layout.{file_bytes}
use Rattle.netfile.proofs.WorkedFiles.{words, read_words}
use Rattle.answers.proofs.Answered.{trees_by}
use Rattle.report.specs.Route.{trees_text, answer_text, route_text}
use Rattle.text.proofs.WorkedTexts.{three_lines, shown, shown_refused}

-- what is printed for a file; to unfold this is to unfold all that it rests on
unfoldable pub printed : List ℕ → List ℕ
unfolding words read_words trees_by shown shown_refused trees_text answer_text route_text
printed file = route_text file

-- The bytes of examples/files/three-pins.net

-- a word below 65,536, low byte first
abbrev word : ℕ → ℕ → List ℕ
word low high = low ∷ (high ∷ (0 ∷ (0 ∷ [])))

abbrev zeros : ℕ → List ℕ
zeros n = replicate n 0

-- bytes 0 to 511, the head: kind 1, number 0, no entries; 3 pins, 0 macros; and the sums 4 and 492
abbrev pub head_bytes : List ℕ
head_bytes = word 1 0 ++ zeros 12 ++ word 3 0 ++ zeros 484 ++ word 4 0 ++ word 236 1

-- bytes 512 to 1,023, the pins: kind 2, number 1, 3 entries; (0, 0), (4, 0), (2, 3); and the sums 15 and 1816
abbrev pub pin_bytes : List ℕ
pin_bytes =
    word 2 0 ++ word 1 0 ++ word 3 0 ++ zeros 4
    ++ zeros 8 ++ word 4 0 ++ zeros 4 ++ word 2 0 ++ word 3 0
    ++ zeros 464 ++ word 15 0 ++ word 24 7

pub record ThirdNet : Type 0 where
  -- the file's bytes are those that the layout makes of the net
  pub file : file_bytes plain three_pins.pins three_pins.macros ≡ head_bytes ++ pin_bytes
  -- and this is printed for them
  pub text : route_text (head_bytes ++ pin_bytes) ≡ three_lines
  pub routed : route_text (file_bytes plain three_pins.pins three_pins.macros) ≡ three_lines

pub third-net : ThirdNet
unfolding printed
third-net = record { file = refl; text = refl; routed = refl }
