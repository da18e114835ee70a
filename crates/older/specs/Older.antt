-- An older machine beside this one: rules F20 to F23. A machine is the check, the writer and the reader within its bounds; the older one
-- lacks [8] and nothing else that is said of files: it takes 64 pins and 64 macros. What each makes of the other's files stands here, for
-- every net and every file; ../proofs/OlderLaws.antt has the proof. Files from before there were loads [11]: ../proofs/FirstRelease.antt.
use Rattle.std.specs.Prelude.{◌≡◌, false, List, ℕ, ◌*◌, ◌≤◌, ◌<◌, ℤ, length}
use Rattle.lent.specs.Told.{Told, refused, given}
use Rattle.lent.specs.Over.{after}
use Rattle.net.specs.declared.Weighing.{Weighing}
use Rattle.net.specs.declared.Net.{Net as Counts}
use Rattle.net.specs.Bounds.{Bounds, today}
use Rattle.net.specs.Pins.{pin_count, macro_count}
use Rattle.net.specs.Net.{weights_of}
use Rattle.checks.specs.Check.{checked, checked_within}
use Rattle.blocks.specs.Sizes.{block_bytes, block_count, file_blocks_within}
use Rattle.encoded.specs.Layout.{stored, file_bytes}
use Rattle.netfile.specs.Write.{written_within}
use Rattle.netfile.specs.Read.{room_short_within, read_file_within, read_file}

-- the bounds of the release before
abbrev pub older : Bounds
older = record { pins = 64; macros = 64 }

-- the bytes of its longest file, 6 blocks
abbrev pub older_bytes : ℕ
older_bytes = file_blocks_within older * block_bytes

-- lists that its bounds allow
pub record Old (pins macros : List ℤ) : Type 0 where
  pub few-pins : pin_count pins ≤ older.pins
  pub few-macros : macro_count macros ≤ older.macros

-- what a writer leaves in lent bytes
abbrev pub left_by : Bounds → Weighing → List ℤ → List ℤ → List ℕ → List ℕ
left_by b w pins macros lent = after (written_within b w pins macros (length lent)) (file_bytes (weights_of w) pins macros) lent

-- a reader's answer for a file that is lent as much as it asks for
pub record Reads (b : Bounds) (bytes : List ℕ) (answer : Told Counts) : Type 0 where
  pub reads : (p q : ℕ) → room_short_within b p q ≡ false → read_file_within b bytes p q ≡ answer

-- what the older machine says to the file of a net that is allowed today
pub record OlderOf (w : Weighing) (pins macros : List ℤ) (net : Counts) : Type 0 where
  pub long : file_blocks_within older < block_count (length (stored pins).numbers) (length macros)
      → Reads older (file_bytes (weights_of w) pins macros) (refused 1)
  pub many-pins : block_count (length (stored pins).numbers) (length macros) ≤ file_blocks_within older → older.pins < pin_count pins
      → Reads older (file_bytes (weights_of w) pins macros) (refused 11)
  pub many-macros : block_count (length (stored pins).numbers) (length macros) ≤ file_blocks_within older → pin_count pins ≤ older.pins
      → older.macros < macro_count macros → Reads older (file_bytes (weights_of w) pins macros) (refused 12)
  pub old : Old pins macros → Reads older (file_bytes (weights_of w) pins macros) (given net)

pub record OldAndNew : Type 0 where
  -- lists that the older bounds allow are checked alike, refusals too, and both writers answer alike and leave the same bytes
  pub same_check : (w : Weighing) (pins macros : List ℤ) → Old pins macros → checked_within older w pins macros ≡ checked w pins macros
  pub same_answer : (w : Weighing) (pins macros : List ℤ) → Old pins macros → (room : ℕ)
      → written_within older w pins macros room ≡ written_within today w pins macros room
  pub same_bytes : (w : Weighing) (pins macros : List ℤ) → Old pins macros → (lent : List ℕ)
      → left_by older w pins macros lent ≡ left_by today w pins macros lent
  -- a net that was allowed has such lists
  pub allowed-old : (w : Weighing) (pins macros : List ℤ) (net : Counts) → checked_within older w pins macros ≡ given net → Old pins macros
  -- a file that was accepted reads as it did, given the space now asked for: its lists, `pins_in` and `macros_in`, have no bound in them;
  -- what was asked for before is too little for any file
  pub reads_before : (bytes : List ℕ) (p q : ℕ) (net : Counts) → read_file_within older bytes p q ≡ given net → Reads today bytes (given net)
  pub old-room : room_short_within older 192 256 ≡ false
  pub more_room : (bytes : List ℕ) → read_file bytes 192 256 ≡ refused 21
  -- every longer file is 1 to the older machine; of those accepted today in as many blocks, more pins are 11, and else more macros 12
  pub longer : (bytes : List ℕ) → older_bytes < length bytes → Reads older bytes (refused 1)
  pub more-pins : (bytes : List ℕ) (p q : ℕ) (net : Counts) → read_file bytes p q ≡ given net → length bytes ≤ older_bytes
      → older.pins < net.pins → Reads older bytes (refused 11)
  pub more-macros : (bytes : List ℕ) (p q : ℕ) (net : Counts) → read_file bytes p q ≡ given net → length bytes ≤ older_bytes
      → net.pins ≤ older.pins → older.macros < net.macros → Reads older bytes (refused 12)
  -- so for each file that today's writer makes
  pub written-today : (w : Weighing) (pins macros : List ℤ) (net : Counts) → checked w pins macros ≡ given net → OlderOf w pins macros net
