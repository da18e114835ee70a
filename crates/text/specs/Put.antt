-- Text put into a buffer piece by piece.
use Rattle.std.specs.Prelude.{◌≡◌, List, ℕ, ◌+◌, length, take}
use Rattle.std.proofs.lemmas.List.Edits.{sets}
use Rattle.lent.specs.Over.{over}
use Rattle.text.specs.declared.Page.{Page}

-- `piece` put into a buffer from the byte `at` on: what the buffer then holds, and which byte is next
pub record Put (buffer : List ℕ) (at : ℕ) (piece : List ℕ) (later : List ℕ) (next : ℕ) : Type 0 where
  pub holds : later ≡ sets buffer at piece
  pub moves : next ≡ at + length piece

-- a piece put on a page, from its next byte on: it is the same buffer
pub record Wrote (before : Page) (piece : List ℕ) (after : Page) : Type 0 where
  pub put : Put before.out.now before.at piece after.out.now after.at
  pub long : length after.out.now ≡ length before.out.now
  pub same : after.out.ghost_name ≡ before.out.ghost_name

-- a whole text put at the front of a buffer: its bytes are the text, and the others are as they were
pub record Filled (text buffer later : List ℕ) (count : ℕ) : Type 0 where
  pub begins : take count later ≡ text
  pub holds : later ≡ over text buffer
  pub long : count ≡ length text
