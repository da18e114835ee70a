-- What each round of a slid tree keeps and saves: rules M11 and M15.
use Rattle.std.specs.Prelude.{◌≡◌, ◌⊎◌, List, ℕ, zero, suc, ◌+◌}
use Rattle.std.proofs.Common.{inl, inr}
use Rattle.joined.specs.OneTree.{OneTree}
use Rattle.joined.specs.Cost.{lengths}
use Rattle.net.specs.Net.{Net, cost_in}
use Rattle.slide.specs.Bend.{Edge}
use Rattle.slide.specs.Promise.{Clear, Straight}
use Rattle.slid_rules.specs.Round.{Slides, Rounds}

-- M11, M15: the cost falls by what the move saves, distance times surplus times weight (`Moves`), and U is still one
-- tree that holds all pins, of straight edges that keep out of the interiors
pub record Saves (net : Net) (T U : List Edge) (r : Slides net T U) : Type 0 where
  pub falls : lengths (cost_in net) U + r.move.saving ≡ lengths (cost_in net) T
  pub one : OneTree net.pins U
  pub free : Clear net.macros U
  pub lines : Straight U

-- and so in each of the rounds
abbrev pub SavesThrough : (net : Net) (n : ℕ) (T S : List Edge) → Rounds net n T S → Type 0
SavesThrough net zero T S r = Unit {0}
SavesThrough net (suc n) T S (inl stays) = Unit {0}
SavesThrough net (suc n) T S (inr (U, (r, rest))) = Saves net T U r × SavesThrough net n U S rest
