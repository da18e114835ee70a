-- `blocks::seal` meets its contract: its two stores are the last two words.
-- Assumes nothing.
use Rattle.std.proofs.Common.{ℕ, [], ◌∷◌, ◌++◌, take, ◌∙◌, ap₂}
use Rattle.blocks.specs.Sizes.{summed_words}
use Rattle.blocks.specs.Sums.{sealed}
use Rattle.blocks.proofs.BlockLaws.{last-two}
use Rattle.blocks.proofs.seal.Goals as goal

pub returns : goal.returns
unfolding sealed
returns c =
    let ws = c.args.block in
    last-two ws _ _ c.requires
    ∙ ap₂ (λ (a b : ℕ). take summed_words ws ++ (a ∷ (b ∷ []))) c.sums_of-s.ensures.0 c.sums_of-s.ensures.1
