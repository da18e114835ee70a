-- `slider::round::make` meets its contract: the edges after the move, then in order.
-- Assumes nothing.
use mathlib.Core.Path.{ap, ◌∙◌}
use native.Mathlib.Omega.{arith}
use borrow.Author.Rules.{rules}
use Rattle.slide.specs.Slide.{in_their_order}
use Rattle.settled.proofs.SettledLaws.{edges-in-order}
use Rattle.slider.proofs.round.make.Statement.{statement}
use Rattle.slider.proofs.round.make.Tie as tie

shift-bar-requires : tie.Need-shift_bar-count-requires
shift-bar-requires c κs = let s = c in (s.requires.0, (s.requires.1.0, omega (arith, s.requires.0)))

returns : tie.Need-returns
returns c = edges-in-order c.sort_edges.ensures ∙ ap in_their_order c.shift_bar-count.ensures.0

pub make_spec : {M : Type 1} → statement M
make_spec =
    tie.close
    (tie.spec
    (λ c. search rules) shift-bar-requires (λ c. search rules) (λ c κs. search rules) (λ c. search rules)
    returns)
