-- `router::allowed::terminal_tree` meets its contract: where there is room, the paths given are those of the net's terminal tree.
-- Assumes nothing.
use Rattle.std.proofs.Common.{◌≡◌, ◌∙◌, ℕ, ◌≤◌, ◌<◌, ◌^◌, ℤ, pos, refl, sym, ap, ap₂, arith, length, to_z, w64}
use borrow.Author.Tests.{ltb-true, ltb-false}
use mir.ValLaws.{to_z_pos}
use Rattle.lent.specs.Told.{given}
use Rattle.net.specs.Answer.{number, told_by}
use Rattle.net.specs.Pins.{pin_count}
use Rattle.net.specs.Net.{handed}
use Rattle.room.specs.Needs.{path_need}
use Rattle.terminal.proofs.PathLaws.{total-small}
use Rattle.made.proofs.CountedLaws.{counts-few}
use Rattle.answers.specs.Terminal.{paths_of, paths_total, terminal_given}
use Rattle.answers.proofs.AnswerLaws.{room-short, room-enough}
use Rattle.router.proofs.RoomLaws.{paths-ask}
use Rattle.router.proofs.CallLaws.{gives-refused, gives-given}
use Rattle.router.proofs.allowed.terminal_tree.Goals as goal

pub paths_short-requires : goal.paths_short-requires
paths_short-requires c = (counts-few c.requires).0

pub returns-then-paths_short : goal.returns-then-paths_short
unfolding terminal_given told_by number
returns-then-paths_short c =
    let a = c.args in
    let short = c.paths_short.ensures ∙ paths-ask c.requires _ in
    gives-refused refl
    (room-short (path_need (pin_count a.pins.now)) (length a.paths.now) _ (ltb-true _ _ (sym short ∙ c.if-paths_short.true)))

pub terminal_tree-tree-requires : goal.terminal_tree-tree-requires
terminal_tree-tree-requires c =
    let short = c.paths_short.ensures ∙ paths-ask c.requires _ in
    record { counted = c.requires; pins_in_bounds = ltb-false _ _ (sym short ∙ c.if-paths_short.false) }

pub overflow_cast-result : goal.overflow_cast-result
overflow_cast-result c =
    record { sfits = omega (arith, c.terminal_tree-tree.ensures.total_value, total-small c.requires.allowed) }

pub returns : goal.returns
unfolding terminal_given told_by paths_total paths_of
returns c =
    let a = c.args in
    let w = handed a.net.weights in
    let is = c.terminal_tree-tree.ensures in
    let short = c.paths_short.ensures ∙ paths-ask c.requires _ in
    let fits : c.terminal_tree-tree.result.total < 2 ^ 63 = omega (arith, is.total_value, total-small c.requires.allowed) in
    let given_is : ℕ × ℤ = (length (paths_of w a.pins.now a.macros.now), pos (paths_total w a.pins.now a.macros.now)) in
    gives-given
    (ap₂ (λ (n : ℕ) (z : ℤ). given (n, z)) is.kept_value
    (to_z_pos w64 c.terminal_tree-tree.result.total fits ∙ ap pos is.total_value))
    (room-enough {A = ℕ × ℤ} (path_need (pin_count a.pins.now)) (length a.paths.now) given_is
    (ltb-false _ _ (sym short ∙ c.if-paths_short.false)))
    is.paths_after
