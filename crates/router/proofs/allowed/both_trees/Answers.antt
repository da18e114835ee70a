-- `router::allowed::both_trees` meets its contract: where there is room, the edges given are those of the net's refined tree, with both
-- totals.
-- Assumes nothing.
use Rattle.std.proofs.Common.{◌≡◌, ◌∙◌, ℕ, ◌≤◌, ◌<◌, ◌^◌, ℤ, pos, refl, sym, ap, ap₂, arith, length, to_z, w64}
use borrow.Author.Tests.{ltb-true, ltb-false}
use mir.ValLaws.{to_z_pos}
use Rattle.lent.specs.Told.{given}
use Rattle.net.specs.Answer.{number, told_by}
use Rattle.net.specs.Pins.{pin_count}
use Rattle.net.specs.Net.{net_of, handed}
use Rattle.net.specs.Allowed.{Allowed}
use Rattle.room.specs.Needs.{edge_need}
use Rattle.terminal.proofs.PathLaws.{total-small}
use Rattle.made.proofs.CountedLaws.{counts-few}
use Rattle.answers.specs.Graph.{point_count}
use Rattle.answers.specs.Terminal.{paths_total}
use Rattle.answers.specs.Refined.{laid_total, metal_of}
use Rattle.answers.specs.Both.{both_answer, both_given}
use Rattle.answers.proofs.AnswerLaws.{room-short, room-enough}
use Rattle.results.proofs.RefinedLaws.{total-low, metal-low}
use Rattle.router.proofs.RoomLaws.{edges-ask}
use Rattle.router.proofs.CallLaws.{gives-refused, gives-given}
use Rattle.router.proofs.allowed.both_trees.Goals as goal

pub edges_short-requires : goal.edges_short-requires
edges_short-requires c = let few = counts-few c.requires in record { pins_le_pin_bound = few.0; macros_le_macro_bound = few.1 }

pub returns-then-edges_short : goal.returns-then-edges_short
unfolding both_given told_by number
returns-then-edges_short c =
    let a = c.args in
    let short = c.edges_short.ensures ∙ edges-ask c.requires _ in
    gives-refused refl
    (room-short (edge_need (point_count a.pins.now a.macros.now) (pin_count a.pins.now)) (length a.edges.now) _
    (ltb-true _ _ (sym short ∙ c.if-edges_short.true)))

pub edges-laid-requires : goal.edges-laid-requires
edges-laid-requires c =
    let short = c.edges_short.ensures ∙ edges-ask c.requires _ in
    record { counted = c.requires; pins_in_bounds = ltb-false _ _ (sym short ∙ c.if-edges_short.false) }

pub overflow_cast-tree : goal.overflow_cast-tree
overflow_cast-tree c = record { sfits = omega (arith, c.edges-laid.ensures.total_value, total-low c.requires.allowed) }

pub overflow_cast-tree-2 : goal.overflow_cast-tree-2
overflow_cast-tree-2 c =
    record {
      sfits = omega (arith, c.edges-laid.ensures.metal_value, metal-low c.requires.allowed, total-low c.requires.allowed);
    }

pub overflow_cast-result : goal.overflow_cast-result
unfolding paths_total
overflow_cast-result c = record { sfits = omega (arith, c.edges-laid.ensures.terminal_value, total-small c.requires.allowed) }

pub returns : goal.returns
unfolding both_given told_by paths_total
returns c =
    let a = c.args in
    let w = handed a.net.weights in
    let allowed : Allowed (net_of w a.pins.now a.macros.now) = c.requires.allowed in
    let r = c.edges-laid.result in
    let is = c.edges-laid.ensures in
    let short = c.edges_short.ensures ∙ edges-ask c.requires _ in
    -- both totals and the metal fit
    let total-fits : r.total < 2 ^ 63 = omega (arith, is.total_value, total-low allowed) in
    let metal-fits : r.metal < 2 ^ 63 = omega (arith, is.metal_value, metal-low allowed, total-low allowed) in
    let terminal-fits : r.terminal < 2 ^ 63 = omega (arith, is.terminal_value, total-small allowed) in
    let given_is : ℕ × (ℤ × (ℤ × ℤ)) = both_answer w a.pins.now a.macros.now in
    let sum : to_z w64 r.total ≡ pos (laid_total w a.pins.now a.macros.now) = to_z_pos w64 r.total total-fits ∙ ap pos is.total_value in
    let laid : to_z w64 r.metal ≡ pos (metal_of w a.pins.now a.macros.now) = to_z_pos w64 r.metal metal-fits ∙ ap pos is.metal_value in
    let paths : to_z w64 r.terminal ≡ pos (paths_total w a.pins.now a.macros.now) =
    to_z_pos w64 r.terminal terminal-fits ∙ ap pos is.terminal_value in
    gives-given
    (ap₂ (λ (n : ℕ) (z : ℤ × (ℤ × ℤ)). given (n, z)) is.edges_value
    (ap₂ (λ (p : ℤ) (z : ℤ × ℤ). (p, z)) paths (ap₂ (λ (t u : ℤ). (t, u)) sum laid)))
    (room-enough {A = ℕ × (ℤ × (ℤ × ℤ))} (edge_need (point_count a.pins.now a.macros.now) (pin_count a.pins.now)) (length a.edges.now)
    given_is (ltb-false _ _ (sym short ∙ c.if-edges_short.false)))
    is.edges_after
