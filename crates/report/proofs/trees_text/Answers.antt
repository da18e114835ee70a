-- `report::trees_text` meets its contract: both trees of an allowed net are given, and the edges are read back
-- from the table that they were given in.
-- Assumes nothing.
use Rattle.std.proofs.Common.{◌≡◌, ◌∙◌, sym, ◌*◌, arith, length, replicate, pos, List, ℤ, Result, rules, w64}
use mir.ValLaws.{to_z-of_z}
use mathlib.Core.Path.{subst}
use Rattle.lent.specs.Told.{given}
use Rattle.lent.specs.Over.{over}
use Rattle.lent.specs.Entries.{flat}
use Rattle.lent.proofs.AfterLaws.{after-given, told-apart}
use Rattle.net.specs.declared.Net.{Net as Counts}
use Rattle.net.specs.declared.Refusal.{Refusal}
use Rattle.net.specs.declared.Weighing.{Weighing}
use Rattle.net.specs.Answer.{told_by}
use Rattle.net.specs.Bounds.{tree_bound}
use Rattle.net.specs.Net.{handed}
use Rattle.checks.specs.Check.{checked}
use Rattle.graph.specs.Numbers.{edge_numbers}
use Rattle.answers.specs.Refined.{laid_of}
use Rattle.answers.specs.Both.{both_answer, both_trees}
use Rattle.router.specs.declared.Both.{Both}
use Rattle.router.specs.Answers.{told_both}
use Rattle.router.specs.Call.{BothCall}
use Rattle.report.specs.Route.{trees_text}
use Rattle.text.proofs.PutLaws.{filled-as}
use Rattle.report.proofs.RouteLaws.{same-four, counted, both-given, edges_fit, edges-back, same_text}
use Rattle.report.proofs.trees_text.Goals as goal

-- the call, by the net's weights
module _ (net : Counts) (pins macros : List ℤ) (allowed : checked (handed net.weights) pins macros ≡ given net)
    {w : Weighing} (e : w ≡ handed net.weights) {r : Result Both Refusal} {edges : List ℤ}
    (g : BothCall both_trees w pins macros (replicate (tree_bound * 4) (pos 0)) r edges) where
  call : BothCall both_trees (handed net.weights) pins macros (replicate (tree_bound * 4) (pos 0)) r edges
  call = subst (λ (z : Weighing). BothCall both_trees z pins macros (replicate (tree_bound * 4) (pos 0)) r edges) e g

  -- the answer, and the table of edges
  answer : told_both r ≡ given (both_answer (handed net.weights) pins macros)
  answer = call.answer ∙ both-given _ _ _ (counted _ _ _ _ allowed)

  table : edges ≡ over (flat edge_numbers (laid_of (handed net.weights) pins macros)) (replicate (tree_bound * 4) (pos 0))
  table = call.list ∙ sym (after-given _ _ _ _ (both-given _ _ _ (counted _ _ _ _ allowed)))

pub tree-requires : goal.tree-requires
unfolding told_by
tree-requires c =
    let a = c.args in
    let is = same-four (answer a.net a.pins.now a.macros.now c.requires c.from.ensures c.in-Ok.ensures) in
    let f = edges_fit _ _ _ c.in-Ok.both.tree.edges (table a.net a.pins.now a.macros.now c.requires c.from.ensures c.in-Ok.ensures) is.0 in
    (omega (arith, f, c.both_trees.auto.edges), f)

pub returns-in-Ok : goal.returns-in-Ok
unfolding told_by trees_text
returns-in-Ok c =
    let a = c.args in
    let is = same-four (answer a.net a.pins.now a.macros.now c.requires c.from.ensures c.in-Ok.ensures) in
    let t = table a.net a.pins.now a.macros.now c.requires c.from.ensures c.in-Ok.ensures in
    filled-as
    (same_text a.net.weights a.net.pins a.net.macros (to_z-of_z w64 _ (search rules) ∙ is.1.0) (to_z-of_z w64 _ (search rules) ∙ is.1.1.0)
    (to_z-of_z w64 _ (search rules) ∙ is.1.1.1) (edges-back _ _ _ _ t is.0))
    c.tree.ensures

pub returns-in-Err : goal.returns-in-Err
unfolding told_by
returns-in-Err c =
    let a = c.args in
    told-apart _ _ (answer a.net a.pins.now a.macros.now c.requires c.from.ensures c.in-Err.ensures)
