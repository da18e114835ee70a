-- `router::allowed::best_tree` meets its contract: 41 above the size of a best tree, then 21, and where there is room a best tree.
-- Assumes nothing.
use Rattle.std.proofs.Common.{◌≡◌, ◌∙◌, ℕ, ℤ, List, [], Bool, false, ◌||◌, ◌+◌, ◌*◌, ◌^◌, ◌≤◌, ◌<◌, refl, sym, ap, ap₂, arith, length, ltb, w64}
use mathlib.Core.Path.{subst}
use mir.ValLaws.{to_z_pos}
use native.Mathlib.Nat.{mul-le-mul}
use borrow.Author.Tests.{ltb-false}
use Rattle.lists.proofs.TestLaws.{or-none}
use Rattle.lent.specs.Told.{given}
use Rattle.net.specs.declared.Net.{Net as Counts}
use Rattle.net.specs.declared.Weighing.{Weighing}
use Rattle.net.specs.Answer.{number, told_by}
use Rattle.net.specs.Pins.{pin_count, macro_count}
use Rattle.net.specs.Net.{Net, handed, net_of, net_with}
use Rattle.lines.specs.Bounds.{grid_macros}
use Rattle.parts.specs.Bounds.{best_pins, work_bound}
use Rattle.best.specs.Tree.{BestOver}
use Rattle.answers.specs.Best.{above_best, best_numbers}
use Rattle.answers.proofs.BestLaws.{best-above, best-short, best-enough, best-room, above-best}
use Rattle.made.specs.Counted.{Counted}
use Rattle.made.proofs.CountedLaws.{as-net, as-allowed, as-pins, counts-few}
use Rattle.router.proofs.BestLaws.{best-low, best-metal-low}
use Rattle.router.proofs.CallLaws.{best-refused, best-given}
use Rattle.router.proofs.allowed.best_tree.Goals as goal

-- m and k, as the check has counted them
module _ {net : Counts} {w : Weighing} {pins macros : List ℤ} (counted : Counted net w pins macros) where
  macros-are : net.macros ≡ macro_count macros
  macros-are = ap (λ (k : Counts). k.macros) counted.counts

  lines_are : net.pins + net.macros * 2 ≡ pin_count pins + macro_count macros * 2
  lines_are = ap₂ (λ (m k : ℕ). m + k * 2) (as-pins counted) macros-are

  lines-few : net.pins + net.macros * 2 ≤ 384
  lines-few = omega (arith, counts-few counted)

  size : {t : Bool} → (ltb best_pins net.pins || ltb grid_macros net.macros) ≡ t → above_best pins macros ≡ t
  size e = sym (above-best pins macros _ _ (as-pins counted) macros-are) ∙ e

  size_few : (ltb best_pins net.pins || ltb grid_macros net.macros) ≡ false
      → (pin_count pins ≤ best_pins) × (macro_count macros ≤ grid_macros)
  size_few e =
      let r = or-none (ltb best_pins net.pins) (ltb grid_macros net.macros) e in (
        omega (arith, ltb-false best_pins net.pins r.0, as-pins counted),
        omega (arith, ltb-false grid_macros net.macros r.1, macros-are),
      )

  -- the room by these numbers
  room : (work edges : ℕ) {t : Bool}
      → (ltb work work_bound || ltb edges ((net.pins + net.macros * 2) * (net.pins + net.macros * 2) * 4)) ≡ t
      → (ltb work work_bound || ltb edges (best_numbers pins macros)) ≡ t
  room work edges {t} e = subst (λ (n : ℕ). (ltb work work_bound || ltb edges (n * n * 4)) ≡ t) lines_are e

  -- what was given, of the net as it was handed over
  over : {lent lent' : List ℤ} {n total metal : ℕ} → BestOver (net_with net.weights pins macros) lent lent' n total metal
      → BestOver (net_of w pins macros) lent lent' n total metal
  over {lent} {lent'} {n} {total} {metal} o = subst (λ (z : Net). BestOver z lent lent' n total metal) (as-net counted) o

pub returns-then-net : goal.returns-then-net
unfolding told_by number
returns-then-net c =
    let a = c.args in
    best-refused refl
    (best-above (handed a.net.weights) a.pins.now a.macros.now (length a.work.now) (length a.edges.now) []
    (size c.requires c.if-net.true))

pub overflow_mul-lines : goal.overflow_mul-lines
overflow_mul-lines c = omega (arith, lines-few c.requires)

pub overflow_add-lines : goal.overflow_add-lines
overflow_add-lines c = omega (arith, lines-few c.requires)

pub overflow_mul-n : goal.overflow_mul-n
overflow_mul-n c =
    let few = lines-few c.requires in
    let l = mul-le-mul few few in
    omega (arith, l)

pub overflow_mul-n-2 : goal.overflow_mul-n-2
overflow_mul-n-2 c =
    let few = lines-few c.requires in
    let l = mul-le-mul few few in
    omega (arith, l)

pub returns-then-work-edges : goal.returns-then-work-edges
unfolding told_by number
returns-then-work-edges c =
    let a = c.args in
    best-refused refl
    (best-short (handed a.net.weights) a.pins.now a.macros.now (length a.work.now) (length a.edges.now) []
    (size c.requires c.if-net.false) (room c.requires (length a.work.now) (length a.edges.now) c.if-work-edges.true))

pub best_tree-best-requires : goal.best_tree-best-requires
best_tree-best-requires c =
    let a = c.args in
    record {
      allowed = as-allowed c.requires;
      pins_bound = size_few c.requires c.if-net.false;
      work_bound_in_bounds =
          best-room a.pins.now a.macros.now (length a.work.now) (length a.edges.now) (room c.requires (length a.work.now) (length a.edges.now) c.if-work-edges.false);
    }

pub overflow_cast-result : goal.overflow_cast-result
overflow_cast-result c =
    let o = over c.requires c.best_tree-best.ensures.best_over in
    record { sfits = omega (arith, o.cost, best-low c.requires.allowed o.tree o.is-best.best) }

pub overflow_cast-result-2 : goal.overflow_cast-result-2
overflow_cast-result-2 c =
    let o = over c.requires c.best_tree-best.ensures.best_over in
    record { sfits = omega (arith, o.plain, best-metal-low c.requires.allowed o.tree o.is-best.best) }

pub returns : goal.returns
unfolding told_by
returns c =
    let a = c.args in
    let r = c.best_tree-best.result in
    let o = over c.requires c.best_tree-best.ensures.best_over in
    let total-fits : r.total < 2 ^ 63 = omega (arith, o.cost, best-low c.requires.allowed o.tree o.is-best.best) in
    let metal-fits : r.metal < 2 ^ 63 = omega (arith, o.plain, best-metal-low c.requires.allowed o.tree o.is-best.best) in
    best-given o
    (ap₂ (λ (x y : ℤ). given (r.edges, (x, y))) (to_z_pos w64 r.total total-fits) (to_z_pos w64 r.metal metal-fits))
    (best-enough (handed a.net.weights) a.pins.now a.macros.now (length a.work.now) (length a.edges.now) o.tree
    (size c.requires c.if-net.false) (room c.requires (length a.work.now) (length a.edges.now) c.if-work-edges.false))
    c.best_tree-best.ensures.work_after
