-- `report::route` meets its contract: the lists of an accepted file are an allowed net, and stand at the front of
-- the tables that they were read into.
-- Assumes nothing.
use Rattle.std.proofs.Common.{◌≡◌, ◌∙◌, sym, ap, ap₂, ◌*◌, arith, length, take, List, ℤ, ℕ, rules, w32}
use mir.ValLaws.{to_z-of_z}
use Rattle.lent.specs.Told.{given}
use Rattle.lent.specs.Over.{after}
use Rattle.lent.proofs.AfterLaws.{after-given}
use Rattle.net.specs.declared.Net.{Net as Counts}
use Rattle.net.specs.Answer.{told_by}
use Rattle.net.specs.Bounds.{pin_width, macro_width}
use Rattle.net.specs.Net.{handed}
use Rattle.blocks.specs.Sizes.{pin_list_bound, macro_list_bound}
use Rattle.decoded.specs.Held.{pins_in, macros_in}
use Rattle.netfile.specs.Read.{read_file}
use Rattle.text.specs.Text.{refused_text}
use Rattle.report.specs.Route.{trees_text}
use Rattle.text.proofs.PutLaws.{filled-as}
use Rattle.report.proofs.RouteLaws.{Counted, counted, lists, net-is, front, route-given, route-refused}
use Rattle.report.proofs.route.Goals as goal

-- the lists of an accepted file, by the net that was read
module _ (file : List ℕ) (net : Counts) (read : read_file file pin_list_bound macro_list_bound ≡ given net) where
  whole : Counted (handed net.weights) (pins_in file) (macros_in file)
  whole = counted _ _ _ _ (lists file net read)

  pin-numbers : net.pins * pin_width ≡ length (pins_in file)
  pin-numbers = omega (arith, ap (λ (v : Counts). v.pins) (net-is file net read), whole.pin-numbers)

  macro-numbers : net.macros * macro_width ≡ length (macros_in file)
  macro-numbers = omega (arith, ap (λ (v : Counts). v.macros) (net-is file net read), whole.macro-numbers)

  pin-list : (lent : List ℤ) {table : List ℤ} → table ≡ after (read_file file pin_list_bound macro_list_bound) (pins_in file) lent
      → take (net.pins * pin_width) table ≡ pins_in file
  pin-list lent t = front _ _ _ _ (t ∙ sym (after-given _ _ _ _ read)) pin-numbers

  macro-list : (lent : List ℤ) {table : List ℤ} → table ≡ after (read_file file pin_list_bound macro_list_bound) (macros_in file) lent
      → take (net.macros * macro_width) table ≡ macros_in file
  macro-list lent t = front _ _ _ _ (t ∙ sym (after-given _ _ _ _ read)) macro-numbers

pub overflow_mul-m : goal.overflow_mul-m
unfolding told_by
overflow_mul-m c =
    let w = whole c.args.file.now _ (sym c.in-Ok.ensures.answer) in
    omega (arith, pin-numbers c.args.file.now _ (sym c.in-Ok.ensures.answer), w.pin-numbers, w.few-pins)

pub overflow_mul-k : goal.overflow_mul-k
unfolding told_by
overflow_mul-k c =
    let w = whole c.args.file.now _ (sym c.in-Ok.ensures.answer) in
    omega (arith, macro-numbers c.args.file.now _ (sym c.in-Ok.ensures.answer), w.macro-numbers, w.few-macros)

pub slice_bounds-pins-end : goal.slice_bounds-pins-end
unfolding told_by
slice_bounds-pins-end c =
    let w = whole c.args.file.now _ (sym c.in-Ok.ensures.answer) in
    omega (arith, pin-numbers c.args.file.now _ (sym c.in-Ok.ensures.answer), w.pin-numbers, w.few-pins, c.read_file.auto.pins)

pub slice_bounds-trees_text-end : goal.slice_bounds-trees_text-end
unfolding told_by
slice_bounds-trees_text-end c =
    let read = sym c.in-Ok.ensures.answer in
    pin-numbers c.args.file.now _ read ∙ sym (ap length (pin-list c.args.file.now _ read _ c.in-Ok.ensures.first))

pub slice_bounds-macros-end : goal.slice_bounds-macros-end
unfolding told_by
slice_bounds-macros-end c =
    let w = whole c.args.file.now _ (sym c.in-Ok.ensures.answer) in
    omega (arith, macro-numbers c.args.file.now _ (sym c.in-Ok.ensures.answer), w.macro-numbers, w.few-macros, c.read_file.auto.macros)

pub slice_bounds-trees_text-end-in-Ok : goal.slice_bounds-trees_text-end-in-Ok
unfolding told_by
slice_bounds-trees_text-end-in-Ok c =
    let read = sym c.in-Ok.ensures.answer in
    macro-numbers c.args.file.now _ read ∙ sym (ap length (macro-list c.args.file.now _ read _ c.in-Ok.ensures.second))

pub trees_text-requires : goal.trees_text-requires
unfolding told_by
trees_text-requires c =
    let f = c.args.file.now in
    let read = sym c.in-Ok.ensures.answer in
    rw (pin-list f _ read _ c.in-Ok.ensures.first, macro-list f _ read _ c.in-Ok.ensures.second) (lists f _ read)

pub returns-in-Ok : goal.returns-in-Ok
unfolding told_by
returns-in-Ok c =
    let f = c.args.file.now in
    let read = sym c.in-Ok.ensures.answer in
    filled-as
    (ap₂ (trees_text c.in-Ok.net) (pin-list f _ read _ c.in-Ok.ensures.first) (macro-list f _ read _ c.in-Ok.ensures.second)
    ∙ route-given f _ read)
    c.trees_text.ensures

pub returns-in-Err : goal.returns-in-Err
unfolding told_by
returns-in-Err c =
    filled-as
    (ap refused_text (to_z-of_z w32 _ (search rules) ∙ c.number.ensures) ∙ route-refused _ _ (sym c.in-Err.ensures.answer))
    c.refused.ensures
