-- `encoded::are_loaded` meets its contract.
-- Assumes nothing.
use Rattle.std.proofs.Common.{◌≡◌, sym, ap, ◌∙◌, arith, w32, rules}
use mir.ValLaws.{to_z-of_z}
use Rattle.lists.proofs.AnyLaws.{any-hit, any-miss, any-end}
use Rattle.net.specs.Pins.{load_at}
use Rattle.encoded.specs.Layout.{is_load, loaded}
use Rattle.net.proofs.PinLaws.{loads-next, loads-end}
use Rattle.encoded.proofs.are_loaded.Goals as goal
use Rattle.encoded.proofs.are_loaded.Goals.{After-is_load}

-- what the call says, of the list
told : (c : After-is_load) → c.is_load.result ≡ is_load (load_at c.args.pins.now c.loop-i.i)
told c = c.is_load.ensures ∙ ap is_load (to_z-of_z w32 _ (search rules) ∙ c.load_at.ensures)

pub returns-then-is_load : goal.returns-then-is_load
unfolding loaded
returns-then-is_load c =
    let next = loads-next c.args.pins.now c.loop-i.i (omega arith) in
    sym (c.loop-i.invariant ∙ any-hit is_load _ _ _ next (sym (told c.before) ∙ c.if-is_load.true))

pub loop-i-preserved : goal.loop-i-preserved
loop-i-preserved c =
    let next = loads-next c.args.pins.now c.loop-i.i (omega arith) in
    c.loop-i.invariant ∙ any-miss is_load _ _ _ next (sym (told c.before) ∙ c.if-is_load.false)

pub returns : goal.returns
unfolding loaded
returns c = sym (c.loop-i.invariant ∙ any-end is_load _ (loads-end c.args.pins.now c.loop-i.i (omega arith)))
