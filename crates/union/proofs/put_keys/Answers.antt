use Rattle.std.proofs.Common.{arith}
use Rattle.union.proofs.MarkLaws.{key-none, key-pass, key-room, key_more}
use Rattle.union.proofs.put_keys.Goals as goal
use Rattle.union.proofs.put_keys.Goals.{then-on-k-gt0, else-on-k-gt0}

pub loop-k-init : goal.loop-k-init
loop-k-init c = key-none _ _ _

pub offset_bounds-keys-c : goal.offset_bounds-keys-c
offset_bounds-keys-c c =
    omega (arith, key-room _ _ _ _ _ _ c.loop-k.invariant _ _ c.loop-k-test.true c.if-on-k-gt0.true c.requires.e_len_bound.0)

pub bounds-keys-c : goal.bounds-keys-c
bounds-keys-c c = key-room _ _ _ _ _ _ c.loop-k.invariant _ _ c.loop-k-test.true c.if-on-k-gt0.true c.requires.e_len_bound.0

pub overflow_add-c : goal.overflow_add-c
overflow_add-c c =
    omega (arith, key-room _ _ _ _ _ _ c.loop-k.invariant _ _ c.loop-k-test.true c.if-on-k-gt0.true c.requires.e_len_bound.0)

pub loop-k-preserved : goal.loop-k-preserved
loop-k-preserved c =
    let i = c.loop-k.invariant in
    elim c.if-on-k-gt0.branch [
      | then-on-k-gt0 w ↦
          let few = key-room _ _ _ _ _ _ i _ _ c.loop-k-test.true w.if-on-k-gt0.true c.requires.e_len_bound.0 in
          rw (w.keys-is, w.c-is, w.key_of.ensures)
          (key_more _ _ _ _ _ _ i w.if-on-k-gt0.true (omega (arith, few, c.requires.e_len_bound.1)))
      | else-on-k-gt0 w ↦ rw (w.keys-is, w.c-is) (key-pass _ _ _ _ _ _ i w.if-on-k-gt0.false)
    ]
