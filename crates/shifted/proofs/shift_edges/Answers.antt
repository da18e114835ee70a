use Rattle.std.proofs.Common.{refl, ◌∙◌, ℕ, get_or, arith}
use Rattle.slide.specs.Bend.{Edge}
use Rattle.slide.specs.Slide.{proper}
use Rattle.straight.proofs.TableLaws.{within-small}
use Rattle.shifted.specs.Shift.{shifted_edge}
use Rattle.shifted.proofs.ShiftedLaws.{putting-none, putting-more, putting-end, put-few}
use Rattle.shifted.proofs.shift_edges.Goals as goal

pub loop-k-init : goal.loop-k-init
loop-k-init c =
    let s = c.args in
    let after : ℕ → Edge = λ (i : ℕ). shifted_edge s.m s.pts.now s.lab.now (get_or s.keys.now i 0) in
    (omega arith, (refl, putting-none after _ _))

pub put_shifted-count-requires : goal.put_shifted-count-requires
put_shifted-count-requires c =
    let n = c.requires.n_le_straight_bound in
    let m = c.requires.movable in
    let z = n.1.1.ends c.loop-k.k in record {
      k_lt_straight_bound = (
        omega (arith, n),
        (
          (within-small c.args.n c.args.keys.now n.0 n.1.1).small c.loop-k.k,
          omega (arith, c.loop-k.invariant.0, c.loop-k.invariant.1.0, m.1),
        ),
      );
      fitting = (m.0.each _ z.0, m.0.each _ z.1);
    }

pub loop-k-preserved : goal.loop-k-preserved
loop-k-preserved c =
    let s = c.args in
    let after : ℕ → Edge = λ (i : ℕ). shifted_edge s.m s.pts.now s.lab.now (get_or s.keys.now i 0) in
    let put = c.put_shifted-count in (
      omega (arith, put-few (proper (after c.loop-k.k)) _ _ _ _ _ put.ensures, c.loop-k.invariant.0),
      (
        put.auto.out ∙ c.loop-k.invariant.1.0,
        putting-more after _ _ c.loop-k.invariant.1.1 (omega arith) (omega (arith, c.loop-k.invariant.0, c.requires.movable.1))
            (proper (after c.loop-k.k)) refl _ _ put.ensures,
      ),
    )

pub returns : goal.returns
returns c =
    let s = c.args in
    let after : ℕ → Edge = λ (i : ℕ). shifted_edge s.m s.pts.now s.lab.now (get_or s.keys.now i 0) in
    (putting-end after _ _ c.loop-k.invariant.1.1 (omega arith), omega (arith, c.loop-k.invariant.0))
