-- No number has become smaller, and each pick passed is reached.
use Rattle.std.proofs.Common.{◌≡◌, ◌+◌, ◌*◌, ◌<◌, ◌≤◌, ℕ, length, get_or}
use Rattle.net.specs.Bounds.{point_bound}
use Rattle.links.proofs.widen_four.Given as goal

abbrev pub invariant-loop-i : goal.invariant-loop-i
invariant-loop-i l = record {
  long : length l.last ≡ point_bound;
  grows : (j : ℕ) → get_or l.initial.last j 0 ≤ get_or l.last j 0;
  both : (j : ℕ) → j < l.i → get_or l.picked (l.k * 4 + j) 0 < l.n
      → (get_or l.picked (l.k * 4 + j) 0 ≤ get_or l.last l.k 0) × (l.k ≤ get_or l.last (get_or l.picked (l.k * 4 + j) 0) 0);
}
