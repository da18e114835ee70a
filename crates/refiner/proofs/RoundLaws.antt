-- Laws of one round and of the rounds.
-- Assumes nothing.
use mathlib.Core.Path.{◌≡◌, refl, sym, ap, ◌∙◌}
use mathlib.Core.List.{List}
use Prim.Native.Nat.{ℕ, ◌+◌, ◌-◌}
use lib.IntN.{ℤ}
use lib.ListN.{length}
use Rattle.plane.specs.declared.Weights.{Weights}
use Rattle.net.specs.Net.{Net}
use Rattle.longest.specs.Longest.{edge_cost}
use Rattle.exchanges.specs.Prune.{pruned}
use Rattle.beside.specs.Beside.{Ground}
use Rattle.refiner.specs.Round.{rounds_in}
use Rattle.refiner.specs.Refined.{add_cost, total, refined}
use Rattle.tree.specs.Table.{Row, Tree, row, tree}
use Rattle.lists.specs.Turns.{turns}
use Rattle.lists.proofs.TurnLaws.{turns-none}

-- the sum of the costs
pub total-none : (w : Weights) (pts : List ℤ) (ks : List ℕ) (e : ℕ) → turns (add_cost w pts ks) 0 (e - 0) 0 ≡ total w pts ks e
unfolding total
total-none w pts ks e = turns-none (add_cost w pts ks) e 0

pub total-next : (w : Weights) (pts : List ℤ) (ks : List ℕ) (k sum d : ℕ) → d ≡ edge_cost w pts ks k → sum + d ≡ add_cost w pts ks k sum
unfolding add_cost
total-next w pts ks k sum d e = rw e refl

pub answer-is : (net : Net) (g : Ground) (t : Tree) (pts : List ℤ) (n : ℕ) (ks : List ℕ) (e : ℕ) (ls : List ℕ) (f m : ℕ)
    → length net.pins ≡ m → tree pts n ks e ≡ rounds_in net.weights net.macros g m t
    → row ls f ≡ (pruned net.pins (tree pts n ks e)).edges → tree pts n ls f ≡ refined net g t
unfolding refined pruned
answer-is net q t pts n ks e ls f m l h g =
    ap (λ (r : Row). record { points = pts; count = n; edges = r }) g
    ∙ ap (pruned net.pins) (h ∙ ap (λ (k : ℕ). rounds_in net.weights net.macros q k t) (sym l))
