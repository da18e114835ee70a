-- A tree that is ready for a round, and what a round leaves of it: the tree before, with the bounds of its edges.
-- Assumes nothing.
use mathlib.Core.Path.{◌≡◌, sym, subst}
use mathlib.Core.List.{List}
use Prim.Native.Nat.{ℕ}
use lib.IntN.{ℤ}
use Rattle.lists.proofs.TestLaws.{either}
use Rattle.net.specs.Net.{Net}
use Rattle.tree.specs.Table.{pair_bound, Tree, Small}
use Rattle.longest.specs.Longest.{costs}
use Rattle.exchanges.proofs.WithinLaws.{within-small}
use Rattle.bounds.specs.Carried.{Another, Held, Was}
use Rattle.beside.specs.Beside.{Ground}
use Rattle.refiner.specs.Sentences.{cut_in}
use Rattle.refiner.specs.Ready.{Ready}
use Rattle.refiner.proofs.CutSound.{tree-size, cut-at, cut-another}
use Rattle.refiner.proofs.RoundReady.{ready-few}

module _ (net : Net) (g : Ground) (t : Tree) (m : ℕ) (r : Ready net g t m) where
  -- L is another edge than that of the candidate
  another : Another t.edges.keys (costs net.weights t.points t.edges.keys t.edges.size) t.edges.size t.count
  another k u hk hu na nb =
      cut-another net t r.sound (ready-few r) k u (cut_in net t k u) (cut-at net t r.sound (ready-few r) k u hk hu (either na nb))

  pub was-here : (bound : List ℕ) → Held net.weights net.macros t.points t.count t.edges.keys t.edges.size bound →
      Was net.weights net.macros t.points t.count t.edges.keys t.edges.size bound
  was-here bound h = record {
    few = (ready-few r, tree-size net t r.sound);
    ordered = r.sound.ordered;
    within = r.sound.within;
    another = another;
    held = h;
  }

  -- seen in copies of its tables
  pub was-then : (old : List ℤ) (before bound : List ℕ) → old ≡ t.points → before ≡ t.edges.keys →
      Held net.weights net.macros t.points t.count t.edges.keys t.edges.size bound →
      Was net.weights net.macros old t.count before t.edges.size bound
  was-then old before bound p q h =
      subst (λ (x : List ℤ). Was net.weights net.macros x t.count before t.edges.size bound) (sym p)
      (subst (λ (x : List ℕ). Was net.weights net.macros t.points t.count x t.edges.size bound) (sym q) (was-here bound h))

  pub small-then : (before : List ℕ) → before ≡ t.edges.keys → Small pair_bound before
  small-then before q = subst (Small pair_bound) (sym q) (within-small _ _ (ready-few r) r.sound.within)
