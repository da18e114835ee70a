-- The refined tree that the definitions work out is a solution of the rules, and every solution has its edges.
-- Assumes nothing.
use mathlib.Core.Path.{◌≡◌, refl, sym, ◌∙◌, subst}
use mathlib.Core.Bool.{Bool, true, false}
use mathlib.Core.Logic.{inl, inr}
use mathlib.Core.List.{List}
use Prim.Native.Nat.{ℕ, zero, suc, ◌≤◌, ◌<◌}
use native.Mathlib.Omega.{arith}
use lib.Dec.{ltb, eqb}
use lib.ListN.{length}
use borrow.Author.Tests.{ltb-true, ltb-false, eqb-true, eqb-false}
use Rattle.lists.proofs.TestLaws.{by}
use Rattle.joined.proofs.TreeLaws.{tree-cuts}
use Rattle.plane.proofs.PlaceOrder.{place_same}
use Rattle.net.specs.Net.{Net}
use Rattle.tree.specs.Table.{Tree}
use Rattle.refiner.specs.Refined as tables
use Rattle.beside.specs.Beside.{Ground, either, chosen_of, chosen_in}
use Rattle.refiner.specs.Round.{exchange_with, exchange_in, rounds_in}
use Rattle.refiner.specs.Ready.{Ready}
use Rattle.refiner.proofs.RoundSteps.{choice_in, rounds-none, rounds-some}
use Rattle.refiner.proofs.RoundReady.{on, off, round-onward, rounds-ready, ready-few}
use Rattle.rules.specs.Edges.{Edge, Same}
use Rattle.rules.specs.Refined.{Gain, Round, NoGain, Rounds, Prunes, Refines}
use Rattle.rules.proofs.EdgeLaws.{same_turn, same_then}
use Rattle.rules.proofs.RoundOnly.{gain-same, round-only}
use Rattle.rules.proofs.PrunesOnly.{prunes-only}
use Rattle.rules.proofs.GainOurs.{edges_in}
use Rattle.rules.proofs.ReachOurs.{Charts, charts-lawful}
use Rattle.rules.proofs.RoundOurs.{on-most, off-most}
use Rattle.rules.proofs.RoundEdges.{Gained, round-on, round-off}
use Rattle.rules.proofs.PrunesOurs.{prunes-ours}

module _ {net : Net} {G : List Edge} {g : Ground} (charts : Charts net G g) where
  -- the tree after a round
  abbrev pub next_in : Tree → Tree
  next_in t = exchange_in g t (chosen_in net.weights net.macros g t)

  module _ (m : ℕ) (t : Tree) (ready : Ready net g t (suc m)) where
    both-less : ((on net g t m ready).gain ≤ (either (on net g t m ready) (off net g t m ready)).best.gain)
        × ((off net g t m ready).gain ≤ (either (on net g t m ready) (off net g t m ready)).best.gain)
    unfolding either
    both-less =
        by (ltb (on net g t m ready).gain (off net g t m ready).gain)
        (λ b. let h = ltb-true (on net g t m ready).gain (off net g t m ready).gain b in rw (either, b) (omega arith, omega arith))
        (λ b. let h = ltb-false (on net g t m ready).gain (off net g t m ready).gain b in rw (either, b) (omega arith, omega arith))

    chosen-most : ((on net g t m ready).gain ≤ (choice_in net g t).best.gain) × ((off net g t m ready).gain ≤ (choice_in net g t).best.gain)
    unfolding chosen_in chosen_of
    chosen-most = both-less

    -- the tables find no gain where there is none
    pub no-gain : (choice_in net g t).best.gain ≡ 0 → NoGain net G (edges_in t)
    no-gain q false a b u v qs l h x =
        let z : ⊥ = omega (arith, q, chosen-most.0, on-most charts t m ready a b u v qs l h x, x.above) in z
    no-gain q true a b u v qs l h x =
        let z : ⊥ = omega (arith, q, chosen-most.1, off-most charts t m ready a b u v qs l h x, x.above) in z

    either-round : ((either (on net g t m ready) (off net g t m ready)).best.gain ≡ 0 → ⊥) →
        Gained net G (edges_in t) (edges_in (exchange_in g t (either (on net g t m ready) (off net g t m ready))))
        (either (on net g t m ready) (off net g t m ready)).best.gain
    unfolding either exchange_in exchange_with
    either-round =
        by (ltb (on net g t m ready).gain (off net g t m ready).gain)
        (λ b. rw (either, b) (λ h. round-off charts t m ready (ltb-true _ _ b)))
        (λ b. rw (either, b) (λ h. round-on charts t m ready (omega (arith, h)) (ltb-false _ _ b)))

    chosen-round : ((choice_in net g t).best.gain ≡ 0 → ⊥) → Gained net G (edges_in t) (edges_in (next_in t)) (choice_in net g t).best.gain
    unfolding chosen_in chosen_of
    chosen-round h = either-round h

    pub some-gain : ((choice_in net g t).best.gain ≡ 0 → ⊥) → Round net G (edges_in t) (edges_in (next_in t))
    some-gain h = (chosen-round h).0

    pub mine-gain : (h : (choice_in net g t).best.gain ≡ 0 → ⊥) → (some-gain h).g ≡ (choice_in net g t).best.gain
    unfolding some-gain
    mine-gain h = (chosen-round h).1

    pub ready-next : ((choice_in net g t).best.gain ≡ 0 → ⊥) → Ready net g (next_in t) m
    ready-next h = (round-onward net g t m ready h).ready

  -- Rounds

  rounds-ours : (m : ℕ) (t : Tree) → Ready net g t m →
      Rounds net G m (edges_in t) (edges_in (rounds_in net.weights net.macros g m t))
  unfolding rounds_in
  rounds-ours zero t ready = (λ e i. i, λ e i. i)
  rounds-ours (suc m) t ready =
      by (eqb (choice_in net g t).best.gain 0)
      (λ q.
      let none : (choice_in net g t).best.gain ≡ 0 = eqb-true _ _ q in
      subst (λ (z : Tree). Rounds net G (suc m) (edges_in t) (edges_in z)) (sym (rounds-none net g (suc m) t none))
      (inl (no-gain m t ready none, (λ e i. i, λ e i. i))))
      (λ q.
      let some : (choice_in net g t).best.gain ≡ 0 → ⊥ = eqb-false _ _ q in
      subst (λ (z : Tree). Rounds net G (suc m) (edges_in t) (edges_in z)) (sym (rounds-some net g m t some))
      (inr (edges_in (next_in t), (some-gain m t ready some, rounds-ours m (next_in t) (ready-next m t ready some)))))

  rounds-only : (m : ℕ) (t : Tree) → Ready net g t m → (T U : List Edge) → Same (edges_in t) T → Rounds net G m T U →
      Same (edges_in (rounds_in net.weights net.macros g m t)) U
  unfolding rounds_in
  rounds-only zero t ready T U h r = same_then h r
  rounds-only (suc m) t ready T U h r =
      by (eqb (choice_in net g t).best.gain 0)
      (λ q.
      let none : (choice_in net g t).best.gain ≡ 0 = eqb-true _ _ q in
      subst (λ (z : Tree). Same (edges_in z) U) (sym (rounds-none net g (suc m) t none)) (still (no-gain m t ready none) r))
      (λ q.
      let some : (choice_in net g t).best.gain ≡ 0 → ⊥ = eqb-false _ _ q in
      subst (λ (z : Tree). Same (edges_in z) U) (sym (rounds-some net g m t some)) (moves some
      (λ X. rounds-only m (next_in t) (ready-next m t ready some) X U) r))
    where
      still : NoGain net G (edges_in t) → Rounds net G (suc m) T U → Same (edges_in t) U
      still none (inl s) = same_then h s.1
      still none (inr (X, (s, more))) =
          absurd (none s.k s.a s.b s.u s.v s.qs s.l s.g (gain-same (same_turn h) s.takes.taken))

      moves : ((choice_in net g t).best.gain ≡ 0 → ⊥) →
          ((X : List Edge) → Same (edges_in (next_in t)) X → Rounds net G m X U →
          Same (edges_in (rounds_in net.weights net.macros g m (next_in t))) U) →
          Rounds net G (suc m) T U → Same (edges_in (rounds_in net.weights net.macros g m (next_in t))) U
      moves some next (inl s) =
          let o = some-gain m t ready some in
          absurd (s.0 o.k o.a o.b o.u o.v o.qs o.l o.g (gain-same h o.takes.taken))
      moves some next (inr (X, (s, more))) =
          next X (round-only (charts-lawful charts t ready.sound) (tree-cuts place_same ready.sound.whole) h
          (some-gain m t ready some) s)
          more

  -- The refined tree

  module _ (t : Tree) (ready : Ready net g t (length net.pins)) where
    prunes : Prunes net (edges_in (rounds_in net.weights net.macros g (length net.pins) t)) (edges_in (tables.refined net g t))
    unfolding tables.refined
    prunes =
        let k = (rounds-ready net g (length net.pins) t ready).0 in
        prunes-ours (rounds_in net.weights net.macros g (length net.pins) t) k.sound k.ranked (ready-few k)

    -- what the definitions work out is a solution
    pub refines-ours : Refines net G (edges_in t) (edges_in (tables.refined net g t))
    refines-ours = record {
      rounded = edges_in (rounds_in net.weights net.macros g (length net.pins) t);
      rounds = rounds-ours (length net.pins) t ready;
      prunes = prunes;
    }

    -- and every solution has its edges
    pub refines-only : (T R : List Edge) → Same (edges_in t) T → Refines net G T R → Same (edges_in (tables.refined net g t)) R
    refines-only T R h r = prunes-only (rounds-only (length net.pins) t ready T r.rounded h r.rounds) prunes r.prunes
