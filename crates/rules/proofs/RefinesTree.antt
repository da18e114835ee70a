-- Each round of every solution starts with one tree, whose points are the pins and the ends of its edges: the tables hold the same edges,
-- and they are sound.
-- Assumes nothing.
use mathlib.Core.Path.{◌≡◌}
use mathlib.Core.Logic.{inl, inr}
use mathlib.Core.List.Memᴰ
use mathlib.Core.List.{List}
use Prim.Native.Nat.{ℕ, zero, suc}
use lib.Dec.{eqb}
use borrow.Author.Tests.{eqb-true, eqb-false}
use Rattle.lists.proofs.TestLaws.{by}
use Rattle.plane.specs.declared.Place.{Place}
use Rattle.plane.specs.Flat.{place_at}
use Rattle.plane.proofs.PlaceOrder.{place_same}
use Rattle.joined.specs.Joined.{Inside}
use Rattle.joined.specs.OneTree.{OneTree}
use Rattle.joined.proofs.JoinedLaws.{firsts, seconds}
use Rattle.joined.proofs.TreeLaws.{tree-cuts}
use Rattle.joined.proofs.WayLaws.{way-more}
use Rattle.joined.proofs.OneTreeLaws.{tree-one}
use Rattle.net.specs.Net.{Net}
use Rattle.tree.specs.Table.{Tree}
use Rattle.tree.specs.Places.{points_of, Sound}
use Rattle.beside.specs.Beside.{Ground}
use Rattle.refiner.specs.Ready.{Ready}
use Rattle.refiner.proofs.RoundSteps.{choice_in}
use Rattle.tree.proofs.ListingLaws.{in-listing}
use Rattle.rules.specs.Edges.{Edge, Same}
use Rattle.rules.specs.Refined.{Rounds, TreesThrough}
use Rattle.rules.proofs.EdgeLaws.{same_turn}
use Rattle.rules.proofs.RoundOnly.{point-same, gain-same, round-only}
use Rattle.rules.proofs.GainOurs.{edges_in, edge-of}
use Rattle.rules.proofs.ReachOurs.{Charts, charts-lawful}
use Rattle.rules.proofs.RefinesOurs.{next_in, no-gain, some-gain, ready-next}

-- one tree, by whichever list of the same edges
one-tree-same : (ps : List Place) {T U : List Edge} → Same T U → OneTree ps T → OneTree ps U
one-tree-same ps h tree x y i k n =
    let w = tree x y (point-same (same_turn h) ps x i) (point-same (same_turn h) ps y k) n in
    record {
      free = record { points = w.free.points; way = way-more h.0 w.free.way; once = w.free.once };
      only = λ qs v o. w.only qs (way-more h.1 v) o;
    }

sound-tree : {net : Net} (t : Tree) → Sound net t → OneTree net.pins (edges_in t)
sound-tree {net} t s = tree-one place_same s.whole inside net.pins s.pinned
  where
    inside : Inside (points_of t.points t.count) (edges_in t)
    inside c d m =
        let r = edge-of t (c, d) m in (
          Memᴰ.cast (firsts r.1.1) (in-listing (place_at t.points) t.count _ (s.within.ends r.0).0),
          Memᴰ.cast (seconds r.1.1) (in-listing (place_at t.points) t.count _ (s.within.ends r.0).1),
        )

module _ {net : Net} {G : List Edge} {g : Ground} (charts : Charts net G g) where
  pub rounds-trees : (m : ℕ) (t : Tree) → Ready net g t m → (T U : List Edge) → Same (edges_in t) T →
      (r : Rounds net G m T U) → TreesThrough net G m T U r
  rounds-trees zero t ready T U h r = one-tree-same net.pins h (sound-tree t ready.sound)
  rounds-trees (suc m) t ready T U h (inl r) = one-tree-same net.pins h (sound-tree t ready.sound)
  rounds-trees (suc m) t ready T U h (inr (X, (r, more))) = (
    one-tree-same net.pins h (sound-tree t ready.sound),
    by (eqb (choice_in net g t).best.gain 0)
        (λ q.
        absurd (no-gain charts m t ready (eqb-true _ _ q) r.k r.a r.b r.u r.v r.qs r.l r.g
        (gain-same (same_turn h) r.takes.taken)))
        (λ q.
        let some : (choice_in net g t).best.gain ≡ 0 → ⊥ = eqb-false _ _ q in
        rounds-trees m (next_in charts t) (ready-next charts m t ready some) X U
        (round-only (charts-lawful charts t ready.sound) (tree-cuts place_same ready.sound.whole) h
        (some-gain charts m t ready some) r)
        more),
  )
