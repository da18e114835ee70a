-- The refined tree of a tree with clear edges holds all pins as one tree, enters no macro's interior, and costs no more.
-- Its edges are in order where those of the tree are.
-- Assumes nothing.
use mathlib.Core.Path.{◌≡◌, refl, sym, ap, ◌∙◌, subst}
use mathlib.Core.Bool.{true}
use mathlib.Core.List.Memᴰ
use mathlib.Core.List.{List}
use Prim.Native.Nat.{ℕ, zero, suc, ◌+◌, ◌≤◌, ◌<◌}
use native.Mathlib.Omega.{arith}
use lib.Dec.{ltb}
use lib.IntN.{ℤ}
use lib.ListN.{length, get_or, set, length-set, replicate}
use borrow.Author.Tests.{ltb-true, ltb-false}
use Rattle.lists.specs.Any.{any}
use Rattle.lists.specs.Member.{◌∈◌}
use Rattle.lists.proofs.TestLaws.{by, differ}
use Rattle.lists.proofs.AnyLaws.{any_none}
use Rattle.plane.specs.declared.Place.{Place}
use Rattle.plane.specs.Place.{same_place}
use Rattle.plane.specs.Macro.{clear}
use Rattle.plane.specs.Flat.{place_at}
use Rattle.net.specs.Net.{Net}
use Rattle.plane.proofs.PlaceLaws.{same_refl}
use Rattle.joined.proofs.OneTreeLaws.{tree-one}
use Rattle.lists.specs.Turns.{turns}
use Rattle.tree.specs.Table.{tree_bound, Tree}
use Rattle.exchanges.specs.Prune.{mark_of, mark, marks, pruned}
use Rattle.refiner.specs.Refined.{refined}
use Rattle.refiner.specs.Promise.{Promise, Tabled}
use Rattle.tree.specs.Places.{ends_of, points_of, key_cost, Sound}
use Rattle.tree.proofs.SumLaws.{other, here}
use Rattle.tree.proofs.ListingLaws.{in-listing, of-listing}
use Rattle.tree.proofs.PointLaws.{same-place}
use Rattle.exchanges.proofs.WithinLaws.{pruned-few, pruned-within}
use Rattle.exchanges.proofs.RankedLaws.{prune-ranked}
use Rattle.exchanges.proofs.PruneSound.{Whole, prune-whole, pruned-was, pruned-over}
use Rattle.beside.specs.Beside.{Ground}
use Rattle.refiner.specs.Round.{rounds_in}
use Rattle.refiner.specs.Ready.{vertices_of, Ready}
use Rattle.tree.specs.Outside.{strangers}
use Rattle.refiner.proofs.CutSound.{tree-size}
use Rattle.refiner.proofs.RoundReady.{rounds-ready, rounds-count, ready-few}

-- The marks of pins

marks-low : (pins : List Place) (pts : List ℤ) (c i : ℕ) (t : List ℕ) (j : ℕ) → j < i → get_or (turns (mark pins pts) i c t) j 0 ≡ get_or t j 0
unfolding turns mark
marks-low pins pts zero i t j h = refl
marks-low pins pts (suc c) i t j h =
    marks-low pins pts c (suc i) _ j (omega arith) ∙ other t i j (mark_of (any (same_place (place_at pts i)) pins))
    (λ q. let z : ⊥ = omega arith in z)

pub marks-at : (pins : List Place) (pts : List ℤ) (c i : ℕ) (t : List ℕ) (j : ℕ) → i + c ≤ length t → i ≤ j → j < i + c →
    get_or (turns (mark pins pts) i c t) j 0 ≡ mark_of (any (same_place (place_at pts j)) pins)
unfolding turns mark
marks-at pins pts zero i t j b h l = absurd (let z : ⊥ = omega arith in z)
marks-at pins pts (suc c) i t j b h l =
    let x = mark_of (any (same_place (place_at pts i)) pins) in
    by (ltb i j)
    (λ q. marks-at pins pts c (suc i) (set t i x) j (rw (length-set t i x) (omega arith)) (ltb-true i j q) (omega arith))
    (λ q.
    let e : j ≡ i = omega (arith, ltb-false i j q) in
    marks-low pins pts c (suc i) (set t i x) j (omega arith) ∙ rw e (here t i x (omega arith)))

pub zeros-length : (m : ℕ) → length (replicate {A = ℕ} m 0) ≡ m
zeros-length zero = refl
zeros-length (suc m) = ap suc (zeros-length m)

-- a point with the mark 0 is no pin
pub unmarked : (pins : List Place) (pts : List ℤ) (n : ℕ) → n ≤ tree_bound → (v : ℕ) → v < n → get_or (marks pins pts n) v 0 ≡ 0 →
    place_at pts v ∈ pins → ⊥
unfolding marks mark_of
unmarked pins pts n few v h e m =
    let at : get_or (marks pins pts n) v 0 ≡ mark_of (any (same_place (place_at pts v)) pins)
    = marks-at pins pts n 0 (replicate tree_bound 0) v (rw (zeros-length tree_bound) (omega arith)) (omega arith) (omega arith) in
    by (any (same_place (place_at pts v)) pins)
    (λ t. let o : get_or (marks pins pts n) v 0 ≡ 1 = at ∙ ap mark_of t in let z : ⊥ = omega (arith, o, e) in z)
    (λ t. differ (same_refl (place_at pts v)) (any_none (same_place (place_at pts v)) pins t (place_at pts v) m))

-- The refined tree

pub refined-promise : (net : Net) (g : Ground) (t : Tree) → Ready net g t (length net.pins) → Promise net t (refined net g t)
unfolding refined pruned
refined-promise net g t ready =
    let r = rounds_in net.weights net.macros g (length net.pins) t in
    let k = rounds-ready net g (length net.pins) t ready in
    let sound = k.0.sound in
    let pin = marks net.pins r.points r.count in
    let least : r.count ≤ tree_bound = ready-few k.0 in
    let whole = prune-whole r.points r.count sound.ordered least net.pins pin
    (unmarked net.pins r.points r.count least) r.edges.size r.edges.keys sound.within (held r sound) in
    record {
      one = tree-one same-place whole.tree whole.inside net.pins whole.pinned;
      free =
          λ i h.
          let q = pruned-was pin r.edges.size r.edges.keys i h in
          subst (λ (j : ℕ). clear (ends_of r.points j).0 (ends_of r.points j).1 net.macros ≡ true) (sym q.1.1)
          (sound.free q.0 q.1.0);
      total = omega (arith, k.1, pruned-over (key_cost net.weights r.points) pin r.edges.size r.edges.keys);
    }
  where
    held : (r : Tree) → Sound net r → Whole r.points net.pins r.edges
    held r s = record {
      points = points_of r.points r.count;
      tree = s.whole;
      inside =
          λ c d m.
          let q = of-listing (λ j. ends_of r.points (get_or r.edges.keys j 0)) r.edges.size (c, d) m in (
            Memᴰ.cast (ap (λ (z : Place × Place). z.0) q.1.1)
                (in-listing (place_at r.points) r.count _ (s.within.ends q.0).0),
            Memᴰ.cast (ap (λ (z : Place × Place). z.1) q.1.1)
                (in-listing (place_at r.points) r.count _ (s.within.ends q.0).1),
          );
      pinned = s.pinned;
    }

-- Its edges in order

pub refined-tabled : (net : Net) (g : Ground) (t : Tree) → Ready net g t (length net.pins) →
    strangers (vertices_of g) t ≡ 0 → Tabled net g (refined net g t)
unfolding refined pruned
refined-tabled net g t ready none =
    let r = rounds_in net.weights net.macros g (length net.pins) t in
    let k = (rounds-ready net g (length net.pins) t ready).0 in
    let pin = marks net.pins r.points r.count in
    record {
      ordered = k.sound.ordered;
      within = pruned-within r.count pin r.edges.keys r.edges.size k.sound.within;
      ranked = prune-ranked pin r.edges.size r.edges.keys k.ranked;
      few =
          omega (
            arith,
            pruned-few pin r.edges.keys r.edges.size,
            tree-size net r k.sound,
            rounds-count net g (length net.pins) t ready,
            none,
          );
    }
