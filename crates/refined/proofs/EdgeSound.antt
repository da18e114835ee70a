-- The edges of a refined tree as they are given: one tree with all pins, every edge clear, smaller place first and in order, and their
-- sum, in cost, is the refiner's total. What the refiner promises is said of the same edges read from the other end.
-- Assumes nothing.
use mathlib.Core.Path.{◌≡◌, refl, sym, ap, ◌∙◌, subst}
use mathlib.Core.Bool.{true, false}
use mathlib.Core.Logic.{inl, inr}
use mathlib.Core.List.{List}
use Prim.Native.Nat.{ℕ, zero, suc, ◌+◌, ◌≤◌, ◌<◌}
use native.Mathlib.Omega.{arith}
use lib.Dec.{ltb}
use lib.IntN.{ℤ}
use lib.ListN.{length, get_or}
use borrow.Author.Tests.{ltb-true, ltb-false}
use Rattle.lists.specs.Member.{Among}
use Rattle.lists.specs.Sorted.{first_then, Ascending}
use Rattle.lists.proofs.TestLaws.{by}
use Rattle.plane.specs.declared.Place.{Place}
use Rattle.plane.specs.Place.{before}
use Rattle.plane.specs.Macro.{clear}
use Rattle.plane.specs.Flat.{place_at}
use Rattle.plane.specs.Rank.{InOrder}
use Rattle.plane.proofs.PlaceLaws.{before-irrefl}
use Rattle.net.specs.Net.{Net}
use Rattle.joined.specs.OneTree.{Point, OneTree}
use Rattle.joined.proofs.WayLaws.{way-more}
use Rattle.graph.specs.Edges.{before_edge}
use Rattle.refiner.specs.declared.Refined.{Refined}
use Rattle.tree.specs.Table.{first_end, second_end, In, Within, Tree, tree}
use Rattle.tree.specs.Places.{ends_of, edges_of, tree_total, Ranked}
use Rattle.tree.specs.Edges.{edges_from, table_edges, tree_edges}
use Rattle.refiner.specs.Refined.{total, Answer}
use Rattle.refiner.specs.Promise.{Promise, Tabled}
use Rattle.tree.proofs.EdgeLaws.{edges-count, edges-in, edges-of, edge-number, edges-smaller, tree-total}
use Rattle.refiner.proofs.RoundSound.{total_of}
use Rattle.refiner.proofs.RefinedSound.{refined-promise, refined-tabled}
use Rattle.beside.specs.Beside.{Ground}
use Rattle.refiner.specs.Ready.{vertices_of, Ready}
use Rattle.tree.specs.Outside.{strangers}
use Rattle.refined.specs.Promise.{Given}

-- The edges of the tables in order

module _ (pts : List ℤ) (ks : List ℕ) where
  module _ (n : ℕ) (order : InOrder pts n) (within : Within n ks) where
    key-before : (i j : ℕ) → In n i → In n j → i < j → before_edge (ends_of pts i) (ends_of pts j) ≡ true
    unfolding before_edge first_then
    key-before i j hi hj h =
        by (ltb (first_end i) (first_end j))
        (λ t. rw (first_then, order (first_end i) (first_end j) (ltb-true (first_end i) (first_end j) t) hj.0) refl)
        (λ t.
        let e : first_end i ≡ first_end j = omega (arith, ltb-false (first_end i) (first_end j) t) in
        let a : before (place_at pts (first_end i)) (place_at pts (first_end j)) ≡ false
        = ap (λ (k : ℕ). before (place_at pts k) (place_at pts (first_end j))) e ∙ before-irrefl (place_at pts (first_end j)) in
        let b : before (place_at pts (first_end j)) (place_at pts (first_end i)) ≡ false
        = ap (λ (k : ℕ). before (place_at pts (first_end j)) (place_at pts k)) e ∙ before-irrefl (place_at pts (first_end j)) in
        rw (first_then, a, b) (order (second_end i) (second_end j) (omega (arith, e)) hj.1))

    module _ (e : ℕ) (ranked : Ranked ks e) where
      pub edges-ascending : (m i : ℕ) → i + m ≤ e → Ascending before_edge (edges_from pts ks i m)
      unfolding edges_from
      edges-ascending zero i h = tt
      edges-ascending (suc m) i h = (
        λ x k.
            let r = edge-number pts ks m (suc i) x k in
            subst (λ (y : Place × Place). before_edge (ends_of pts (get_or ks i 0)) y ≡ true) (sym r.is)
            (key-before (get_or ks i 0) (get_or ks r.number 0) (within.ends i) (within.ends r.number)
            (ranked.rising i r.number (omega (arith, r.low)) (omega (arith, r.high)))),
        edges-ascending m (suc i) (omega arith),
      )

-- one tree, by whichever list of the same edges
one-tree-same : {A : Type 0} (pins : List A) (T U : List (A × A)) → Among T U → Among U T → OneTree pins T → OneTree pins U
one-tree-same {A} pins T U more back tree x y i k n =
    let w = tree x y (point x i) (point y k) n in
    record {
      free = record { points = w.free.points; way = way-more more w.free.way; once = w.free.once };
      only = λ ps v o. w.only ps (way-more back v) o;
    }
  where
    point : (z : A) → Point pins U z → Point pins T z
    point z (inl m) = inl m
    point z (inr (v, inl m)) = inr (v, inl (back (z, v) m))
    point z (inr (v, inr m)) = inr (v, inr (back (v, z) m))

-- The refined tree's

pub promised-edges : (net : Net) (g : Ground) (t r : Tree) → Promise net t r → Tabled net g r → (sum : ℕ)
    → sum ≡ total net.weights r.points r.edges.keys r.edges.size → Given net g t (tree_edges r) sum
promised-edges net ground t r p g sum is =
    let pts = r.points in
    let ks = r.edges.keys in
    let e = r.edges.size in
    let new : sum ≡ tree_total net.weights r = is ∙ total_of net.weights pts r.count ks e in
    record {
      one = one-tree-same net.pins (edges_of pts ks e) (tree_edges r) (edges-in pts ks e) (edges-of pts ks e) p.one;
      free =
          λ x m.
          let q = edge-number pts ks e 0 x m in
          subst (λ (y : Place × Place). clear y.0 y.1 net.macros ≡ true) (sym q.is)
          (p.free q.number (omega (arith, q.high)));
      smaller = edges-smaller pts ks r.count g.ordered g.within e g.ranked;
      ordered = edges-ascending pts ks r.count g.ordered g.within e g.ranked e 0 (omega arith);
      sum = new ∙ sym (tree-total net.weights r);
      less = omega (arith, new, p.total, tree-total net.weights t);
      few = omega (arith, edges-count pts ks e, g.few);
    }

-- what the refiner's contract says is enough
pub given-edges : (net : Net) (g : Ground) (t : Tree) → Ready net g t (length net.pins) → strangers (vertices_of g) t ≡ 0 →
    (pts : List ℤ) (ks : List ℕ) (r : Refined) → Answer net g t pts ks r → Given net g t (table_edges pts ks r.edges) r.total
given-edges net g t ready none pts ks r answer =
    let new = tree pts r.points ks r.edges in
    promised-edges net g t new
    (subst (Promise net t) (sym answer.whole) (refined-promise net g t ready))
    (subst (Tabled net g) (sym answer.whole) (refined-tabled net g t ready none))
    r.total answer.sum
