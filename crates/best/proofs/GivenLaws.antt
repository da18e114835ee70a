-- Marked segments given as edges, one after the other: those of the first j are written.
-- Assumes nothing.
use mathlib.Core.Path.{◌≡◌, refl, sym, ap, subst, ◌∙◌}
use mathlib.Core.Logic.{inl, inr}
use mathlib.Core.List.{List, [], ◌∷◌, ◌++◌, map, map-append}
use Prim.Native.Nat.{ℕ, ◌+◌, ◌*◌, ◌/◌, ◌≤◌, ◌<◌}
use native.Mathlib.Omega.{arith}
use borrow.Author.Tests.{lt-ltb, le-ltb}
use lib.IntN.{ℤ}
use lib.ListN.{length, get_or, length-map}
use lib.Seq.{sets}
use Rattle.lists.specs.Total.{total}
use Rattle.joined.specs.Cost.{lengths}
use Rattle.joined.proofs.CostLaws.{lengths-append}
use Rattle.lent.specs.Over.{over}
use Rattle.lent.specs.Entries.{flat}
use Rattle.lent.proofs.OverLaws.{over_none}
use Rattle.lent.proofs.EntryTable.{entry_more}
use Rattle.plane.specs.declared.Place.{Place}
use Rattle.plane.specs.Distance.{distance}
use Rattle.graph.specs.Numbers.{edge_numbers, edge_from}
use Rattle.graph.proofs.WidthLaws.{edge-width}
use Rattle.union.specs.Marks.{marks}
use Rattle.union.proofs.MarkLaws.{marks-none, marks-hit, marks-miss, marks-room}
use Rattle.lines.specs.Bounds.{crossing_bound}
use Rattle.lines.specs.Edges.{Edge}
use Rattle.grid.specs.Tables.{crossing_at, target}
use Rattle.traced.specs.Routes.{in_their_order, edge_at, marked_edges, LengthOf, MarkedPut}

pub marked-inside : (j k b : ℕ) → k ≡ in_their_order j → b ≡ target k → target (in_their_order j) < crossing_bound → b < crossing_bound
marked-inside j k b e f h = subst (λ (z : ℕ). z < crossing_bound) (sym (f ∙ ap target e)) h

-- the two ends of the j-th segment
pub marked-ends : (xs ys : List ℤ) (j k b : ℕ) (p q : Place) → k ≡ in_their_order j → b ≡ target k → p ≡ crossing_at xs ys (k / 2) →
    q ≡ crossing_at xs ys b → (p ≡ (edge_at xs ys j).0) × (q ≡ (edge_at xs ys j).1)
marked-ends xs ys j k b p q e f g h =
    (g ∙ ap (λ (i : ℕ). crossing_at xs ys (i / 2)) e, h ∙ ap (crossing_at xs ys) (f ∙ ap target e))

lone : (x : Edge) → lengths distance (x ∷ []) ≡ distance x.0 x.1
unfolding lengths total
lone x = omega arith

module _ (xs ys : List ℤ) (used : List ℕ) where
  abbrev edges : ℕ → List Edge
  edges j = marked_edges xs ys used j

  edges-hit : (j : ℕ) → 1 ≤ get_or used j 0 → edges (j + 1) ≡ edges j ++ (edge_at xs ys j ∷ [])
  unfolding marked_edges
  edges-hit j h = ap (map (edge_at xs ys)) (marks-hit used j (lt-ltb 0 (get_or used j 0) h)) ∙ map-append (edge_at xs ys) (marks used j)
      (j ∷ [])

  edges-miss : (j : ℕ) → get_or used j 0 ≡ 0 → edges (j + 1) ≡ edges j
  unfolding marked_edges
  edges-miss j e = ap (map (edge_at xs ys)) (marks-miss used j (le-ltb 0 (get_or used j 0) (omega (arith, e))))

  pub given-room : (j e : ℕ) → j < e → 1 ≤ get_or used j 0 → length (edges j) < length (edges e)
  unfolding marked_edges
  given-room j e h k =
      let r = marks-room used j e h (lt-ltb 0 (get_or used j 0) k) in
      omega (arith, r, length-map (marks used j) (edge_at xs ys), length-map (marks used e) (edge_at xs ys))

  -- those of the first j, as many as `count` says, stand in the table
  pub record Given (lent : List ℤ) (j count : ℕ) (t : List ℤ) : Type 0 where
    pub counted : count ≡ length (edges j)
    pub list : t ≡ over (flat edge_numbers (edges j)) lent

  pub given-none : (lent : List ℤ) → Given lent 0 0 lent
  unfolding marked_edges flat
  given-none lent =
      let none = marks-none used in
      record {
        counted = rw none refl;
        list = rw none (sym (over_none lent));
      }

  pub given-more : (lent : List ℤ) (e j count r : ℕ) (t u : List ℤ) → j < e → length (edges e) * 4 ≤ length lent →
      Given lent j count t → MarkedPut xs ys used j count t r u → Given lent (j + 1) r u
  given-more lent e j count r t u h room g (inl p) = record {
    counted = p.1.0 ∙ g.counted ∙ sym (ap length (edges-miss j p.0));
    list = p.1.1 ∙ g.list ∙ sym (ap (λ (l : List Edge). over (flat edge_numbers l) lent) (edges-miss j p.0));
  }
  given-more lent e j count r t u h room g (inr p) =
      let more = edges-hit j p.0 in
      let one : length (edges (j + 1)) ≡ length (edges j) + 1 = ap length more ∙ length-snoc (edges j) (edge_at xs ys j) in
      record {
        counted = p.1.0 ∙ omega (arith, g.counted, one);
        list = p.1.1 ∙ ap (λ (l : List ℤ). sets l (count * 4) (edge_numbers (edge_at xs ys j))) g.list
            ∙ entry_more edge_numbers edge_from 4 edge-width (edges j) (edge_at xs ys j) lent count (sym g.counted)
            (omega (arith, g.counted, room, given-room j e h p.0))
            ∙ sym (ap (λ (l : List Edge). over (flat edge_numbers l) lent) more);
      }
    where
      length-snoc : (l : List Edge) (x : Edge) → length (l ++ (x ∷ [])) ≡ length l + 1
      length-snoc [] x = refl
      length-snoc (y ∷ l) x = omega (arith, length-snoc l x)

  pub given-end : (lent : List ℤ) (e j count : ℕ) (t : List ℤ) → j ≤ e → e ≤ j → Given lent j count t →
      (count ≡ length (edges e)) × (t ≡ over (flat edge_numbers (edges e)) lent)
  given-end lent e j count t h k g =
      let f : j ≡ e = omega (arith, h, k) in
      (g.counted ∙ ap (λ (i : ℕ). length (edges i)) f, g.list ∙ ap (λ (i : ℕ). over (flat edge_numbers (edges i)) lent) f)

  -- The metal of those of the first j

  pub metal-none : 0 ≡ lengths distance (edges 0)
  unfolding marked_edges lengths total
  metal-none = let none = marks-none used in rw none refl

  pub metal-more : (j sum r : ℕ) → sum ≡ lengths distance (edges j) → LengthOf xs ys used j r → sum + r ≡ lengths distance (edges (j + 1))
  metal-more j sum r e (inl p) = let f = ap (lengths distance) (edges-miss j p.0) in omega (arith, e, p.1, f)
  metal-more j sum r e (inr p) =
      let f = ap (lengths distance) (edges-hit j p.0) in
      omega (arith, e, p.1, f, lengths-append distance (edges j) (edge_at xs ys j ∷ []), lone (edge_at xs ys j))

  pub metal-end : (e j sum : ℕ) → j ≤ e → e ≤ j → sum ≡ lengths distance (edges j) → sum ≡ lengths distance (edges e)
  metal-end e j sum h k f = let i : j ≡ e = omega (arith, h, k) in f ∙ ap (λ (n : ℕ). lengths distance (edges n)) i
