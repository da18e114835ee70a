-- Edges: an edge joins u and v exactly when one of them picks the other; what holds of each edge; edges are ascending, and at most four
-- a vertex. The sorted list holds the edge of each pick of each vertex, and an edge's two ends tell which pair of places it is of.
-- Assumes nothing.
use mathlib.Core.Path.{◌≡◌, refl, ◌∙◌}
use mathlib.Core.Bool.{true, false}
use mathlib.Core.Logic.{◌⊎◌, inl, inr}
use mathlib.Core.List.Memᴰ
use mathlib.Core.List.{List}
use Prim.Native.Nat.{◌*◌, ◌≤◌}
use native.Mathlib.Omega.{arith}
use lib.ListN.{length}
use Rattle.lists.specs.Member.{◌∈◌, here, there, Once}
use Rattle.lists.specs.Sorted.{Order, Ascending}
use Rattle.lists.proofs.TestLaws.{by, either}
use Rattle.lists.proofs.EachLaws.{of-each, in-each, length-each}
use Rattle.lists.proofs.OrderLaws.{pair-order}
use Rattle.lists.proofs.SortedLaws.{of-sorted, in-sorted, length-sorted, sorted-ascending, ascending-once}
use Rattle.lists.proofs.PermLaws.{before-differs}
use Rattle.joined.specs.Joined.{Link, Inside}
use Rattle.joined.proofs.JoinedLaws.{firsts, seconds}
use Rattle.plane.specs.declared.Place.{Place}
use Rattle.plane.specs.declared.Macro.{Macro}
use Rattle.plane.specs.declared.Weights.{Weights}
use Rattle.plane.specs.Place.{before}
use Rattle.plane.specs.Cost.{cost, Positive}
use Rattle.plane.specs.Macro.{clear}
use Rattle.plane.proofs.PlaceOrder.{place-order}
use Rattle.plane.proofs.CostLaws.{cost-comm, cost-none}
use Rattle.plane.proofs.MacroLaws.{clear_comm}
use Rattle.picks.specs.declared.Quadrant.{Quadrant}
use Rattle.picks.specs.declared.Quadrant.TheVariants.{First, Second, Third, Fourth}
use Rattle.std.specs.Prelude.{Option, Some, None}
use Rattle.picks.specs.Pick.{pick}
use Rattle.graph.specs.Edges.{edge_of, before_edge, edge_of_pick, picks_of, all_picks, edges}
use Rattle.graph.proofs.GraphSteps.{picks-none, picks_more, picks-few}
use Rattle.picks.proofs.QuadrantLaws.{within-differs}
use Rattle.picks.proofs.PickLaws.{pick_at}

-- The order of edges, and the edge of two places

-- N16: the order of edges, by first place and then by second
pub edge_order : Order before_edge
unfolding before_edge
edge_order = pair-order before before place-order place-order

-- u and v, smaller first: whatever holds of both orders
pub edge-cases : (P : Place × Place → Type 0) (u v : Place)
    → (before u v ≡ true → P (u, v)) → (before u v ≡ false → P (v, u)) → P (edge_of u v)
unfolding edge_of
edge-cases P u v f g = by (before u v) (λ e. rw (edge_of, e) (f e)) (λ e. rw (edge_of, e) (g e))

-- Who picks whom

module _ (w : Weights) (ms : List Macro) (vs : List Place) where
  -- the vertex u picks v in some quadrant
  pub record PickedBy (u v : Place) : Type 0 where
    pub stands : u ∈ vs
    pub quadrant : Quadrant
    pub picks : pick w ms quadrant u vs ≡ Some v

  -- e is the edge of two places, of which the first picks the second
  pub record OfPick (e : Place × Place) : Type 0 where
    pub from : Place
    pub to : Place
    pub picked : PickedBy from to
    pub is : e ≡ edge_of from to

  of_one : (u : Place) → u ∈ vs → (q : Quadrant) {e : Place × Place} → e ∈ edge_of_pick u (pick w ms q u vs) → OfPick e
  unfolding edge_of_pick
  of_one u i q {e} m = at (pick w ms q u vs) refl m
    where
      at : (p : Option Place) → pick w ms q u vs ≡ p → e ∈ edge_of_pick u p → OfPick e
      at None k m = elim m [ ]
      at (Some v) k (here h) = record { from = u; to = v; picked = record { stands = i; quadrant = q; picks = k }; is = h }
      at (Some v) k (there m) = elim m [ ]

  of-picks : (u : Place) → u ∈ vs → {e : Place × Place} → e ∈ picks_of w ms vs u → OfPick e
  unfolding picks_of
  of-picks u i m =
      either (of_one u i First)
      (λ m. either (of_one u i Second)
      (λ m. either (of_one u i Third) (of_one u i Fourth)
      (Memᴰ.append_cases (edge_of_pick u (pick w ms Third u vs)) m)) (Memᴰ.append_cases (edge_of_pick u (pick w ms Second u vs)) m))
      (Memᴰ.append_cases (edge_of_pick u (pick w ms First u vs)) m)

  in_one : (q : Quadrant) (u v : Place) → pick w ms q u vs ≡ Some v → edge_of u v ∈ edge_of_pick u (pick w ms q u vs)
  unfolding edge_of_pick
  in_one q u v e = rw e (here refl)

  in-picks : (q : Quadrant) (u v : Place) → pick w ms q u vs ≡ Some v → edge_of u v ∈ picks_of w ms vs u
  unfolding picks_of
  in-picks First u v e = Memᴰ.append_left _ (in_one First u v e)
  in-picks Second u v e = Memᴰ.append_right (edge_of_pick u (pick w ms First u vs)) (Memᴰ.append_left _ (in_one Second u v e))
  in-picks Third u v e =
      Memᴰ.append_right (edge_of_pick u (pick w ms First u vs))
      (Memᴰ.append_right (edge_of_pick u (pick w ms Second u vs)) (Memᴰ.append_left _ (in_one Third u v e)))
  in-picks Fourth u v e =
      Memᴰ.append_right (edge_of_pick u (pick w ms First u vs))
      (Memᴰ.append_right (edge_of_pick u (pick w ms Second u vs))
      (Memᴰ.append_right (edge_of_pick u (pick w ms Third u vs)) (in_one Fourth u v e)))

  -- e is an edge exactly when it is the edge of a pick
  pub of-edges : {e : Place × Place} → e ∈ edges w ms vs → OfPick e
  unfolding edges
  of-edges m =
      let p = of-each (picks_of w ms vs) (all_picks w ms vs) (picks-none w ms vs) (picks_more w ms vs) vs
      (of-sorted before_edge (all_picks w ms vs vs) _ m) in
      of-picks p.entry p.stands p.holds

  pub pick-edge : {u v : Place} → PickedBy u v → edge_of u v ∈ edges w ms vs
  unfolding edges
  pick-edge {u} {v} p =
      in-sorted before_edge edge_order (all_picks w ms vs vs) _
      (in-each (picks_of w ms vs) (all_picks w ms vs) (picks-none w ms vs) (picks_more w ms vs) vs p.stands
      (in-picks p.quadrant u v p.picks))

  pub in-edges : {e : Place × Place} → OfPick e → e ∈ edges w ms vs
  in-edges r = Memᴰ.cast r.is (pick-edge r.picked)

  same_ends : {u v a b : Place} → u ≡ a → v ≡ b → PickedBy a b → PickedBy u v
  same_ends e f p = rw (e, f) p

  -- G5: an edge is where one of its ends picks the other
  ends : (u v : Place) → (u, v) ∈ edges w ms vs → PickedBy u v ⊎ PickedBy v u
  ends u v m =
      let r = of-edges m in
      edge-cases (λ x. (u, v) ≡ x → PickedBy u v ⊎ PickedBy v u) r.from r.to
      (λ b e. inl (same_ends (firsts e) (seconds e) r.picked))
      (λ b e. inr (same_ends (seconds e) (firsts e) r.picked))
      r.is

  pub link-picked : (u v : Place) → Link (edges w ms vs) u v → PickedBy u v ⊎ PickedBy v u
  link-picked u v (inl m) = ends u v m
  link-picked u v (inr m) = either inr inl (ends v u m)

  picked-joins : (u v : Place) → PickedBy u v → Link (edges w ms vs) u v
  picked-joins u v p =
      edge-cases (λ x. x ∈ edges w ms vs → Link (edges w ms vs) u v) u v (λ b m. inl m) (λ b m. inr m) (pick-edge p)

  pub picked-link : (u v : Place) → PickedBy u v ⊎ PickedBy v u → Link (edges w ms vs) u v
  picked-link u v (inl p) = picked-joins u v p
  picked-link u v (inr p) = either inr inl (picked-joins v u p)

  -- How many, and in order

  pub edges-ascending : Ascending before_edge (edges w ms vs)
  unfolding edges
  edges-ascending = sorted-ascending before_edge edge_order (all_picks w ms vs vs)

  pub edges-once : Once (edges w ms vs)
  edges-once = ascending-once before_edge edge_order (edges w ms vs) edges-ascending

  pub length-edges : length (edges w ms vs) ≤ 4 * length vs
  unfolding edges
  length-edges =
      omega (
        arith,
        length-sorted before_edge (all_picks w ms vs vs),
        length-each (picks_of w ms vs) (all_picks w ms vs) (picks-none w ms vs) (picks_more w ms vs) 4 (picks-few w ms vs) vs,
      )

-- What holds of each edge

module _ (ms : List Macro) (vs : List Place) where
  pub record Edge (a b : Place) : Type 0 where
    pub first : a ∈ vs
    pub second : b ∈ vs
    -- N16: the smaller place comes first
    pub smaller-first : before a b ≡ true
    pub different : a ≡ b → ⊥
    pub is-clear : clear a b ms ≡ true

  edge : (a b : Place) → a ∈ vs → b ∈ vs → clear a b ms ≡ true → before a b ≡ true → Edge a b
  edge a b i j c e =
      record { first = i; second = j; smaller-first = e; different = before-differs place-order a b e; is-clear = c }

  module _ (w : Weights) (ascending : Ascending before vs) where
    picked-edge : (u v : Place) → PickedBy w ms vs u v → Edge (edge_of u v).0 (edge_of u v).1
    picked-edge u v p =
        let r = pick_at w ms p.quadrant u vs ascending v p.picks in
        let other : u ≡ v → ⊥ = within-differs p.quadrant u v r.fit.in-quadrant in
        let c = r.fit.is-clear in
        edge-cases (λ x. Edge x.0 x.1) u v
        (λ e. edge u v p.stands r.stands c e)
        (λ e. edge v u r.stands p.stands (clear_comm v u ms ∙ c)
        (by (before v u) (λ f. f) (λ f. absurd (other (place-order.tie u v e f)))))

    pub edge-of : (e : Place × Place) → e ∈ edges w ms vs → Edge e.0 e.1
    edge-of e m = let r = of-edges w ms vs m in rw r.is (picked-edge r.from r.to r.picked)

    -- both ends are vertices
    pub edges-inside : Inside vs (edges w ms vs)
    edges-inside a b m = let r = edge-of (a, b) m in (r.first, r.second)

module _ (w : Weights) where
  -- G6: an edge costs what metal between its ends costs, whichever picks
  pub edge-cost : (u v : Place) → cost w (edge_of u v).0 (edge_of u v).1 ≡ cost w u v
  edge-cost u v = edge-cases (λ x. cost w x.0 x.1 ≡ cost w u v) u v (λ e. refl) (λ e. cost-comm w v u)

  -- with positive weights it costs 1 at least: its ends differ
  pub edge-some : Positive w → {ms : List Macro} {vs : List Place} (a b : Place) → Edge ms vs a b → 1 ≤ cost w a b
  edge-some p a b r =
      let d : cost w a b ≡ 0 → ⊥ = λ z. r.different (cost-none w p a b z) in
      omega arith
