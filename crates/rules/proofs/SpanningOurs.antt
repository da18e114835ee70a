-- The graph that is worked out is the spanning graph, and the only one. A pick that the scan finds is a pick by the rule and back
-- (`pick_at`, `pick-only`); so are the edges, which are those of picks.
-- Assumes nothing.
use mathlib.Core.Path.{◌≡◌, refl, sym, ap, ap₂, ◌∙◌, subst}
use mathlib.Core.Bool.{true, false}
use mathlib.Core.Logic.{inl, inr}
use mathlib.Core.List.Memᴰ
use mathlib.Core.List.{List}
use Prim.Native.Nat.{◌≤◌}
use native.Mathlib.Omega.{arith}
use borrow.Author.Tests.{ltb-true, ltb-false}
use lib.Dec.{ltb}
use lib.Signed.{lt_z, le_z}
use Rattle.lists.specs.Member.{◌∈◌}
use Rattle.lists.specs.Sorted.{Ascending}
use Rattle.lists.proofs.TestLaws.{by, differ, either, and_left, and_right, and_both}
use Rattle.joined.specs.Joined.{Link}
use Rattle.plane.specs.declared.Place.{Place}
use Rattle.plane.specs.declared.Macro.{Macro}
use Rattle.plane.specs.Place.{place, before}
use Rattle.plane.proofs.PlaceOrder.{place-order}
use Rattle.net.specs.Net.{Net, cost_in}
use Rattle.graph.specs.Spanning.{vertices_of, spanning}
use Rattle.picks.specs.declared.Quadrant as code
use Rattle.picks.specs.declared.Quadrant.TheVariants.{First, Second, Third, Fourth}
use Rattle.std.specs.Prelude.{Some}
use Rattle.picks.specs.Pick.{within}
use Rattle.graph.specs.Vertices.{corners_of}
use Rattle.graph.specs.Edges.{before_edge, edges as our_edges}
use Rattle.picks.proofs.QuadrantLaws.{one-quadrant}
use Rattle.graph.proofs.VertexLaws.{lower-left, upper-left, lower-right, upper-right, at-corner, pin-vertex, corner-vertex}
use Rattle.graph.proofs.VertexLaws.{of-vertices, vertices-ascending}
use Rattle.picks.proofs.PickLaws.{Fit, Preferred, PicksAt, pick_at, pick-only}
use Rattle.graph.proofs.EdgeLaws.{PickedBy, link-picked, picked-link, edge-of}
use Rattle.graph.proofs.GraphBounds.{spanning-ascending}
use Rattle.rules.specs.Edges.{Edge}
use Rattle.rules.specs.Spanning.{CornerOf, Vertex, Quadrant, first, second, third, fourth, Lies, May, Picks, Neighbours, Spanning}
use Rattle.rules.proofs.SpanningOnly.{vertices-one, edges-one}

never_back : (v w : Place) → before v w ≡ true → before w v ≡ false
never_back v w h = by (before w v) (λ k. differ (place-order.along v w v h k) (place-order.never v)) (λ k. k)

-- Vertices

corner-of : (m : Macro) (v : Place) → v ∈ corners_of m → CornerOf m v
corner-of m =
    at-corner m (CornerOf m) (inl refl, inl refl) (inl refl, inr refl) (inr refl, inl refl) (inr refl, inr refl)

of-corner : (m : Macro) (v : Place) → CornerOf m v → v ∈ corners_of m
of-corner m v (inl x, inl y) = Memᴰ.cast (ap₂ place x y) (lower-left m)
of-corner m v (inl x, inr y) = Memᴰ.cast (ap₂ place x y) (upper-left m)
of-corner m v (inr x, inl y) = Memᴰ.cast (ap₂ place x y) (lower-right m)
of-corner m v (inr x, inr y) = Memᴰ.cast (ap₂ place x y) (upper-right m)

module _ (net : Net) where
  vertex-of : (v : Place) → v ∈ vertices_of net → Vertex net v
  vertex-of v i = either inl (λ c. inr (c.entry, (c.stands, corner-of c.entry v c.holds))) (of-vertices net i)

  of-vertex : (v : Place) → Vertex net v → v ∈ vertices_of net
  of-vertex v (inl i) = pin-vertex net i
  of-vertex v (inr (m, (i, c))) = corner-vertex net i (of-corner m v c)

-- Quadrants

coded : Quadrant → code.Quadrant
coded first = First
coded second = Second
coded third = Third
coded fourth = Fourth

lies_within : (q : Quadrant) (u v : Place) → Lies q u v → within (coded q) u v ≡ true
unfolding within coded
lies_within first u v h = and_both _ _ h.0 h.1
lies_within second u v h = and_both _ _ h.0 h.1
lies_within third u v h = and_both _ _ h.0 h.1
lies_within fourth u v h = and_both _ _ h.0 h.1

within-lies : (q : Quadrant) (u v : Place) → within (coded q) u v ≡ true → Lies q u v
unfolding within coded
within-lies first u v e = (and_left _ (le_z u.y v.y) e, and_right (lt_z u.x v.x) _ e)
within-lies second u v e = (and_left _ (lt_z u.y v.y) e, and_right (le_z v.x u.x) _ e)
within-lies third u v e = (and_left _ (le_z v.y u.y) e, and_right (lt_z v.x u.x) _ e)
within-lies fourth u v e = (and_left _ (lt_z v.y u.y) e, and_right (le_z u.x v.x) _ e)

-- every quadrant of the code is one of the rule's, and only one
uncoded : code.Quadrant → Quadrant
uncoded First = first
uncoded Second = second
uncoded Third = third
uncoded Fourth = fourth

decoded : (q : code.Quadrant) → q ≡ coded (uncoded q)
unfolding coded uncoded
decoded First = refl
decoded Second = refl
decoded Third = refl
decoded Fourth = refl

encoded : (q : Quadrant) → q ≡ uncoded (coded q)
unfolding coded uncoded
encoded first = refl
encoded second = refl
encoded third = refl
encoded fourth = refl

-- G3: each other place lies in exactly one quadrant
pub lies-one : (u v : Place) → (u ≡ v → ⊥) → (q : Quadrant) × (Lies q u v × ((r : Quadrant) → Lies r u v → r ≡ q))
lies-one u v n =
    let o = one-quadrant u v n in (
      uncoded o.quadrant,
      (
        within-lies (uncoded o.quadrant) u v
            (subst (λ (z : code.Quadrant). within z u v ≡ true) (decoded o.quadrant) o.holds),
        λ r h. encoded r ∙ ap uncoded (o.alone (coded r) (lies_within r u v h)),
      ),
    )

-- Picks

module _ (net : Net) (vs : List Place) (ascending : Ascending before vs) where
  may-fit : (q : Quadrant) (u w : Place) → May net vs q u w → Fit net.macros (coded q) u w
  may-fit q u w x = record { in-quadrant = lies_within q u w x.lies; is-clear = x.seen }

  fit-may : (q : Quadrant) (u w : Place) → w ∈ vs → Fit net.macros (coded q) u w → May net vs q u w
  fit-may q u w i f = record { vertex = i; lies = within-lies q u w f.in-quadrant; seen = f.is-clear }

  near_of : (u v w : Place) → Preferred net.weights u v w → cost_in net u v ≤ cost_in net u w
  near_of u v w (inl h) = omega arith
  near_of u v w (inr h) = omega (arith, h.0)

  small_of : (u v w : Place) → Preferred net.weights u v w → cost_in net u w ≡ cost_in net u v → before w v ≡ false
  small_of u v w (inl h) e = absurd (let z : ⊥ = omega (arith, h, e) in z)
  small_of u v w (inr h) e = either (λ k. rw k (place-order.never w)) (never_back v w) h.1

  preferred-of : (u v w : Place) → cost_in net u v ≤ cost_in net u w → (cost_in net u w ≡ cost_in net u v → before w v ≡ false) →
      Preferred net.weights u v w
  preferred-of u v w n s =
      by (ltb (cost_in net u v) (cost_in net u w))
      (λ h. inl (ltb-true (cost_in net u v) (cost_in net u w) h))
      (λ h.
      let e : cost_in net u w ≡ cost_in net u v = omega (arith, n, ltb-false (cost_in net u v) (cost_in net u w) h) in
      inr (sym e, by (before v w) inr (λ k. inl (place-order.tie v w k (s e)))))

  picks_of : (u v : Place) → PickedBy net.weights net.macros vs u v → Picks net vs u v
  picks_of u v p =
      let q = uncoded p.quadrant in
      let r : PicksAt net.weights net.macros (coded q) u vs v
      = subst (λ (z : code.Quadrant). PicksAt net.weights net.macros z u vs v) (decoded p.quadrant)
      (pick_at net.weights net.macros p.quadrant u vs ascending v p.picks) in
      record {
        quadrant = q;
        may = fit-may q u v r.stands r.fit;
        nearest = λ w x. near_of u v w (r.least w x.vertex (may-fit q u w x));
        smallest = λ w x. small_of u v w (r.least w x.vertex (may-fit q u w x));
      }

  of-picks : (u v : Place) → u ∈ vs → Picks net vs u v → PickedBy net.weights net.macros vs u v
  of-picks u v i p =
      let q = p.quadrant in
      record {
        stands = i;
        quadrant = coded q;
        picks = pick-only net.weights net.macros (coded q) u vs ascending (Some v) (record {
          stands = p.may.vertex;
          fit = may-fit q u v p.may;
          least =
              λ w m f.
              let x = fit-may q u w m f in
              preferred-of u v w (p.nearest w x) (p.smallest w x);
        });
      }

  -- Edges

  neighbours-of : (u v : Place) → (u, v) ∈ our_edges net.weights net.macros vs → Neighbours net vs u v
  neighbours-of u v m =
      let e = edge-of net.macros vs net.weights ascending (u, v) m in
      record {
        smaller = e.smaller-first;
        one = e.first;
        other = e.second;
        picked = either (λ p. inl (picks_of u v p)) (λ p. inr (picks_of v u p)) (link-picked net.weights net.macros vs u v (inl m));
      }

  of-neighbours : (u v : Place) → Neighbours net vs u v → (u, v) ∈ our_edges net.weights net.macros vs
  of-neighbours u v j =
      at (picked-link net.weights net.macros vs u v (either (λ p. inl (of-picks u v j.one p))
      (λ p. inr (of-picks v u j.other p)) j.picked))
    where
      at : Link (our_edges net.weights net.macros vs) u v → (u, v) ∈ our_edges net.weights net.macros vs
      at (inl m) = m
      at (inr m) = differ (edge-of net.macros vs net.weights ascending (v, u) m).smaller-first (never_back u v j.smaller)

-- The graph

module _ (net : Net) where
  -- what is worked out is the spanning graph
  pub graph-ours : Spanning net (vertices_of net) (spanning net)
  unfolding before_edge
  graph-ours =
      let a = vertices-ascending net in
      record {
        vertices = λ v. (vertex-of net v, of-vertex net v);
        vertices-in-order = a;
        edges = λ u v. (neighbours-of net _ a u v, of-neighbours net _ a u v);
        edges-in-order = spanning-ascending net;
      }

  -- and there is no other
  pub graph-only : {vs : List Place} {es : List Edge} → Spanning net vs es →
      (vs ≡ vertices_of net) × (es ≡ spanning net)
  graph-only s = (vertices-one s graph-ours, edges-one s graph-ours)
