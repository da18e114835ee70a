-- The way from a point beside the tree: no point of it but its end is a tree point, it is loop-free, and there is only one.
-- Assumes nothing.
use mathlib.Core.Path.{◌≡◌, refl, sym, ap, ap₂, ◌∙◌, subst}
use mathlib.Core.Bool.{false}
use mathlib.Core.List.{List, [], ◌∷◌}
use Prim.Native.Nat.{ℕ, ◌+◌, ◌≤◌, ◌<◌}
use native.Mathlib.Omega.{arith}
use Rattle.lists.specs.Member.{◌∈◌, here, there, Once}
use Rattle.plane.specs.declared.Place.{Place}
use Rattle.plane.proofs.PlaceOrder.{place-order}
use Rattle.joined.specs.Joined.{Link}
use Rattle.joined.specs.Way.{Way, stop, go, long}
use Rattle.joined.specs.OneTree.{Point}
use Rattle.joined.proofs.WayLaws.{way-cast}
use Rattle.net.specs.Net.{Net, cost_in}
use Rattle.rules.specs.Edges.{Edge}
use Rattle.rules.specs.Spanning.{Vertex}
use Rattle.rules.specs.Refined.{Shortest, Lowest, Beside}

-- what is asked of a graph: its edges cost something, and join vertices
pub record Lawful (net : Net) (G : List Edge) : Type 0 where
  pub positive : (x y : Place) → Link G x y → 0 < cost_in net x y
  pub vertex : (x y : Place) → Link G x y → Vertex net y

-- a way parted at one of its points
pub record PartedAt (net : Net) (G : List Edge) (x c v : Place) (qs : List Place) : Type 0 where
  pub first : List Place
  pub second : List Place
  pub to : Way G x first c
  pub from : Way G c second v
  pub lengths : long (cost_in net) x qs ≡ long (cost_in net) x first + long (cost_in net) c second

module _ {net : Net} {G : List Edge} where
  pub parted : {c x v : Place} {qs : List Place} → Way G x qs v → c ∈ (x ∷ qs) → PartedAt net G x c v qs
  unfolding long
  parted {c = c} {qs = qs} w (here e) = record {
    first = [];
    second = qs;
    to = stop (sym e);
    from = way-cast e w;
    lengths = omega (arith, ap (λ (z : Place). long (cost_in net) z qs) e);
  }
  parted (stop e) (there m) = elim m [ ]
  parted (go {x = x} {y = y} l w) (there m) =
      let r = parted w m in
      record { first = y ∷ r.first; second = r.second; to = go l r.to; from = r.from; lengths = omega (arith, r.lengths) }

module _ {net : Net} {G : List Edge} (law : Lawful net G) where
  pub link-long : {x y : Place} → Link G x y → 0 < cost_in net x y
  link-long {x} {y} l = law.positive x y l

  -- a way of length zero stands still
  pub zero-way : {x v : Place} {qs : List Place} → Way G x qs v → long (cost_in net) x qs ≡ 0 → x ≡ v
  unfolding long
  zero-way (stop e) z = e
  zero-way (go l w) z = absurd (let f : ⊥ = omega (arith, link-long l) in f)

  -- Shortest ways

  pub shortest-rest : {x y v : Place} {qs : List Place} → Link G x y → Way G y qs v →
      ((rs : List Place) → Way G x rs v → long (cost_in net) x (y ∷ qs) ≤ long (cost_in net) x rs) → Shortest net G y qs v
  unfolding long
  shortest-rest {y = y} l w h = (w, λ rs v. omega (arith, h (y ∷ rs) (go l v)))

  pub shortest-once : {x v : Place} {qs : List Place} → Way G x qs v →
      ((rs : List Place) → Way G x rs v → long (cost_in net) x qs ≤ long (cost_in net) x rs) → Once (x ∷ qs)
  unfolding long
  shortest-once (stop e) h = (λ m. elim m [ ], tt)
  shortest-once (go {x = x} {y = y} l w) h = (
    λ m.
        let r = parted {net = net} {G = G} w m in
        omega (arith, r.lengths, h r.second r.from, link-long l),
    shortest-once w (shortest-rest l w h).1,
  )

  -- the way by smallest next vertices is the only one
  pub lowest-only : {x v : Place} {qs rs : List Place} → Way G x qs v → Way G x rs v →
      ((ts : List Place) → Way G x ts v → long (cost_in net) x qs ≤ long (cost_in net) x ts) →
      ((ts : List Place) → Way G x ts v → long (cost_in net) x rs ≤ long (cost_in net) x ts) →
      Lowest net G x qs v → Lowest net G x rs v → qs ≡ rs
  unfolding long
  lowest-only (stop e) (stop f) h k p q = refl
  lowest-only (stop e) (go l w) h k p q = absurd (let z : ⊥ = omega (arith, k [] (stop e), link-long l) in z)
  lowest-only (go l w) (stop e) h k p q = absurd (let z : ⊥ = omega (arith, h [] (stop e), link-long l) in z)
  lowest-only {v = v} (go {x = x} {y = y} {ps = qs} l w) (go {y = z} {ps = rs} m u) h k p q =
      ap₂ (λ (c : Place) (cs : List Place). c ∷ cs) e
      (lowest-only w (way-cast e u) (shortest-rest l w h).1 least p.1 (subst (λ (c : Place). Lowest net G c rs v) (sym e) q.1))
    where
      e : y ≡ z
      e = place-order.tie y z (q.0 y qs (go l w, h)) (p.0 z rs (go m u, k))

      least : (ts : List Place) → Way G y ts v → long (cost_in net) y rs ≤ long (cost_in net) y ts
      least = (subst (λ (c : Place). Shortest net G c rs v) (sym e) (shortest-rest m u k)).1

  -- A point beside the tree

  -- a point of a graph way from a vertex is a vertex
  pub way-vertex : {c x v : Place} {qs : List Place} → Vertex net x → Way G x qs v → c ∈ (x ∷ qs) → Vertex net c
  way-vertex i w (here e) = subst (λ (z : Place). Vertex net z) (sym e) i
  way-vertex i (stop e) (there m) = elim m [ ]
  way-vertex i (go {x = x} {y = y} l w) (there m) = way-vertex (law.vertex x y l) w m

  module _ {T : List Edge} {u v : Place} {qs : List Place} (p : Beside net G T u v qs) where
    pub beside-shortest : Shortest net G u qs v
    beside-shortest = (p.way, λ rs w. p.nearest v rs p.point p.itself w)

    pub beside-once : Once (u ∷ qs)
    beside-once = shortest-once p.way beside-shortest.1

    -- only its end is a tree point: another one would be nearer
    pub beside-meets : (c : Place) → c ∈ (u ∷ qs) → Point net.pins T c → c ≡ v
    beside-meets c m i =
        let r = parted {net = net} {G = G} p.way m in
        zero-way r.from (omega (arith, r.lengths, p.nearest c r.first i (way-vertex p.vertex p.way m) r.to))

  -- there is one nearest tree point and one way
  pub beside-only : {T : List Edge} {u v w : Place} {qs rs : List Place} → Beside net G T u v qs → Beside net G T u w rs
      → (v ≡ w) × (qs ≡ rs)
  beside-only {T} {u} {v} {w} {qs} {rs} p q =
      (e, lowest-only p.way other.0 (beside-shortest p).1 other.1 p.lowest (subst (Lowest net G u rs) (sym e) q.lowest))
    where
      even : long (cost_in net) u qs ≡ long (cost_in net) u rs
      even = omega (arith, p.nearest w rs q.point q.itself q.way, q.nearest v qs p.point p.itself p.way)

      e : v ≡ w
      e =
          place-order.tie v w (q.smallest v qs p.point p.itself p.way even)
          (p.smallest w rs q.point q.itself q.way (sym even))

      other : Shortest net G u rs v
      other = subst (Shortest net G u rs) (sym e) (beside-shortest q)
