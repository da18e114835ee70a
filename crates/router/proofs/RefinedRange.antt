-- Every end of the refined tree's edges is in range: vertices of the graph are, and each coordinate of a middle place is one of three in
-- range. So it is from the start through every round, and pruning brings nothing.
-- Assumes nothing.
use mathlib.Core.Path.{◌≡◌, sym, subst}
use mathlib.Core.Bool.{false}
use mathlib.Core.Logic.{inl, inr}
use mathlib.Core.List.{List}
use Prim.Native.Nat.{ℕ, zero, suc}
use lib.IntN.{ℤ}
use lib.ListN.{length}
use lib.Signed.{le_z}
use Rattle.lists.specs.Member.{◌∈◌}
use Rattle.lists.proofs.TestLaws.{by, either}
use Rattle.signed.specs.Order.{z_min, z_max}
use Rattle.joined.specs.Joined.{Link, Alike}
use Rattle.joined.specs.OneTree.{Point}
use Rattle.joined.specs.Way.{On}
use Rattle.joined.proofs.WayLaws.{on-link}
use Rattle.plane.specs.declared.Place.{Place}
use Rattle.plane.specs.Middle.{middle, middle_place}
use Rattle.net.specs.Net.{Net}
use Rattle.net.specs.Tests.{out_of_range}
use Rattle.net.specs.Allowed.{PlaceInRange, Allowed}
use Rattle.rules.specs.Edges.{Edge}
use Rattle.rules.specs.Spanning.{Vertex}
use Rattle.rules.specs.Terminal.{Path}
use Rattle.rules.specs.Refined.{After, Round, Rounds, Strips, same, strip, Refined}
use Rattle.rules.specs.Demand.{TerminalAs}

-- the smaller, the greater and the middle are among what they are taken of
module _ (P : ℤ → Type 0) where
  smaller-has : (a b : ℤ) → P a → P b → P (z_min a b)
  unfolding z_min
  smaller-has a b p q = by (le_z a b) (λ e. rw (z_min, e) p) (λ e. rw (z_min, e) q)

  greater-has : (a b : ℤ) → P a → P b → P (z_max a b)
  unfolding z_max
  greater-has a b p q = by (le_z a b) (λ e. rw (z_max, e) q) (λ e. rw (z_max, e) p)

  middle-has : (a b c : ℤ) → P a → P b → P c → P (middle a b c)
  unfolding middle
  middle-has a b c p q r =
      greater-has (z_min a b) (z_min (z_max a b) c) (smaller-has a b p q) (smaller-has (z_max a b) c (greater-has a b p q) r)

abbrev In : ℤ → Type 0
In z = out_of_range z ≡ false

middle-in-range : (a b u : Place) → PlaceInRange a → PlaceInRange b → PlaceInRange u → PlaceInRange (middle_place a b u)
unfolding middle_place
middle-in-range a b u p q r = record {
  x = middle-has In a.x b.x u.x p.x q.x r.x;
  y = middle-has In a.y b.y u.y p.y q.y r.y;
}

-- both ends of each edge are in range
abbrev pub Ranged : List Edge → Type 0
Ranged T = (e : Edge) → e ∈ T → PlaceInRange e.0 × PlaceInRange e.1

link-ranged : {T : List Edge} → Ranged T → {a b : Place} → Link T a b → PlaceInRange a × PlaceInRange b
link-ranged h (inl m) = h _ m
link-ranged h (inr m) = let r = h _ m in (r.1, r.0)

alike-ranged : {x y a b : Place} → PlaceInRange a → PlaceInRange b → Alike x y a b → PlaceInRange x × PlaceInRange y
alike-ranged p q (inl e) = (subst PlaceInRange (sym e.0) p, subst PlaceInRange (sym e.1) q)
alike-ranged p q (inr e) = (subst PlaceInRange (sym e.0) q, subst PlaceInRange (sym e.1) p)

module _ {net : Net} (a : Allowed net) {G : List Edge} (graph : Ranged G) where
  vertex-ranged : (v : Place) → Vertex net v → PlaceInRange v
  vertex-ranged v (inl m) = a.pins-in-range v m
  vertex-ranged v (inr (m, (i, c))) =
      let r = a.macros-in-range m i in
      record {
        x = either (λ e. subst In (sym e) r.left) (λ e. subst In (sym e) r.right) c.0;
        y = either (λ e. subst In (sym e) r.bottom) (λ e. subst In (sym e) r.top) c.1;
      }

  point-ranged : {T : List Edge} → Ranged T → (u : Place) → Point net.pins T u → PlaceInRange u
  point-ranged h u (inl m) = a.pins-in-range u m
  point-ranged h u (inr (z, l)) = (link-ranged h l).0

  round-ranged : {T U : List Edge} → Ranged T → Round net G T U → Ranged U
  round-ranged {T} {U} h r e m = at ((r.edges e).0 m)
    where
      ends : PlaceInRange r.a × PlaceInRange r.b
      ends = h _ r.takes.taken.candidate.edge

      third : PlaceInRange r.u
      third =
          either (λ i. point-ranged h r.u i.1.0) (λ i. vertex-ranged r.u i.1.vertex) r.takes.taken.candidate.reach

      middle-ranged : PlaceInRange (middle_place r.a r.b r.u)
      middle-ranged = middle-in-range r.a r.b r.u ends.0 ends.1 third

      at : After G T r.a r.b r.u r.qs r.l e → PlaceInRange e.0 × PlaceInRange e.1
      at (inl i) = h e i.0
      at (inr (inl i)) = alike-ranged middle-ranged ends.0 i.1
      at (inr (inr (inl i))) = alike-ranged middle-ranged ends.1 i.1
      at (inr (inr (inr (inl i)))) = alike-ranged middle-ranged third i.1
      at (inr (inr (inr (inr s)))) = graph e s.edge

  rounds-ranged : (m : ℕ) (T U : List Edge) → Ranged T → Rounds net G m T U → Ranged U
  rounds-ranged zero T U h r e i = h e (r.1 e i)
  rounds-ranged (suc m) T U h (inl r) e i = h e (r.1.1 e i)
  rounds-ranged (suc m) T U h (inr (X, (r, more))) e i = rounds-ranged m X U (round-ranged h r) more e i

  strips-ranged : {T R : List Edge} → Ranged T → Strips net T R → Ranged R
  strips-ranged h (same s) e i = h e (s.1 e i)
  strips-ranged h (strip v d l left more) e i = strips-ranged (λ f j. h f ((left f).0 j).0) more e i

  pub refined-in-range : {ks : List Path} {rs : List Edge} → ((k : Path) → k ∈ ks → TerminalAs net G k) → Refined net G ks rs → Ranged rs
  refined-in-range {ks} {rs} terminal r =
      strips-ranged (rounds-ranged (length net.pins) r.start r.refines.rounded start r.refines.rounds)
      r.refines.prunes.strips
    where
      start : Ranged r.start
      start e m =
          let o = (r.union e).0 m in
          let k = o.path in
          let t = terminal k o.among in
          link-ranged graph (on-link t.path.way e.0 e.1
          (subst (λ (x : Place). On e.0 e.1 x t.path.points) (sym t.start_is)
          (subst (λ (qs : List Place). On e.0 e.1 k.start qs) (sym t.points-are) o.on)))
