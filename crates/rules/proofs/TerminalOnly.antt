-- The terminal tree has one solution, over any graph and any pins: a vertex has one root, one parent and one way, so a bridge stands for
-- one path; the bridges in their turn are one list, and what is kept of a list is determined.
-- Assumes nothing.
use mathlib.Core.Path.{◌≡◌, refl, sym, ap, ap₂, ◌∙◌, subst}
use mathlib.Core.List.Memᴰ
use mathlib.Core.List.{List, ◌∷◌}
use native.Mathlib.Omega.{arith}
use lib.Dec.{ltb}
use Rattle.lists.specs.Member.{◌∈◌, Among}
use Rattle.lists.specs.Sorted.{Order, first_then}
use Rattle.lists.proofs.OrderLaws.{number-order, pair-order}
use Rattle.lists.proofs.SortedLaws.{ascending-alike}
use Rattle.joined.specs.Way.{turned}
use Rattle.joined.specs.Keep.{Keeping}
use Rattle.joined.proofs.KeepingLaws.{keeping-only}
use Rattle.plane.specs.declared.Place.{Place}
use Rattle.plane.proofs.PlaceOrder.{place-order}
use Rattle.net.specs.Net.{Net}
use Rattle.rules.specs.Edges.{Edge, edge_before}
use Rattle.rules.specs.Terminal.{Path, path_ends, path_cost, taken_first, Root, Parent, Up, arrived, upward, Bridge, Terminal}
use Rattle.rules.proofs.EdgeLaws.{edge_order}

-- paths are equal by their parts
pub path-same : (j k : Path) → j.bridge ≡ k.bridge → j.start ≡ k.start → j.points ≡ k.points → j.finish ≡ k.finish → j ≡ k
path-same j k e s p f =
    ap₂ (λ (b : Edge) (x : Place). record { bridge = b; start = x; points = j.points; finish = j.finish }) e s
    ∙ ap₂ (λ (l : List Place) (y : Place). record { bridge = k.bridge; start = k.start; points = l; finish = y }) p f

-- by length, then by bridge
pub weight-order : Order (first_then ltb edge_before)
weight-order = pair-order ltb edge_before number-order edge_order

module _ {net : Net} {G : List Edge} where
  pub root-only : {v p q : Place} → Root net G v p → Root net G v q → p ≡ q
  root-only {v} {p} {q} r s =
      let a = r.nearest q s.points s.pin s.way in
      let b = s.nearest p r.points r.pin r.way in
      place-order.tie p q (s.smallest p r.points r.pin r.way (omega arith))
      (r.smallest q s.points s.pin s.way (omega arith))

  pub parent-only : {v p q : Place} → Parent net G v p → Parent net G v q → p ≡ q
  parent-only {v} {p} {q} r s = place-order.tie p q (s.smallest p r.through) (r.smallest q s.through)

  pub up-only : {v w : Place} {qs rs : List Place} → v ≡ w → Up net G v qs → Up net G w rs → qs ≡ rs
  up-only e (arrived m) (arrived n) = refl
  up-only e (arrived m) (upward n p u) = absurd (n (subst (λ (x : Place). x ∈ net.pins) e m))
  up-only e (upward n p u) (arrived m) = absurd (n (subst (λ (x : Place). x ∈ net.pins) (sym e) m))
  up-only e (upward {p = x} n p u) (upward {p = y} k q w) =
      let f : x ≡ y = parent-only p (subst (λ (z : Place). Parent net G z y) (sym e) q) in
      ap₂ (λ (h : Place) (t : List Place). h ∷ t) f (up-only f u w)

  -- a bridge stands for one path
  pub bridge-only : (j k : Path) → Bridge net G j → Bridge net G k → j.bridge ≡ k.bridge → j ≡ k
  bridge-only j k b c e =
      path-same j k e
      (root-only b.start-root (subst (λ (z : Edge). Root net G z.0 k.start) (sym e) c.start-root))
      (b.points-are
      ∙ ap (λ (z : Edge). turned z.0 b.first (z.1 ∷ b.second)) e
      ∙ ap₂ (λ (p q : List Place). turned k.bridge.0 p (k.bridge.1 ∷ q))
      (up-only (ap (λ (z : Edge). z.0) e) b.first-up c.first-up)
      (up-only (ap (λ (z : Edge). z.1) e) b.second-up c.second-up)
      ∙ sym c.points-are)
      (root-only b.finish-root (subst (λ (z : Edge). Root net G z.1 k.finish) (sym e) c.finish-root))

  -- what one solution is offered, the other is
  offered-in : {js ks : List Path} (t : Terminal net G js) (s : Terminal net G ks) → Among t.offered s.offered
  offered-in t s k m =
      let b = t.bridges k m in
      let r = s.all k.bridge b.edge k.start k.finish b.start-root b.finish-root b.apart in
      Memᴰ.cast (bridge-only k r.0 b (s.bridges r.0 r.1.0) (sym r.1.1)) r.1.0

  pub terminal-one : {js ks : List Path} → Terminal net G js → Terminal net G ks → js ≡ ks
  terminal-one {js} {ks} t s =
      keeping-only path_ends t.keeps (subst (λ (l : List Path). Keeping path_ends _ l ks) (sym offered-one) s.keeps)
    where
      offered-one : t.offered ≡ s.offered
      offered-one =
          ascending-alike (taken_first net)
          (λ k. weight-order.never (path_cost net k, k.bridge))
          (λ i j k. weight-order.along (path_cost net i, i.bridge) (path_cost net j, j.bridge) (path_cost net k, k.bridge))
          t.offered s.offered t.in-turn s.in-turn (offered-in t s) (offered-in s t)
