-- A best tree of a shifted net costs what one of the net costs: edges of the grid that join all pins go over, both ways.
-- Assumes nothing.
use mathlib.Core.Path.{◌≡◌, refl, sym, ap₂, ◌∙◌, subst}
use mathlib.Core.Logic.{inl}
use mathlib.Core.List.{List, [], ◌∷◌, map}
use Prim.Native.Nat.{◌+◌}
use native.Mathlib.Omega.{arith}
use lib.IntN.{ℤ}
use Rattle.lists.specs.Member.{◌∈◌}
use Rattle.lists.specs.Total.{total}
use Rattle.lists.proofs.MapLaws.{in_map, of_map}
use Rattle.joined.specs.Joined.{Link, Joined}
use Rattle.joined.specs.Cost.{lengths}
use Rattle.joined.proofs.JoinedLaws.{one, carried, firsts, seconds}
use Rattle.joined.proofs.CarriedLaws.{link-carried}
use Rattle.plane.specs.declared.Place.{Place}
use Rattle.plane.specs.declared.Macro.{Macro}
use Rattle.plane.specs.declared.Weights.{Weights}
use Rattle.plane.specs.Cost.{cost}
use Rattle.net.specs.Net.{Net, cost_in}
use Rattle.lines.specs.Edges.{Edge, grid_edges}
use Rattle.rules.proofs.TreesOrder.{net_by, SameNet, turned}
use Rattle.best.specs.Tree.{JoinsPins, IsBest}
use Rattle.best.proofs.OrderLaws.{link-same}
use Rattle.rules.specs.Moved.{moved_edge}
use Rattle.rules.proofs.TreesMoved.{Moves, moved-map, turned_back}
use Rattle.site.specs.Shift.{shift, shift_macro}
use Rattle.site.proofs.NetShift.{unshift, moves, moves-with}
use Rattle.site.proofs.GridShift.{grid-edges-there}

-- Where the grid moves with the net
module _ {f h : Place → Place} {net other : Net} (m : Moves f h net other)
    (k : (x y : Place) → Link (grid_edges net) x y → Link (grid_edges other) (f x) (f y)) where
  joined-there : {F : List Edge} {x y : Place} → Joined F x y → Joined (map (moved_edge f) F) (f x) (f y)
  joined-there j = carried f (λ a b i. one (inl (in_map (moved_edge f) i))) j

  joins-there : (F : List Edge) → JoinsPins net F → JoinsPins other (map (moved_edge f) F)
  joins-there F j = record {
    on-grid =
        λ a b i.
        let s = of_map (moved_edge f) F i in
        subst (λ (z : Place). Link (grid_edges other) z b) (sym (firsts s.is))
        (subst (λ (z : Place). Link (grid_edges other) (f s.entry.0) z) (sym (seconds s.is))
        (k s.entry.0 s.entry.1 (j.on-grid s.entry.0 s.entry.1 s.stands)));
    joins =
        λ x y p q.
        subst (λ (z : Place). Joined (map (moved_edge f) F) z y) (m.back.undone x)
        (subst (λ (z : Place). Joined (map (moved_edge f) F) (f (h x)) z) (m.back.undone y)
        (joined-there (j.joins (h x) (h y) (m.back.pin x p) (m.back.pin y q))));
  }

  costs-there : (F : List Edge) → lengths (cost_in other) (map (moved_edge f) F) ≡ lengths (cost_in net) F
  unfolding lengths total
  costs-there [] = refl
  costs-there (e ∷ F) = ap₂ ◌+◌ (m.to.costs e.0 e.1) (costs-there F)

-- a net, and another with the entries of the shifted one in whatever order
module _ (dx dy : ℤ) (W : Weights) (ps qs : List Place) (ms ns : List Macro)
    (h : SameNet W (map (shift dx dy) ps) qs (map (shift_macro dx dy) ms) ns) where
  abbrev N : Net
  N = net_by W ps ms

  abbrev M : Net
  M = net_by W qs ns

  abbrev S : Net
  S = net_by W (map (shift dx dy) ps) (map (shift_macro dx dy) ms)

  m : Moves (shift dx dy) (unshift dx dy) N M
  m = moves-with dx dy W ps qs ms ns h

  grid-to : (x y : Place) → Link (grid_edges N) x y → Link (grid_edges M) (shift dx dy x) (shift dx dy y)
  grid-to x y l =
      link-same h (shift dx dy x) (shift dx dy y)
      (subst (λ (G : List Edge). Link G (shift dx dy x) (shift dx dy y)) (sym (grid-edges-there dx dy N))
      (link-carried (shift dx dy) (λ a b i. in_map (moved_edge (shift dx dy)) i) l))

  grid-back : (x y : Place) → Link (grid_edges M) x y → Link (grid_edges N) (unshift dx dy x) (unshift dx dy y)
  grid-back x y l =
      link-carried (unshift dx dy) (λ a b i. (moved-map (moves dx dy N) (grid_edges N)).1 (a, b) i)
      (subst (λ (G : List Edge). Link G x y) (grid-edges-there dx dy N) (link-same (turned h) x y l))

  pub best-there : (T U : List Edge) → IsBest N T → IsBest M U → lengths (cost W) T ≡ lengths (cost W) U
  best-there T U t u =
      omega (
        arith,
        u.least (map (moved_edge (shift dx dy)) T) (joins-there m grid-to T t.all-joined),
        costs-there m grid-to T,
        t.least (map (moved_edge (unshift dx dy)) U) (joins-there (turned_back m) grid-back U u.all-joined),
        costs-there (turned_back m) grid-back U,
      )
