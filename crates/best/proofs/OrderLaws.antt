-- L15: two nets with the same pins, macros and weights, their lists in whatever order, have the same grid, so the same best cost.
-- Assumes nothing.
use mathlib.Core.Path.{◌≡◌, refl, sym, ap, subst, ◌∙◌}
use mathlib.Core.List.Memᴰ
use mathlib.Core.List.{List, ◌++◌, map}
use mathlib.Core.List.{◌∷◌}
use native.Mathlib.Omega.{arith}
use lib.IntN.{ℤ}
use lib.Signed.{lt_z}
use Rattle.lists.specs.Member.{◌∈◌, here, there, Among}
use Rattle.lists.proofs.TestLaws.{either}
use Rattle.lists.proofs.MapLaws.{map-among}
use Rattle.lists.proofs.SortedLaws.{of-sorted, in-sorted, sorted-ascending, ascending-same}
use Rattle.joined.specs.Joined.{Link}
use Rattle.joined.specs.Cost.{lengths}
use Rattle.plane.specs.declared.Place.{Place}
use Rattle.plane.specs.declared.Macro.{Macro}
use Rattle.plane.specs.declared.Weights.{Weights}
use Rattle.plane.specs.Place.{place}
use Rattle.plane.specs.Cost.{cost}
use Rattle.lines.specs.declared.Axis.{Axis}
use Rattle.lines.specs.declared.Axis.TheVariants.{Across, Along}
use Rattle.lines.specs.Lines.{coordinate, sides, marks, lines_of, x_lines, y_lines, GridStep, across, along}
use Rattle.lines.specs.Edges.{Edge, grid_edges}
use Rattle.lines.proofs.LineLaws.{line-order}
use Rattle.lines.proofs.EdgeLaws.{link-grid, grid-link}
use Rattle.rules.proofs.TreesOrder.{net_by, SameNet, turned}
use Rattle.best.specs.Tree.{JoinsPins, IsBest}

sides-in : (ms : List Macro) (p : Place) → p ∈ sides ms → (n : List Macro) → Among ms n → p ∈ sides n
unfolding sides
sides-in mathlib.Core.List.[] p x'' n h = elim x'' [ ]
sides-in (m ∷ ms) p (here e) n h = at n (h m (here refl))
  where
    at : (n : List Macro) → m ∈ n → p ∈ sides n
    at mathlib.Core.List.[] x5 = elim x5 [ ]
    at (k ∷ n) (here f) = here (e ∙ ap (λ (z : Macro). place z.left z.bottom) f)
    at (k ∷ n) (there i) = there (there (at n i))
sides-in (m ∷ ms) p (there (here e)) n h = at n (h m (here refl))
  where
    at : (n : List Macro) → m ∈ n → p ∈ sides n
    at mathlib.Core.List.[] x9 = elim x9 [ ]
    at (k ∷ n) (here f) = there (here (e ∙ ap (λ (z : Macro). place z.right z.top) f))
    at (k ∷ n) (there i) = there (there (at n i))
sides-in (m ∷ ms) p (there (there i)) n h = sides-in ms p i n (λ k j. h k (there j))

module _ {W : Weights} {ps qs : List Place} {ms ns : List Macro} where
  lines-to : SameNet W ps qs ms ns → (axis : Axis) → Among (lines_of axis ps ms) (lines_of axis qs ns)
  unfolding lines_of marks
  lines-to h axis c m =
      in-sorted lt_z line-order (map (coordinate axis) (qs ++ sides ns)) c
      (map-among (coordinate axis) (ps ++ sides ms) (qs ++ sides ns)
      (λ p i. either (λ k. Memᴰ.append_left (sides ns) (h.to p k))
      (λ k. Memᴰ.append_right qs (sides-in ms p k ns h.macros-to)) (Memᴰ.append_cases ps i)) c
      (of-sorted lt_z (map (coordinate axis) (ps ++ sides ms)) c m))

module _ {W : Weights} {ps qs : List Place} {ms ns : List Macro} (h : SameNet W ps qs ms ns) where
  lines_same : (axis : Axis) → lines_of axis ps ms ≡ lines_of axis qs ns
  unfolding lines_of
  lines_same axis =
      ascending-same lt_z line-order _ _ (sorted-ascending lt_z line-order _) (sorted-ascending lt_z line-order _) (lines-to h axis)
      (lines-to (turned h) axis)

  step_same : (xs ys : List ℤ) (a b : Place) → GridStep xs ys ms a b → GridStep xs ys ns a b
  step_same xs ys a b (across s e m c) = across s e m (sym (h.clears a b) ∙ c)
  step_same xs ys a b (along s e m c) = along s e m (sym (h.clears a b) ∙ c)

  pub link-same : (a b : Place) → Link (grid_edges (net_by W ps ms)) a b → Link (grid_edges (net_by W qs ns)) a b
  link-same a b l =
      grid-link (net_by W qs ns) a b
      (subst (λ (xs : List ℤ). GridStep xs (y_lines (net_by W qs ns)) ns a b) (lines_same Across)
      (subst (λ (ys : List ℤ). GridStep (x_lines (net_by W ps ms)) ys ns a b) (lines_same Along)
      (step_same _ _ a b (link-grid (net_by W ps ms) a b l))))

  joins-same : (F : List Edge) → JoinsPins (net_by W ps ms) F → JoinsPins (net_by W qs ns) F
  joins-same F j = record {
    on-grid = λ a b m. link-same a b (j.on-grid a b m);
    joins = λ p q i k. j.joins p q (h.from p i) (h.from q k);
  }

-- the cost is the same for every order of the lists
pub best-any-order : {W : Weights} {ps qs : List Place} {ms ns : List Macro} → SameNet W ps qs ms ns → (O P : List Edge) →
    IsBest (net_by W ps ms) O → IsBest (net_by W qs ns) P → lengths (cost W) O ≡ lengths (cost W) P
best-any-order h O P o p =
    omega (arith, o.least P (joins-same (turned h) P p.all-joined), p.least O (joins-same h O o.all-joined))
