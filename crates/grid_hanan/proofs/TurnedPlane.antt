-- The plane turned so that x and y are exchanged: lines across become lines along. What is clear stays clear, steps stay steps, and the
-- cost stays the same with the weights exchanged. So what is shown for lines across holds for lines along.
-- Assumes nothing.
use mathlib.Core.Path.{◌≡◌, refl, sym, ap, ap₂, subst, ◌∙◌}
use mathlib.Core.Bool.{not, ◌||◌, and_comm}
use mathlib.Core.Logic.{inl, inr}
use mathlib.Core.List.{List, [], ◌∷◌, ◌++◌, map}
use Prim.Native.Nat.{◌+◌}
use native.Mathlib.Omega.{arith}
use lib.IntN.{ℤ}
use Rattle.lists.specs.Member.{◌∈◌}
use Rattle.lists.specs.Any.{any}
use Rattle.lists.specs.Total.{total}
use Rattle.lists.proofs.MapLaws.{of_map, map-undone}
use Rattle.joined.specs.Pairs.{Each, moved_pair}
use Rattle.joined.specs.Cost.{lengths}
use Rattle.joined.proofs.PairLaws.{moved-each, moved-joined}
use Rattle.plane.specs.declared.Place.{Place}
use Rattle.plane.specs.declared.Macro.{Macro}
use Rattle.plane.specs.declared.Weights.{Weights}
use Rattle.plane.specs.Place.{place}
use Rattle.plane.specs.Cost.{cost}
use Rattle.plane.specs.Macro.{macro, span_meets, meets, clear}
use Rattle.lines.specs.Lines.{Sides, Crossing, across, along}
use Rattle.lines.specs.Edges.{Edge}
use Rattle.grid_hanan.proofs.StepLaws.{Kept}
use Rattle.grid_hanan.proofs.FewerLines.{Thinned, lines-less}

abbrev flip : Place → Place
flip p = place p.y p.x

abbrev flip_macro : Macro → Macro
flip_macro m = macro m.bottom m.left m.top m.right

abbrev flip_weights : Weights → Weights
flip_weights w = record { across = w.along; along = w.across }

meets-flipped : (a b : Place) (m : Macro) → meets (flip a) (flip b) (flip_macro m) ≡ meets a b m
unfolding meets
meets-flipped a b m = and_comm (span_meets a.y b.y m.bottom m.top) (span_meets a.x b.x m.left m.right)

any-flipped : (a b : Place) (ms : List Macro) → any (meets (flip a) (flip b)) (map flip_macro ms) ≡ any (meets a b) ms
unfolding any
any-flipped a b [] = refl
any-flipped a b (m ∷ ms) = ap₂ ◌||◌ (meets-flipped a b m) (any-flipped a b ms)

clear-flipped : (a b : Place) (ms : List Macro) → clear (flip a) (flip b) (map flip_macro ms) ≡ clear a b ms
unfolding clear
clear-flipped a b ms = ap not (any-flipped a b ms)

cost-flipped : (w : Weights) (a b : Place) → cost (flip_weights w) (flip a) (flip b) ≡ cost w a b
unfolding cost
cost-flipped w a b = omega arith

lengths-flipped : (w : Weights) (F : List Edge) → lengths (cost (flip_weights w)) (map (moved_pair flip) F) ≡ lengths (cost w) F
unfolding lengths total
lengths-flipped w [] = refl
lengths-flipped w ((a, b) ∷ F) = ap₂ ◌+◌ (cost-flipped w a b) (lengths-flipped w F)

step-flipped : (xs ys : List ℤ) (ms : List Macro) (a b : Place) → Kept xs ys ms a b → Kept ys xs (map flip_macro ms) (flip a) (flip b)
step-flipped xs ys ms a b (inl e) = inl (ap flip e)
step-flipped xs ys ms a b (inr (across n e m h)) = inr (along n e m (clear-flipped a b ms ∙ h))
step-flipped xs ys ms a b (inr (along n e m h)) = inr (across n e m (clear-flipped a b ms ∙ h))

sides-flipped : (xs ys : List ℤ) (ms : List Macro) → Sides xs ys ms → Sides ys xs (map flip_macro ms)
sides-flipped xs ys ms s = record {
  left = λ m i. let r = of_map flip_macro ms i in subst (λ (n : Macro). n.left ∈ ys) (sym r.is) (s.bottom r.entry r.stands);
  right = λ m i. let r = of_map flip_macro ms i in subst (λ (n : Macro). n.right ∈ ys) (sym r.is) (s.top r.entry r.stands);
  bottom = λ m i. let r = of_map flip_macro ms i in subst (λ (n : Macro). n.bottom ∈ xs) (sym r.is) (s.left r.entry r.stands);
  top = λ m i. let r = of_map flip_macro ms i in subst (λ (n : Macro). n.top ∈ xs) (sym r.is) (s.right r.entry r.stands);
}

crossing-flipped : {xs ys : List ℤ} {p : Place} → Crossing xs ys p → Crossing ys xs (flip p)
crossing-flipped c = record { across = c.along; along = c.across }

-- lines along taken out
pub lines-less-along : (xs : List ℤ) (ms : List Macro) (w : Weights) (fs ys : List ℤ) → Sides xs ys ms → (F : List Edge) →
    Each (Kept xs (fs ++ ys) ms) F → (z : ℤ) → z ∈ ys → Thinned xs ys ms w F
lines-less-along xs ms w fs ys s F k z i =
    let N : List Macro = map flip_macro ms in
    let r : Thinned ys xs N (flip_weights w) (map (moved_pair flip) F) =
    lines-less xs N (flip_weights w) fs ys (sides-flipped xs ys ms s) (map (moved_pair flip) F)
    (moved-each flip F (Kept xs (fs ++ ys) ms) (Kept (fs ++ ys) xs N) (step-flipped xs (fs ++ ys) ms) k) z i in
    record {
      edges = map (moved_pair flip) r.edges;
      each = subst (λ (l : List Macro). Each (Kept xs ys l) (map (moved_pair flip) r.edges))
          (map-undone flip_macro flip_macro ms (λ m _. refl))
          (moved-each flip r.edges (Kept ys xs N) (Kept xs ys (map flip_macro N)) (step-flipped ys xs N) r.each);
      joins = λ p q h l j.
          moved-joined flip r.edges
          (r.joins (flip p) (flip q) (crossing-flipped h) (crossing-flipped l) (moved-joined flip F j));
      costs = omega (arith, r.costs, lengths-flipped w F, lengths-flipped (flip_weights w) r.edges);
    }
