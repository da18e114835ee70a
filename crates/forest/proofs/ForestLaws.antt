-- The stages one after the other are the labels and the parents of a graph; both are bounded, and distances fall along parents.
-- Assumes nothing.
use mathlib.Core.Path.{◌≡◌, refl, ap, ◌∙◌}
use mathlib.Core.List.{List}
use Prim.Native.Nat.{ℕ, ◌≤◌}
use Rattle.forest.specs.Bounds.{point_bound}
use Rattle.forest.specs.Edges.{Graph, from, entries, Fits, FirstBelow}
use Rattle.forest.specs.Labels.{Labels, settled, starts, unlabelled, labelled}
use Rattle.forest.specs.Parents.{Parents, parented, Falls}
use Rattle.forest.proofs.LabelLaws.{Fine, fine-unlabelled, fine-starts, fine-settled}
use Rattle.forest.proofs.ParentLaws.{falls-parented}

-- labels and parents
pub staged : (g : Graph) (n : ℕ) (sources : List ℕ) (t₀ t₁ t₂ : Labels) (p : Parents) →
    t₀ ≡ unlabelled → t₁ ≡ starts sources t₀ →
    t₂ ≡ settled n g (from 0 g.count) t₁ → p ≡ parented g n t₂ →
    (t₂ ≡ labelled g n sources) × (p ≡ parented g n (labelled g n sources))
unfolding labelled
staged g n sources t₀ t₁ t₂ p a c d f =
    let e : t₂ ≡ settled n g (from 0 g.count) (starts sources unlabelled) =
    d ∙ ap (settled n g (from 0 g.count)) (c ∙ ap (starts sources) a)
    in
    (e, f ∙ ap (parented g n) e)

-- Labels and parents that the code made are bounded, and distances fall along parents
module _ (g : Graph) (n m : ℕ) (sources : List ℕ) (t : Labels) (p : Parents)
    (fits : Fits g) (small : n ≤ point_bound) (inside : FirstBelow sources m point_bound)
    (t-is : t ≡ labelled g n (entries sources 0 m)) (p-is : p ≡ parented g n (labelled g n (entries sources 0 m))) where
  pub made-fine : Fine t
  unfolding labelled
  made-fine =
      fine-settled n g (from 0 g.count) (starts (entries sources 0 m) unlabelled) t t-is
      (fine-starts sources m unlabelled (starts (entries sources 0 m) unlabelled) refl inside fine-unlabelled)

  pub made-falls : Falls g.lengths t.fars p
  made-falls = rw (p-is, t-is) (falls-parented g n (labelled g n (entries sources 0 m)) small fits)
