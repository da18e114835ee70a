-- One edge more of a flat list: at the end of those before it.
-- Assumes nothing.
use mathlib.Core.Path.{◌≡◌, refl, sym, ap, ap₂, ◌∙◌}
use mathlib.Core.List.{List, [], ◌∷◌, ◌++◌}
use Prim.Native.Nat.{ℕ, zero, suc, ◌+◌, ◌*◌}
use native.Mathlib.Nat.{zero-mul, suc-mul}
use native.Mathlib.Omega.{arith}
use lib.IntN.{ℤ, pos}
use lib.ListN.{get_or}
use Rattle.lists.specs.Total.{total}
use Rattle.lent.specs.Entries.{entries_from}
use Rattle.joined.specs.Cost.{lengths}
use Rattle.joined.proofs.CostLaws.{lengths-append}
use Rattle.plane.specs.declared.Place.{Place}
use Rattle.plane.specs.Place.{place}
use Rattle.plane.specs.Flat.{place_at}
use Rattle.plane.specs.Cost.{cost, plain}
use Rattle.plane.specs.Distance.{distance}
use Rattle.plane.proofs.CostLaws.{cost-plain}
use Rattle.graph.specs.Numbers.{edge_from}
use Rattle.laid.specs.Edges.{edges_of}

abbrev pub Edge : Type 0
Edge = Place × Place

module _ {A B : Type 0} (from : List A → ℕ → B) (w : ℕ) (s : List A) where
  more-from : (n k : ℕ) → entries_from from w s k (n + 1) ≡ entries_from from w s k n ++ (from s (k + n * w) ∷ [])
  unfolding entries_from
  more-from zero k = let e : k ≡ k + 0 * w = omega (arith, zero-mul w) in ap (λ (j : ℕ). from s j ∷ []) e
  more-from (suc n) k =
      let e : k + w + n * w ≡ k + suc n * w = omega (arith, suc-mul n w) in
      let m : suc n + 1 ≡ suc (n + 1) = omega arith in
      ap (entries_from from w s k) m
      ∙ ap (λ (l : List B). from s k ∷ l)
      (more-from n (k + w) ∙ ap (λ (j : ℕ). entries_from from w s (k + w) n ++ (from s j ∷ [])) e)

-- two places of a flat list are an edge
pub edge-read : (s : List ℤ) (i : ℕ) → (place_at s (i * 2), place_at s (i * 2 + 1)) ≡ edge_from s (i * 4)
edge-read s i =
    let one : i * 2 * 2 ≡ i * 4 = omega arith in
    let two : i * 2 * 2 + 1 ≡ i * 4 + 1 = omega arith in
    let three : (i * 2 + 1) * 2 ≡ i * 4 + 2 = omega arith in
    let four : (i * 2 + 1) * 2 + 1 ≡ i * 4 + 2 + 1 = omega arith in
    ap₂ (λ (p q : Place). (p, q))
    (ap₂ place (ap (λ (k : ℕ). get_or s k (pos 0)) one) (ap (λ (k : ℕ). get_or s k (pos 0)) two))
    (ap₂ place (ap (λ (k : ℕ). get_or s k (pos 0)) three) (ap (λ (k : ℕ). get_or s k (pos 0)) four))

-- the edge of number i, read as two places, after those before it
pub edges_more : (s : List ℤ) (i : ℕ) (a b : Place) → a ≡ place_at s (i * 2) → b ≡ place_at s (i * 2 + 1) →
    edges_of s (i + 1) ≡ edges_of s i ++ ((a, b) ∷ [])
edges_more s i a b p q =
    let e : 0 + i * 4 ≡ i * 4 = omega arith in
    let is : (a, b) ≡ edge_from s (0 + i * 4) = ap₂ (λ (x y : Place). (x, y)) p q ∙ edge-read s i ∙ ap (edge_from s) (sym e) in
    more-from edge_from 4 s i 0 ∙ ap (λ (x : Edge). edges_of s i ++ (x ∷ [])) (sym is)

pub lengths-more : (d : Place → Place → ℕ) (s : List ℤ) (i : ℕ) (a b : Place) → a ≡ place_at s (i * 2) → b ≡ place_at s (i * 2 + 1) →
    lengths d (edges_of s (i + 1)) ≡ lengths d (edges_of s i) + d a b
unfolding lengths total
lengths-more d s i a b p q =
    ap (lengths d) (edges_more s i a b p q) ∙ lengths-append d (edges_of s i) ((a, b) ∷ []) ∙ one
  where
    one : lengths d (edges_of s i) + (d a b + 0) ≡ lengths d (edges_of s i) + d a b
    one = omega arith

-- at weights of 1, their metal
pub lengths-plain : (es : List Edge) → lengths (cost plain) es ≡ lengths distance es
unfolding lengths total
lengths-plain [] = refl
lengths-plain (e ∷ es) = ap₂ ◌+◌ (cost-plain e.0 e.1) (lengths-plain es)
