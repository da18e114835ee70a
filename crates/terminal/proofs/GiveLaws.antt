-- Paths given one after the other: the first i of them stand at the front of the list, and one more makes i + 1.
-- Assumes nothing.
use mathlib.Core.Path.{◌≡◌, refl, sym, ap, ap₂, ◌∙◌}
use mathlib.Core.List.{List, [], ◌∷◌, ◌++◌, map, map-append}
use Prim.Native.Nat.{ℕ, zero, suc, ◌+◌, ◌*◌, ◌≤◌}
use native.Mathlib.Numerals.{add-one}
use native.Mathlib.Omega.{arith}
use lib.IntN.{ℤ}
use lib.ListN.{length, get_or, length-map}
use lib.Seq.{sets}
use Rattle.lent.specs.Over.{over}
use Rattle.lent.specs.Entries.{flat}
use Rattle.lent.proofs.OverLaws.{over_none}
use Rattle.plane.specs.declared.Place.{Place}
use Rattle.plane.specs.Flat.{place_from, place_at}
use Rattle.forest.specs.Edges.{from}
use Rattle.forest.proofs.EdgeLaws.{length_from}
use Rattle.terminal.specs.Tree.{path_numbers}
use Rattle.terminal.specs.Tables.{path_at, paths_in}
use Rattle.terminal.proofs.FillLaws.{flat-more}

from_more : (k n : ℕ) → from k (suc n) ≡ from k n ++ ((k + n) ∷ [])
unfolding from
from_more k zero = ap (λ (j : ℕ). j ∷ []) (omega arith)
from_more k (suc n) =
    let e : suc k + n ≡ k + suc n = omega arith in
    ap (λ (l : List ℕ). k ∷ l) (from_more (suc k) n ∙ ap (λ (j : ℕ). from (suc k) n ++ (j ∷ [])) e)

five : (ps : List ((Place × Place) × ℕ)) → length (flat path_numbers ps) ≡ length ps * 5
unfolding flat
five [] = refl
five (p ∷ ps) = omega (arith, five ps)

module _ (es : List ℤ) (kept long : List ℕ) where
  paths-more : (i : ℕ) → paths_in es kept long (i + 1) ≡ paths_in es kept long i ++ (path_at es kept long i ∷ [])
  unfolding paths_in
  paths-more i =
      let e : 0 + i ≡ i = omega arith in
      ap (map (path_at es kept long)) (ap (from 0) (add-one i) ∙ from_more 0 i ∙ ap (λ (j : ℕ). from 0 i ++ (j ∷ [])) e)
      ∙ map-append (path_at es kept long) (from 0 i) (i ∷ [])

  paths-count : (n : ℕ) → length (paths_in es kept long n) ≡ n
  unfolding paths_in
  paths-count n = length-map (from 0 n) (path_at es kept long) ∙ length_from 0 n

  module _ (lent : List ℤ) where
    pub give-none : lent ≡ over (flat path_numbers (paths_in es kept long 0)) lent
    unfolding paths_in from flat
    give-none = sym (over_none lent)

    -- the next one, by what was read of it
    pub give-more : (i : ℕ) (paths last : List ℤ) (a b : Place) (d : ℕ) → paths ≡ over (flat path_numbers (paths_in es kept long i)) lent
        → a ≡ place_at es (get_or kept i 0 * 2) → b ≡ place_at es (get_or kept i 0 * 2 + 1) → d ≡ get_or long i 0
        → last ≡ sets paths (i * 5) (path_numbers ((a, b), d)) → i * 5 + 5 ≤ length lent
        → last ≡ over (flat path_numbers (paths_in es kept long (i + 1))) lent
    give-more i paths last a b d p f g h s room =
        let k = get_or kept i 0 in
        let e : k * 2 * 2 ≡ k * 4 = omega arith in
        let n : (k * 2 + 1) * 2 ≡ k * 4 + 2 = omega arith in
        let read : ((a, b), d) ≡ path_at es kept long i =
        ap₂ (λ (q : Place × Place) (m : ℕ). (q, m))
        (ap₂ (λ (u v : Place). (u, v)) (f ∙ ap (place_from es) e) (g ∙ ap (place_from es) n)) h in
        let done : length (flat path_numbers (paths_in es kept long i)) ≡ i * 5 =
        five (paths_in es kept long i) ∙ ap (λ (m : ℕ). m * 5) (paths-count i) in
        s
        ∙ ap₂ (λ (l : List ℤ) (q : (Place × Place) × ℕ). sets l (i * 5) (path_numbers q)) p read
        ∙ flat-more path_numbers (paths_in es kept long i) (path_at es kept long i) lent (i * 5) done room
        ∙ ap (λ (l : List ((Place × Place) × ℕ)). over (flat path_numbers l) lent) (sym (paths-more i))
