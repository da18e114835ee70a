-- The stages one after the other are the terminal tree: what each table holds, from what each call gives.
-- Assumes nothing.
use mathlib.Core.Path.{◌≡◌, refl, ap, ap₂, ◌∙◌}
use mathlib.Core.Bool.{false}
use mathlib.Core.List.Memᴰ
use mathlib.Core.List.{List, [], ◌∷◌, map}
use Prim.Native.Nat.{ℕ, ◌+◌, ◌<◌}
use native.Mathlib.Omega.{arith}
use lib.Dec.{eqb}
use lib.ListN.{get_or, replicate, length-replicate}
use Rattle.lists.specs.Member.{◌∈◌, here, there, Among}
use Rattle.lists.proofs.TestLaws.{by, either}
use Rattle.lists.specs.Total.{total}
use Rattle.joined.specs.Table.{kept_by}
use Rattle.forest.specs.Bounds.{point_bound, edge_bound, path_bound}
use Rattle.forest.specs.Edges.{Graph, from, filled, entries, Fits, Below, FirstBelow, Ends, Named, Listed}
use Rattle.forest.specs.Labels.{Labels, labelled, Low}
use Rattle.forest.specs.Parents.{Parents, parented, Falls}
use Rattle.bridges.specs.Bridges.{same_root, roots_of, path_length, path_lengths, bridges_from, bridges}
use Rattle.keeping.specs.Kept.{kept_bridges, kept_lengths, terminal}
use Rattle.forest.proofs.EdgeLaws.{filled-here, below-filled, below-replicate}
use Rattle.bridges.proofs.PathParts.{path-low}
use Rattle.bridges.proofs.BridgeLaws.{of-bridges}
use Rattle.keeping.proofs.KeptLaws.{read-listed, entry_listed}

-- what is kept was offered
kept-among : (ends : ℕ → ℕ × ℕ) (l t : List ℕ) → Among (kept_by ends l t) l
unfolding kept_by
kept-among ends [] t k m = m
kept-among ends (j ∷ l) t k m =
    by (eqb (get_or t (ends j).0 0) (get_or t (ends j).1 0))
    (λ e. there (kept-among ends l t k (rw (kept_by, e) at m)))
    (λ e. either (λ h. here h) (λ i. there (kept-among ends l _ k i)) (Memᴰ.cases_cons (rw (kept_by, e) at m)))

map-agree : (f h : ℕ → ℕ) (l : List ℕ) → ((k : ℕ) → k ∈ l → f k ≡ h k) → map f l ≡ map h l
map-agree f h [] a = refl
map-agree f h (k ∷ l) a = ap₂ (λ (x : ℕ) (r : List ℕ). x ∷ r) (a k (here refl)) (map-agree f h l (λ j m. a j (there m)))

own-groups : filled (λ k. k) 0 point_bound (replicate point_bound 0) ≡ from 0 point_bound
unfolding filled from
own-groups = refl

pub ends_of : (g : Graph) → Fits g → Ends g.ones g.twos g.count
ends_of g f = record { count = f.count; one_in = f.one_in; two_in = f.two_in }

module _ (g : Graph) (t : Labels) (p : Parents) where
  pub of-kept : (k : ℕ) → k ∈ kept_bridges g t p → (k < g.count) × (same_root g t k ≡ false)
  unfolding kept_bridges bridges
  of-kept k m =
      let r = of-bridges (same_root g t) (path_lengths g t.fars p) 0 g.count k (kept-among (roots_of g t) _ _ k m) in
      (omega (arith, r.1), r.2)

  -- the table of lengths holds them
  pub path-lengths-at : Fits g → (k : ℕ) → k < g.count → get_or (path_lengths g t.fars p) k 0 ≡ path_length g t.fars p k
  unfolding path_lengths
  path-lengths-at fits k h =
      filled-here (path_length g t.fars p) g.count (replicate edge_bound 0) k
      (omega (arith, fits.count, length-replicate {A = ℕ} edge_bound 0)) h

  -- the tables that the stages leave
  module _ (fits : Fits g) (w order : List ℕ) (n : ℕ)
      (weighed : w ≡ filled (path_length g t.fars p) 0 g.count (replicate edge_bound 0))
      (sorted : Listed (bridges_from (same_root g t) w 0 g.count) (replicate edge_bound 0) order n) where
    pub light : Falls g.lengths t.fars p → Low t.fars → Below (path_bound + 1) w
    light f l =
        rw weighed
        (below-filled (path_bound + 1) (path_length g t.fars p) 0 g.count g.count (replicate edge_bound 0) (omega arith)
        (λ k h. (let b = path-low g t.fars p fits f l k h in omega arith)) (below-replicate (path_bound + 1) edge_bound 0 (omega arith)))

    pub ordered : Named g.ones g.twos order n
    ordered = record {
      edge = λ i h. (let k = listed i h in omega (arith, fits.count));
      one_in = λ i h. fits.one_in _ (listed i h);
      two_in = λ i h. fits.two_in _ (listed i h);
    }
      where
        listed : (i : ℕ) → i < n → get_or order i 0 < g.count
        listed i h = let r = of-bridges (same_root g t) w 0 g.count _ (entry_listed _ _ order n sorted i h) in omega (arith, r.1)

    module _ (group : List ℕ) (numbered : group ≡ filled (λ k. k) 0 point_bound (replicate point_bound 0)) (lent table : List ℕ) (count : ℕ)
        (taken : Listed (kept_by (roots_of g t) (entries order 0 n) group) lent table count) where
      kept-is : kept_by (roots_of g t) (entries order 0 n) group ≡ kept_bridges g t p
      unfolding kept_bridges bridges path_lengths
      kept-is =
          ap₂ (kept_by (roots_of g t))
          (read-listed _ _ order n sorted ∙ ap (λ (v : List ℕ). bridges_from (same_root g t) v 0 g.count) weighed)
          (numbered ∙ own-groups)

      pub kept-listed : Listed (kept_bridges g t p) lent table count
      kept-listed = rw (← kept-is) taken

      pub kept-inside : FirstBelow table count edge_bound
      kept-inside = record {
        inside = λ i h. (let r = of-kept _ (entry_listed _ _ table count kept-listed i h) in omega (arith, r.0, fits.count));
      }

      lengths-is : map (λ k. get_or w k 0) (entries table 0 count) ≡ kept_lengths g t p
      unfolding kept_lengths path_lengths
      lengths-is =
          ap (map (λ k. get_or w k 0)) (read-listed _ _ table count kept-listed)
          ∙ map-agree (λ k. get_or w k 0) (path_length g t.fars p) (kept_bridges g t p)
          (λ k m. ap (λ (v : List ℕ). get_or v k 0) weighed ∙ path-lengths-at fits k (of-kept k m).0)

      pub lengths-listed : (lent' long : List ℕ) (sum : ℕ) → Listed (map (λ k. get_or w k 0) (entries table 0 count)) lent' long count →
          sum ≡ total (map (λ k. get_or w k 0) (entries table 0 count)) →
          Listed (kept_lengths g t p) lent' long count × (sum ≡ total (kept_lengths g t p))
      lengths-listed lent' long sum a b = (rw (← lengths-is) a, b ∙ ap total lengths-is)

-- the whole from its two halves
module _ (g : Graph) (n : ℕ) (pins : List ℕ) (t : Labels) (p : Parents)
    (t-is : t ≡ labelled g n pins) (p-is : p ≡ parented g n (labelled g n pins)) where
  pub whole : (lent table lent' long : List ℕ) (count sum : ℕ) → Listed (kept_bridges g t p) lent table count →
      Listed (kept_lengths g t p) lent' long count × (sum ≡ total (kept_lengths g t p)) →
      (t ≡ (terminal g n pins).labels)
      × ((p ≡ (terminal g n pins).parents)
      × (Listed (terminal g n pins).bridges lent table count
      × (Listed (terminal g n pins).lengths lent' long count × (sum ≡ (terminal g n pins).total))))
  unfolding terminal
  whole lent table lent' long count sum a b =
      let k : kept_bridges g t p ≡ (terminal g n pins).bridges = ap₂ (kept_bridges g) t-is p-is in
      let l : kept_lengths g t p ≡ (terminal g n pins).lengths = ap₂ (kept_lengths g) t-is p-is in
      (t-is, (p-is, (rw (← k) a, (rw (← l) b.0, b.1 ∙ ap total l))))
