-- What is kept of items offered by weight is a tree over the points, and no list of paths that joins the points has a smaller sum.
-- For every t the kept items up to t, with the paths above t, still join all points: so there are no more kept items above t than paths
-- above t. That holds at every height, so the sums compare layer by layer.
-- Assumes nothing.
use mathlib.Core.Path.{sym, ◌∙◌}
use mathlib.Core.Logic.{inl}
use mathlib.Core.List.Memᴰ
use mathlib.Core.List.{List, ◌++◌, map, reverse}
use Prim.Native.Nat.{ℕ, ◌≤◌}
use native.Mathlib.Decide.{dec_le}
use native.Mathlib.Omega.{arith}
use lib.ListN.{length-map, length-append, length-reverse}
use Rattle.lists.specs.Member.{◌∈◌, Among}
use Rattle.lists.specs.Total.{total, above}
use Rattle.lists.proofs.MemberLaws.{in-reverse, of_reverse}
use Rattle.lists.proofs.MapLaws.{in_map, of_map, map-among}
use Rattle.lists.proofs.TotalLaws.{total-le, total-reverse}
use Rattle.joined.specs.Joined.{Joined, Joins}
use Rattle.joined.specs.Tree.{TreeOn}
use Rattle.joined.specs.Keep.{keep, kept, Offered, Dominated}
use Rattle.joined.specs.Light.{heavy, light}
use Rattle.joined.proofs.JoinedLaws.{one, more, through, between, firsts, seconds}
use Rattle.joined.proofs.CountLaws.{enough}
use Rattle.joined.proofs.TreeLaws.{forest-tree, tree-linked}
use Rattle.joined.proofs.KeepLaws.{keep-among, keep-forest, keep-joined, keep-light}
use Rattle.joined.proofs.LightLaws.{of-light, in-light, in-heavy}
use Rattle.joined.proofs.LightLaws.{length-split, length-heavy, falling-reverse}

module _ {A B : Type 0} (same : Discrete A) (ends : B → A × A) (weight : B → ℕ) {X : List A} {L : List B}
    (o : Offered ends weight X L) where
  -- what is offered and what is kept, the last first
  abbrev M : List B
  M = reverse L

  abbrev K : List B
  K = keep same ends M

  keep-joins : Joins X (map ends K)
  keep-joins x y i k = keep-joined same ends M (more (map-among ends L M (in-reverse L)) (o.joins x y i k))

  keep-tree : TreeOn X (map ends K)
  keep-tree =
      forest-tree same o.once
      (λ a b m. o.inside a b (map-among ends K L (λ d i. of_reverse L d (keep-among same ends M d i)) (a, b) m))
      (keep-forest same ends M) keep-joins o.stands

  -- items up to s are among those up to t
  light-more : (s t : ℕ) → s ≤ t → Among (map ends (light weight s L)) (map ends (light weight t M))
  light-more s t h =
      map-among ends (light weight s L) (light weight t M)
      (λ d m. let r = of-light weight s L m in in-light weight t M (in-reverse L d r.0) (omega (arith, r.1)))

  -- what items up to s join, kept ones up to t join
  light-keep : (s t : ℕ) → s ≤ t → {x y : A} → Joined (map ends (light weight s L)) x y → Joined (map ends (light weight t K)) x y
  light-keep s t h j =
      rw (keep-light same ends weight t M (falling-reverse weight L o.rising))
      (keep-joined same ends (light weight t M) (more (light-more s t h) j))

  kept-among : Among K (kept same ends L)
  unfolding kept
  kept-among = in-reverse K

  pub kept-tree : TreeOn X (map ends (kept same ends L))
  unfolding kept
  kept-tree =
      tree-linked keep-tree (λ a b m. inl (map-among ends K (reverse K) kept-among (a, b) m))
      (length-map (reverse K) ends ∙ length-reverse K ∙ sym (length-map K ends))

  module _ {C : Type 0} (span : C → A × A) (cost : C → ℕ) (dominated : (c : C) → Dominated ends weight L (span c) (cost c)) where
    -- a path of length t at most has its ends joined by kept items up to t
    path-keep : (t : ℕ) (c : C) → cost c ≤ t → Joined (map ends (light weight t K)) (span c).0 (span c).1
    path-keep t c h = light-keep (cost c) t h (dominated c)

    pub path-kept : (t : ℕ) (c : C) → cost c ≤ t → Joined (map ends (light weight t (kept same ends L))) (span c).0 (span c).1
    path-kept t c h =
        more (map-among ends (light weight t K) (light weight t (kept same ends L)) up_to) (path-keep t c h)
      where
        up_to : Among (light weight t K) (light weight t (kept same ends L))
        up_to d m = let r = of-light weight t K m in in-light weight t (kept same ends L) (kept-among d r.0) r.1

    module _ (J : List C) (joins : Joins X (map span J)) where
      -- kept items up to t and paths above t
      abbrev mixed : ℕ → List (A × A)
      mixed t = map ends (light weight t K) ++ map span (heavy cost t J)

      mixed-pairs : (t : ℕ) (c : C) → c ∈ J → Joined (mixed t) (span c).0 (span c).1
      mixed-pairs t c m = at (dec_le (cost c) t)
        where
          at : Dec (cost c ≤ t) → Joined (mixed t) (span c).0 (span c).1
          at (yes h) = more (λ p i. Memᴰ.append_left (map span (heavy cost t J)) i) (path-keep t c h)
          at (no h) = one (inl (Memᴰ.append_right (map ends (light weight t K)) (in_map span (in-heavy cost t J m (omega arith)))))

      mixed-joins : (t : ℕ) → Joins X (mixed t)
      mixed-joins t x y i k = through pairs (joins x y i k)
        where
          pairs : (a b : A) → (a, b) ∈ map span J → Joined (mixed t) a b
          pairs a b m = let r = of_map span J m in between (firsts r.is) (seconds r.is) (mixed-pairs t r.entry r.stands)

      fewer-above : (t : ℕ) → above t (map weight K) ≤ above t (map cost J)
      fewer-above t =
          omega (
            arith,
            length-heavy weight t K,
            length-heavy cost t J,
            length-split weight t K,
            keep-tree.size,
            length-map K ends,
            enough same o.once (mixed-joins t),
            length-append (map ends (light weight t K)) (map span (heavy cost t J)),
            length-map (light weight t K) ends,
            length-map (heavy cost t J) span,
          )

      pub shortest : total (map weight (kept same ends L)) ≤ total (map cost J)
      unfolding kept
      shortest = omega (arith, total-reverse weight K, total-le (map weight K) (map cost J) fewer-above)
