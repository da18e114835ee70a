-- Kept bridges stand for terminal paths, they are one fewer than the pins and join them; no joining by terminal paths is shorter, and no
-- chain of terminal paths has a shorter longest path than our way. A walk between pins goes from root to root: each of its links joins two
-- vertices of one root, or is a bridge whose path is no longer than the walk. The rest is Kruskal's choice, proved in `joined`.
-- Assumes nothing.
use mathlib.Core.Path.{◌≡◌, refl, sym, ap, ◌∙◌}
use mathlib.Core.Bool.{false, not}
use mathlib.Core.Logic.{inl, inr}
use mathlib.Core.List.Memᴰ
use mathlib.Core.List.{List, [], ◌∷◌, map}
use Prim.Native.Nat.{ℕ, suc, ◌+◌, ◌≤◌, ◌<◌}
use native.Mathlib.Decide.{ℕ_discrete}
use native.Mathlib.Omega.{arith}
use borrow.Author.Tests.{eqb-true, eqb-false}
use lib.ListN.{length}
use Rattle.lists.specs.Member.{◌∈◌, here, there, Once}
use Rattle.lists.specs.Sorted.{Ascending}
use Rattle.lists.specs.Total.{total, most}
use Rattle.lists.proofs.TestLaws.{by, either}
use Rattle.lists.proofs.MapLaws.{in_map, of_map, map-among}
use Rattle.lists.proofs.ThoseLaws.{in-those}
use Rattle.lists.proofs.SortedLaws.{in-sorted}
use Rattle.joined.specs.Joined.{Link, Joined, stay, Alike}
use Rattle.joined.specs.Way.{Way, stop, go, long, On, turned}
use Rattle.joined.specs.Tree.{TreeOn}
use Rattle.joined.specs.Light.{Rising, light}
use Rattle.joined.specs.Keep.{Offered, Dominated, kept}
use Rattle.joined.specs.Path.{TerminalPath, ends_of, length_of}
use Rattle.joined.specs.Chain.{Chain, Joining, OurWay}
use Rattle.joined.proofs.JoinedLaws.{turn, one as one_link, then, back, between, firsts, seconds, more}
use Rattle.joined.proofs.WayLaws.{joined-way, way-more, turned-way, turned-long, turned_on, turned-back, turned-once, of-turned-way}
use Rattle.joined.proofs.LightLaws.{in-light, of-light}
use Rattle.joined.proofs.TableLaws.{table-keeps}
use Rattle.joined.proofs.ShortestLaws.{kept-tree}
use Rattle.joined.proofs.Ours.{ours-count, ours-joining, no-shorter, no_longer}
use Rattle.forest.specs.Bounds.{point_bound}
use Rattle.forest.specs.Edges.{Graph, one, two, len, from}
use Rattle.forest.specs.Labels.{Labels, far, root, labelled}
use Rattle.forest.specs.Parents.{Parents, parented, way}
use Rattle.bridges.specs.Bridges.{one_root, same_root, roots_of, path as path_edges, path_length, path_lengths, earlier}
use Rattle.bridges.specs.Bridges.{bridges_from, bridges}
use Rattle.keeping.specs.Kept.{kept_bridges, kept_lengths, terminal}
use Rattle.forest.specs.Setting.{ends, pairs, Setting, Whole}
use Rattle.forest.proofs.EdgeLaws.{in-from, get_d-from, length_from}
use Rattle.bridges.proofs.PathParts.{path-parts}
use Rattle.bridges.proofs.BridgeLaws.{earlier-le, earlier-order, of-bridges, bridges-ascending}
use Rattle.keeping.proofs.WholeLaws.{of-kept, path-lengths-at}
use Rattle.forest.proofs.Nearest.{fits, edges-among, joint, edge-long, link-in, best, closed}
use Rattle.forest.proofs.Homeward.{source-label, root-source, way_points, Home, way_home, way-once, way-source, way-length}

module _ {g : Graph} {n : ℕ} {d : ℕ → ℕ → ℕ} {pins : List ℕ} (s : Setting g n d pins) (whole : Whole g n pins) where
  abbrev T : Labels
  T = labelled g n pins

  abbrev P : Parents
  P = parented g n (labelled g n pins)

  abbrev weight : ℕ → ℕ
  weight = path_length g (labelled g n pins).fars (parented g n (labelled g n pins))

  -- The path of a bridge

  -- a path is as long as the two distances and the bridge
  pub path-is : (k : ℕ) → k < g.count → weight k ≡ far T (one g k) + len g k + far T (two g k)
  path-is k h =
      omega (arith, path-parts g T.fars P k, way-length s whole (one g k) (s.one_in k h), way-length s whole (two g k) (s.two_in k h))

  -- T10: from root to root, over both ways and the bridge
  pub record Stands (k : ℕ) : Type 0 where
    pub path : TerminalPath (pairs g) pins
    pub start_is : path.start ≡ root T (one g k)
    pub finish-is : path.finish ≡ root T (two g k)
    pub points-are : path.points ≡ turned (one g k) (way_points s whole (one g k)) (two g k ∷ way_points s whole (two g k))
    -- it runs along the edges that make up its length
    pub along : Way (map (ends g) (path_edges g T.fars P k)) path.start path.points path.finish
    pub each : (j : ℕ) → j ∈ path_edges g T.fars P k → On (one g j) (two g j) path.start path.points
    pub over-bridge : On (one g k) (two g k) path.start path.points
    pub length-is : length_of d path ≡ weight k

  bridge-roots : (k : ℕ) → same_root g T k ≡ false → root T (one g k) ≡ root T (two g k) → ⊥
  unfolding one_root
  bridge-roots k e = eqb-false _ _ e

  pub stands : (k : ℕ) → k < g.count → same_root g T k ≡ false → Stands k
  unfolding long path_edges ends
  stands k h e = record {
    path = record {
      start = root T u;
      finish = root T v;
      points = turned u (way_points s whole u) (v ∷ way_points s whole v);
      way = way-more (edges-among s (path_edges g T.fars P k) inside) run;
      once = turned-once hu.along (v ∷ way_points s whole v) ou (λ m. ne (hv.alike u m), ov) apart;
      start-pin = root-source s whole u iu;
      finish-pin = root-source s whole v iv;
      apart = ne;
      inner = λ z m p.
          either (λ q. inl q)
          (λ i. either (λ j. inl (way-source s whole u iu z j p)) (λ j. inr (way-source s whole v iv z j p))
          (of-turned-way u (way_points s whole u) (v ∷ way_points s whole v) z i)) (Memᴰ.cases_cons m);
    };
    start_is = refl;
    finish-is = refl;
    points-are = refl;
    along = run;
    each = steps;
    over-bridge = turned_on hu.along (v ∷ way_points s whole v) u v (inl (inl (refl, refl)));
    length-is =
        omega (
          arith,
          turned-long d s.even hu.along (v ∷ way_points s whole v),
          hu.length-is,
          hv.length-is,
          path-is k h,
          edge-long s u v k h (inl (refl, refl)),
        );
  }
    where
      u : ℕ
      u = one g k

      v : ℕ
      v = two g k

      iu : u < n
      iu = s.one_in k h

      iv : v < n
      iv = s.two_in k h

      wu : List ℕ
      wu = way T.fars P u

      wv : List ℕ
      wv = way T.fars P v

      hu : Home s whole u (way_points s whole u) wu
      hu = way_home s whole u iu

      hv : Home s whole v (way_points s whole v) wv
      hv = way_home s whole v iv

      inside : (j : ℕ) → j ∈ path_edges g T.fars P k → j < g.count
      inside j m =
          either (λ i. hu.inside j i) (λ i. either (λ q. rw q h) (λ r. hv.inside j r) (Memᴰ.cases_cons i))
          (Memᴰ.append_cases wu m)

      bridge : (u, v) ∈ map (ends g) (path_edges g T.fars P k)
      bridge = in_map (ends g) (Memᴰ.append_right wu (here refl))

      run : Way (map (ends g) (path_edges g T.fars P k)) (root T u) (turned u (way_points s whole u) (v ∷ way_points s whole v)) (root T v)
      run =
          turned-way
          (way-more (map-among (ends g) wu (path_edges g T.fars P k) (λ j m. Memᴰ.append_left (k ∷ wv) m)) hu.along)
          (go (inl bridge)
          (way-more (map-among (ends g) wv (path_edges g T.fars P k) (λ j m. Memᴰ.append_right wu (there m))) hv.along))

      steps : (j : ℕ) → j ∈ path_edges g T.fars P k → On (one g j) (two g j) (root T u)
          (turned u (way_points s whole u) (v ∷ way_points s whole v))
      steps j m =
          either (λ i. turned-back hu.along (v ∷ way_points s whole v) (one g j) (two g j) (hu.each j i))
          (λ i. turned_on hu.along (v ∷ way_points s whole v) (one g j) (two g j)
          (either (λ q. inl (inl (ap (one g) q, ap (two g) q))) (λ r. inr (hv.each j r)) (Memᴰ.cases_cons i)))
          (Memᴰ.append_cases wu m)

      ne : root T u ≡ root T v → ⊥
      ne = bridge-roots k e

      ou : Once (u ∷ way_points s whole u)
      ou = way-once s whole u iu

      ov : Once (v ∷ way_points s whole v)
      ov = way-once s whole v iv

      apart : (z : ℕ) → z ∈ way_points s whole u → z ∈ (u ∷ (v ∷ way_points s whole v)) → ⊥
      apart z i m =
          either (λ q. ou.0 (Memᴰ.cast (sym q) i)) (λ q. ne (sym (hu.alike z (there i)) ∙ hv.alike z q)) (Memᴰ.cases_cons m)

  -- Bridges of a list

  abbrev L : List ℕ
  L = bridges g (labelled g n pins) (parented g n (labelled g n pins))

  pub bridge-is : (k : ℕ) → k ∈ L → (k < g.count) × (same_root g T k ≡ false)
  unfolding bridges
  bridge-is k m = let r = of-bridges (same_root g T) (path_lengths g T.fars P) 0 g.count k m in (omega (arith, r.1), r.2)

  pub is-bridge : (k : ℕ) → k < g.count → same_root g T k ≡ false → k ∈ L
  unfolding bridges bridges_from
  is-bridge k h e =
      in-sorted (earlier (path_lengths g T.fars P)) (earlier-order (path_lengths g T.fars P)) _ k
      (in-those (λ j. not (same_root g T j)) (from 0 g.count) (in-from 0 g.count k (omega arith) (omega arith)) (ap not e))

  pub bridges-in-order : Ascending (earlier (path_lengths g T.fars P)) L
  unfolding bridges
  bridges-in-order = bridges-ascending (same_root g T) (path_lengths g T.fars P) 0 g.count

  -- Domination

  -- the roots of two linked vertices are joined by bridges whose paths are no longer than way, link and way
  across : (t x y : ℕ) → Link (pairs g) x y → far T x + d x y + far T y ≤ t → Joined (map (roots_of g T) (light weight t L)) (root T x)
      (root T y)
  unfolding one_root
  across t x y l h = let j = joint s x y l in at j.edge j.inside j.measured j.ends-are
    where
      forth : (k : ℕ) → k < g.count → weight k ≤ t → Joined (map (roots_of g T) (light weight t L)) (root T (one g k)) (root T (two g k))
      forth k i w =
          by (same_root g T k)
          (λ e. stay (eqb-true _ _ e))
          (λ e. one_link (inl (in_map (roots_of g T) (in-light weight t L (is-bridge k i e) w))))

      at : (k : ℕ) → k < g.count → d x y ≡ len g k → Alike x y (one g k) (two g k) →
          Joined (map (roots_of g T) (light weight t L)) (root T x) (root T y)
      at k i m (inl c) = rw (c.0, c.1) (forth k i (omega (arith, path-is k i, ap (far T) c.0, ap (far T) c.1)))
      at k i m (inr c) = rw (c.0, c.1) (back (forth k i (omega (arith, path-is k i, ap (far T) c.0, ap (far T) c.1))))

  -- a walk on from x, where a pin is at most `a` away from x
  along : (t a : ℕ) {x y : ℕ} {ps : List ℕ} → Way (pairs g) x ps y → y ∈ pins → far T x ≤ a → a + long d x ps ≤ t →
      Joined (map (roots_of g T) (light weight t L)) (root T x) (root T y)
  unfolding long
  along t a (stop e) p f h = stay (ap (root T) e)
  along t a {x} (go {y = y} l w) p f h =
      let i = link-in s x y l in
      let b = best s i.far-in w p in
      let c = closed s y x (turn l) in
      let e = s.even y x in
      then (across t x y l (omega (arith, b.0))) (along t (a + d x y) w p (omega (arith, c.0)) (omega arith))

  -- bridges no longer than a walk between pins join its ends
  pub dominated : {p q : ℕ} {ps : List ℕ} → Way (pairs g) p ps q → p ∈ pins → q ∈ pins → Dominated (roots_of g T) weight L (p, q)
      (long d p ps)
  dominated {p} {q} {ps} w h k =
      let a = source-label s whole p h in
      let b = source-label s whole q k in
      between (sym a.1) (sym b.1) (along (long d p ps) 0 w k (omega (arith, a.0)) (omega arith))

  -- The bridges join the pins, and lighter ones come first

  rising : (ks : List ℕ) → Ascending (earlier (path_lengths g T.fars P)) ks → ((k : ℕ) → k ∈ ks → k < g.count) → Rising weight ks
  rising [] a h = tt
  rising (k ∷ ks) a h = (
    λ j m.
        (let e = earlier-le (path_lengths g T.fars P) k j (a.0 j m) in
        omega (arith, e, path-lengths-at g T P (fits s) k (h k (here refl)), path-lengths-at g T P (fits s) j (h j (there m)))),
    rising ks a.1 (λ j m. h j (there m)),
  )

  pub offered : Offered (roots_of g T) weight pins L
  offered = record {
    once = whole.once;
    some = whole.source;
    stands = whole.is-source;
    inside = λ a b m.
        (let r = of_map (roots_of g T) L m in
        let h = (bridge-is r.entry r.stands).0 in (
          rw (firsts r.is) (root-source s whole _ (s.one_in r.entry h)),
          rw (seconds r.is)
              (root-source s whole _ (s.two_in r.entry h)),
        ));
    joins = λ x y i k. joined x y i k;
    rising = ascending-rising;
  }
    where
      joined : (x y : ℕ) → x ∈ pins → y ∈ pins → Joined (map (roots_of g T) L) x y
      joined x y i k =
          let w = joined-way (whole.joined x y (s.sources-in x i) (s.sources-in y k)) in
          let t = long d x w.0 in
          more (map-among (roots_of g T) (light weight t L) L (λ j m. (of-light weight t L m).0)) (dominated w.1 i k)

      ascending-rising : Rising weight L
      ascending-rising = rising L bridges-in-order (λ k m. (bridge-is k m).0)

  -- The kept ones

  abbrev K : List ℕ
  K = kept_bridges g (labelled g n pins) (parented g n (labelled g n pins))

  pub kept-is : K ≡ kept ℕ_discrete (roots_of g T) L
  unfolding kept_bridges
  kept-is =
      table-keeps (roots_of g T) point_bound L
      (λ k m.
      (let h = (bridge-is k m).0 in (
        omega (arith, s.sources-in _ (root-source s whole _ (s.one_in k h)), s.vertices),
        omega (arith, s.sources-in _ (root-source s whole _ (s.two_in k h)), s.vertices),
      )))
      (from 0 point_bound) (omega (arith, length_from 0 point_bound)) (λ x h. omega (arith, get_d-from 0 point_bound x h))

  -- kept paths are terminal paths
  pub kept-stands : (k : ℕ) → k ∈ K → Stands k
  kept-stands k m = let r = of-kept g T P k m in stands k r.0 r.1

  -- T14: m − 1 paths are kept
  pub kept-count : suc (length K) ≡ length pins
  kept-count = rw kept-is (ours-count ℕ_discrete (roots_of g T) weight offered)

  -- a tree over the pins
  pub ours-tree : TreeOn pins (map (roots_of g T) K)
  ours-tree = rw kept-is (kept-tree ℕ_discrete (roots_of g T) weight offered)

  -- they are a joining
  pub kept-joining : Joining (roots_of g T) pins K
  kept-joining = rw kept-is (ours-joining ℕ_discrete (roots_of g T) weight offered)

  terminal-dominated : (c : TerminalPath (pairs g) pins) → Dominated (roots_of g T) weight L (ends_of c) (length_of d c)
  terminal-dominated c = dominated c.way c.start-pin c.finish-pin

  -- no joining is shorter than the total that we give, every path counted in full
  pub none-shorter : (J : List (TerminalPath (pairs g) pins)) → Joining ends_of pins J → (terminal g n pins).total
      ≤ total (map (length_of d) J)
  unfolding terminal kept_lengths
  none-shorter J h =
      let r = no-shorter ℕ_discrete (roots_of g T) weight offered ends_of (length_of d) terminal-dominated J h in
      let e = ap (λ (l : List ℕ). total (map weight l)) kept-is in
      omega arith

  -- between two different pins, the longest path of a chain of terminal paths is at least as long as the longest on our way
  pub none-lower : {x y : ℕ} → (x ≡ y → ⊥) → {ks : List ℕ} → OurWay (roots_of g T) K x y ks →
      {cs : List (TerminalPath (pairs g) pins)} → Chain ends_of x cs y → most (map weight ks) ≤ most (map (length_of d) cs)
  none-lower e u c =
      no_longer ℕ_discrete (roots_of g T) weight offered ends_of (length_of d) terminal-dominated e (rw kept-is at u) c
