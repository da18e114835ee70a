-- The union of the kept paths is a tree over the pins and the ends of its edges, and no longer than the kept paths. Each of its edges is a
-- kept bridge or leads from a point that is no pin to that point's parent; each such point has its own edge, so there is one edge fewer
-- than points; and each edge is on a kept path, where its length is counted.
-- Assumes nothing.
use mathlib.Core.Path.{◌≡◌, refl, sym, ap, ap₂, ◌∙◌, subst}
use mathlib.Core.Bool.{false, not}
use mathlib.Core.Logic.{◌⊎◌, inl, inr}
use mathlib.Core.List.Memᴰ
use mathlib.Core.List.{List, [], ◌∷◌, ◌++◌, map}
use Prim.Native.Nat.{ℕ, zero, suc, ◌≤◌, ◌<◌}
use native.Mathlib.Decide.{ℕ_discrete}
use native.Mathlib.Omega.{arith}
use borrow.Author.Tests.{eqb-false}
use lib.ListN.{length, length-append, length-map}
use Rattle.lists.specs.Member.{◌∈◌, here, there, Among, Once}
use Rattle.lists.specs.Those.{those}
use Rattle.lists.specs.Total.{total}
use Rattle.lists.proofs.TestLaws.{by, differ, either, not-true}
use Rattle.lists.proofs.MapLaws.{in_map, of_map, map-once}
use Rattle.lists.proofs.MemberLaws.{once-length, is-in}
use Rattle.lists.proofs.EachLaws.{Piece}
use Rattle.lists.proofs.ThoseLaws.{in-those, of-those, those-once}
use Rattle.lists.proofs.TotalLaws.{once-total}
use Rattle.lent.specs.Entries.{flat}
use Rattle.joined.specs.Joined.{Link, Joined, Alike}
use Rattle.joined.specs.Tree.{TreeOn, Forest}
use Rattle.joined.specs.Graft.{grown, rooted, Hangs}
use Rattle.joined.proofs.JoinedLaws.{one as one_link, through, between, firsts, seconds}
use Rattle.joined.proofs.TreeLaws.{tree-forest}
use Rattle.joined.proofs.GraftLaws.{grown-tree}
use Rattle.forest.specs.Edges.{Graph, one, two, len, from}
use Rattle.forest.specs.Labels.{Labels, far, root, labelled}
use Rattle.forest.specs.Parents.{Parents, up, via, parented, way, Falls}
use Rattle.bridges.specs.Bridges.{one_root, same_root, roots_of, path, path_length}
use Rattle.keeping.specs.Kept.{kept_bridges, kept_lengths, terminal}
use Rattle.forest.specs.Setting.{ends, Setting, Whole}
use Rattle.forest.proofs.EdgeLaws.{below-from, in-from}
use Rattle.forest.proofs.ParentLaws.{falls-parented}
use Rattle.forest.proofs.WayLaws.{way-none, way_step, nearer-by}
use Rattle.keeping.proofs.WholeLaws.{of-kept}
use Rattle.forest.proofs.Nearest.{fits}
use Rattle.forest.proofs.Homeward.{source-label, root-source, far-off, Parent, parent_is, source-parent, way_home}
use Rattle.keeping.proofs.OurTree.{kept-count, ours-tree}
use Rattle.union.specs.Union.{listed, both_ends, kept_edges, union_edges, union_points}
use Rattle.union.proofs.ListedLaws.{in-listed, of-listed, in-flat, of-flat, total-flat, once_join, picked-once}

-- a forest has no pair twice, so its items are without repeats
forest-once : {A B : Type 0} (pair : B → A × A) (l : List B) → Forest (map pair l) → Once l
forest-once pair [] f = tt
forest-once pair (k ∷ l) f = (λ m. f.0 (one_link (inl (in_map pair m))), forest-once pair l f.1)

module _ {g : Graph} {n : ℕ} {d : ℕ → ℕ → ℕ} {pins : List ℕ} (s : Setting g n d pins) (whole : Whole g n pins) where
  abbrev T : Labels
  T = labelled g n pins

  abbrev P : Parents
  P = parented g n (labelled g n pins)

  abbrev pub K : List ℕ
  K = kept_bridges g (labelled g n pins) (parented g n (labelled g n pins))

  -- the edges and the points of the union
  abbrev pub E : List ℕ
  E = union_edges g (labelled g n pins).fars (parented g n (labelled g n pins))
      (kept_bridges g (labelled g n pins) (parented g n (labelled g n pins)))

  abbrev pub W : List ℕ
  W = union_points g (labelled g n pins).fars (parented g n (labelled g n pins))
      (kept_bridges g (labelled g n pins) (parented g n (labelled g n pins))) n pins

  abbrev pub home : ℕ → List ℕ
  home v = way (labelled g n pins).fars (parented g n (labelled g n pins)) v

  abbrev pub walk : ℕ → List ℕ
  walk k = path g (labelled g n pins).fars (parented g n (labelled g n pins)) k

  -- Ways, edge by edge

  falling : Falls g.lengths T.fars P
  falling = falls-parented g n T s.vertices (fits s)

  pin-way : (v : ℕ) → v ∈ pins → home v ≡ []
  unfolding way
  pin-way v m = way-none P (far T v) v (omega (arith, source-parent s whole v m))

  next_way : (v : ℕ) → v < n → (v ∈ pins → ⊥) → home v ≡ via P v ∷ home (up P v)
  next_way v h m =
      way_step g.lengths T.fars P falling v (omega (arith, s.vertices)) (omega (arith, (parent_is s whole v h m).inside, s.vertices))

  nearer : (v : ℕ) → v < n → (v ∈ pins → ⊥) → far T (up P v) < far T v
  nearer v h m =
      nearer-by g.lengths T.fars P falling v (omega (arith, s.vertices))
      (omega (arith, (parent_is s whole v h m).inside, s.vertices))

  -- an edge of a way leads from one of its vertices, no pin, to that vertex's parent, and the way goes on as that vertex's own
  record Step (u k : ℕ) : Type 0 where
    point : ℕ
    inside : point < n
    no-pin : point ∈ pins → ⊥
    is : k ≡ via P point
    onward : Among (home point) (home u)

  no_step : (u k : ℕ) → u ∈ pins → k ∈ home u → Step u k
  no_step u k o i = elim (rw (pin-way u o) at i) [ ]

  step_of : (m u k : ℕ) → far T u ≤ m → u < n → k ∈ home u → Step u k
  step_of zero u k l h i = at (is-in ℕ_discrete u pins)
    where
      at : Dec (u ∈ pins) → Step u k
      at (yes o) = no_step u k o i
      at (no o) = absurd (let z : ⊥ = omega (arith, far-off s whole u h o) in z)
  step_of (suc m) u k l h i =
      at (λ o q. step_of m (up P u) k (omega (arith, nearer u h o)) (parent_is s whole u h o).inside q) (is-in ℕ_discrete u pins)
    where
      further : (u ∈ pins → ⊥) → Step (up P u) k → Step u k
      further o t = record {
        point = t.point;
        inside = t.inside;
        no-pin = t.no-pin;
        is = t.is;
        onward = λ j q. rw (next_way u h o) (there (t.onward j q));
      }

      at : ((u ∈ pins → ⊥) → k ∈ home (up P u) → Step (up P u) k) → Dec (u ∈ pins) → Step u k
      at next (yes o) = no_step u k o i
      at next (no o) =
          either
          (λ e. record { point = u; inside = h; no-pin = o; is = e; onward = λ j q. q })
          (λ q. further o (next o q))
          (Memᴰ.cases_cons (rw (next_way u h o) at i))

  -- Edges of the union

  pub in-union : (k j : ℕ) → k < g.count → j ∈ K → k ∈ walk j → k ∈ E
  unfolding union_edges kept_edges
  in-union k j h m i =
      in-those (λ e. listed e (flat walk K)) (from 0 g.count) (in-from 0 g.count k (omega arith) (omega arith))
      (in-listed k (flat walk K) (in-flat walk K m i))

  -- edge k is on the path of a kept bridge
  pub record OnKept (k : ℕ) : Type 0 where
    pub inside : k < g.count
    pub bridge : ℕ
    pub kept : bridge ∈ K
    pub on : k ∈ walk bridge

  pub of-union : (k : ℕ) → k ∈ E → OnKept k
  unfolding union_edges kept_edges
  of-union k m =
      let r = of-those (λ e. listed e (flat walk K)) (from 0 g.count) m in
      let p = of-flat walk K (of-listed k (flat walk K) r.1) in
      record { inside = below-from g.count k r.0; bridge = p.entry; kept = p.stands; on = p.holds }

  -- the parts of a kept path are in the union
  module _ (j : ℕ) (m : j ∈ K) where
    inside-kept : j < g.count
    inside-kept = (of-kept g T P j m).0

    pub bridge_in : j ∈ E
    unfolding path
    bridge_in = in-union j j inside-kept m (Memᴰ.append_right (home (one g j)) (here refl))

    pub one_in : Among (home (one g j)) E
    unfolding path
    one_in k i = in-union k j ((way_home s whole (one g j) (s.one_in j inside-kept)).inside k i) m (Memᴰ.append_left (j ∷ home (two g j)) i)

    pub two_in : Among (home (two g j)) E
    unfolding path
    two_in k i =
        in-union k j ((way_home s whole (two g j) (s.two_in j inside-kept)).inside k i) m (Memᴰ.append_right (home (one g j)) (there i))

  -- edge k leads from a point that is no pin to its parent, and the rest of that point's way is in the union too
  record Upward (k : ℕ) : Type 0 where
    point : ℕ
    inside : point < n
    no-pin : point ∈ pins → ⊥
    is : k ≡ via P point
    onward : Among (home point) E

  upward : (u k : ℕ) → u < n → Among (home u) E → k ∈ home u → Upward k
  upward u k h a i =
      let t = step_of (far T u) u k (omega arith) h i in
      record { point = t.point; inside = t.inside; no-pin = t.no-pin; is = t.is; onward = λ j q. a j (t.onward j q) }

  -- an edge of the union is a kept bridge or leads upward
  kind : (k : ℕ) → k ∈ E → (k ∈ K) ⊎ Upward k
  unfolding path
  kind k m =
      let o = of-union k m in
      let j = o.bridge in
      let c = inside-kept j o.kept in
      either
      (λ i. inr (upward (one g j) k (s.one_in j c) (one_in j o.kept) i))
      (λ q. either
      (λ e. inl (Memᴰ.cast e o.kept))
      (λ i. inr (upward (two g j) k (s.two_in j c) (two_in j o.kept) i))
      (Memᴰ.cases_cons q))
      (Memᴰ.append_cases (home (one g j)) o.on)

  -- Points of the union

  abbrev Ends : List ℕ
  Ends = flat (both_ends g.ones g.twos) E

  in-points : (v : ℕ) → v < n → v ∈ (pins ++ Ends) → v ∈ W
  unfolding union_points
  in-points v h m =
      in-those (λ w. listed w (pins ++ Ends)) (from 0 n) (in-from 0 n v (omega arith) (omega arith)) (in-listed v (pins ++ Ends) m)

  pub pin-point : Among pins W
  pin-point v m = in-points v (s.sources-in v m) (Memᴰ.append_left Ends m)

  pub first-point : (k : ℕ) → k ∈ E → one g k ∈ W
  first-point k m =
      in-points (one g k) (s.one_in k (of-union k m).inside)
      (Memᴰ.append_right pins (in-flat (both_ends g.ones g.twos) E m (here refl)))

  pub second-point : (k : ℕ) → k ∈ E → two g k ∈ W
  second-point k m =
      in-points (two g k) (s.two_in k (of-union k m).inside)
      (Memᴰ.append_right pins (in-flat (both_ends g.ones g.twos) E m (there (here refl))))

  -- a point is a pin, or an end of an edge
  record EndOf (v : ℕ) : Type 0 where
    edge : ℕ
    stands-in : edge ∈ E
    is : (v ≡ one g edge) ⊎ (v ≡ two g edge)

  of-points : (v : ℕ) → v ∈ W → (v < n) × ((v ∈ pins) ⊎ EndOf v)
  unfolding union_points
  of-points v m =
      let r = of-those (λ w. listed w (pins ++ Ends)) (from 0 n) m in (
        below-from n v r.0,
        either inl (λ i. inr (ended (of-flat (both_ends g.ones g.twos) E i)))
            (Memᴰ.append_cases pins (of-listed v (pins ++ Ends) r.1)),
      )
    where
      ended : Piece (both_ends g.ones g.twos) E v → EndOf v
      ended p = record {
        edge = p.entry;
        stands-in = p.stands;
        is = either inl (λ i. inr (either (λ e. e) (λ q. elim q [ ]) (Memᴰ.cases_cons i))) (Memᴰ.cases_cons p.holds);
      }

  pub edge-inside : (k : ℕ) → k ∈ E → k < g.count
  edge-inside k m = (of-union k m).inside

  pub point-inside : (v : ℕ) → v ∈ W → v < n
  point-inside v m = (of-points v m).0

  -- the edge from a point that is no pin to its parent is in the union
  up-edge : (v : ℕ) → v ∈ W → (v ∈ pins → ⊥) → via P v ∈ E
  up-edge v m o = either (λ p. absurd (o p)) end (of-points v m).1
    where
      h : v < n
      h = (of-points v m).0

      first : via P v ∈ home v
      first = rw (next_way v h o) (here refl)

      moved : {z : ℕ} → v ≡ z → via P v ∈ home z
      moved e = subst (λ (y : ℕ). via P v ∈ home y) e first

      kept : (k : ℕ) → k ∈ K → (v ≡ one g k) ⊎ (v ≡ two g k) → via P v ∈ E
      kept k i (inl e) = one_in k i (via P v) (moved e)
      kept k i (inr e) = two_in k i (via P v) (moved e)

      above : (k : ℕ) → k ∈ E → Upward k → (v ≡ one g k) ⊎ (v ≡ two g k) → via P v ∈ E
      above k i u c =
          let z = u.point in
          let p = parent_is s whole z u.inside u.no-pin in
          let here_end : v ≡ z → via P v ∈ E = λ e. Memᴰ.cast (ap (via P) e ∙ sym u.is) i in
          let up-end : v ≡ up P z → via P v ∈ E = λ e. u.onward (via P v) (rw (next_way z u.inside u.no-pin) (there (moved e))) in
          at u.is p.ends-are c here_end up-end
        where
          at : {z : ℕ} → k ≡ via P z → Alike z (up P z) (one g (via P z)) (two g (via P z)) → (v ≡ one g k) ⊎ (v ≡ two g k) →
              (v ≡ z → via P v ∈ E) → (v ≡ up P z → via P v ∈ E) → via P v ∈ E
          at q (inl a) (inl e) x y = x (e ∙ ap (one g) q ∙ sym a.0)
          at q (inl a) (inr e) x y = y (e ∙ ap (two g) q ∙ sym a.1)
          at q (inr a) (inl e) x y = y (e ∙ ap (one g) q ∙ sym a.1)
          at q (inr a) (inr e) x y = x (e ∙ ap (two g) q ∙ sym a.0)

      end : EndOf v → via P v ∈ E
      end t = either (λ i. kept t.edge i t.is) (λ u. above t.edge t.stands-in u t.is) (kind t.edge t.stands-in)

  -- The count

  -- the points that are no pins
  abbrev N : List ℕ
  N = those (λ v. not (listed v pins)) W

  of_others : (v : ℕ) → v ∈ N → (v ∈ W) × (v ∈ pins → ⊥)
  of_others v m =
      let r = of-those (λ w. not (listed w pins)) W m in
      (r.0, λ i. differ (in-listed v pins i) (not-true (listed v pins) r.1))

  sorted-point : (v : ℕ) → v ∈ W → v ∈ (pins ++ N)
  sorted-point v m =
      by (listed v pins)
      (λ e. Memᴰ.append_left N (of-listed v pins e))
      (λ e. Memᴰ.append_right pins (in-those (λ w. not (listed w pins)) W m (ap not e)))

  of-sorted-point : (v : ℕ) → v ∈ (pins ++ N) → v ∈ W
  of-sorted-point v m = either (λ i. pin-point v i) (λ i. (of_others v i).0) (Memᴰ.append_cases pins m)

  pub points-once : Once W
  unfolding union_points
  points-once = picked-once (λ v. listed v (pins ++ Ends)) n

  pub edges-once : Once E
  unfolding union_edges
  edges-once = picked-once (λ k. listed k (kept_edges g T.fars P K)) g.count

  sorted-once : Once (pins ++ N)
  sorted-once = once_join pins N whole.once (those-once (λ v. not (listed v pins)) W points-once) (λ v i k. (of_others v k).1 i)

  -- the parent of a point that is no pin
  parent : (v : ℕ) → v ∈ N → Parent s whole v
  parent v m = let r = of_others v m in parent_is s whole v (point-inside v r.0) r.1

  nearer-up : (v : ℕ) → v ∈ N → far T (up P v) < far T v
  nearer-up v m = let r = of_others v m in nearer v (point-inside v r.0) r.1

  upper-edge : (v : ℕ) → v ∈ N → via P v ∈ E
  upper-edge v m = let r = of_others v m in up-edge v r.0 r.1

  -- two points with one edge to their parents are one
  own-edge : (v w : ℕ) → v ∈ N → w ∈ N → via P v ≡ via P w → v ≡ w
  own-edge v w i k e = at (parent v i).ends-are (parent w k).ends-are
    where
      crossed : v ≡ up P w → up P v ≡ w → v ≡ w
      crossed a b =
          let x = nearer-up v i in
          let y = nearer-up w k in
          let p : far T v ≡ far T (up P w) = ap (far T) a in
          let q : far T (up P v) ≡ far T w = ap (far T) b in
          absurd (let z : ⊥ = omega arith in z)

      at : Alike v (up P v) (one g (via P v)) (two g (via P v)) → Alike w (up P w) (one g (via P w)) (two g (via P w)) → v ≡ w
      at (inl a) (inl b) = a.0 ∙ ap (one g) e ∙ sym b.0
      at (inr a) (inr b) = a.0 ∙ ap (two g) e ∙ sym b.0
      at (inl a) (inr b) = crossed (a.0 ∙ ap (one g) e ∙ sym b.1) (a.1 ∙ ap (two g) e ∙ sym b.0)
      at (inr a) (inl b) = crossed (a.0 ∙ ap (two g) e ∙ sym b.1) (a.1 ∙ ap (one g) e ∙ sym b.0)

  -- an edge to a parent is no bridge
  no-bridge : (k : ℕ) → k ∈ map (via P) N → k ∈ K → ⊥
  unfolding one_root
  no-bridge k i m =
      let r = of_map (via P) N i in
      let v = r.entry in
      let p = parent v r.stands in
      let f : same_root g T (via P v) ≡ false = rw r.is at (of-kept g T P k m).1 in
      eqb-false _ _ f (at p.ends-are p.is.same-root)
    where
      at : {v : ℕ} → Alike v (up P v) (one g (via P v)) (two g (via P v)) → root T (up P v) ≡ root T v →
          root T (one g (via P v)) ≡ root T (two g (via P v))
      at (inl a) e = ap (root T) (sym a.0) ∙ sym e ∙ ap (root T) a.1
      at (inr a) e = ap (root T) (sym a.1) ∙ e ∙ ap (root T) a.0

  -- the edges to parents, and the kept bridges
  abbrev F : List ℕ
  F = map (via P) N ++ K

  kept-once : Once K
  kept-once = forest-once (roots_of g T) K (tree-forest ℕ_discrete (ours-tree s whole))

  parted-once : Once F
  parted-once =
      once_join (map (via P) N) K (map-once (via P) N own-edge (those-once (λ v. not (listed v pins)) W points-once)) kept-once no-bridge

  of-parted : Among F E
  of-parted k m =
      either
      (λ i. let r = of_map (via P) N i in Memᴰ.cast r.is (upper-edge r.entry r.stands))
      (λ i. bridge_in k i)
      (Memᴰ.append_cases (map (via P) N) m)

  -- a vertex with its edge to its parent in the union is a point
  lower-point : (z : ℕ) → Alike z (up P z) (one g (via P z)) (two g (via P z)) → via P z ∈ E → (z ∈ W) × (up P z ∈ W)
  lower-point z (inl a) m = (Memᴰ.cast a.0 (first-point (via P z) m), Memᴰ.cast a.1 (second-point (via P z) m))
  lower-point z (inr a) m = (Memᴰ.cast a.0 (second-point (via P z) m), Memᴰ.cast a.1 (first-point (via P z) m))

  in-parted : Among E F
  in-parted k m = either (λ i. Memᴰ.append_right (map (via P) N) i) above (kind k m)
    where
      above : Upward k → k ∈ F
      above u =
          let z = u.point in
          let w = (lower-point z (parent_is s whole z u.inside u.no-pin).ends-are (Memᴰ.cast (sym u.is) m)).0 in
          let i : z ∈ N = either (λ p. absurd (u.no-pin p)) (λ q. q) (Memᴰ.append_cases pins (sorted-point z w)) in
          Memᴰ.append_left K (Memᴰ.cast u.is (in_map (via P) i))

  pub union-size : suc (length E) ≡ length W
  union-size =
      omega (
        arith,
        once-length E F edges-once in-parted,
        once-length F E parted-once of-parted,
        once-length W (pins ++ N) points-once sorted-point,
        once-length (pins ++ N) W sorted-once of-sorted-point,
        length-append (map (via P) N) K,
        length-map N (via P),
        length-append pins N,
        kept-count s whole,
      )

  -- One tree

  hangs : Hangs (up P) (root T) (far T) (ends g) pins N K
  unfolding ends rooted
  hangs = record {
    once = sorted-once;
    roots = ours-tree s whole;
    itself = λ r m. (source-label s whole r m).1;
    rooting = λ v m. root-source s whole v (point-inside v (of-sorted-point v m));
    stands = λ v m. sorted-point (up P v) (lower-point v (parent v m).ends-are (upper-edge v m)).1;
    nearer = nearer-up;
    alike = λ v m. (parent v m).is.same-root;
    ends = λ k m. (sorted-point (one g k) (first-point k (bridge_in k m)), sorted-point (two g k) (second-point k (bridge_in k m)));
  }

  abbrev rise : ℕ → ℕ × ℕ
  rise v = (v, up (parented g n (labelled g n pins)) v)

  -- what hangs together hangs together by the union's edges
  linked : (a b : ℕ) → (a, b) ∈ grown (up P) (ends g) N K → Joined (map (ends g) E) a b
  unfolding grown ends
  linked a b m = either above bridge (Memᴰ.append_cases (map rise N) m)
    where
      link : (v : ℕ) → via P v ∈ E → Alike v (up P v) (one g (via P v)) (two g (via P v)) → Link (map (ends g) E) v (up P v)
      link v i (inl e) = inl (Memᴰ.cast (ap₂ (λ (x y : ℕ). (x, y)) e.0 e.1) (in_map (ends g) i))
      link v i (inr e) = inr (Memᴰ.cast (ap₂ (λ (x y : ℕ). (x, y)) e.1 e.0) (in_map (ends g) i))

      above : (a, b) ∈ map rise N → Joined (map (ends g) E) a b
      above i =
          let r = of_map rise N i in
          between (firsts r.is) (seconds r.is)
          (one_link (link r.entry (upper-edge r.entry r.stands) (parent r.entry r.stands).ends-are))

      bridge : (a, b) ∈ map (ends g) K → Joined (map (ends g) E) a b
      bridge i =
          let r = of_map (ends g) K i in
          one_link (inl (Memᴰ.cast r.is (in_map (ends g) (bridge_in r.entry r.stands))))

  -- the union of the kept paths is one tree over its points
  pub union-tree : TreeOn W (map (ends g) E)
  union-tree = record {
    once = points-once;
    joins = λ x y i k. through linked ((grown-tree hangs).joins x y (sorted-point x i) (sorted-point y k));
    size = ap suc (length-map E (ends g)) ∙ union-size;
  }

  -- each edge of it is counted on a kept path
  pub union-total : total (map (len g) E) ≤ (terminal g n pins).total
  unfolding terminal kept_lengths path_length
  union-total =
      omega (
        arith,
        once-total (len g) E (flat walk K) edges-once (λ k m. let o = of-union k m in in-flat walk K o.kept o.on),
        total-flat (len g) walk K,
      )
