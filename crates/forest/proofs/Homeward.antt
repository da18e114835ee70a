-- T7, T8: the parent is the smallest neighbour on a shortest way to the root, and the way goes from parent to parent. The next vertex of a
-- shortest way has the same root and is nearer by the link, so the scan finds a parent; along parents the distance falls, so a way is
-- loop-free, has no source but its last vertex, and is as long as the distance.
-- Assumes nothing.
use mathlib.Core.Path.{◌≡◌, refl, sym, ap, ap₂, ◌∙◌, subst}
use mathlib.Core.Logic.{◌⊎◌, inl, inr}
use mathlib.Core.List.Memᴰ
use mathlib.Core.List.{List, [], ◌∷◌, map}
use Prim.Native.Nat.{ℕ, zero, suc, ◌+◌, ◌≤◌, ◌<◌}
use native.Mathlib.Decide.{ℕ_discrete}
use native.Mathlib.Omega.{arith}
use Rattle.lists.specs.Member.{◌∈◌, here, there, Once}
use Rattle.lists.specs.Total.{total}
use Rattle.lists.proofs.TestLaws.{either}
use Rattle.lists.proofs.MemberLaws.{is-in}
use Rattle.joined.specs.Joined.{Link, Alike}
use Rattle.joined.specs.Way.{Way, stop, go, long, On}
use Rattle.joined.proofs.OtherLaws.{alike-sym}
use Rattle.joined.proofs.WayLaws.{way-more}
use Rattle.forest.specs.declared.Step.{Step}
use Rattle.forest.specs.Bounds.{point_bound}
use Rattle.forest.specs.Edges.{Graph, one, two, len, from}
use Rattle.forest.specs.Labels.{Labels, far, root, labelled}
use Rattle.forest.specs.Parents.{none, parent, Parents, up, via, parented, way_of, way, way_length, climb}
use Rattle.forest.specs.Setting.{ends, pairs, Setting, Whole}
use Rattle.forest.proofs.EdgeLaws.{below-from, in-from}
use Rattle.forest.proofs.ParentLaws.{Candidate, Found, parent-found, parented-up, parented-via}
use Rattle.forest.proofs.WayLaws.{way-go, way-none, climb-go, climb-none}
use Rattle.forest.proofs.Nearest.{fits, edges-among, joint, edge-link, edge-long, link-in, best, closed, Reached, reached}
use Rattle.forest.proofs.Nearest.{all-reached}

module _ {g : Graph} {n : ℕ} {d : ℕ → ℕ → ℕ} {sources : List ℕ} (s : Setting g n d sources) (whole : Whole g n sources) where
  abbrev T : Labels
  T = labelled g n sources

  abbrev P : Parents
  P = parented g n (labelled g n sources)

  -- Sources

  near : (v : ℕ) → v < n → Reached s v (far T v) (root T v)
  near v h = reached s v h (all-reached s whole v h)

  -- a way of length 0 stays
  no_length : {x y : ℕ} {ps : List ℕ} → Way (pairs g) x ps y → long d x ps ≡ 0 → x ≡ y
  unfolding long
  no_length (stop e) h = e
  no_length {x} (go {y = y} l w) h = absurd (let c = (link-in s x y l).some in let z : ⊥ = omega arith in z)

  -- a source is its own root, at no distance
  pub source-label : (p : ℕ) → p ∈ sources → (far T p ≡ 0) × (root T p ≡ p)
  unfolding long
  source-label p m =
      let h = s.sources-in p m in
      let b = best s h (stop refl) m in
      let f : far T p ≡ 0 = omega (arith, b.0) in
      let r = near p h in
      (f, sym (no_length r.way (r.long-is ∙ f)))

  pub far-off : (v : ℕ) → v < n → (v ∈ sources → ⊥) → 1 ≤ far T v
  far-off v h m = at (ℕ_discrete (far T v) 0)
    where
      at : Dec (far T v ≡ 0) → 1 ≤ far T v
      at (no k) = omega (arith, k)
      at (yes k) = let r = near v h in absurd (m (rw (no_length r.way (r.long-is ∙ k)) r.source))

  pub root-source : (v : ℕ) → v < n → root T v ∈ sources
  root-source v h = (near v h).source

  -- Parents

  -- w is a neighbour of v with the same root, and a shortest way of v runs through it
  pub record Onward (v w : ℕ) : Type 0 where
    pub link : Link (pairs g) v w
    pub nearer : far T w + d v w ≡ far T v
    pub same-root : root T w ≡ root T v

  -- the next vertex of a shortest way
  pub onward-of : (v w : ℕ) (ps : List ℕ) → Link (pairs g) v w → Way (pairs g) w ps (root T v) → root T v ∈ sources →
      d v w + long d w ps ≡ far T v → Onward v w
  onward-of v w ps l y m e =
      let i = link-in s v w l in
      let b = best s i.far-in y m in
      let c = closed s v w l in
      let f : far T w + d v w ≡ far T v = omega (arith, b.0, c.0) in
      let q = b.1 (omega arith) in
      let r = c.1 (omega arith) in
      record { link = l; nearer = f; same-root = omega (arith, q, r) }

  some-onward : (v : ℕ) → v < n → (v ∈ sources → ⊥) → (w : ℕ) × Onward v w
  unfolding long
  some-onward v h m = at (near v h)
    where
      at : Reached s v (far T v) (root T v) → (w : ℕ) × Onward v w
      at r = along r.points r.way r.long-is
        where
          along : (ps : List ℕ) → Way (pairs g) v ps (root T v) → long d v ps ≡ far T v → (w : ℕ) × Onward v w
          along [] (stop e) f = absurd (m (rw e r.source))
          along (w ∷ ps) (go l y) f = (w, onward-of v w ps l y r.source f)

  candidate : (v w : ℕ) → Onward v w → (k : ℕ) × (k < g.count) × Candidate g T v w k
  candidate v w o =
      let j = joint s v w o.link in
      let e = j.measured in
      (j.edge, j.inside, (j.ends-are, (omega (arith, o.nearer), o.same-root)))

  onward : (v w k : ℕ) → k < g.count → Candidate g T v w k → Onward v w
  onward v w k h c =
      let e = edge-long s v w k h c.0 in
      record { link = edge-link s v w k h c.0; nearer = omega (arith, c.1.0); same-root = c.1.1 }

  found : (v : ℕ) → Found g T v (from 0 g.count) none (parent g T v)
  found v = parent-found g T v (fits s)

  -- the parent, and the edge to it
  pub record Parent (v : ℕ) : Type 0 where
    pub inside : up P v < n
    pub is : Onward v (up P v)
    pub smallest : (w : ℕ) → Onward v w → up P v ≤ w
    pub edge : via P v < g.count
    pub ends-are : Alike v (up P v) (one g (via P v)) (two g (via P v))

  pub parent_is : (v : ℕ) → v < n → (v ∈ sources → ⊥) → Parent v
  parent_is v h m = at (found v).is
    where
      a : up P v ≡ (parent g T v).to
      a = parented-up g n T s.vertices v h

      b : via P v ≡ (parent g T v).via
      b = parented-via g n T s.vertices v h

      least : (w : ℕ) → Onward v w → (parent g T v).to ≤ w
      least w o =
          let c = candidate v w o in
          (found v).least c.0 (in-from 0 g.count c.0 (omega arith) (omega (arith, c.1))) w c.2

      at : (parent g T v ≡ none) ⊎ (((parent g T v).via ∈ from 0 g.count) × Candidate g T v (parent g T v).to (parent g T v).via) →
          Parent v
      at (inl e) =
          let w = some-onward v h m in
          let i = (link-in s v w.0 w.1.link).far-in in
          let l = least w.0 w.1 in
          let z : (parent g T v).to ≡ point_bound = ap (λ (r : Step). r.to) e in
          absurd (let y : ⊥ = omega (arith, s.vertices) in y)
      at (inr c) =
          let k = below-from g.count (parent g T v).via c.0 in
          let o = onward v (parent g T v).to (parent g T v).via k c.1 in
          record {
            inside = rw a (link-in s v (parent g T v).to o.link).far-in;
            is = subst (Onward v) (sym a) o;
            smallest = λ w q. rw a (least w q);
            edge = rw b k;
            ends-are = rw (a, b) c.1.0;
          }

  -- T7: w is a neighbour with the same root, and a shortest way to that root goes on from it
  pub record Through (v w : ℕ) : Type 0 where
    pub link : Link (pairs g) v w
    pub same-root : root T w ≡ root T v
    pub points : List ℕ
    pub way : Way (pairs g) w points (root T v)
    pub shortest : d v w + long d w points ≡ far T v

  pub through-onward : (v w : ℕ) → v < n → Through v w → Onward v w
  through-onward v w h t = onward-of v w t.points t.link t.way (root-source v h) t.shortest

  pub onward-through : (v w : ℕ) → Onward v w → Through v w
  onward-through v w o =
      let r = near w (link-in s v w o.link).far-in in
      record {
        link = o.link;
        same-root = o.same-root;
        points = r.points;
        way = subst (λ (z : ℕ). Way (pairs g) w r.points z) o.same-root r.way;
        shortest = omega (arith, r.long-is, o.nearer);
      }

  -- T7: the parent is the smallest of these
  pub parent-through : (v : ℕ) → v < n → (v ∈ sources → ⊥) → Through v (up P v) × ((w : ℕ) → Through v w → up P v ≤ w)
  parent-through v h m =
      let p = parent_is v h m in
      (onward-through v (up P v) p.is, λ w t. p.smallest w (through-onward v w h t))

  -- a source has no parent
  pub source-parent : (p : ℕ) → p ∈ sources → up P p ≡ point_bound
  source-parent p m =
      parented-up g n T s.vertices p (s.sources-in p m)
      ∙ either (λ e. ap (λ (r : Step). r.to) e)
      (λ c.
      let k = below-from g.count (parent g T p).via c.0 in
      let q = s.some (parent g T p).via k in
      absurd (let z : ⊥ = omega (arith, c.1.1.0, (source-label p m).0) in z))
      (found p).is

  -- Ways

  -- distances fall along a list of vertices
  abbrev pub Falling : ℕ → List ℕ → Type 0
  Falling x [] = Unit {0}
  Falling x (y ∷ ps) = (far T y < far T x) × Falling y ps

  falling-below : (x : ℕ) (ps : List ℕ) → Falling x ps → (z : ℕ) → z ∈ ps → far T z < far T x
  falling-below x [] f z m = elim m [ ]
  falling-below x (y ∷ ps) f z m =
      either (λ k. rw k f.0) (λ i. omega (arith, f.0, falling-below y ps f.1 z i)) (Memᴰ.cases_cons m)

  falling-once : (x : ℕ) (ps : List ℕ) → Falling x ps → Once (x ∷ ps)
  falling-once x [] f = (λ m. elim m [ ], tt)
  falling-once x (y ∷ ps) f = (λ m. (let l = falling-below x (y ∷ ps) f x m in omega arith), falling-once y ps f.1)

  -- ps are the vertices after v on its way to its root, and es the edges
  pub record Home (v : ℕ) (ps es : List ℕ) : Type 0 where
    pub along : Way (map (ends g) es) v ps (root T v)
    pub inside : (k : ℕ) → k ∈ es → k < g.count
    pub length-is : long d v ps ≡ far T v
    pub edges_are : total (map (len g) es) ≡ far T v
    pub falling : Falling v ps
    -- each edge is a step
    pub each : (k : ℕ) → k ∈ es → On (one g k) (two g k) v ps
    pub alike : (z : ℕ) → z ∈ (v ∷ ps) → root T z ≡ root T v

  at_source : (v : ℕ) → v ∈ sources → Home v [] []
  unfolding long total
  at_source v m =
      let l = source-label v m in
      record {
        along = stop (sym l.1);
        inside = λ k i. elim i [ ];
        length-is = sym l.0;
        edges_are = sym l.0;
        falling = tt;
        each = λ k i. elim i [ ];
        alike = λ z i. either (λ k. ap (root T) k) (λ j. elim j [ ]) (Memᴰ.cases_cons i);
      }

  one_up : (v : ℕ) (ps es : List ℕ) → Parent v → Home (up P v) ps es → Home v (up P v ∷ ps) (via P v ∷ es)
  unfolding long total ends
  one_up v ps es p r =
      let o = p.is in
      let i = link-in s v (up P v) o.link in
      let c = i.some in
      let e = edge-long s v (up P v) (via P v) p.edge p.ends-are in
      record {
        along =
            go (first-link p.ends-are)
            (way-more (λ q m. there m) (subst (λ (z : ℕ). Way (map (ends g) es) (up P v) ps z) o.same-root r.along));
        inside = λ k m. either (λ q. rw q p.edge) (λ q. r.inside k q) (Memᴰ.cases_cons m);
        length-is = omega (arith, r.length-is, o.nearer);
        edges_are = omega (arith, r.edges_are, o.nearer);
        falling = (omega (arith, o.nearer), r.falling);
        each =
            λ k m.
            either (λ q. inl (subst (λ (j : ℕ). Alike (one g j) (two g j) v (up P v)) (sym q) (alike-sym p.ends-are)))
            (λ q. inr (r.each k q))
            (Memᴰ.cases_cons m);
        alike = λ z m. either (λ q. ap (root T) q) (λ q. r.alike z q ∙ o.same-root) (Memᴰ.cases_cons m);
      }
    where
      first-link : Alike v (up P v) (one g (via P v)) (two g (via P v)) → Link (map (ends g) (via P v ∷ es)) v (up P v)
      first-link (inl e) = inl (here (ap₂ (λ (a b : ℕ). (a, b)) e.0 e.1))
      first-link (inr e) = inr (here (ap₂ (λ (a b : ℕ). (a, b)) e.1 e.0))

  lower : (k v : ℕ) → far T v ≤ suc k → Parent v → far T (up P v) ≤ k
  lower k v l p = let c = (link-in s v (up P v) p.is.link).some in omega (arith, p.is.nearer)

  home : (k v : ℕ) → v < n → far T v ≤ k → Home v (climb P.ups k v) (way_of P k v)
  home zero v h l = at (is-in ℕ_discrete v sources)
    where
      at : Dec (v ∈ sources) → Home v (climb P.ups zero v) (way_of P zero v)
      at (yes m) =
          let u : point_bound ≤ up P v = omega (arith, source-parent v m) in
          rw (climb-none P.ups zero v u, way-none P zero v u) (at_source v m)
      at (no m) = absurd (let z : ⊥ = omega (arith, far-off v h m) in z)
  home (suc k) v h l = at (λ p. home k (up P v) p.inside (lower k v l p)) (is-in ℕ_discrete v sources)
    where
      at : (Parent v → Home (up P v) (climb P.ups k (up P v)) (way_of P k (up P v))) → Dec (v ∈ sources) →
          Home v (climb P.ups (suc k) v) (way_of P (suc k) v)
      at up-home (yes m) =
          let u : point_bound ≤ up P v = omega (arith, source-parent v m) in
          rw (climb-none P.ups (suc k) v u, way-none P (suc k) v u) (at_source v m)
      at up-home (no m) =
          let p = parent_is v h m in
          let u : up P v < point_bound = omega (arith, p.inside, s.vertices) in
          rw (climb-go P.ups k v u, way-go P k v u) (one_up v _ _ p (up-home p))

  -- T8: a way goes from parent to parent and ends at the root
  pub data Upward : ℕ → List ℕ → Type 0 where
    arrived : {v : ℕ} → v ∈ sources → Upward v []
    onto : {v : ℕ} {ps : List ℕ} → (v ∈ sources → ⊥) → Upward (up P v) ps → Upward v (up P v ∷ ps)

  climbs : (k v : ℕ) → v < n → far T v ≤ k → Upward v (climb P.ups k v)
  climbs zero v h l = at (is-in ℕ_discrete v sources)
    where
      at : Dec (v ∈ sources) → Upward v (climb P.ups zero v)
      at (yes m) = let u : point_bound ≤ up P v = omega (arith, source-parent v m) in rw (climb-none P.ups zero v u) (arrived m)
      at (no m) = absurd (let z : ⊥ = omega (arith, far-off v h m) in z)
  climbs (suc k) v h l = at (λ p. climbs k (up P v) p.inside (lower k v l p)) (is-in ℕ_discrete v sources)
    where
      at : (Parent v → Upward (up P v) (climb P.ups k (up P v))) → Dec (v ∈ sources) → Upward v (climb P.ups (suc k) v)
      at above (yes m) = let u : point_bound ≤ up P v = omega (arith, source-parent v m) in rw (climb-none P.ups (suc k) v u) (arrived m)
      at above (no m) =
          let p = parent_is v h m in
          let u : up P v < point_bound = omega (arith, p.inside, s.vertices) in
          rw (climb-go P.ups k v u) (onto m (above p))

  -- a way goes on, from each of its vertices, with that vertex's parent
  goes_on : (k v : ℕ) → v < n → far T v ≤ k → (z : ℕ) → z ∈ (v ∷ climb P.ups k v) → (z ∈ sources → ⊥) → up P z ∈ climb P.ups k v
  unfolding climb
  goes_on zero v h l z m o =
      either
      (λ e. absurd (let f = far-off v h (λ i. o (rw e i)) in let y : ⊥ = omega arith in y))
      (λ i. elim i [ ])
      (Memᴰ.cases_cons m)
  goes_on (suc k) v h l z m o =
      at (λ p i. goes_on k (up P v) p.inside (lower k v l p) z i o) (is-in ℕ_discrete v sources) (Memᴰ.cases_cons m)
    where
      at : (Parent v → z ∈ (up P v ∷ climb P.ups k (up P v)) → up P z ∈ climb P.ups k (up P v)) → Dec (v ∈ sources) →
          (z ≡ v) ⊎ (z ∈ climb P.ups (suc k) v) → up P z ∈ climb P.ups (suc k) v
      at next (yes i) (inl e) = absurd (o (rw e i))
      at next (yes i) (inr j) =
          let u : point_bound ≤ up P v = omega (arith, source-parent v i) in
          elim (rw (climb-none P.ups (suc k) v u) at j) [ ]
      at next (no i) c =
          let p = parent_is v h i in
          let u : up P v < point_bound = omega (arith, p.inside, s.vertices) in
          rw (climb-go P.ups k v u)
          (either (λ e. here (ap (up P) e)) (λ j. there (next p (rw (climb-go P.ups k v u) at j))) c)

  -- the vertices after v on its way
  abbrev pub way_points : ℕ → List ℕ
  way_points v = climb P.ups (far T v) v

  pub way_home : (v : ℕ) → v < n → Home v (way_points v) (way T.fars P v)
  unfolding way
  way_home v h = home (far T v) v h (omega arith)

  pub way-upward : (v : ℕ) → v < n → Upward v (way_points v)
  way-upward v h = climbs (far T v) v h (omega arith)

  -- it runs along edges of the graph
  pub way-runs : (v : ℕ) → v < n → Way (pairs g) v (way_points v) (root T v)
  way-runs v h = let r = way_home v h in way-more (edges-among s (way T.fars P v) r.inside) r.along

  pub way-once : (v : ℕ) → v < n → Once (v ∷ way_points v)
  way-once v h = falling-once v (way_points v) (way_home v h).falling

  -- no vertex on it but the root is a source
  pub way-source : (v : ℕ) → v < n → (z : ℕ) → z ∈ (v ∷ way_points v) → z ∈ sources → z ≡ root T v
  way-source v h z m p = sym (source-label z p).1 ∙ (way_home v h).alike z m

  pub way-goes-on : (v : ℕ) → v < n → (z : ℕ) → z ∈ (v ∷ way_points v) → (z ∈ sources → ⊥) → up P z ∈ way_points v
  way-goes-on v h z m o = goes_on (far T v) v h (omega arith) z m o

  pub way-length : (v : ℕ) → v < n → way_length g.lengths T.fars P v ≡ far T v
  unfolding way_length
  way-length v h = (way_home v h).edges_are
