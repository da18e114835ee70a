-- T6: the root is the nearest source along the graph. A label is the least length of a way to a source, and the smallest source at that
-- length. No way of at most k links is better than the label after k passes; a loop-free way has fewer links than there are vertices; and
-- every label below `unreached` is that of a way, since an edge is at least 1 long.
-- Assumes nothing.
use mathlib.Core.Path.{◌≡◌, refl, sym, ap, ap₂, ◌∙◌, subst}
use mathlib.Core.Logic.{inl, inr}
use mathlib.Core.List.Memᴰ
use mathlib.Core.List.{List, [], ◌∷◌, map}
use Prim.Native.Nat.{ℕ, zero, suc, ◌+◌, ◌*◌, ◌≤◌, ◌<◌}
use native.Mathlib.Decide.{ℕ_discrete, dec_le}
use native.Mathlib.Omega.{arith}
use lib.ListN.{length, get_or, set, length-set, length-replicate, get_or-replicate}
use lib.Seq.{get_or-set_same, get_or-set_other}
use Rattle.lists.specs.Member.{◌∈◌, here, there, Among, Once}
use Rattle.lists.proofs.TestLaws.{either}
use Rattle.lists.proofs.MemberLaws.{once-length, is-in}
use Rattle.lists.proofs.MapLaws.{in_map, of_map, map-among}
use Rattle.joined.specs.Joined.{Link, Alike}
use Rattle.joined.specs.Way.{Way, stop, go, long}
use Rattle.joined.proofs.JoinedLaws.{firsts, seconds}
use Rattle.joined.proofs.WayLaws.{loop-free, joined-way}
use Rattle.forest.specs.Bounds.{point_bound, cost_bound, unreached}
use Rattle.forest.specs.Edges.{Graph, one, two, len, from, Fits}
use Rattle.forest.specs.Labels.{Labels, labels, far, root, offer, relax_edge, relax, starts, unlabelled, labelled}
use Rattle.forest.specs.Setting.{ends, pairs, Setting, Whole}
use Rattle.forest.proofs.EdgeLaws.{in-from, below-from, length_from}
use Rattle.forest.proofs.Offers.{lex-same, lex-then, lex-more, Best, Sized, sized-offer, After, kept, taken, after-offer}
use Rattle.forest.proofs.Offers.{sized-edge}
use Rattle.forest.proofs.Offers.{Within, relax-meets, rounds, settled-rounds, sized-rounds, rounds-falls}

-- Labels before the first pass

sized-starts : (n : ℕ) (ps : List ℕ) (t : Labels) → Sized n t → Sized n (starts ps t)
unfolding starts
sized-starts n [] t s = s
sized-starts n (p ∷ ps) t s =
    sized-starts n ps _ (record {
      fars = omega (arith, length-set t.fars p 0, s.fars);
      roots = omega (arith, length-set t.roots p p, s.roots);
    })

start-other : (ps : List ℕ) (t : Labels) (v : ℕ) → (v ∈ ps → ⊥) → (far (starts ps t) v ≡ far t v) × (root (starts ps t) v ≡ root t v)
unfolding starts
start-other [] t v n = (refl, refl)
start-other (p ∷ ps) t v n =
    let r = start-other ps (labels (set t.fars p 0) (set t.roots p p)) v (λ m. n (there m)) in
    let e : v ≡ p → ⊥ = λ k. n (here k) in
    (r.0 ∙ get_or-set_other t.fars p v 0 0 e, r.1 ∙ get_or-set_other t.roots p v p 0 e)

start-own : (n : ℕ) (ps : List ℕ) (t : Labels) → Sized n t → ((p : ℕ) → p ∈ ps → p < n) → (v : ℕ) → v ∈ ps →
    (far (starts ps t) v ≡ 0) × (root (starts ps t) v ≡ v)
unfolding starts
start-own n [] t s h v m = elim m [ ]
start-own n (p ∷ ps) t s h v m = at (λ i. start-own n ps next sized (λ q j. h q (there j)) v i) (is-in ℕ_discrete v ps)
  where
    next : Labels
    next = labels (set t.fars p 0) (set t.roots p p)

    sized : Sized n next
    sized = record {
      fars = omega (arith, length-set t.fars p 0, s.fars);
      roots = omega (arith, length-set t.roots p p, s.roots);
    }

    Own : Type 0
    Own = (far (starts ps next) v ≡ 0) × (root (starts ps next) v ≡ v)

    head : v ≡ p → (v ∈ ps → ⊥) → Own
    head e no_more =
        let r = start-other ps next v no_more in
        let b = h p (here refl) in (
          r.0 ∙ ap (λ (j : ℕ). get_or (set t.fars p 0) j 0) e ∙ get_or-set_same t.fars p 0 0 (omega (arith, s.fars)),
          r.1 ∙ ap (λ (j : ℕ). get_or (set t.roots p p) j 0) e ∙ get_or-set_same t.roots p p 0 (omega (arith, s.roots)) ∙ sym e,
        )

    at : (v ∈ ps → Own) → Dec (v ∈ ps) → Own
    at again (yes i) = again i
    at again (no i) = either (λ e. head e i) (λ j. absurd (i j)) (Memᴰ.cases_cons m)

module _ {g : Graph} {n : ℕ} {d : ℕ → ℕ → ℕ} {sources : List ℕ} (s : Setting g n d sources) where
  pub fits : Fits g
  fits = record {
    count = s.edges;
    one_in = λ k h. omega (arith, s.one_in k h, s.vertices);
    two_in = λ k h. omega (arith, s.two_in k h, s.vertices);
    some = s.some;
    short = s.short;
  }

  -- Links

  -- the edge of a link
  pub record Joint (x y : ℕ) : Type 0 where
    pub edge : ℕ
    pub inside : edge < g.count
    pub measured : d x y ≡ len g edge
    pub ends-are : Alike x y (one g edge) (two g edge)

  pub joint : (x y : ℕ) → Link (pairs g) x y → Joint x y
  unfolding ends
  joint x y (inl m) =
      let r = of_map (ends g) (from 0 g.count) m in
      let k = below-from g.count r.entry r.stands in
      record {
        edge = r.entry;
        inside = k;
        measured = ap₂ d (firsts r.is) (seconds r.is) ∙ s.measured r.entry k;
        ends-are = inl (firsts r.is, seconds r.is);
      }
  joint x y (inr m) =
      let r = of_map (ends g) (from 0 g.count) m in
      let k = below-from g.count r.entry r.stands in
      record {
        edge = r.entry;
        inside = k;
        measured = s.even x y ∙ ap₂ d (firsts r.is) (seconds r.is) ∙ s.measured r.entry k;
        ends-are = inr (seconds r.is, firsts r.is);
      }

  edge-pair : (k : ℕ) → k < g.count → (one g k, two g k) ∈ pairs g
  unfolding ends
  edge-pair k h = in_map (ends g) (in-from 0 g.count k (omega arith) (omega arith))

  -- some of the edges
  pub edges-among : (ks : List ℕ) → ((k : ℕ) → k ∈ ks → k < g.count) → Among (map (ends g) ks) (pairs g)
  edges-among ks h = map-among (ends g) ks (from 0 g.count)
      (λ k m. (let i = h k m in in-from 0 g.count k (omega arith) (omega arith)))

  pub edge-link : (x y k : ℕ) → k < g.count → Alike x y (one g k) (two g k) → Link (pairs g) x y
  edge-link x y k h (inl e) = inl (rw (e.0, e.1) (edge-pair k h))
  edge-link x y k h (inr e) = inr (rw (e.0, e.1) (edge-pair k h))

  pub edge-long : (x y k : ℕ) → k < g.count → Alike x y (one g k) (two g k) → d x y ≡ len g k
  edge-long x y k h (inl e) = ap₂ d e.0 e.1 ∙ s.measured k h
  edge-long x y k h (inr e) = s.even x y ∙ ap₂ d e.1 e.0 ∙ s.measured k h

  -- a link goes between vertices, and is neither 0 nor long
  pub record Bounded (x y : ℕ) : Type 0 where
    pub near-in : x < n
    pub far-in : y < n
    pub some : 1 ≤ d x y
    pub short : d x y ≤ cost_bound

  pub link-in : (x y : ℕ) → Link (pairs g) x y → Bounded x y
  link-in x y l =
      let j = joint x y l in
      let k = j.inside in
      let a = s.one_in j.edge k in
      let b = s.two_in j.edge k in
      let c = s.some j.edge k in
      let f = s.short j.edge k in
      let e = j.measured in
      either
      (λ h. let p = h.0 in let q = h.1 in record { near-in = omega arith; far-in = omega arith; some = omega arith; short = omega arith })
      (λ h. let p = h.0 in let q = h.1 in record { near-in = omega arith; far-in = omega arith; some = omega arith; short = omega arith })
      j.ends-are

  way-inside : (z : ℕ) {x y : ℕ} {ps : List ℕ} → x < n → Way (pairs g) x ps y → z ∈ (x ∷ ps) → z ∈ from 0 n
  way-inside z h w (here e) = in-from 0 n z (omega arith) (omega arith)
  way-inside z h (stop e) (there m) = elim m [ ]
  way-inside z {x} h (go {y = y} l w) (there m) = way-inside z (link-in x y l).far-in w m

  way_in : {x y : ℕ} {ps : List ℕ} → x < n → Way (pairs g) x ps y → Among (x ∷ ps) (from 0 n)
  way_in h w z m = way-inside z h w m

  -- a loop-free way has fewer links than there are vertices
  pub few-links : {x y : ℕ} (ps : List ℕ) → x < n → Way (pairs g) x ps y → Once (x ∷ ps) → length ps < n
  few-links {x} ps h w o = omega (arith, once-length (x ∷ ps) (from 0 n) o (way_in h w), length_from 0 n)

  all-within : Within g n (from 0 g.count)
  all-within k m = let h = below-from g.count k m in (s.one_in k h, s.two_in k h)

  -- No way is better

  abbrev first : Labels
  first = starts sources unlabelled

  sized-unlabelled : Sized n unlabelled
  sized-unlabelled = record {
    fars = omega (arith, length-replicate {A = ℕ} point_bound unreached, s.vertices);
    roots = omega (arith, length-replicate {A = ℕ} point_bound 0, s.vertices);
  }

  sized-first : Sized n first
  sized-first = sized-starts n sources unlabelled sized-unlabelled

  source_first : (p : ℕ) → p ∈ sources → (far first p ≡ 0) × (root first p ≡ p)
  source_first p m = start-own n sources unlabelled sized-unlabelled s.sources-in p m

  abbrev after : ℕ → Labels
  after k = rounds g (from 0 g.count) k first

  sized-after : (k : ℕ) → Sized n (after k)
  sized-after k = sized-rounds g (from 0 g.count) n first sized-first k

  -- what the link of x and y offers x is met by the next pass
  link-meets : (k x y : ℕ) → Link (pairs g) x y → Best (relax g (from 0 g.count) (after k)) x (far (after k) y + d x y)
      (root (after k) y)
  link-meets k x y l = let j = joint x y l in at j.edge j.inside j.measured j.ends-are
    where
      at : (e : ℕ) → e < g.count → d x y ≡ len g e → Alike x y (one g e) (two g e) →
          Best (relax g (from 0 g.count) (after k)) x (far (after k) y + d x y) (root (after k) y)
      at e h m a =
          let r = relax-meets g n (from 0 g.count) (after k) (sized-after k) all-within e
          (in-from 0 g.count e (omega arith) (omega arith)) in
          either (λ c. rw (m, c.0, c.1) r.1) (λ c. rw (m, c.0, c.1) r.0) a

  enough : (k : ℕ) {x p : ℕ} {ps : List ℕ} → Way (pairs g) x ps p → p ∈ sources → length ps ≤ k → Best (after k) x (long d x ps) p
  unfolding long rounds
  enough k {x} {p} (stop e) h l =
      let f = source_first p h in
      rw e (lex-then (rounds-falls g (from 0 g.count) n first sized-first all-within k p) (lex-same f.0 f.1))
  enough zero (go m w) h l = absurd (let z : ⊥ = omega arith in z)
  enough (suc k) {x} {p} (go {y = y} {ps = ps} m w) h l =
      let i = lex-more (d x y) (enough k w h (omega arith)) in
      lex-then (link-meets k x y m) (omega (arith, i.0), λ j. i.1 (omega arith))

  abbrev T : Labels
  T = labelled g n sources

  T-after : T ≡ after n
  unfolding labelled
  T-after = settled-rounds g (from 0 g.count) n first

  pub best : {x p : ℕ} {ps : List ℕ} → x < n → Way (pairs g) x ps p → p ∈ sources → Best (labelled g n sources) x (long d x ps) p
  best {x} {p} {ps} h w i =
      let f = loop-free d ℕ_discrete w in
      let b = enough n f.free.way i (omega (arith, few-links f.free.points h f.free.way f.free.once)) in
      rw T-after (omega (arith, b.0, f.within), λ j. b.1 (omega (arith, f.within)))

  -- Every label is that of a way

  -- a way of length f from v to the source r
  pub record Reached (v f r : ℕ) : Type 0 where
    pub points : List ℕ
    pub way : Way (pairs g) v points r
    pub long-is : long d v points ≡ f
    pub source : r ∈ sources

  abbrev Sound : Labels → Type 0
  Sound t = (v : ℕ) → v < n → (far t v ≤ unreached) × (far t v < unreached → Reached v (far t v) (root t v))

  sound-offer : (u v : ℕ) (t : Labels) → Sized n t → Link (pairs g) v u → Sound t → Sound (offer u v (d v u) t)
  unfolding long
  sound-offer u v t z l h w i = at (after-offer n u v (d v u) t z (link-in v u l).near-in w)
    where
      reach : Reached u (far t u) (root t u) → Reached v (far t u + d v u) (root t u)
      reach r = record { points = u ∷ r.points; way = go l r.way; long-is = omega (arith, r.long-is); source = r.source }

      at : After n u v (d v u) t z (link-in v u l).near-in w →
          (far (offer u v (d v u) t) w ≤ unreached)
          × (far (offer u v (d v u) t) w < unreached → Reached w (far (offer u v (d v u) t) w) (root (offer u v (d v u) t) w))
      at (kept f r) = rw (f, r) (h w i)
      at (taken e b f r) =
          let c = link-in v u l in
          let m = (h v c.near-in).0 in
          let o = c.some in
          rw (f, r, e) (
            omega (arith, b.0),
            λ j. reach ((h u c.far-in).1 (omega arith)),
          )

  sound-edge : (k : ℕ) → k < g.count → (t : Labels) → Sized n t → Sound t → Sound (relax_edge g k t)
  unfolding relax_edge
  sound-edge k h t z f =
      let l = edge-link (two g k) (one g k) k h (inr (refl, refl)) in
      let m = edge-link (one g k) (two g k) k h (inl (refl, refl)) in
      let p : d (two g k) (one g k) ≡ len g k = edge-long (two g k) (one g k) k h (inr (refl, refl)) in
      let q : d (one g k) (two g k) ≡ len g k = edge-long (one g k) (two g k) k h (inl (refl, refl)) in
      let a : Sound (offer (one g k) (two g k) (len g k) t) =
      subst (λ (c : ℕ). Sound (offer (one g k) (two g k) c t)) p (sound-offer (one g k) (two g k) t z l f)
      in
      subst (λ (c : ℕ). Sound (offer (two g k) (one g k) c (offer (one g k) (two g k) (len g k) t))) q
      (sound-offer (two g k) (one g k) _ (sized-offer n _ _ _ t z) m a)

  sound-relax : (ks : List ℕ) → ((k : ℕ) → k ∈ ks → k < g.count) → (t : Labels) → Sized n t → Sound t → Sound (relax g ks t)
  unfolding relax
  sound-relax [] i t z h = h
  sound-relax (k ∷ ks) i t z h =
      sound-relax ks (λ j m. i j (there m)) (relax_edge g k t) (sized-edge g n k t z) (sound-edge k (i k (here refl)) t z h)

  sound-first : Sound first
  unfolding long
  sound-first v h = at (is-in ℕ_discrete v sources)
    where
      at : Dec (v ∈ sources) → (far first v ≤ unreached) × (far first v < unreached → Reached v (far first v) (root first v))
      at (yes m) =
          let f = source_first v m in
          rw (f.0, f.1) (omega arith, λ k. record { points = []; way = stop refl; long-is = refl; source = m })
      at (no m) =
          let e : far first v ≡ unreached =
          (start-other sources unlabelled v m).0 ∙ get_or-replicate point_bound v unreached 0 (omega (arith, s.vertices))
          in
          (omega arith, λ k. absurd (let z : ⊥ = omega arith in z))

  sound-after : (k : ℕ) → Sound (after k)
  unfolding rounds
  sound-after zero = sound-first
  sound-after (suc k) = sound-relax (from 0 g.count) (λ j m. below-from g.count j m) (after k) (sized-after k) (sound-after k)

  sound : Sound (labelled g n sources)
  sound = rw T-after (sound-after n)

  pub far-low : (v : ℕ) → v < n → far (labelled g n sources) v ≤ unreached
  far-low v h = (sound v h).0

  pub reached : (v : ℕ) → v < n → far (labelled g n sources) v < unreached
      → Reached v (far (labelled g n sources) v) (root (labelled g n sources) v)
  reached v h k = (sound v h).1 k

  -- no label is better than a neighbour's offers
  pub closed : (x y : ℕ) → Link (pairs g) x y
      → Best (labelled g n sources) x (far (labelled g n sources) y + d x y) (root (labelled g n sources) y)
  unfolding long
  closed x y l = at (dec_le unreached (far T y))
    where
      at : Dec (unreached ≤ far T y) → Best T x (far T y + d x y) (root T y)
      at (no h) =
          let i = link-in x y l in
          let r = reached y i.far-in (omega arith) in
          let b = best i.near-in (go l r.way) r.source in
          (omega (arith, b.0, r.long-is), λ j. b.1 (omega (arith, r.long-is)))
      at (yes h) =
          let i = link-in x y l in
          let m = far-low x i.near-in in
          let c = i.some in
          (omega arith, λ j. absurd (let z : ⊥ = omega arith in z))

  -- Where the graph joins its vertices, every vertex is reached

  way-short : {x y : ℕ} (ps : List ℕ) → Way (pairs g) x ps y → long d x ps ≤ cost_bound * length ps
  unfolding long
  way-short [] w = omega arith
  way-short {x} (y ∷ ps) (go l w) = omega (arith, (link-in x y l).short, way-short ps w)

  pub all-reached : Whole g n sources → (v : ℕ) → v < n → far (labelled g n sources) v < unreached
  all-reached whole v h =
      let f = loop-free d ℕ_discrete (joined-way (whole.joined v whole.source h (s.sources-in _ whole.is-source))).1 in
      let w = f.free.way in
      omega (
        arith,
        few-links f.free.points h w f.free.once,
        way-short f.free.points w,
        (best h w whole.is-source).0,
        s.vertices,
      )

  -- T6: the root is the nearest source along the graph, of several the smallest
  pub record NearestSource (v f r : ℕ) : Type 0 where
    pub is-reached : Reached v f r
    pub nearest : (p : ℕ) (ps : List ℕ) → p ∈ sources → Way (pairs g) v ps p → f ≤ long d v ps
    pub smallest : (p : ℕ) (ps : List ℕ) → p ∈ sources → Way (pairs g) v ps p → long d v ps ≡ f → r ≤ p

  pub nearest-source : Whole g n sources → (v : ℕ) → v < n → NearestSource v (far (labelled g n sources) v) (root (labelled g n sources) v)
  nearest-source whole v h = record {
    is-reached = reached v h (all-reached whole v h);
    nearest = λ p ps m w. (best h w m).0;
    smallest = λ p ps m w e. (best h w m).1 (omega arith);
  }
