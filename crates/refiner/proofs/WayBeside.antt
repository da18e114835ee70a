-- R23, R27: the way of a vertex to its root hangs on the tree: its steps are edges of the graph, none of its vertices but the root is a
-- point of the tree, and none comes twice. So with the tree's points its vertices are at most the graph's vertices and the further points.
-- Assumes nothing.
use mathlib.Core.Path.{◌≡◌, refl, sym, ap, ap₂, ◌∙◌}
use mathlib.Core.Bool.{true}
use mathlib.Core.List.Memᴰ
use mathlib.Core.List.{List, [], ◌∷◌, ◌++◌, map}
use Prim.Native.Nat.{ℕ, zero, suc, ◌+◌, ◌≤◌, ◌<◌}
use native.Mathlib.Omega.{arith}
use lib.Dec.{ltb}
use lib.IntN.{ℤ}
use lib.ListN.{length, get_or, set, length-set, length-append, length-map, replicate}
use borrow.Author.Tests.{ltb-true, ltb-false}
use Rattle.lists.specs.Any.{any}
use Rattle.lists.specs.Member.{◌∈◌, here, there, Once}
use Rattle.lists.proofs.TestLaws.{by, differ, either}
use Rattle.lists.proofs.AnyLaws.{any_none}
use Rattle.lists.proofs.MapLaws.{of_map, map-once}
use Rattle.plane.specs.declared.Place.{Place}
use Rattle.plane.specs.Place.{before, same_place}
use Rattle.plane.specs.Macro.{clear}
use Rattle.plane.specs.Flat.{place_at}
use Rattle.plane.specs.Rank.{rank}
use Rattle.plane.proofs.PlaceLaws.{same_refl, before-irrefl}
use Rattle.plane.proofs.MacroLaws.{clear_comm}
use Rattle.net.specs.Net.{Net, cost_in}
use Rattle.joined.specs.Joined.{Link}
use Rattle.joined.specs.Way.{Way, stop, go, long}
use Rattle.joined.proofs.WayLaws.{way-last}
use Rattle.forest.specs.Bounds.{point_bound}
use Rattle.forest.specs.Labels.{Labels, far, root}
use Rattle.forest.specs.Parents.{Parents, way_after}
use Rattle.forest.specs.Setting.{pairs}
use Rattle.forest.proofs.Nearest.{joint, link-in}
use Rattle.forest.proofs.Homeward.{source-label, far-off, root-source, way_home, way-runs, way-once, way-source}
use Rattle.tree.specs.Table.{Tree}
use Rattle.tree.specs.Places.{points_of, Sound}
use Rattle.tree.specs.Outside.{outside, strangers}
use Rattle.tree.proofs.SumLaws.{other, here as set_here}
use Rattle.tree.proofs.ListingLaws.{listing-length, in-listing}
use Rattle.tree.proofs.PointLaws.{order-once}
use Rattle.tree.proofs.OutsideLaws.{outside-rest}
use Rattle.lists.specs.Turns.{turns}
use Rattle.beside.specs.Beside.{Ground, take_seat, seats, labels_in, parents_in, seats_in}
use Rattle.refiner.specs.Ready.{vertices_of, vertex_at, Grounded}
use Rattle.refiner.proofs.WayFound.{point-is, is-seated, distance, source_in, in_source, setting, whole}
use Rattle.refiner.proofs.GraftSound.{Hanging}

-- The table of seats

module _ (pts : List ℤ) (n : ℕ) (vs : List ℤ) (roots : List ℕ) where
  seats-before : (c i : ℕ) (t : List ℕ) (j : ℕ) → j < i → get_or (turns (take_seat pts n vs roots) i c t) j 0 ≡ get_or t j 0
  unfolding turns take_seat
  seats-before zero i t j h = refl
  seats-before (suc c) i t j h =
      seats-before c (suc i) _ j (omega arith) ∙ other t i j (rank pts n (place_at vs (get_or roots i 0))) (λ q. let z : ⊥ = omega arith in z)

  seats-from : (c i : ℕ) (t : List ℕ) (j : ℕ) → i + c ≤ length t → i ≤ j → j < i + c →
      get_or (turns (take_seat pts n vs roots) i c t) j 0 ≡ rank pts n (place_at vs (get_or roots j 0))
  unfolding turns take_seat
  seats-from zero i t j b h l = absurd (let z : ⊥ = omega arith in z)
  seats-from (suc c) i t j b h l =
      let x = rank pts n (place_at vs (get_or roots i 0)) in
      by (ltb i j)
      (λ q. seats-from c (suc i) (set t i x) j (rw (length-set t i x) (omega arith)) (ltb-true i j q) (omega arith))
      (λ q.
      let e : j ≡ i = omega (arith, ltb-false i j q) in
      seats-before c (suc i) (set t i x) j (omega arith) ∙ rw e (set_here t i x (omega arith)))

zeros-length : (m : ℕ) → length (replicate {A = ℕ} m 0) ≡ m
zeros-length zero = refl
zeros-length (suc m) = ap suc (zeros-length m)

-- known places in front bring no stranger
outside-known : (vs ws ps : List Place) → ((z : Place) → z ∈ ws → z ∈ vs) → length (outside vs (ws ++ ps)) ≡ length (outside vs ps)
unfolding outside
outside-known vs [] ps h = refl
outside-known vs (w ∷ ws) ps h =
    by (any (same_place w) vs) (λ t. rw (outside, t) (outside-known vs ws ps (λ z i. h z (there i))))
    (λ t. differ (same_refl w) (any_none (same_place w) vs t w (h w (here refl))))

once-append : (l m : List Place) → Once l → Once m → ((z : Place) → z ∈ l → z ∈ m → ⊥) → Once (l ++ m)
once-append [] m o r h = r
once-append (x ∷ l) m o r h =
    (λ i. either o.0 (h x (here refl)) (Memᴰ.append_cases l i), once-append l m o.1 r (λ z i. h z (there i)))

-- the vertices of a way but its last
abbrev fore : ℕ → List ℕ → List ℕ
fore u [] = []
fore u (y ∷ ys) = u ∷ fore y ys

fore-length : (u : ℕ) (ys : List ℕ) → length (fore u ys) ≡ length ys
fore-length u [] = refl
fore-length u (y ∷ ys) = ap suc (fore-length y ys)

fore-in : (u : ℕ) (ys : List ℕ) (z : ℕ) → z ∈ fore u ys → z ∈ (u ∷ ys)
fore-in u [] z m = elim m [ ]
fore-in u (y ∷ ys) z m = either (λ e. here e) (λ i. there (fore-in y ys z i)) (Memᴰ.cases_cons m)

fore-once : (u : ℕ) (ys : List ℕ) → Once (u ∷ ys) → Once (fore u ys)
fore-once u [] o = tt
fore-once u (y ∷ ys) o = (λ m. o.0 (fore-in y ys u m), fore-once y ys o.1)

module _ (net : Net) (g : Ground) (t : Tree) (ground : Grounded net g) (sound : Sound net t) where
  abbrev pub T : Labels
  T = labels_in g t

  abbrev pub P : Parents
  P = parents_in g t

  abbrev pub way_of : ℕ → List ℕ
  way_of u = way_after T.fars P.ups u

  -- Distances

  -- a vertex on the tree is at no distance, one beside it is
  pub on-near : (u : ℕ) → u < g.count → vertex_at g u ∈ points_of t.points t.count → far T u ≡ 0
  unfolding labels_in
  on-near u h m = (source-label (setting net g t ground sound) (whole net g t ground sound) u (in_source net g t ground sound u h m)).0

  pub off-far : (u : ℕ) → u < g.count → (vertex_at g u ∈ points_of t.points t.count → ⊥) → 1 ≤ far T u
  unfolding labels_in
  off-far u h n =
      far-off (setting net g t ground sound) (whole net g t ground sound) u h (λ m. n (source_in net g t ground sound u m).1)

  -- The root and its seat

  pub root-on : (u : ℕ) → u < g.count → (root T u < g.count) × (vertex_at g (root T u) ∈ points_of t.points t.count)
  unfolding labels_in
  root-on u h =
      source_in net g t ground sound _ (root-source (setting net g t ground sound) (whole net g t ground sound) u h)

  seat-is : (u : ℕ) → u < g.count → get_or (seats_in g t) u 0 ≡ rank t.points t.count (vertex_at g (root T u))
  unfolding seats_in seats
  seat-is u h =
      seats-from t.points t.count g.places T.roots g.count 0 (replicate point_bound 0) u
      (rw (zeros-length point_bound) (omega (arith, ground.setting.vertices))) (omega arith) (omega arith)

  pub seated : (u : ℕ) → u < g.count →
      (get_or (seats_in g t) u 0 < t.count) × (place_at t.points (get_or (seats_in g t) u 0) ≡ vertex_at g (root T u))
  seated u h =
      let s = is-seated t.points t.count sound.ordered (vertex_at g (root T u))
      (point-is t.points t.count sound.ordered (vertex_at g (root T u)) (root-on u h).1) in
      (omega (arith, seat-is u h, s.0), ap (place_at t.points) (seat-is u h) ∙ s.1)

  -- The way

  step_clear : (x y : ℕ) → Link (pairs g.graph) x y → clear (vertex_at g x) (vertex_at g y) net.macros ≡ true
  step_clear x y l =
      let j = joint (setting net g t ground sound) x y l in
      let free = ground.free j.edge j.inside in
      either
      (λ e. ap₂ (λ (a b : ℕ). clear (vertex_at g a) (vertex_at g b) net.macros) e.0 e.1 ∙ free)
      (λ e.
      ap₂ (λ (a b : ℕ). clear (vertex_at g a) (vertex_at g b) net.macros) e.0 e.1
      ∙ clear_comm _ _ net.macros ∙ free)
      j.ends-are

  pub vertex-one : (x y : ℕ) → x < g.count → y < g.count → vertex_at g x ≡ vertex_at g y → x ≡ y
  vertex-one x y hx hy e =
      by (ltb x y) (λ b. differ (ap (before (vertex_at g x)) e ∙ ground.ordered x y (ltb-true x y b) hy) (before-irrefl (vertex_at g x)))
      (λ b.
      by (ltb y x) (λ c. differ (ap (before (vertex_at g y)) (sym e) ∙ ground.ordered y x (ltb-true y x c) hx)
      (before-irrefl (vertex_at g y)))
      (λ c. omega (arith, ltb-false x y b, ltb-false y x c)))

  way-stays : (z : ℕ) {u r : ℕ} {ys : List ℕ} → u < g.count → Way (pairs g.graph) u ys r → z ∈ (u ∷ ys) → z < g.count
  way-stays z h w (here e) = omega (arith, e)
  way-stays z h (stop e) (there m) = elim m [ ]
  way-stays z {u} h (go {y = y} l w) (there m) = way-stays z (link-in (setting net g t ground sound) u y l).far-in w m

  pub way-low : {u r : ℕ} {ys : List ℕ} → u < g.count → Way (pairs g.graph) u ys r → (z : ℕ) → z ∈ (u ∷ ys) → z < g.count
  way-low h w z m = way-stays z h w m

  hang : {r : ℕ} (k l v : ℕ) → vertex_at g r ≡ place_at t.points v → {u : ℕ} {ys : List ℕ} → u < g.count →
      Way (pairs g.graph) u ys r → Once (u ∷ ys) →
      ((z : ℕ) → z ∈ (u ∷ ys) → vertex_at g z ∈ points_of t.points t.count → z ≡ r) → Hanging net t k l v g.places ys u
  hang k l v at h (stop e) o f = ap (vertex_at g) e ∙ at
  hang k l v at {u} h (go {y = y} {ps = ys} link w) o f =
      let low = (link-in (setting net g t ground sound) u y link).far-in in (
        step_clear u y link,
        (
          λ m. o.0 (Memᴰ.cast (f u (here refl) m) (way-last w)),
          (
            λ m.
                let s = of_map (vertex_at g) (y ∷ ys) m in
                o.0 (Memᴰ.cast (vertex-one u s.entry h (way-low low w s.entry s.stands) s.is) s.stands),
            hang k l v at low w o.1 (λ z i. f z (there i)),
          ),
        ),
      )

  pub way-along : (u : ℕ) → u < g.count → Way (pairs g.graph) u (way_of u) (root T u)
  unfolding labels_in parents_in way_after
  way-along u h = way-runs (setting net g t ground sound) (whole net g t ground sound) u h

  pub way-single : (u : ℕ) → u < g.count → Once (u ∷ way_of u)
  unfolding labels_in parents_in way_after
  way-single u h = way-once (setting net g t ground sound) (whole net g t ground sound) u h

  pub way-meets : (u : ℕ) → u < g.count → (z : ℕ) → z ∈ (u ∷ way_of u) → vertex_at g z ∈ points_of t.points t.count → z ≡ root T u
  unfolding labels_in parents_in way_after
  way-meets u h z m p =
      way-source (setting net g t ground sound) (whole net g t ground sound) u h z m
      (in_source net g t ground sound z (way-low h (way-runs (setting net g t ground sound) (whole net g t ground sound) u h) z m) p)

  pub way-hangs : (k l u : ℕ) → u < g.count → Hanging net t k l (get_or (seats_in g t) u 0) g.places (way_of u) u
  way-hangs k l u h =
      hang k l (get_or (seats_in g t) u 0) (sym (seated u h).1) h (way-along u h) (way-single u h) (way-meets u h)

  pub long-places : {u r : ℕ} {ys : List ℕ} → Way (pairs g.graph) u ys r →
      long (cost_in net) (vertex_at g u) (map (vertex_at g) ys) ≡ long (distance net g t ground sound) u ys
  unfolding long
  long-places (stop e) = refl
  long-places {u} (go {y = y} l w) = ap (λ (s : ℕ). cost_in net (vertex_at g u) (vertex_at g y) + s) (long-places w)

  -- it is as long as the vertex is far
  pub way_long : (u : ℕ) → u < g.count → long (cost_in net) (vertex_at g u) (map (vertex_at g) (way_of u)) ≡ far T u
  unfolding labels_in parents_in way_after
  way_long u h =
      long-places (way-runs (setting net g t ground sound) (whole net g t ground sound) u h)
      ∙ (way_home (setting net g t ground sound) (whole net g t ground sound) u h).length-is

  -- How many

  pub way-room : (u : ℕ) → u < g.count → t.count + length (way_of u) ≤ g.count + strangers (vertices_of g) t
  way-room u h =
      let ws = map (vertex_at g) (fore u (way_of u)) in
      let ps = points_of t.points t.count in
      let low = way-low h (way-along u h) in
      let known : (z : Place) → z ∈ ws → z ∈ vertices_of g
      = λ z m.
      let s = of_map (vertex_at g) (fore u (way_of u)) m in
      Memᴰ.cast s.is (in-listing (vertex_at g) g.count s.entry (low s.entry (fore-in u (way_of u) s.entry s.stands))) in
      let once : Once (ws ++ ps)
      = once-append ws ps
      (map-once (vertex_at g) (fore u (way_of u))
      (λ x y i k e. vertex-one x y (low x (fore-in u (way_of u) x i)) (low y (fore-in u (way_of u) y k)) e)
      (fore-once u (way_of u) (way-single u h)))
      (order-once t.points t.count sound.ordered)
      (λ z m p.
      let s = of_map (vertex_at g) (fore u (way_of u)) m in
      fore-last u (way_of u) (root T u) (way-along u h) (way-single u h) s.entry s.stands
      (way-meets u h s.entry (fore-in u (way_of u) s.entry s.stands) (Memᴰ.cast (sym s.is) p))) in
      omega (
        arith,
        outside-rest (vertices_of g) (ws ++ ps) once,
        outside-known (vertices_of g) ws ps known,
        length-append ws ps,
        length-map (fore u (way_of u)) (vertex_at g),
        fore-length u (way_of u),
        listing-length (place_at t.points) t.count,
        listing-length (vertex_at g) g.count,
      )
    where
      -- the last vertex is none of those before it
      fore-last : (x : ℕ) (ys : List ℕ) (r : ℕ) → Way (pairs g.graph) x ys r → Once (x ∷ ys) → (z : ℕ) → z ∈ fore x ys → z ≡ r → ⊥
      fore-last x [] r w o z m e = elim m [ ]
      fore-last x (y ∷ ys) r (go l w) o z m e =
          either (λ q. o.0 (Memᴰ.cast (sym q ∙ e) (way-last w))) (λ i. fore-last y ys r w o.1 z i e) (Memᴰ.cases_cons m)
