-- R27: with its way laid, a candidate beside the tree is one on the tree, with the same L: the way from u to the edge is the way that was
-- laid and then the tree's way from v. So the exchange on the tree serves for both.
-- Assumes nothing.
use mathlib.Core.Path.{◌≡◌, refl, sym, ap, ap₂, ◌∙◌, subst}
use mathlib.Core.Bool.{false}
use mathlib.Core.Logic.{inl, inr}
use mathlib.Core.List.Memᴰ
use mathlib.Core.List.{List, [], ◌∷◌, ◌++◌, map}
use Prim.Native.Nat.{ℕ, ◌+◌, ◌*◌, ◌≤◌, ◌<◌}
use native.Mathlib.Omega.{arith}
use lib.Dec.{ltb}
use lib.IntN.{ℤ}
use lib.ListN.{length, get_or}
use borrow.Author.Tests.{ltb-true, ltb-false}
use Rattle.lists.specs.Member.{◌∈◌, here, there, Among, Once}
use Rattle.lists.proofs.TestLaws.{by, differ, either, or-none}
use Rattle.lists.proofs.MapLaws.{of_map, map-once}
use Rattle.plane.specs.declared.Place.{Place}
use Rattle.plane.specs.Place.{before, same_place}
use Rattle.plane.specs.Middle.{middle_place}
use Rattle.plane.specs.Flat.{place_at}
use Rattle.plane.specs.Rank.{InOrder}
use Rattle.plane.proofs.PlaceLaws.{same_refl, before-irrefl}
use Rattle.net.specs.Net.{Net}
use Rattle.joined.specs.Joined.{Link, Alike, Inside}
use Rattle.joined.specs.Way.{Way, stop, go, Free}
use Rattle.joined.specs.Exchange.{Toward, steps}
use Rattle.joined.proofs.JoinedLaws.{firsts, seconds}
use Rattle.joined.proofs.WayLaws.{way-cast, way-more}
use Rattle.forest.specs.Labels.{root}
use Rattle.forest.specs.Parents.{way_after}
use Rattle.forest.specs.Setting.{pairs}
use Rattle.tree.specs.Table.{tree_bound, first_end, second_end, Tree}
use Rattle.tree.specs.Places.{ends_of, points_of, edges_of, Ranked, Sound}
use Rattle.tree.proofs.ListingLaws.{in-listing, of-listing}
use Rattle.longest.specs.Longest.{costs, longest}
use Rattle.candidates.specs.Candidate.{middle_of}
use Rattle.beside.specs.Beside.{Ground, on_way, middle_beside, labels_in, parents_in, seats_in}
use Rattle.refiner.specs.Graft.{Grown, grafted}
use Rattle.refiner.specs.Ready.{vertex_at, Grounded}
use Rattle.refiner.specs.Sentences.{key_at, end_a, end_b, CutAt}
use Rattle.candidates.specs.Taken.{Taken}
use Rattle.refiner.proofs.CutSound.{cut-at}
use Rattle.bounds.proofs.DroppedLaws.{not-dropped, dropped-not, Other}
use Rattle.refiner.proofs.GraftSound.{Grows, grows-way}
use Rattle.refiner.proofs.WayBeside.{on-near, seated, vertex-one, way-low, way-along, way-single, way-meets, way-hangs}
use Rattle.refiner.proofs.BesideWins.{WinnerOff}

-- Ways put together

module _ {A : Type 0} where
  once-append : (l m : List A) → Once l → Once m → ((z : A) → z ∈ l → z ∈ m → ⊥) → Once (l ++ m)
  once-append [] m o r h = r
  once-append (x ∷ l) m o r h =
      (λ i. either o.0 (h x (here refl)) (Memᴰ.append_cases l i), once-append l m o.1 r (λ z i. h z (there i)))

  way_then : {L : List (A × A)} {x y z : A} {ps qs : List A} → Way L x ps y → Way L y qs z → Way L x (ps ++ qs) z
  way_then (stop e) v = way-cast e v
  way_then (go l w) v = go l (way_then w v)

  steps_then : {L : List (A × A)} {x y : A} {ps : List A} → Way L x ps y → (qs : List A) (e : A × A) → e ∈ steps y qs →
      e ∈ steps x (ps ++ qs)
  unfolding steps
  steps_then (stop k) qs e m = rw k m
  steps_then (go l w) qs e m = there (steps_then w qs e m)

  -- a way from a point of the tree stays among its points
  way-stays : {X : List A} {T : List (A × A)} (z : A) {x y : A} {ps : List A} → Inside X T → Way T x ps y → x ∈ X → z ∈ (x ∷ ps) → z ∈ X
  way-stays z h w i (here e) = Memᴰ.cast e i
  way-stays z h (go (inl m) w) i (there k) = way-stays z h w (h _ _ m).1 k
  way-stays z h (go (inr m) w) i (there k) = way-stays z h w (h _ _ m).0 k
  way-stays z h (stop e) i (there k) = elim k [ ]

  way-inside : {X : List A} {T : List (A × A)} {x y : A} {ps : List A} → Inside X T → Way T x ps y → x ∈ X → Among (x ∷ ps) X
  way-inside h w i z m = way-stays z h w i m

-- points in order are told by their places
pub point-one : (pts : List ℤ) (n : ℕ) → InOrder pts n → (i j : ℕ) → i < n → j < n → place_at pts i ≡ place_at pts j → i ≡ j
point-one pts n o i j hi hj e =
    by (ltb i j) (λ b. differ (ap (before (place_at pts i)) e ∙ o i j (ltb-true i j b) hj) (before-irrefl (place_at pts i)))
    (λ b.
    by (ltb j i) (λ c. differ (ap (before (place_at pts j)) (sym e) ∙ o j i (ltb-true j i c) hi) (before-irrefl (place_at pts j)))
    (λ c. omega (arith, ltb-false i j b, ltb-false j i c)))

-- s is none of the places of a way
pub way-off : (vs : List ℤ) (s : Place) (ys : List ℕ) → on_way vs s ys ≡ false → (y : ℕ) → y ∈ ys → s ≡ place_at vs y → ⊥
unfolding on_way
way-off vs s [] t y m e = elim m [ ]
way-off vs s (x ∷ ys) t y m e =
    let r = or-none (same_place s (place_at vs x)) (on_way vs s ys) t in
    either
    (λ q. differ (ap (same_place s) (sym (e ∙ ap (place_at vs) q)) ∙ same_refl s) r.0)
    (λ i. way-off vs s ys r.1 y i e) (Memᴰ.cases_cons m)

module _ (net : Net) (g : Ground) (t : Tree) (ground : Grounded net g) (sound : Sound net t)
    (ranked : Ranked t.edges.keys t.edges.size) (places : length t.points ≡ tree_bound * 2)
    (rows : length t.edges.keys ≡ tree_bound) (few : t.count ≤ tree_bound) (gain k u l : ℕ)
    (win : WinnerOff net.weights net.macros t.points t.count t.edges.keys t.edges.size
    (costs net.weights t.points t.edges.keys t.edges.size)
    (longest t.edges.keys (costs net.weights t.points t.edges.keys t.edges.size) t.edges.size t.count)
    g.places g.count (labels_in g t).fars (parents_in g t).ups (seats_in g t) gain k u l)
    (room : length (way_after (labels_in g t).fars (parents_in g t).ups u) + t.count ≤ tree_bound) where
  abbrev pub ways : List ℕ
  ways = way_after (labels_in g t).fars (parents_in g t).ups u

  abbrev pub x : Place
  x = vertex_at g u

  abbrev pub qs : List Place
  qs = map (vertex_at g) ways

  abbrev pub v : ℕ
  v = get_or (seats_in g t) u 0

  abbrev pub y : Place
  y = place_at t.points v

  abbrev X : List Place
  X = points_of t.points t.count

  abbrev E : List (Place × Place)
  E = edges_of t.points t.edges.keys t.edges.size

  abbrev pub after : Grown
  after = grafted g.places ways u (record { tree = t; last = v; edge = k; cut = l })

  seat : (v < t.count) × (y ≡ vertex_at g (root (labels_in g t) u))
  seat = seated net g t ground sound u win.vertex

  -- L

  pub cut : CutAt net t k v l
  cut =
      subst (λ (m : ℕ). CutAt net t k v m) (sym win.cut)
      (cut-at net t sound few k v win.edge seat.0 (either win.not_first win.not_second))

  pub grows : Grows net t k l x qs after
  grows =
      grows-way net t k l v g.places sound ranked places rows seat.0 win.edge cut.longest.step.edge
      (λ q. win.two (sym q)) ways u room (way-hangs net g t ground sound k l u win.vertex)

  -- The way meets the tree at v alone

  inside : Inside X E
  inside a b m =
      let r = of-listing (λ i. ends_of t.points (get_or t.edges.keys i 0)) t.edges.size (a, b) m in (
        Memᴰ.cast (firsts r.1.1) (in-listing (place_at t.points) t.count _ (sound.within.ends r.0).0),
        Memᴰ.cast (seconds r.1.1) (in-listing (place_at t.points) t.count _ (sound.within.ends r.0).1),
      )

  pub beside : x ∈ X → ⊥
  beside m = win.off (on-near net g t ground sound u win.vertex m)

  meets : (z : Place) → z ∈ (x ∷ qs) → z ∈ X → z ≡ y
  meets z m i =
      let s = of_map (vertex_at g) (u ∷ ways) m in
      s.is
      ∙ ap (vertex_at g) (way-meets net g t ground sound u win.vertex s.entry s.stands (Memᴰ.cast (sym s.is) i))
      ∙ sym seat.1

  once : Once (x ∷ qs)
  once =
      map-once (vertex_at g) (u ∷ ways)
      (λ a b i j e.
      vertex-one net g t ground sound a b (way-low net g t ground sound win.vertex (way-along net g t ground sound u win.vertex) a i)
      (way-low net g t ground sound win.vertex (way-along net g t ground sound u win.vertex) b j) e)
      (way-single net g t ground sound u win.vertex)

  -- The grafted tree

  abbrev pts : List ℤ
  pts = after.tree.points

  abbrev ks : List ℕ
  ks = after.tree.edges.keys

  abbrev U : List (Place × Place)
  U = edges_of pts ks after.tree.edges.size

  a-is : place_at pts (first_end (get_or ks after.edge 0)) ≡ end_a t k
  a-is = firsts grows.edge-at

  b-is : place_at pts (second_end (get_or ks after.edge 0)) ≡ end_b t k
  b-is = seconds grows.edge-at

  laid : {r : ℕ} {z : ℕ} {ys : List ℕ} → Way (pairs g.graph) z ys r →
      ((c d : Place) → (c, d) ∈ steps (vertex_at g z) (map (vertex_at g) ys) → Link U c d) →
      Way U (vertex_at g z) (map (vertex_at g) ys) (vertex_at g r)
  unfolding steps
  laid (stop e) f = stop (ap (vertex_at g) e)
  laid (go l w) f = go (f _ _ (here refl)) (laid w (λ c d m. f c d (there m)))

  way-laid : Way U x qs y
  way-laid =
      subst (λ (z : Place). Way U x qs z) (sym seat.1) (laid (way-along net g t ground sound u win.vertex) grows.edge-way)

  abbrev tail : List Place
  tail = cut.way.free.points

  tail-in : Among (y ∷ tail) X
  tail-in = way-inside inside cut.way.free.way (in-listing (place_at t.points) t.count v seat.0)

  abbrev free : Free U x cut.way.near
  free = record {
    points = qs ++ tail;
    way = way_then way-laid (way-more grows.edge-old cut.way.free.way);
    once =
        once-append (x ∷ qs) tail once cut.way.free.once.1
        (λ z m i. cut.way.free.once.0 (Memᴰ.cast (sym (meets z m (tail-in z (there i)))) i));
  }

  far-in : cut.way.far ∈ X
  far-in =
      either
      (λ e. Memᴰ.cast e.1 (in-listing (place_at t.points) t.count _ (sound.within.ends k).1))
      (λ e. Memᴰ.cast e.1 (in-listing (place_at t.points) t.count _ (sound.within.ends k).0))
      cut.way.ends

  abbrev toward : Toward U x (end_a t k) (end_b t k)
  toward = record {
    near = cut.way.near;
    far = cut.way.far;
    ends = cut.way.ends;
    free = free;
    short =
        λ m.
        either
        (λ i. cut.way.short (here (meets cut.way.far i far-in)))
        (λ i. cut.way.short (there i)) (Memᴰ.append_cases (x ∷ qs) m);
  }

  -- Not dropped

  pub s-is : middle_of pts (first_end (get_or ks after.edge 0)) (second_end (get_or ks after.edge 0)) after.last
      ≡ middle_beside t.points g.places (first_end (key_at t k)) (second_end (key_at t k)) u
  s-is =
      ap₂ (λ (a b : Place). middle_place a b (place_at pts after.last)) a-is b-is
      ∙ ap (λ (c : Place). middle_place (end_a t k) (end_b t k) c) grows.last-at

  none : (i : ℕ) → i < after.tree.count →
      Other pts after.tree.count (first_end (get_or ks after.edge 0)) (second_end (get_or ks after.edge 0)) after.last
      (middle_of pts (first_end (get_or ks after.edge 0)) (second_end (get_or ks after.edge 0)) after.last) i → ⊥
  none i h o = either old new (grows.point-known (place_at pts i) (in-listing (place_at pts) after.tree.count i h))
    where
      one : (j : ℕ) → j < after.tree.count → place_at pts i ≡ place_at pts j → i ≡ j
      one j hj e = point-one pts after.tree.count grows.sound.ordered i j h hj e

      old : place_at pts i ∈ X → ⊥
      old m =
          let r = of-listing (place_at t.points) t.count (place_at pts i) m in
          let no-a : r.0 ≡ first_end (key_at t k) → ⊥
          = λ q. o.0.0 (one _ (grows.sound.within.ends after.edge).0 (r.1.1 ∙ ap (place_at t.points) q ∙ sym a-is)) in
          let no-b : r.0 ≡ second_end (key_at t k) → ⊥
          = λ q. o.0.1.0 (one _ (grows.sound.within.ends after.edge).1 (r.1.1 ∙ ap (place_at t.points) q ∙ sym b-is)) in
          dropped-not t.points t.count (first_end (key_at t k)) (second_end (key_at t k)) (first_end (key_at t k)) _ win.kept r.0
          r.1.0 ((no-a, (no-b, no-a)), sym s-is ∙ o.1 ∙ r.1.1)

      new : place_at pts i ∈ (x ∷ qs) → ⊥
      new m =
          either
          (λ q. o.0.1.1 (one after.last grows.last (q ∙ sym grows.last-at)))
          (λ j.
          let r = of_map (vertex_at g) ways j in
          way-off g.places _ ways win.away r.entry r.stands (sym s-is ∙ o.1 ∙ r.is))
          (Memᴰ.cases_cons m)

  -- the way from x to the edge of a and b, with L on it
  abbrev Along : Place → Place → Place → Type 0
  Along c a b = (w : Toward U c a b) × ((cut.longest.step.one, cut.longest.step.other) ∈ steps c w.free.points)

  along : Along x (end_a t k) (end_b t k)
  along = (toward, steps_then way-laid tail _ cut.longest.step.on)

  along-after : Along (place_at pts after.last) (place_at pts (first_end (get_or ks after.edge 0)))
      (place_at pts (second_end (get_or ks after.edge 0)))
  along-after =
      subst (λ (c : Place). Along c (place_at pts (first_end (get_or ks after.edge 0))) (place_at pts (second_end (get_or ks after.edge 0))))
      (sym grows.last-at)
      (subst (λ (a : Place). Along x a (place_at pts (second_end (get_or ks after.edge 0)))) (sym a-is)
      (subst (λ (b : Place). Along x (end_a t k) b) (sym b-is) along))

  pub taken : Taken net.macros pts after.tree.count ks after.tree.edges.size after.edge after.cut after.last
  taken = record {
    edge = grows.edge;
    cut = grows.cut;
    two = grows.two;
    point = grows.last;
    not_first = λ q. beside (Memᴰ.cast (sym grows.last-at ∙ ap (place_at pts) q ∙ a-is)
        (in-listing (place_at t.points) t.count _ (sound.within.ends k).0));
    not_second = λ q. beside (Memᴰ.cast (sym grows.last-at ∙ ap (place_at pts) q ∙ b-is)
        (in-listing (place_at t.points) t.count _ (sound.within.ends k).1));
    seen = rw (a-is, b-is, grows.last-at) win.seen;
    kept = not-dropped pts after.tree.count _ _ after.last _ none;
    toward = along-after.0;
    one = cut.longest.step.one;
    other = cut.longest.step.other;
    on = along-after.1;
    longest =
        subst (λ (z : Place × Place). Alike cut.longest.step.one cut.longest.step.other z.0 z.1) (sym grows.cut-at)
        cut.longest.step.ends;
  }
