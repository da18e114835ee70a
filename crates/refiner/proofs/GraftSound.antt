-- R27: a way that meets the tree at its end alone is laid, from there outwards, and the tree stays sound. Its points are those of before
-- and those of the way, its edges those of before and the way's steps, and it costs what the way costs more.
-- Assumes nothing.
use mathlib.Core.Path.{◌≡◌, refl, sym, ap, ◌∙◌, subst}
use mathlib.Core.Bool.{true}
use mathlib.Core.Logic.{◌⊎◌, inl, inr}
use mathlib.Core.List.Memᴰ
use mathlib.Core.List.{List, [], ◌∷◌, map}
use Prim.Native.Nat.{ℕ, ◌+◌, ◌*◌, ◌≤◌, ◌<◌}
use native.Mathlib.Omega.{arith}
use lib.IntN.{ℤ}
use lib.ListN.{length, get_or, length-map}
use Rattle.lists.specs.Member.{◌∈◌, here, there, Among}
use Rattle.lists.proofs.TestLaws.{either}
use Rattle.plane.specs.declared.Place.{Place}
use Rattle.plane.specs.Macro.{clear}
use Rattle.plane.specs.Flat.{place_at}
use Rattle.net.specs.Net.{Net, cost_in}
use Rattle.joined.specs.Joined.{Link, Alike}
use Rattle.joined.specs.Way.{long}
use Rattle.joined.specs.Exchange.{steps}
use Rattle.joined.proofs.JoinedLaws.{firsts, seconds}
use Rattle.tree.specs.Table.{tree_bound, Tree}
use Rattle.tree.specs.Places.{ends_of, points_of, edges_of, tree_total, Ranked, Sound}
use Rattle.tree.proofs.ListingLaws.{in-listing}
use Rattle.refiner.specs.Graft.{Grown, leaf, grafted}
use Rattle.exchanges.proofs.WithinLaws.{bump-in, rank-le}
use Rattle.refiner.proofs.LeafSound as leafed

-- z is a step of the way from x through qs, made either way
pub record StepAt (x : Place) (qs : List Place) (z : Place × Place) : Type 0 where
  pub one : Place
  pub other : Place
  pub on : (one, other) ∈ steps x qs
  pub ends : Alike one other z.0 z.1

-- g is the tree t with the way from x through qs laid, of which v is the end; the edges k and l of t are followed
pub record Grows (net : Net) (t : Tree) (k l : ℕ) (x : Place) (qs : List Place) (g : Grown) : Type 0 where
  pub sound : Sound net g.tree
  pub ranked : Ranked g.tree.edges.keys g.tree.edges.size
  pub places : length g.tree.points ≡ tree_bound * 2
  pub rows : length g.tree.edges.keys ≡ tree_bound
  pub last : g.last < g.tree.count
  pub last-at : place_at g.tree.points g.last ≡ x
  pub edge : g.edge < g.tree.edges.size
  pub cut : g.cut < g.tree.edges.size
  pub two : g.edge ≡ g.cut → ⊥
  pub edge-at : ends_of g.tree.points (get_or g.tree.edges.keys g.edge 0) ≡ ends_of t.points (get_or t.edges.keys k 0)
  pub cut-at : ends_of g.tree.points (get_or g.tree.edges.keys g.cut 0) ≡ ends_of t.points (get_or t.edges.keys l 0)
  pub point-old : Among (points_of t.points t.count) (points_of g.tree.points g.tree.count)
  pub point-way : Among (x ∷ qs) (points_of g.tree.points g.tree.count)
  pub point-known : (z : Place) → z ∈ points_of g.tree.points g.tree.count → (z ∈ points_of t.points t.count) ⊎ (z ∈ (x ∷ qs))
  pub edge-old : Among (edges_of t.points t.edges.keys t.edges.size)
      (edges_of g.tree.points g.tree.edges.keys g.tree.edges.size)
  pub edge-way : (c d : Place) → (c, d) ∈ steps x qs → Link (edges_of g.tree.points g.tree.edges.keys g.tree.edges.size) c d
  pub edge-known : (z : Place × Place) → z ∈ edges_of g.tree.points g.tree.edges.keys g.tree.edges.size →
      (z ∈ edges_of t.points t.edges.keys t.edges.size) ⊎ StepAt x qs z
  pub total : tree_total net.weights g.tree ≡ long (cost_in net) x qs + tree_total net.weights t
  pub count : g.tree.count ≡ length qs + t.count

-- nothing is laid yet
pub grows_none : (net : Net) (t : Tree) (k l v : ℕ) → Sound net t → Ranked t.edges.keys t.edges.size →
    length t.points ≡ tree_bound * 2 → length t.edges.keys ≡ tree_bound → v < t.count → k < t.edges.size → l < t.edges.size →
    (k ≡ l → ⊥) → (x : Place) → x ≡ place_at t.points v → Grows net t k l x [] (record { tree = t; last = v; edge = k; cut = l })
unfolding steps long
grows_none net t k l v sound ranked places rows hv hk hl kl x at = record {
  sound = sound;
  ranked = ranked;
  places = places;
  rows = rows;
  last = hv;
  last-at = sym at;
  edge = hk;
  cut = hl;
  two = kl;
  edge-at = refl;
  cut-at = refl;
  point-old = λ z m. m;
  point-way = λ z m. either (λ q. Memᴰ.cast (q ∙ at) (in-listing (place_at t.points) t.count v hv)) (λ i. elim i [ ])
      (Memᴰ.cases_cons m);
  point-known = λ z m. inl m;
  edge-old = λ z m. m;
  edge-way = λ c d m. elim m [ ];
  edge-known = λ z m. inl m;
  total = omega arith;
  count = omega arith;
}

-- one step more
module _ {net : Net} {t : Tree} {k l : ℕ} {y : Place} {qs : List Place} {g : Grown} (h : Grows net t k l y qs g) (x : Place)
    (few : g.tree.count < tree_bound) (fresh : x ∈ points_of g.tree.points g.tree.count → ⊥)
    (seen : clear x y net.macros ≡ true) where
  on-last : clear x (place_at g.tree.points g.last) net.macros ≡ true
  on-last = ap (λ (z : Place). clear x z net.macros) h.last-at ∙ seen

  -- the new edge joins x and y
  new-alike : Alike x y (ends_of (leafed.qts net g x h.sound h.ranked few h.places h.rows h.last fresh on-last)
      (leafed.j net g x h.sound h.ranked few h.places h.rows h.last fresh on-last)).0
      (ends_of (leafed.qts net g x h.sound h.ranked few h.places h.rows h.last fresh on-last)
      (leafed.j net g x h.sound h.ranked few h.places h.rows h.last fresh on-last)).1
  new-alike =
      either
      (λ q. inl (sym (firsts q), sym (seconds q ∙ h.last-at)))
      (λ q. inr (sym (seconds q), sym (firsts q ∙ h.last-at)))
      (leafed.new-ends net g x h.sound h.ranked few h.places h.rows h.last fresh on-last)

  new-link : Link (edges_of (leafed.qts net g x h.sound h.ranked few h.places h.rows h.last fresh on-last)
      (leafed.ls net g x h.sound h.ranked few h.places h.rows h.last fresh on-last) (g.tree.edges.size + 1)) x y
  new-link =
      either
      (λ q. inl (Memᴰ.cast (sym (q ∙ ap (λ (z : Place). (x, z)) h.last-at))
      (leafed.edge-new net g x h.sound h.ranked few h.places h.rows h.last fresh on-last)))
      (λ q. inr (Memᴰ.cast (sym (q ∙ ap (λ (z : Place). (z, x)) h.last-at))
      (leafed.edge-new net g x h.sound h.ranked few h.places h.rows h.last fresh on-last)))
      (leafed.new-ends net g x h.sound h.ranked few h.places h.rows h.last fresh on-last)

  pub grows-leaf : Grows net t k l x (y ∷ qs) (leaf x g)
  unfolding steps long
  grows-leaf =
      rw (leafed.leaf-after net g x h.sound h.ranked few h.places h.rows h.last fresh on-last) (record {
        sound = leafed.after-sound net g x h.sound h.ranked few h.places h.rows h.last fresh on-last;
        ranked = leafed.after-ranked net g x h.sound h.ranked few h.places h.rows h.last fresh on-last;
        places = leafed.after-places net g x h.sound h.ranked few h.places h.rows h.last fresh on-last;
        rows = leafed.after-rows net g x h.sound h.ranked few h.places h.rows h.last fresh on-last;
        last = omega (arith, rank-le g.tree.points g.tree.count x);
        last-at = leafed.new-at net g x h.sound h.ranked few h.places h.rows h.last fresh on-last;
        edge = bump-in g.tree.edges.size _ g.edge h.edge;
        cut = bump-in g.tree.edges.size _ g.cut h.cut;
        two = leafed.after_two net g x h.sound h.ranked few h.places h.rows h.last fresh on-last g.edge g.cut h.two;
        edge-at = leafed.edge-at net g x h.sound h.ranked few h.places h.rows h.last fresh on-last g.edge h.edge
            ∙ h.edge-at;
        cut-at = leafed.edge-at net g x h.sound h.ranked few h.places h.rows h.last fresh on-last g.cut h.cut
            ∙ h.cut-at;
        point-old = λ z m. leafed.point-old net g x h.sound h.ranked few h.places h.rows h.last fresh on-last z
            (h.point-old z m);
        point-way =
            λ z m. either (λ q. Memᴰ.cast q (leafed.point-new net g x h.sound h.ranked few h.places h.rows
            h.last fresh on-last)) (λ i. leafed.point-old net g x h.sound h.ranked few h.places h.rows
            h.last fresh on-last z (h.point-way z i)) (Memᴰ.cases_cons m);
        point-known =
            λ z m.
            either (λ q. inr (here q)) (λ i. either inl (λ j. inr (there j)) (h.point-known z i))
            (leafed.known net g x h.sound h.ranked few h.places h.rows h.last fresh on-last z m);
        edge-old = λ z m. leafed.edge-old net g x h.sound h.ranked few h.places h.rows h.last fresh on-last z
            (h.edge-old z m);
        edge-way =
            λ c d m.
            either (λ q. step-link (firsts q) (seconds q)) (λ i. further (h.edge-way c d i)) (Memᴰ.cases_cons m);
        edge-known =
            λ z m.
            either (λ q. inr (new-step z q)) (λ i. either inl (λ s. inr (older z s)) (h.edge-known z i))
            (leafed.edge-known net g x h.sound h.ranked few h.places h.rows h.last fresh on-last z m);
        total = omega (
          arith,
          leafed.after-total net g x h.sound h.ranked few h.places h.rows
              h.last fresh on-last,
          same-cost,
          h.total,
        );
        count = omega (arith, h.count);
      })
    where
      step-link : {c d : Place} → c ≡ x → d ≡ y → Link (edges_of
          (leafed.qts net g x h.sound h.ranked few h.places h.rows h.last fresh on-last)
          (leafed.ls net g x h.sound h.ranked few h.places h.rows h.last fresh on-last) (g.tree.edges.size + 1)) c d
      step-link p q = rw (p, q) new-link

      further : {c d : Place} → Link (edges_of g.tree.points g.tree.edges.keys g.tree.edges.size) c d →
          Link (edges_of (leafed.qts net g x h.sound h.ranked few h.places h.rows h.last fresh on-last)
          (leafed.ls net g x h.sound h.ranked few h.places h.rows h.last fresh on-last) (g.tree.edges.size + 1)) c d
      further (inl m) = inl (leafed.edge-old net g x h.sound h.ranked few h.places h.rows h.last fresh on-last _ m)
      further (inr m) = inr (leafed.edge-old net g x h.sound h.ranked few h.places h.rows h.last fresh on-last _ m)

      new-step : (z : Place × Place) → z ≡ ends_of (leafed.qts net g x h.sound h.ranked few h.places h.rows
          h.last fresh on-last) (leafed.j net g x h.sound h.ranked few h.places h.rows h.last fresh on-last)
          → StepAt x (y ∷ qs) z
      new-step z q = record {
        one = x;
        other = y;
        on = here refl;
        ends = subst (λ (w : Place × Place). Alike x y w.0 w.1) (sym q) new-alike;
      }

      older : (z : Place × Place) → StepAt y qs z → StepAt x (y ∷ qs) z
      older z s = record { one = s.one; other = s.other; on = there s.on; ends = s.ends }

      same-cost : cost_in net x (place_at g.tree.points g.last) ≡ cost_in net x y
      same-cost = ap (cost_in net x) h.last-at

-- The whole way

module _ (net : Net) (t : Tree) (k l v : ℕ) (vs : List ℤ) where
  -- the way from the vertex u through ys: steps are clear, no vertex but the last is a point of the tree, none comes twice
  abbrev pub Hanging : List ℕ → ℕ → Type 0
  Hanging [] u = place_at vs u ≡ place_at t.points v
  Hanging (y ∷ ys) u =
      (clear (place_at vs u) (place_at vs y) net.macros ≡ true) × ((place_at vs u ∈ points_of t.points t.count → ⊥)
      × ((place_at vs u ∈ map (place_at vs) (y ∷ ys) → ⊥) × Hanging ys y))

  module _ (sound : Sound net t) (ranked : Ranked t.edges.keys t.edges.size) (places : length t.points ≡ tree_bound * 2)
      (rows : length t.edges.keys ≡ tree_bound) (hv : v < t.count) (hk : k < t.edges.size) (hl : l < t.edges.size)
      (kl : k ≡ l → ⊥) where
    pub grows-way : (ys : List ℕ) (u : ℕ) → length ys + t.count ≤ tree_bound → Hanging ys u →
        Grows net t k l (place_at vs u) (map (place_at vs) ys) (grafted vs ys u (record { tree = t; last = v; edge = k; cut = l }))
    unfolding grafted
    grows-way [] u few h = grows_none net t k l v sound ranked places rows hv hk hl kl (place_at vs u) h
    grows-way (y ∷ ys) u few h =
        let before = grows-way ys y (omega arith) h.1.1.1 in
        grows-leaf before (place_at vs u) (omega (arith, before.count, length-map ys (place_at vs)))
        (λ m. either h.1.0 h.1.1.0 (before.point-known _ m)) h.0
