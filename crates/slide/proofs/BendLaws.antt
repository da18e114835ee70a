-- Bends keep a tree one tree, clear, and its cost, and every edge is then axis-parallel. Bends and edges grow by one each; the ends of an
-- edge are joined through its bend; and the bend lies in the box of the edge.
-- Assumes nothing.
use mathlib.Core.Path.{◌≡◌, refl, ◌∙◌}
use mathlib.Core.Bool.{Bool, true, false, ◌||◌}
use mathlib.Core.Logic.{◌⊎◌, inl, inr}
use mathlib.Core.List.Memᴰ
use mathlib.Core.List.{List, [], ◌∷◌}
use Prim.Native.Nat.{◌+◌, ◌≤◌}
use native.Mathlib.Omega.{arith}
use lib.ListN.{length}
use Rattle.lists.specs.Member.{◌∈◌, here, there, Among, Once}
use Rattle.lists.specs.Total.{total}
use Rattle.lists.proofs.TestLaws.{by, differ, either}
use Rattle.lists.proofs.AnyLaws.{any_none}
use Rattle.signed.specs.Order.{z_eq}
use Rattle.signed.proofs.OrderLaws.{z_eq-refl, z_eq-comm}
use Rattle.plane.specs.declared.Place.{Place}
use Rattle.plane.specs.Place.{before, same_place}
use Rattle.plane.specs.Macro.{clear}
use Rattle.plane.specs.Box.{InBox}
use Rattle.plane.proofs.PlaceLaws.{same_refl}
use Rattle.plane.proofs.MacroLaws.{clear_comm}
use Rattle.plane.proofs.BoxLaws.{first-in-box, last-in-box, clear_within}
use Rattle.joined.specs.Joined.{Link, Joined, stay, Inside}
use Rattle.joined.specs.Tree.{TreeOn}
use Rattle.joined.specs.Cost.{lengths}
use Rattle.joined.proofs.JoinedLaws.{one, then, back, between, older, through as carried_over, firsts, seconds}
use Rattle.graph.specs.Edges.{edge_of}
use Rattle.net.specs.Net.{Net, cost_in}
use Rattle.slide.specs.Bend.{Edge, straight, x_first, y_first, taken, Bent, bent, given_back, kept, through, bends}
use Rattle.slide.specs.Promise.{Clear, Straight}
use Rattle.plane.proofs.CostLaws.{cost-comm, cost-through}

-- an edge is written one way or the other
pub edge-is : (a b : Place) → (edge_of a b ≡ (a, b)) ⊎ (edge_of a b ≡ (b, a))
unfolding edge_of
edge-is a b = by (before a b) (λ e. inl (rw (edge_of, e) refl)) (λ e. inr (rw (edge_of, e) refl))

pub straight-comm : (a b : Place) → straight (a, b) ≡ straight (b, a)
unfolding straight
straight-comm a b = rw (z_eq-comm a.x b.x, z_eq-comm a.y b.y) refl

-- what does not depend on which end is named first holds of an edge as it is written
pub edge-has {ℓ} : (P : Edge → Type ℓ) (a b : Place) → P (a, b) → P (b, a) → P (edge_of a b)
edge-has P a b h k = either (λ e. rw e h) (λ e. rw e k) (edge-is a b)

-- c is a corner of the box of a and b: on a's row and b's column, or on a's column and b's row
pub record Corner (a b c : Place) : Type 0 where
  pub in_box : InBox c a b
  pub first : straight (a, c) ≡ true
  pub second : straight (c, b) ≡ true

or_left : (p q : Bool) → p ≡ true → (p || q) ≡ true
or_left p q e = rw e refl

or_right : (p q : Bool) → q ≡ true → (p || q) ≡ true
or_right true q e = refl
or_right false q e = e

pub x-corner : (e : Edge) → Corner e.0 e.1 (x_first e)
unfolding straight x_first
x-corner e = record {
  in_box = record { across = (last-in-box e.0 e.1).across; along = (first-in-box e.0 e.1).along };
  first = or_right (z_eq e.0.x e.1.x) _ (z_eq-refl e.0.y);
  second = or_left _ (z_eq e.0.y e.1.y) (z_eq-refl e.1.x);
}

pub y-corner : (e : Edge) → Corner e.0 e.1 (y_first e)
unfolding straight y_first
y-corner e = record {
  in_box = record { across = (first-in-box e.0 e.1).across; along = (last-in-box e.0 e.1).along };
  first = or_left _ (z_eq e.0.y e.1.y) (z_eq-refl e.0.x);
  second = or_right (z_eq e.0.x e.1.x) _ (z_eq-refl e.1.y);
}

-- a place that is not taken is none of the points
pub not_taken : (X : List Place) (c : Place) → taken X c ≡ false → c ∈ X → ⊥
unfolding taken
not_taken X c e m = differ (same_refl c) (any_none (same_place c) X e c m)

module _ (net : Net) where
  -- what bends do to the points X and the edges T
  pub record Bends (X : List Place) (T : List Edge) (Y : List Place) (U : List Edge) : Type 0 where
    pub count : length U + length X ≡ length T + length Y
    pub few : length U ≤ length T + length T
    pub once : Once X → Once Y
    pub keeps : Among X Y
    pub inside : Inside Y U
    pub over : (a b : Place) → (a, b) ∈ T → Joined U a b
    pub hangs : (y : Place) → y ∈ Y → (x : Place) × ((x ∈ X) × Joined U y x)
    pub free : Clear net.macros T → Clear net.macros U
    pub straight : Straight U
    pub costs : lengths (cost_in net) U ≡ lengths (cost_in net) T

  -- an edge that is kept
  keep-edge : (X : List Place) (T : List Edge) (Y : List Place) (U : List Edge) (e : Edge) →
      straight e ≡ true → Inside X (e ∷ T) → Bends X T Y U → Bends X (e ∷ T) Y (e ∷ U)
  unfolding lengths total
  keep-edge X T Y U e s i r = record {
    count = omega (arith, r.count);
    few = omega (arith, r.few);
    once = r.once;
    keeps = r.keeps;
    inside = λ a b m. either
        (λ k. let h = i a b (here k) in (r.keeps a h.0, r.keeps b h.1)) (λ n. r.inside a b n) (Memᴰ.cases_cons m);
    over = λ a b m. either (λ k. one (inl (here k))) (λ n. older (r.over a b n)) (Memᴰ.cases_cons m);
    hangs = λ y m. let h = r.hangs y m in (h.0, (h.1.0, older h.1.1));
    free = λ c a b m. either (λ k. c a b (here k)) (λ n. r.free (λ p q l. c p q (there l)) a b n) (Memᴰ.cases_cons m);
    straight = λ a b m. either (λ k. rw k s) (λ n. r.straight a b n) (Memᴰ.cases_cons m);
    costs = omega (arith, r.costs);
  }

  -- an edge that goes through its bend
  bend-edge : (X : List Place) (T : List Edge) (Y : List Place) (U : List Edge) (e : Edge) (c : Place) →
      Corner e.0 e.1 c → (c ∈ X → ⊥) → Inside X (e ∷ T) → Bends (c ∷ X) T Y U →
      Bends X (e ∷ T) Y (edge_of e.0 c ∷ (edge_of c e.1 ∷ U))
  unfolding lengths total
  bend-edge X T Y U e c q new i r = record {
    count = omega (arith, r.count);
    few = omega (arith, r.few);
    once = λ o. r.once (new, o);
    keeps = λ x m. r.keeps x (there m);
    inside = λ x y m. both (λ f. (f.0 ∈ Y) × (f.1 ∈ Y)) (a_in, c-in) (c-in, a_in) (c-in, b-in) (b-in, c-in) r.inside x y m;
    over = λ x y m. either (λ k. between (firsts k) (seconds k) (then a_c c-b)) (λ n. older (older (r.over x y n)))
        (Memᴰ.cases_cons m);
    hangs = λ y m.
        let h = r.hangs y m in
        let j = older (older h.1.1) in
        either (λ k. (e.0, ((i _ _ (here refl)).0, then j (then (stay k) (back a_c))))) (λ n. (h.0, (n, j)))
        (Memᴰ.cases_cons h.1.0);
    free = λ t x y m.
        let h = t e.0 e.1 (here refl) in
        let ac = clear_within e.0 c e.0 e.1 (first-in-box e.0 e.1) q.in_box net.macros h in
        let cb = clear_within c e.1 e.0 e.1 q.in_box (last-in-box e.0 e.1) net.macros h in
        both (λ f. clear f.0 f.1 net.macros ≡ true) ac (clear_comm c e.0 net.macros ∙ ac) cb
        (clear_comm e.1 c net.macros ∙ cb)
        (r.free (λ u v l. t u v (there l))) x y m;
    straight = λ x y m.
        both (λ f. straight f ≡ true) q.first (straight-comm c e.0 ∙ q.first) q.second (straight-comm e.1 c ∙ q.second)
        r.straight x y m;
    costs =
        let d = cost_in net in
        let ac : d (edge_of e.0 c).0 (edge_of e.0 c).1 ≡ d c e.0 =
        edge-has (λ f. d f.0 f.1 ≡ d c e.0) e.0 c (cost-comm net.weights e.0 c) refl
        in
        let cb : d (edge_of c e.1).0 (edge_of c e.1).1 ≡ d c e.1 =
        edge-has (λ f. d f.0 f.1 ≡ d c e.1) c e.1 refl (cost-comm net.weights e.1 c)
        in
        omega (arith, ac, cb, cost-through net.weights c e.0 e.1 q.in_box, r.costs);
  }
    where
      a_in : e.0 ∈ Y
      a_in = r.keeps e.0 (there (i _ _ (here refl)).0)

      b-in : e.1 ∈ Y
      b-in = r.keeps e.1 (there (i _ _ (here refl)).1)

      c-in : c ∈ Y
      c-in = r.keeps c (here refl)

      L : List Edge
      L = edge_of e.0 c ∷ (edge_of c e.1 ∷ U)

      a_c : Joined L e.0 c
      a_c = one (edge-has (λ f. Link (f ∷ (edge_of c e.1 ∷ U)) e.0 c) e.0 c (inl (here refl)) (inr (here refl)))

      c-b : Joined L c e.1
      c-b = older (one (edge-has (λ f. Link (f ∷ U) c e.1) c e.1 (inl (here refl)) (inr (here refl))))

      both : (P : Edge → Type 0) → P (e.0, c) → P (c, e.0) → P (c, e.1) → P (e.1, c) →
          ((x y : Place) → (x, y) ∈ U → P (x, y)) → (x y : Place) → (x, y) ∈ L → P (x, y)
      both P ac ca cb bc u x y m =
          either
          (λ k. rw k (edge-has P e.0 c ac ca))
          (λ n. either (λ k. rw k (edge-has P c e.1 cb bc)) (u x y) (Memᴰ.cases_cons n))
          (Memᴰ.cases_cons m)

  -- all edges, unless they are given back
  abbrev Bending : List Place → List Edge → Bent → Type 0
  Bending X T (bent Y U) = Bends X T Y U
  Bending X T given_back = Unit {0}

  keeping : (X : List Place) (T : List Edge) (e : Edge) (r : Bent) → straight e ≡ true → Inside X (e ∷ T) → Bending X T r →
      Bending X (e ∷ T) (kept e r)
  unfolding kept
  keeping X T e (bent Y U) s i h = keep-edge X T Y U e s i h
  keeping X T e given_back s i h = tt

  bending : (X : List Place) (T : List Edge) (e : Edge) (c : Place) (r : Bent) → Corner e.0 e.1 c → taken X c ≡ false →
      Inside X (e ∷ T) → Bending (c ∷ X) T r → Bending X (e ∷ T) (through e c r)
  unfolding kept through
  bending X T e c (bent Y U) q n i h = bend-edge X T Y U e c q (not_taken X c n) i h
  bending X T e c given_back q n i h = tt

  all-bends : (X : List Place) (T : List Edge) → Inside X T → Bending X T (bends X T)
  unfolding bends lengths total
  all-bends X [] i = record {
    count = refl;
    few = omega arith;
    once = λ o. o;
    keeps = λ x m. m;
    inside = λ a b m. elim m [ ];
    over = λ a b m. elim m [ ];
    hangs = λ y m. (y, (m, stay refl));
    free = λ c a b m. elim m [ ];
    straight = λ a b m. elim m [ ];
    costs = refl;
  }
  all-bends X (e ∷ T) i =
      let later : Inside X T = λ a b m. i a b (there m) in
      let wider : (c : Place) → Inside (c ∷ X) T = λ c a b m. let h = later a b m in (there h.0, there h.1) in
      by (straight e) (λ s. rw (bends, s) (keeping X T e (bends X T) s i (all-bends X T later)))
      (λ s. by (taken X (x_first e))
      (λ t. by (taken X (y_first e))
      (λ u. rw (bends, s, t, u) tt)
      (λ u. rw (bends, s, t, u) (bending X T e (y_first e) (bends (y_first e ∷ X) T) (y-corner e) u i
      (all-bends (y_first e ∷ X) T (wider (y_first e))))))
      (λ t. rw (bends, s, t) (bending X T e (x_first e) (bends (x_first e ∷ X) T) (x-corner e) t i
      (all-bends (x_first e ∷ X) T (wider (x_first e))))))

  pub bends-do : (X : List Place) (T : List Edge) (Y : List Place) (U : List Edge) → Inside X T → bends X T ≡ bent Y U → Bends X T Y U
  bends-do X T Y U i e = rw e at (all-bends X T i)

  -- what follows of the tree
  module _ {X : List Place} {T : List Edge} {Y : List Place} {U : List Edge} (r : Bends X T Y U) where
    pub bends-tree : TreeOn X T → TreeOn Y U
    bends-tree t = record {
      once = r.once t.once;
      joins = λ x y i k.
          let g = r.hangs x i in
          let h = r.hangs y k in
          then g.1.1 (then (carried_over r.over (t.joins g.0 h.0 g.1.0 h.1.0)) (back h.1.1));
      size = omega (arith, r.count, t.size);
    }

-- What holds of each edge, and of both parts of each edge that is bent, holds of each edge after bending
module _ (P : Edge → Type 0) (split : (e : Edge) (c : Place) → straight e ≡ false → Corner e.0 e.1 c → P e → P (edge_of e.0 c) × P
    (edge_of c e.1)) where
  abbrev Each : Bent → Type 0
  Each (bent Y U) = (e : Edge) → e ∈ U → P e
  Each given_back = Unit {0}

  keep-each : (e : Edge) (r : Bent) → P e → Each r → Each (kept e r)
  unfolding kept
  keep-each e (bent Y U) p h = λ f m. either (λ k. rw k p) (h f) (Memᴰ.cases_cons m)
  keep-each e given_back p h = tt

  split-each : (e : Edge) (c : Place) (r : Bent) → straight e ≡ false → Corner e.0 e.1 c → P e → Each r → Each (through e c r)
  unfolding through
  split-each e c r s q p h =
      let k = split e c s q p in
      keep-each (edge_of e.0 c) (kept (edge_of c e.1) r) k.0 (keep-each (edge_of c e.1) r k.1 h)

  all-each : (X : List Place) (T : List Edge) → ((e : Edge) → e ∈ T → P e) → Each (bends X T)
  unfolding bends
  all-each X [] h = λ e m. elim m [ ]
  all-each X (e ∷ T) h =
      let p = h e (here refl) in
      let later : (f : Edge) → f ∈ T → P f = λ f m. h f (there m) in
      by (straight e) (λ s. rw (bends, s) (keep-each e (bends X T) p (all-each X T later)))
      (λ s. by (taken X (x_first e))
      (λ t. by (taken X (y_first e)) (λ u. rw (bends, s, t, u) tt)
      (λ u. rw (bends, s, t, u) (split-each e (y_first e) _ s (y-corner e) p (all-each (y_first e ∷ X) T later))))
      (λ t. rw (bends, s, t) (split-each e (x_first e) _ s (x-corner e) p (all-each (x_first e ∷ X) T later))))

  pub each-bent : (X : List Place) (T : List Edge) (Y : List Place) (U : List Edge) → bends X T ≡ bent Y U →
      ((e : Edge) → e ∈ T → P e) → (e : Edge) → e ∈ U → P e
  each-bent X T Y U e h = rw e at (all-each X T h)
