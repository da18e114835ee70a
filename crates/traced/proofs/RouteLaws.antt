-- The steps by which a tree is read back: segments in the order of edges, edges and parts that fit, marks, walks down a row, and routes.
-- Assumes nothing.
use mathlib.Core.Path.{◌≡◌, refl, sym, ap, subst, ◌∙◌}
use mathlib.Core.Bool.{Bool, true, false, ◌&&◌, ◌||◌}
use mathlib.Core.Logic.{◌⊎◌, inl, inr}
use mathlib.Core.List.Memᴰ
use mathlib.Core.List.{List, [], ◌∷◌, ◌++◌, reverse_aux}
use Prim.Native.Nat.{ℕ, ◌+◌, ◌*◌, ◌-◌, ◌/◌, ◌%◌, ◌≤◌, ◌<◌}
use native.Mathlib.Decide.{ℕ_discrete}
use native.Mathlib.Omega.{arith}
use borrow.Author.Tests.{eq-eqb, ne_eqb, eqb-true, lt-ltb, le-ltb, ltb-true}
use lib.Dec.{eqb, ltb}
use lib.ListN.{length, get_or, set, length-set}
use lib.Seq.{get_or-set_same, get_or-set_other}
use Rattle.lists.specs.Member.{◌∈◌, here, there}
use Rattle.lists.proofs.TestLaws.{by, either, and_left, and_right}
use Rattle.lists.proofs.MemberLaws.{in-turned, of-turned}
use Rattle.lines.specs.Bounds.{line_bound, crossing_bound, segment_bound}
use Rattle.grid.specs.Rows.{at}
use Rattle.grid.specs.Tables.{target, Fits, Reads}
use Rattle.grid.proofs.SegmentLaws.{target-even, target-odd, target-above}
use Rattle.parts.specs.Numbers.{part_of}
use Rattle.parts.specs.Tables.{value_at, row_of}
use Rattle.traced.specs.Routes.{in_their_order, other_end, touches, leads, meets, StepFound, PartFound, Marked, Down, start, over as further}
use Rattle.traced.specs.Routes.{segment_at, Walked}
use Rattle.traced.specs.Routes.{Route, stop, over as across, met, Traced}

-- Segments in order

pub order-even : (k : ℕ) → k % 2 ≡ 0 → in_their_order k ≡ k + 1
unfolding in_their_order
order-even k e = rw (in_their_order, eq-eqb (k % 2) 0 e) refl

pub order-odd : (k : ℕ) → (k % 2 ≡ 0 → ⊥) → in_their_order k ≡ k - 1
unfolding in_their_order
order-odd k n = rw (in_their_order, ne_eqb (k % 2) 0 n) refl

-- what is known of it: at the same crossing, and back again
pub record Turns (k : ℕ) : Type 0 where
  pub half : in_their_order k / 2 ≡ k / 2
  pub twice : in_their_order (in_their_order k) ≡ k
  pub small : k < segment_bound → in_their_order k < segment_bound
  pub other : in_their_order k % 2 + k % 2 ≡ 1

pub turns : (k : ℕ) → Turns k
turns k = at (ℕ_discrete (k % 2) 0)
  where
    at : Dec (k % 2 ≡ 0) → Turns k
    at (yes e) =
        let f = order-even k e in
        let n : in_their_order k % 2 ≡ 0 → ⊥ = λ z. let y : ⊥ = omega (arith, e, f, z) in y in
        record {
          half = omega (arith, e, f);
          twice = order-odd (in_their_order k) n ∙ (let z : in_their_order k - 1 ≡ k = omega (arith, f) in z);
          small = λ h. omega (arith, e, f, h);
          other = omega (arith, e, f);
        }
    at (no d) =
        let f = order-odd k d in
        let n : in_their_order k % 2 ≡ 0 = omega (arith, d, f) in
        record {
          half = omega (arith, d, f);
          twice = order-even (in_their_order k) n ∙ (let z : in_their_order k + 1 ≡ k = omega (arith, d, f) in z);
          small = λ h. omega (arith, f, h);
          other = omega (arith, d, f);
        }

-- Ends

pub other-hit : (k v : ℕ) → k / 2 ≡ v → other_end k v ≡ target k
unfolding other_end
other-hit k v e = rw (other_end, eq-eqb (k / 2) v e) refl

pub other-miss : (k v : ℕ) → (k / 2 ≡ v → ⊥) → other_end k v ≡ k / 2
unfolding other_end
other-miss k v n = rw (other_end, ne_eqb (k / 2) v n) refl

pub touch_is : (k v b : ℕ) → b ≡ target k → (eqb (k / 2) v || eqb b v) ≡ touches k v
unfolding touches
touch_is k v b e = rw e refl

pub touch-one : (k v : ℕ) → k / 2 ≡ v → touches k v ≡ true
unfolding touches
touch-one k v e = rw (eq-eqb (k / 2) v e) refl

pub touch-two : (k v : ℕ) → target k ≡ v → touches k v ≡ true
unfolding touches
touch-two k v e = by (eqb (k / 2) v) (λ f. rw f refl) (λ f. rw (f, eq-eqb (target k) v e) refl)

-- v is one end, and the other end is the other
pub touch-ends : (k v : ℕ) → touches k v ≡ true → ((v ≡ k / 2) × (other_end k v ≡ target k)) ⊎ ((v ≡ target k) × (other_end k v ≡ k / 2))
unfolding touches
touch-ends k v e = at (ℕ_discrete (k / 2) v)
  where
    at : Dec (k / 2 ≡ v) → ((v ≡ k / 2) × (other_end k v ≡ target k)) ⊎ ((v ≡ target k) × (other_end k v ≡ k / 2))
    at (yes f) = inl (sym f, other-hit k v f)
    at (no n) = inr (sym (eqb-true (target k) v (rw (ne_eqb (k / 2) v n) at e)), other-miss k v n)

-- The four segments at a crossing

module _ (v i : ℕ) where
  pub segment-across : i ≡ 0 → line_bound ≤ v → segment_at v i ≡ (v - line_bound) * 2
  unfolding segment_at
  segment-across e h = rw (segment_at, eq-eqb i 0 e, le-ltb v line_bound h) refl

  pub segment-along : (i ≡ 0 → ⊥) → i ≡ 1 → (v ≡ 0 → ⊥) → segment_at v i ≡ v * 2 - 1
  unfolding segment_at
  segment-along n e h = rw (segment_at, ne_eqb i 0 n, eq-eqb i 1 e, ne_eqb v 0 h) refl

  pub segment-from : (i ≡ 0 → ⊥) → (i ≡ 1 → ⊥) → segment_at v i ≡ v * 2 + (i - 2)
  unfolding segment_at
  segment-from n h = rw (segment_at, ne_eqb i 0 n, ne_eqb i 1 h) refl

-- they are all that touch it
pub record AtCrossing (v k : ℕ) : Type 0 where
  pub place : ℕ
  pub small : place < 4
  pub is : segment_at v place ≡ k

pub touch-four : (k v : ℕ) → touches k v ≡ true → AtCrossing v k
touch-four k v e = at (touch-ends k v e) (ℕ_discrete (k % 2) 0)
  where
    not : (a b : ℕ) → a < b → b ≡ a → ⊥
    not a b h z = omega (arith, h, z)

    at : ((v ≡ k / 2) × (other_end k v ≡ target k)) ⊎ ((v ≡ target k) × (other_end k v ≡ k / 2)) → Dec (k % 2 ≡ 0) → AtCrossing v k
    at (inl f) (yes d) = record {
      place = 2;
      small = omega arith;
      is = segment-from v 2 (not 0 2 (omega arith)) (not 1 2 (omega arith)) ∙ (let z : v * 2 + (2 - 2) ≡ k = omega (arith, f.0, d) in z);
    }
    at (inl f) (no n) = record {
      place = 3;
      small = omega arith;
      is = segment-from v 3 (not 0 3 (omega arith)) (not 1 3 (omega arith)) ∙ (let z : v * 2 + (3 - 2) ≡ k = omega (arith, f.0, n) in z);
    }
    at (inr f) (yes d) =
        let t = target-even k d in
        record {
          place = 0;
          small = omega arith;
          is = segment-across v 0 refl (omega (arith, f.0, t)) ∙ (let z : (v - line_bound) * 2 ≡ k = omega (arith, f.0, t, d) in z);
        }
    at (inr f) (no n) =
        let t = target-odd k n in
        record {
          place = 1;
          small = omega arith;
          is = segment-along v 1 (not 0 1 (omega arith)) refl (λ z. let y : ⊥ = omega (arith, f.0, t, z) in y)
              ∙ (let z : v * 2 - 1 ≡ k = omega (arith, f.0, t, n) in z);
        }

pub other-inside : (costs : List ℕ) (e k v : ℕ) → Fits costs e → k < e → 1 ≤ get_or costs k 0 → other_end k v < crossing_bound
other-inside costs e k v f h some = at (ℕ_discrete (k / 2) v)
  where
    at : Dec (k / 2 ≡ v) → other_end k v < crossing_bound
    at (yes d) = omega (arith, other-hit k v d, f.ends k h some)
    at (no n) = omega (arith, other-miss k v n, f.count, h)

-- Edges that fit

module _ (costs row : List ℕ) (v k : ℕ) where
  pub leads-none : get_or costs k 0 ≡ 0 → leads costs row v k ≡ false
  unfolding leads
  leads-none e = rw (le-ltb 0 (get_or costs k 0) (omega (arith, e))) refl

  pub leads-away : touches k v ≡ false → leads costs row v k ≡ false
  unfolding leads
  leads-away e = by (ltb 0 (get_or costs k 0)) (λ f. rw (f, e) refl) (λ f. rw f refl)

  pub leads-there : 1 ≤ get_or costs k 0 → touches k v ≡ true → (w : ℕ) → w ≡ other_end k v →
      eqb (at row w + get_or costs k 0) (at row v) ≡ leads costs row v k
  unfolding leads
  leads-there h e w f = rw (lt-ltb 0 (get_or costs k 0) h, e, f) refl

  pub record Leading : Type 0 where
    pub some : 1 ≤ get_or costs k 0
    pub ends : ((v ≡ k / 2) × (other_end k v ≡ target k)) ⊎ ((v ≡ target k) × (other_end k v ≡ k / 2))
    pub is : at row v ≡ at row (other_end k v) + get_or costs k 0

  pub leading : leads costs row v k ≡ true → Leading
  unfolding leads
  leading e =
      let a = and_left (ltb 0 (get_or costs k 0)) _ e in
      let b = and_right (ltb 0 (get_or costs k 0)) _ e in
      record {
        some = ltb-true 0 (get_or costs k 0) a;
        ends = touch-ends k v (and_left (touches k v) _ b);
        is = sym (eqb-true _ _ (and_right (touches k v) _ b));
      }

-- Parts that fit

module _ (m : ℕ) (work : List ℕ) (s v p : ℕ) where
  pub meets-none : part_of m p s ≡ false → meets m work s v p ≡ false
  unfolding meets
  meets-none e = rw e refl

  pub meets-there : part_of m p s ≡ true → (x : ℕ) → x ≡ value_at work p v + value_at work (s - p) v →
      eqb x (value_at work s v) ≡ meets m work s v p
  unfolding meets
  meets-there e x f = rw (e, f) refl

-- Searches that have found none so far

-- none of the first i segments at v leads on
module _ (costs : List ℕ) (e : ℕ) (row : List ℕ) (v : ℕ) where
  abbrev pub NoneTo : ℕ → Type 0
  NoneTo i = (j : ℕ) → j < i → segment_at v j < e → leads costs row v (segment_at v j) ≡ false

  pub none_end : (i : ℕ) → 4 ≤ i → NoneTo i → (k : ℕ) → k < e → leads costs row v k ≡ false
  none_end i h n k l = by (touches k v) (λ t. met (touch-four k v t)) (λ t. leads-away costs row v k t)
    where
      met : AtCrossing v k → leads costs row v k ≡ false
      met c = subst (λ (z : ℕ). z < e → leads costs row v z ≡ false) c.is (n c.place (omega (arith, c.small, h))) l

pub parts_more : (f : ℕ → Bool) (k : ℕ) → ((j : ℕ) → 1 ≤ j → j < k → f j ≡ false) → f k ≡ false → (j : ℕ) → 1 ≤ j → j < k + 1 → f j ≡ false
parts_more f k h e j a i = at (ℕ_discrete j k)
  where
    at : Dec (j ≡ k) → f j ≡ false
    at (yes d) = subst (λ (z : ℕ). f z ≡ false) (sym d) e
    at (no n) = h j a (omega (arith, i, n))

-- Marks

pub mark-none : (t : List ℕ) → Marked [] t t
mark-none t = record { size = refl; there = λ j m. elim m [ ]; kept = λ j h. h; only = λ j h. inl h }

pub mark-then : (is js t u x : List ℕ) → Marked is t u → Marked js u x → Marked (is ++ js) t x
mark-then is js t u x a b = record {
  size = b.size ∙ a.size;
  there = λ j m. either (λ i. b.kept j (a.there j i)) (b.there j) (Memᴰ.append_cases is m);
  kept = λ j h. b.kept j (a.kept j h);
  only = λ j h. either (λ k. either inl (λ i. inr (Memᴰ.append_left js i)) (a.only j k)) (λ i. inr (Memᴰ.append_right is i)) (b.only j h);
}

-- the same marks, listed in another way
pub mark-as : (is js t u : List ℕ) → ((j : ℕ) → j ∈ js → j ∈ is) → ((j : ℕ) → j ∈ is → j ∈ js) → Marked is t u → Marked js t u
mark-as is js t u to from a = record {
  size = a.size;
  there = λ j m. a.there j (to j m);
  kept = a.kept;
  only = λ j h. either inl (λ i. inr (from j i)) (a.only j h);
}

pub mark-more : (is t u : List ℕ) (j : ℕ) → j < length u → Marked is t u → Marked (j ∷ is) t (set u j 1)
mark-more is t u j h a = record {
  size = length-set u j 1 ∙ a.size;
  there = λ i m. there-at i m (ℕ_discrete i j);
  kept = λ i k. raised i (a.kept i k);
  only = λ i k. only_at i k (ℕ_discrete i j);
}
  where
    same : get_or (set u j 1) j 0 ≡ 1
    same = get_or-set_same u j 1 0 h

    raised : (i : ℕ) → 1 ≤ get_or u i 0 → 1 ≤ get_or (set u j 1) i 0
    raised i k = pick (ℕ_discrete i j)
      where
        pick : Dec (i ≡ j) → 1 ≤ get_or (set u j 1) i 0
        pick (yes e) = rw e (omega (arith, same))
        pick (no n) = omega (arith, get_or-set_other u j i 1 0 n, k)

    there-at : (i : ℕ) → i ∈ (j ∷ is) → Dec (i ≡ j) → 1 ≤ get_or (set u j 1) i 0
    there-at i m (yes e) = rw e (omega (arith, same))
    there-at i m (no n) = either (λ e. absurd (n e)) (λ k. raised i (a.there i k)) (Memᴰ.cases_cons m)

    only_at : (i : ℕ) → 1 ≤ get_or (set u j 1) i 0 → Dec (i ≡ j) → (1 ≤ get_or t i 0) ⊎ (i ∈ (j ∷ is))
    only_at i k (yes e) = inr (here e)
    only_at i k (no n) = either inl (λ m. inr (there m)) (a.only i (let z : 1 ≤ get_or u i 0 = omega (
      arith,
      get_or-set_other u j i 1 0 n,
      k,
    ) in z))

-- what a search for a part comes to
module _ (m : ℕ) (work : List ℕ) where
  pub part_none : (s v r : ℕ) → r ≤ 0 → PartFound m work s v r → (p : ℕ) → 1 ≤ p → p < s → meets m work s v p ≡ false
  part_none s v r h (inl f) p a i = let z : ⊥ = omega (arith, h, f.0) in absurd z
  part_none s v r h (inr f) p a i = f.1 p a i

  pub part-some : (s v r : ℕ) → 0 < r → PartFound m work s v r → (1 ≤ r) × ((r < s) × (meets m work s v r ≡ true))
  part-some s v r h (inl f) = f
  part-some s v r h (inr f) = let z : ⊥ = omega (arith, h, f.0) in absurd z

module _ (costs : List ℕ) (e : ℕ) where
  -- Down a row, step by step

  pub record Walking (row : List ℕ) (v u : ℕ) (t t' : List ℕ) : Type 0 where
    pub edges : List ℕ
    pub down : Down costs e row v u edges
    pub marks : Marked edges t t'

  pub walk_none : (row : List ℕ) (v : ℕ) (t : List ℕ) → Walking row v v t t
  walk_none row v t = record { edges = []; down = start; marks = mark-none t }

  pub walk_more : (row : List ℕ) (v u k j w : ℕ) (t t' : List ℕ) → k < e → leads costs row u k ≡ true → j ≡ in_their_order k → j < length t' →
      w ≡ other_end k u → Walking row v u t t' → Walking row v w t (set t' j 1)
  walk_more row v u k j w t t' h l is room to a =
      subst (λ (z : ℕ). Walking row v z t (set t' j 1)) (sym to) record {
        edges = in_their_order k ∷ a.edges;
        down = further k h l a.down;
        marks = subst (λ (i : ℕ). Marked (i ∷ a.edges) t (set t' j 1)) is (mark-more a.edges t t' j room a.marks);
      }

  pub walk_end : (row : List ℕ) (v u : ℕ) (t t' : List ℕ) → ((k : ℕ) → k < e → leads costs row u k ≡ false) → Walking row v u t t' →
      Walked costs e row v u t t'
  walk_end row v u t t' h a = record { edges = a.edges; down = a.down; rests = h; marks = a.marks }

  -- a search that says e has found none, and one that says less has found one
  pub step-none : (row : List ℕ) (v r : ℕ) → e ≤ r → StepFound costs e row v r → (k : ℕ) → k < e → leads costs row v k ≡ false
  step-none row v r h (inl f) k i = let z : ⊥ = omega (arith, h, f.0) in absurd z
  step-none row v r h (inr f) k i = f.1 k i

  pub step-some : (row : List ℕ) (v r : ℕ) → r < e → StepFound costs e row v r → leads costs row v r ≡ true
  step-some row v r h (inl f) = f.1
  step-some row v r h (inr f) = let z : ⊥ = omega (arith, h, f.0) in absurd z

  -- Routes

  module _ (m : ℕ) (work : List ℕ) where
    down-route : (s v u : ℕ) (js is : List ℕ) → Down costs e (row_of work s) v u js → Route costs e m work s u is →
        Route costs e m work s v (reverse_aux js is)
    down-route s v u [] is start r = r
    down-route s v u (j ∷ js) is (further {u = x} k h l d) r = down-route s v x js (in_their_order k ∷ is) d (across k h l r)

    joined-marks : (js is t u x : List ℕ) → Marked js t u → Marked is u x → Marked (reverse_aux js is) t x
    joined-marks js is t u x a b =
        mark-as (js ++ is) (reverse_aux js is) t x
        (λ j i. either (Memᴰ.append_left is) (Memᴰ.append_right js) (of-turned js is i))
        (λ j i. in-turned js is (Memᴰ.append_cases js i)) (mark-then js is t u x a b)

    pub trace-stop : (s v u p : ℕ) (row t t' : List ℕ) → row ≡ row_of work s → Walked costs e row v u t t' → p ≤ 0 →
        PartFound m work s u p → Traced costs e m work s v t t'
    trace-stop s v u p row t t' is w h f =
        let x = subst (λ (l : List ℕ). Walked costs e l v u t t') is w in
        record {
          edges = reverse_aux x.edges [];
          route = down-route s v u x.edges [] x.down (stop x.rests (part_none m work s u p h f));
          marks = joined-marks x.edges [] t t' t' x.marks (mark-none t');
        }

    pub trace-met : (s v u p : ℕ) (row t t₁ t₂ t₃ : List ℕ) → row ≡ row_of work s → Walked costs e row v u t t₁ → 0 < p →
        PartFound m work s u p → Traced costs e m work p u t₁ t₂ → Traced costs e m work (s - p) u t₂ t₃ → Traced costs e m work s v t t₃
    trace-met s v u p row t t₁ t₂ t₃ is w h f a b =
        let x = subst (λ (l : List ℕ). Walked costs e l v u t t₁) is w in
        let q = part-some m work s u p h f in
        record {
          edges = reverse_aux x.edges (a.edges ++ b.edges);
          route = down-route s v u x.edges (a.edges ++ b.edges) x.down (met p q.0 q.1.0 q.1.1 a.route b.route);
          marks = joined-marks x.edges (a.edges ++ b.edges) t t₁ t₃ x.marks (mark-then a.edges b.edges t₁ t₂ t₃ a.marks
              b.marks);
        }

-- one step of a walk: the number falls, and the crossing is one
pub step_down : (costs row : List ℕ) (u k w : ℕ) → leads costs row u k ≡ true → w ≡ other_end k u → at row w < at row u
step_down costs row u k w l e = let q = leading costs row u k l in omega (arith, q.is, q.some, ap (at row) e)

pub step-inside : (costs row : List ℕ) (e u k w : ℕ) → Fits costs e → k < e → leads costs row u k ≡ true → w ≡ other_end k u →
    w < crossing_bound
step-inside costs row e u k w f h l is = omega (arith, is, other-inside costs e k u f h (leading costs row u k l).some)

-- an end of a segment that the other is had from
pub leads-is : (costs row : List ℕ) (e k v w c : ℕ) → Reads costs e k v w c → at row v ≡ at row w + c → leads costs row v k ≡ true
unfolding leads
leads-is costs row e k v w c r is = at-end r.ends
  where
    there : touches k v ≡ true → other_end k v ≡ w →
        (ltb 0 (get_or costs k 0) && (touches k v && eqb (at row (other_end k v) + get_or costs k 0) (at row v))) ≡ true
    there t o =
        let same : at row (other_end k v) + get_or costs k 0 ≡ at row v = omega (arith, is, r.price, ap (at row) o) in
        rw (lt-ltb 0 (get_or costs k 0) r.is, t, eq-eqb (at row (other_end k v) + get_or costs k 0) (at row v) same) refl

    at-end : ((v ≡ k / 2) × (w ≡ target k)) ⊎ ((v ≡ target k) × (w ≡ k / 2)) →
        (ltb 0 (get_or costs k 0) && (touches k v && eqb (at row (other_end k v) + get_or costs k 0) (at row v))) ≡ true
    at-end (inl f) = there (touch-one k v (sym f.0)) (other-hit k v (sym f.0) ∙ sym f.1)
    at-end (inr f) =
        there (touch-two k v (sym f.0))
        (other-miss k v (λ z. let y : ⊥ = omega (arith, z, f.0, target-above k) in y) ∙ sym f.1)

pub meets-is : (m : ℕ) (work : List ℕ) (s v p : ℕ) → part_of m p s ≡ true → value_at work p v + value_at work (s - p) v ≡ value_at work s v →
    meets m work s v p ≡ true
unfolding meets
meets-is m work s v p e f = rw (e, eq-eqb (value_at work p v + value_at work (s - p) v) (value_at work s v) f) refl

pub record Meeting (m : ℕ) (work : List ℕ) (s v p : ℕ) : Type 0 where
  pub part : part_of m p s ≡ true
  pub sum : value_at work p v + value_at work (s - p) v ≡ value_at work s v

pub meeting : (m : ℕ) (work : List ℕ) (s v p : ℕ) → meets m work s v p ≡ true → Meeting m work s v p
unfolding meets
meeting m work s v p e = record {
  part = and_left (part_of m p s) _ e;
  sum = eqb-true _ _ (and_right (part_of m p s) _ e);
}

-- the segments of a route are edges
pub record EdgeOf (costs : List ℕ) (e j : ℕ) : Type 0 where
  pub segment : ℕ
  pub inside : segment < e
  pub is : j ≡ in_their_order segment
  pub some : 1 ≤ get_or costs segment 0

pub route-edges : (costs : List ℕ) (e m : ℕ) (work : List ℕ) (s v : ℕ) (js : List ℕ) → Route costs e m work s v js → (j : ℕ) → j ∈ js →
    EdgeOf costs e j
route-edges costs e m work s v js (stop a b) j i = elim i [ ]
route-edges costs e m work s v js (across {js = is} k h l r) j i =
    either (λ f. record { segment = k; inside = h; is = f; some = (leading costs (row_of work s) v k l).some })
    (λ z. route-edges costs e m work s (other_end k v) is r j z) (Memᴰ.cases_cons i)
route-edges costs e m work s v js (met {is = is} {js = ks} p one h l r q) j i =
    either (λ z. route-edges costs e m work p v is r j z) (λ z. route-edges costs e m work (s - p) v ks q j z) (Memᴰ.append_cases is i)
