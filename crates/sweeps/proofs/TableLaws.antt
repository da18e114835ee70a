-- Arcs visited one after the other: the row keeps what is asked of it, and its sum falls with each change.
-- Assumes nothing.
use mathlib.Core.Path.{◌≡◌, refl, sym, ap, subst, ◌∙◌}
use mathlib.Core.Bool.{Bool, true, false, ◌||◌}
use mathlib.Core.Logic.{◌⊎◌, inl, inr}
use mathlib.Core.List.{List}
use Prim.Native.Nat.{ℕ, suc, ◌+◌, ◌-◌, ◌/◌, ◌≤◌, ◌<◌, min}
use native.Mathlib.Decide.{ℕ_discrete}
use native.Mathlib.Omega.{arith}
use borrow.Author.Tests.{ltb-true, ltb-false, eqb-true}
use lib.Dec.{ltb, eqb}
use lib.ListN.{length, set, replicate, length-set, length-replicate, get_or-replicate, get_or-eq_default}
use lib.Seq.{get_or-set_same, get_or-set_other}
use Rattle.lists.specs.Total.{total}
use Rattle.lists.proofs.TestLaws.{by, differ, or-none}
use Rattle.grid.specs.Rows.{at}
use Rattle.grid.proofs.RowLaws.{total-set}
use Rattle.sweeps.specs.Tables.{wide_crossings, arc_bound, far, offset, source, left_of, Reach, here, over, ArcsFit}
use Rattle.sweeps.specs.Tables.{Row, Above, Still, Passed, Quiet, fall, taken, TakenOff, Lessened, LeastAt}
use Rattle.sweeps.specs.Tables.{SweptTable, last, raise}

-- Offsets

pub offset-0 : (i : ℕ) → i ≡ 0 → offset i ≡ 768
unfolding offset
offset-0 i e = rw e refl

pub offset-1 : (i : ℕ) → i ≡ 1 → offset i ≡ 0
unfolding offset
offset-1 i e = rw e refl

pub offset-2 : (i : ℕ) → i ≡ 2 → offset i ≡ 385
unfolding offset
offset-2 i e = rw e refl

pub offset-3 : (i : ℕ) → (i ≡ 0 → ⊥) → (i ≡ 1 → ⊥) → (i ≡ 2 → ⊥) → offset i ≡ 383
unfolding offset
offset-3 i a b c =
    by (eqb i 0) (λ e. absurd (a (eqb-true i 0 e)))
    (λ e. by (eqb i 1) (λ f. absurd (b (eqb-true i 1 f)))
    (λ f. by (eqb i 2) (λ g. absurd (c (eqb-true i 2 g))) (λ g. rw (offset, e, f, g) refl)))

-- One visit

-- an arc is there, or it is not
pub there-or-none : (left : List ℕ) (a : ℕ) → (at left a ≡ 0) ⊎ (1 ≤ at left a)
there-or-none left a = pick (ℕ_discrete (at left a) 0)
  where
    pick : Dec (at left a ≡ 0) → (at left a ≡ 0) ⊎ (1 ≤ at left a)
    pick (yes e) = inl e
    pick (no n) = inr (omega (arith, n))

there : (left : List ℕ) (a : ℕ) → 1 ≤ at left a → eqb (at left a) 0 ≡ false
there left a some = by (eqb (at left a) 0) (λ e. let z : ⊥ = omega (arith, some, eqb-true (at left a) 0 e) in absurd z) (λ e. e)

module _ (left : List ℕ) (fit : ArcsFit left) (t : List ℕ) (row : Row t) (a : ℕ) (inside : a < arc_bound) where
  -- the visit of an arc that lowers a height
  module _ (some : 1 ≤ at left a) (less : at t (a / 4) + left_of left a < at t (source a)) where
    abbrev new : List ℕ
    new = set t (source a) (at t (a / 4) + left_of left a)

    in_row : source a < length t
    in_row = omega (arith, row.size, (fit.ends a inside some).1)

    at_source : at new (source a) ≡ at t (a / 4) + left_of left a
    at_source = get_or-set_same t (source a) (at t (a / 4) + left_of left a) 0 in_row

    elsewhere : (v : ℕ) → (v ≡ source a → ⊥) → at new v ≡ at t v
    elsewhere v n = get_or-set_other t (source a) v (at t (a / 4) + left_of left a) 0 n

    pub new_row : Row new
    new_row = record { size = length-set t (source a) (at t (a / 4) + left_of left a) ∙ row.size; low = λ v. pick v (ℕ_discrete v (source a)) }
      where
        pick : (v : ℕ) → Dec (v ≡ source a) → at new v ≤ far
        pick v (yes e) = rw e (omega (arith, at_source, less, row.low (source a)))
        pick v (no n) = omega (arith, elsewhere v n, row.low v)

    pub new-above : (p : ℕ) → Above left p t → Above left p new
    new-above p h = record { ground = pick-ground (ℕ_discrete p (source a)); reach = λ v i. pick v i (ℕ_discrete v (source a)) }
      where
        pick-ground : Dec (p ≡ source a) → at new p ≡ 0
        pick-ground (yes e) = let g : at t (source a) ≡ 0 = ap (at t) (sym e) ∙ h.ground in absurd (let z : ⊥ = omega (arith, g, less) in z)
        pick-ground (no n) = elsewhere p n ∙ h.ground

        reached : at t (a / 4) < far → Reach left p (source a) (left_of left a + at t (a / 4))
        reached k = over a record { inside = inside; from = refl; to = refl; is = some } (h.reach (a / 4) (omega (arith, inside)) k)

        pick : (v : ℕ) → v < wide_crossings → Dec (v ≡ source a) → at new v < far → Reach left p v (at new v)
        pick v i (yes e) k =
            let f : at new v ≡ left_of left a + at t (a / 4) = ap (at new) e ∙ at_source ∙ (let z : at t (a / 4) + left_of left a ≡ left_of left a + at t (a / 4) = omega arith in z) in
            rw (f, e) (reached (omega (arith, f, k)))
        pick v i (no n) k = let f = elsewhere v n in rw f (h.reach v i (omega (arith, f, k)))

    new-below : (v : ℕ) → at new v ≤ at t v
    new-below v = pick (ℕ_discrete v (source a))
      where
        pick : Dec (v ≡ source a) → at new v ≤ at t v
        pick (yes e) = rw e (omega (arith, at_source, less))
        pick (no n) = omega (arith, elsewhere v n)

    pub visit-hit : (cap u : ℕ) → u ≡ source a → Passed left cap (λ b. b ≡ a) true t (set t u (at t (a / 4) + left_of left a))
    visit-hit cap u e = rw e record {
      row = new_row;
      below = new-below;
      above = new-above;
      less = λ k. omega (arith, total-set t (source a) (at t (a / 4) + left_of left a) in_row, less);
      same = λ k. differ refl k;
      still = λ k. differ refl k;
    }

-- Passes

pub pass-none : (left : List ℕ) (cap : ℕ) (t : List ℕ) (those : ℕ → Type 0) → ((a : ℕ) → those a → ⊥) → Row t → Passed left cap those false t t
pass-none left cap t those none row = record {
  row = row;
  below = λ v. omega arith;
  above = λ p h. h;
  less = λ k. differ k refl;
  same = λ k. refl;
  still = λ k a i. absurd (none a i);
}

-- one pass after another: the arcs of both
pub pass-then : (left : List ℕ) (cap : ℕ) (s t u : List ℕ) (F G H : ℕ → Type 0) (m n : Bool) → Passed left cap F m s t →
    Passed left cap G n t u → ((a : ℕ) → H a → F a ⊎ G a) → Passed left cap H (m || n) s u
pass-then left cap s t u F G H m n p q h = record {
  row = q.row;
  below = λ v. omega (arith, p.below v, q.below v);
  above = λ x k. q.above x (p.above x k);
  less = λ k. by m
      (λ e. let r = p.less e in by n (λ f. omega (arith, r, q.less f)) (λ f. let z = ap total (q.same f) in omega (arith, r, z)))
      (λ e. let z = ap total (p.same e) in omega (arith, z, q.less (rw e at k)));
  same = λ k. let r = or-none m n k in q.same r.1 ∙ p.same r.0;
  still = λ k a i. let r = or-none m n k in pick r a (h a i);
}
  where
    pick : (m ≡ false) × (n ≡ false) → (a : ℕ) → F a ⊎ G a → Still left cap u a
    pick r a (inl f) = rw (q.same r.1) (p.still r.0 a f)
    pick r a (inr g) = q.still r.1 a g

-- fewer arcs
pub pass-weaker : (left : List ℕ) (cap : ℕ) (s t : List ℕ) (F H : ℕ → Type 0) (m : Bool) → Passed left cap F m s t →
    ((a : ℕ) → H a → F a) → Passed left cap H m s t
pass-weaker left cap s t F H m p h = record {
  row = p.row;
  below = p.below;
  above = p.above;
  less = p.less;
  same = p.same;
  still = λ k a i. p.still k a (h a i);
}

module _ (left : List ℕ) (cap : ℕ) (s t u : List ℕ) (a : ℕ) (moved m : Bool) where
  -- one arc more, upwards
  pub pass-up-step : Passed left cap (λ b. b < a) moved s t → Passed left cap (λ b. b ≡ a) m t u →
      Passed left cap (λ b. b < a + 1) (moved || m) s u
  pass-up-step p v = pass-then left cap s t u _ _ _ moved m p v (λ b i. pick b i (ℕ_discrete b a))
    where
      pick : (b : ℕ) → b < a + 1 → Dec (b ≡ a) → (b < a) ⊎ (b ≡ a)
      pick b i (yes e) = inr e
      pick b i (no n) = inl (omega (arith, i, n))

  -- and downwards
  pub pass-down-step : (c e : ℕ) → c ≡ a + 1 → Passed left cap (λ b. (c ≤ b) × (b < e)) moved s t → Passed left cap (λ b. b ≡ a) m t u →
      Passed left cap (λ b. (a ≤ b) × (b < e)) (moved || m) s u
  pass-down-step c e f p v = pass-then left cap s t u _ _ _ moved m p v (λ b i. pick b i (ℕ_discrete b a))
    where
      pick : (b : ℕ) → (a ≤ b) × (b < e) → Dec (b ≡ a) → ((c ≤ b) × (b < e)) ⊎ (b ≡ a)
      pick b i (yes k) = inr k
      pick b i (no n) = inl (omega (arith, i.0, n, f), i.1)

-- Passes until one changes nothing

-- what holds between passes: the cap is no less than a height at one of the crossings, or stands for no way
module _ (left : List ℕ) (e q : ℕ) (numbers : List ℕ) (n : ℕ) where
  pub record Settling (row : List ℕ) (cap : ℕ) (more : Bool) : Type 0 where
    pub is_row : Row row
    pub above : Above left q row
    pub capped : (cap ≡ far) ⊎ ((i : ℕ) × ((i < n) × (at row (at numbers i) ≤ cap)))
    pub done : more ≡ false → LeastAt row numbers n cap × Quiet left e cap row

  pub settle-none : (row : List ℕ) → Row row → Above left q row → Settling row far true
  settle-none row r a = record { is_row = r; above = a; capped = inl refl; done = λ k. differ refl k }

  pub settle-more : (s t u : List ℕ) (cap cap' : ℕ) (F : ℕ → Type 0) (k m more : Bool) → Settling s cap more → Passed left cap F k s t →
      Passed left cap (λ a. a < e) m t u → LeastAt u numbers n cap' → Settling u cap' m
  settle-more s t u cap cap' F k m more h p r l = record {
    is_row = r.row;
    above = r.above q (p.above q h.above);
    capped = at_least l.why;
    done = λ f. (l, λ a i some low. r.still f a i some (omega (arith, falls h.capped, low)));
  }
    where
      -- the next cap is no greater, and so what was quiet stays quiet
      falls : (cap ≡ far) ⊎ ((i : ℕ) × ((i < n) × (at s (at numbers i) ≤ cap))) → cap' ≤ cap
      falls (inl f) = omega (arith, f, l.most)
      falls (inr i) =
          omega (arith, i.1.1, p.below (at numbers i.0), r.below (at numbers i.0), l.low i.0 i.1.0)

      at_least : (cap' ≡ far) ⊎ ((i : ℕ) × ((i < n) × (at u (at numbers i) ≡ cap'))) →
          (cap' ≡ far) ⊎ ((i : ℕ) × ((i < n) × (at u (at numbers i) ≤ cap')))
      at_least (inl f) = inl f
      at_least (inr i) = inr (i.0, (i.1.0, omega (arith, i.1.1)))

-- The start

pub start-row : (t : List ℕ) (q : ℕ) → t ≡ replicate wide_crossings far → q < wide_crossings →
    Row (set t q 0) × ((left : List ℕ) → Above left q (set t q 0))
start-row t q full inside = (
  record { size = length-set t q 0 ∙ size; low = λ v. low v (ℕ_discrete v q) },
  λ left. record { ground = get_or-set_same t q 0 0 (omega (arith, size, inside)); reach = λ v i. reach left v i (ℕ_discrete v q) },
)
  where
    size : length t ≡ wide_crossings
    size = ap length full ∙ length-replicate wide_crossings far

    f : (i : ℕ) → i < wide_crossings → at t i ≡ far
    f i h = ap (λ (l : List ℕ). at l i) full ∙ get_or-replicate wide_crossings i far 0 h

    here-is : at (set t q 0) q ≡ 0
    here-is = get_or-set_same t q 0 0 (omega (arith, size, inside))

    low : (v : ℕ) → Dec (v ≡ q) → at (set t q 0) v ≤ far
    low v (yes e) = rw e (omega (arith, here-is))
    low v (no n) = rw (get_or-set_other t q v 0 0 n) (there v (leb v))
      where
        leb : (v : ℕ) → (v < wide_crossings) ⊎ (wide_crossings ≤ v)
        leb v = by (ltb v wide_crossings) (λ e. inl (ltb-true _ _ e)) (λ e. inr (ltb-false _ _ e))

        there : (v : ℕ) → (v < wide_crossings) ⊎ (wide_crossings ≤ v) → at t v ≤ far
        there v (inl i) = omega (arith, f v i)
        there v (inr i) = let z = get_or-eq_default t 0 {n = v} (omega (arith, size, i)) in omega (arith, z)

    reach : (left : List ℕ) (v : ℕ) → v < wide_crossings → Dec (v ≡ q) → at (set t q 0) v < far → Reach left q v (at (set t q 0) v)
    reach left v i (yes e) k = rw (e, here-is) here
    reach left v i (no n) k = absurd (let z : ⊥ = omega (arith, get_or-set_other t q v 0 0 n, f v i, k) in z)

-- The nearest

pub least-none : (row numbers : List ℕ) → LeastAt row numbers 0 far
least-none row numbers = record { low = λ i h. absurd (let z : ⊥ = omega (arith, h) in z); most = omega arith; why = inl refl }

module _ (row numbers : List ℕ) (i t : ℕ) (l : LeastAt row numbers i t) where
  abbrev next : ℕ
  next = at row (at numbers i)

  lower : (s : ℕ) → s ≤ t → s ≤ next → (j : ℕ) → j < i + 1 → s ≤ at row (at numbers j)
  lower s h k j n = pick (ℕ_discrete j i)
    where
      pick : Dec (j ≡ i) → s ≤ at row (at numbers j)
      pick (yes e) = rw e k
      pick (no m) = omega (arith, h, l.low j (omega (arith, n, m)))

  pub least-hit : next < t → LeastAt row numbers (i + 1) next
  least-hit h = record {
    low = lower next (omega (arith, h)) (omega arith);
    most = omega (arith, h, l.most);
    why = inr (i, (omega arith, refl));
  }

  pub least-miss : t ≤ next → LeastAt row numbers (i + 1) t
  least-miss h = record { low = lower t (omega arith) h; most = l.most; why = further l.why }
    where
      further : (t ≡ far) ⊎ ((j : ℕ) × ((j < i) × (at row (at numbers j) ≡ t))) →
          (t ≡ far) ⊎ ((j : ℕ) × ((j < i + 1) × (at row (at numbers j) ≡ t)))
      further (inl e) = inl e
      further (inr r) = inr (r.0, (omega (arith, r.1.0), r.1.1))

  pub least_step : (s : ℕ) → s ≡ min next t → LeastAt row numbers (i + 1) s
  least_step s e =
      by (ltb next t)
      (λ h. let k = ltb-true next t h in let f : s ≡ next = omega (arith, e, k) in rw f (least-hit k))
      (λ h. let k = ltb-false next t h in let f : s ≡ t = omega (arith, e, k) in rw f (least-miss k))

-- What is taken off

pub taken_none : (row left : List ℕ) (t a : ℕ) → at left a ≡ 0 → taken row t left a ≡ 0
unfolding taken
taken_none row left t a e = rw (taken, e) refl

pub taken-there : (row left : List ℕ) (t a : ℕ) → 1 ≤ at left a → taken row t left a ≡ at left a - fall row t a
unfolding taken
taken-there row left t a some = rw (taken, there left a some) refl

no-fall : (row : List ℕ) (t a : ℕ) → t ≤ at row (a / 4) → fall row t a ≡ 0
unfolding fall
no-fall row t a h = omega (arith, h)

falls_below : (row : List ℕ) (t a n : ℕ) → at row (a / 4) < t → 1 ≤ n → at row (source a) ≤ at row (a / 4) + (n - 1) → fall row t a + 1 ≤ n
unfolding fall
falls_below row t a n h some s = omega (arith, h, some, s)

pub off-none : (row left : List ℕ) (t a : ℕ) → at left a ≡ 0 → TakenOff row t a left left
off-none row left t a e = record { size = refl; here = e ∙ sym (taken_none row left t a e); others = λ b n. refl }

-- a height that is not below t: nothing falls
pub off-high : (row left : List ℕ) (t a : ℕ) → t ≤ at row (a / 4) → TakenOff row t a left left
off-high row left t a h = record { size = refl; here = at-arc (there-or-none left a); others = λ b n. refl }
  where
    flat : fall row t a ≡ 0
    flat = no-fall row t a h

    at-arc : (at left a ≡ 0) ⊎ (1 ≤ at left a) → at left a ≡ taken row t left a
    at-arc (inl z) = z ∙ sym (taken_none row left t a z)
    at-arc (inr s) = omega (arith, taken-there row left t a s, flat)

module _ (row left : List ℕ) (t a u high : ℕ) (below : at row (a / 4) < t) (some : 1 ≤ at left a) (from : u ≡ source a)
    (top : high ≡ min (at row u) t) where
  falls : fall row t a ≡ high - at row (a / 4)
  unfolding fall
  falls = let f : high ≡ min (at row (source a)) t = rw (← from) top in omega (arith, f, below)

  pub off-some : a < length left → TakenOff row t a left (set left a (at left a - (high - at row (a / 4))))
  off-some inside = record {
    size = length-set left a (at left a - (high - at row (a / 4)));
    here = get_or-set_same left a (at left a - (high - at row (a / 4))) 0 inside ∙
        (let z : at left a - (high - at row (a / 4)) ≡ taken row t left a = omega (arith, taken-there row left t a some, falls) in z);
    others = λ b n. get_or-set_other left a b (at left a - (high - at row (a / 4))) 0 n;
  }

  pub off-level : high ≤ at row (a / 4) → TakenOff row t a left left
  off-level h = record { size = refl; here = omega (arith, taken-there row left t a some, falls, h); others = λ b n. refl }

  -- what is taken off, of what may be
  pub fall-fits : fall row t a + 1 ≤ at left a → (high - at row (a / 4)) + 1 ≤ at left a
  fall-fits h = omega (arith, falls, h)

pub quiet-fall : (left row : List ℕ) (t a : ℕ) → Still left t row a → 1 ≤ at left a → fall row t a + 1 ≤ at left a
quiet-fall left row t a s some =
    by (ltb (at row (a / 4)) t)
    (λ e. let h = ltb-true _ _ e in falls_below row t a (at left a) h some (s some h))
    (λ e. omega (arith, no-fall row t a (ltb-false _ _ e), some))

-- All arcs

pub lessened-none : (row left : List ℕ) (t : ℕ) → Lessened row t 0 left left
lessened-none row left t = record { size = refl; off = λ a h. absurd (let z : ⊥ = omega (arith, h) in z); others = λ a h. refl }

taken-same : (row : List ℕ) (t : ℕ) (left left' : List ℕ) (a : ℕ) → at left' a ≡ at left a → taken row t left' a ≡ taken row t left a
taken-same row t left left' a e = at-arc (there-or-none left a)
  where
    at-arc : (at left a ≡ 0) ⊎ (1 ≤ at left a) → taken row t left' a ≡ taken row t left a
    at-arc (inl z) = taken_none row left' t a (e ∙ z) ∙ sym (taken_none row left t a z)
    at-arc (inr s) = omega (arith, taken-there row left t a s, taken-there row left' t a (omega (arith, e, s)), e)

pub lessened-step : (row left left' left'' : List ℕ) (t a : ℕ) → Lessened row t a left left' → TakenOff row t a left' left'' →
    Lessened row t (a + 1) left left''
lessened-step row left left' left'' t a l o = record {
  size = o.size ∙ l.size;
  off = λ b h. pick b h (ℕ_discrete b a);
  others = λ b h. o.others b (λ e. let z : ⊥ = omega (arith, e, h) in z) ∙ l.others b (omega (arith, h));
}
  where
    same : taken row t left' a ≡ taken row t left a
    same = taken-same row t left left' a (l.others a (omega arith))

    pick : (b : ℕ) → b < a + 1 → Dec (b ≡ a) → at left'' b ≡ taken row t left b
    pick b h (yes e) = rw e (o.here ∙ same)
    pick b h (no n) = o.others b n ∙ l.off b (omega (arith, h, n))

pub lessened-fit : (row left left' : List ℕ) (t e : ℕ) → ArcsFit left → Lessened row t e left left' → ArcsFit left'
lessened-fit row left left' t e f l = record {
  size = l.size ∙ f.size;
  ends = λ a h s. f.ends a h (omega (arith, s, less a));
  low = λ a. omega (arith, f.low a, less a);
}
  where
    lower : (a : ℕ) → taken row t left a ≤ at left a
    lower a = at-arc (there-or-none left a)
      where
        at-arc : (at left a ≡ 0) ⊎ (1 ≤ at left a) → taken row t left a ≤ at left a
        at-arc (inl z) = omega (arith, taken_none row left t a z)
        at-arc (inr s) = omega (arith, taken-there row left t a s)

    less : (a : ℕ) → at left' a ≤ at left a
    less a = by (ltb a e)
        (λ h. omega (arith, l.off a (ltb-true a e h), lower a))
        (λ h. omega (arith, l.others a (ltb-false a e h)))

-- Raises one after the other: what is still to be swept makes up the whole sweep

module _ (numbers : List ℕ) (e m : ℕ) (whole : List ℕ) where
  abbrev pub Sweeping : List ℕ → ℕ → ℕ → Type 0
  Sweeping left i sum = (n : ℕ) → SweptTable numbers e left i n → SweptTable numbers e whole m (sum + n)

  pub sweep-none : Sweeping whole m 0
  sweep-none n s = let z : n ≡ 0 + n = omega arith in subst (λ (k : ℕ). SweptTable numbers e whole m k) z s

  pub sweep-step : (left left' row : List ℕ) (i k t sum : ℕ) → i ≡ suc k → 1 ≤ k → Row row → Above left (at numbers k) row → Quiet left e t row →
      LeastAt row numbers k t → Lessened row t e left left' → Sweeping left i sum → Sweeping left' k (sum + t)
  sweep-step left left' row i k t sum f g r a q l o h n s =
      let whole_of = h (t + n) (subst (λ (j : ℕ). SweptTable numbers e left j (t + n)) (sym f) (raise g r a q l o s)) in
      let z : sum + (t + n) ≡ sum + t + n = omega arith in
      subst (λ (j : ℕ). SweptTable numbers e whole m j) z whole_of

  pub sweep-end : (left : List ℕ) (i sum : ℕ) → i ≤ 1 → Sweeping left i sum → SweptTable numbers e whole m sum
  sweep-end left i sum h s =
      let z : sum + 0 ≡ sum = omega arith in subst (λ (j : ℕ). SweptTable numbers e whole m j) z (s 0 (last h))
