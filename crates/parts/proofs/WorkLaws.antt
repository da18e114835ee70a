-- Sets as numbers, bit by bit; the least sum over the parts of a set, part by part up to the half; the rows of the lent work.
-- Assumes nothing.
use mathlib.Core.Path.{◌≡◌, refl, sym, ap, ap₂, subst, ◌∙◌}
use mathlib.Core.Bool.{true, false}
use mathlib.Core.List.{List, [], ◌∷◌, map}
use Prim.Native.Nat.{ℕ, zero, suc, ◌+◌, ◌*◌, ◌-◌, ◌/◌, ◌%◌, ◌≤◌, ◌<◌, min}
use native.Mathlib.Decide.{ℕ_discrete}
use native.Mathlib.Omega.{arith}
use borrow.Author.Tests.{le-leb, lt-leb, leb-true, ne_eqb, ltb-true, ltb-false}
use lib.Dec.{leb, ltb}
use lib.ListN.{length, set, drop, replicate, length-set, length-drop, length-replicate, get_or-replicate}
use lib.ListN.{get_or-eq_default}
use lib.Seq.{get_or-drop, get_or-take, get_or-set_same, get_or-set_other, ext_get_or, length-take-le}
use Rattle.lists.specs.Member.{◌∈◌, here, there}
use Rattle.lists.specs.Those.{those}
use Rattle.lists.proofs.TestLaws.{by, and_left, and_right, and_both}
use Rattle.lists.proofs.ThoseLaws.{of-those}
use Rattle.lines.specs.Bounds.{crossing_bound, unreached}
use Rattle.grid.specs.Rows.{at, Held, Quiet}
use Rattle.grid.specs.Tables.{Row}
use Rattle.grid.proofs.PassLaws.{held-row}
use Rattle.parts.specs.Bounds.{mask_bound, work_bound}
use Rattle.parts.specs.Numbers.{part_of}
use Rattle.parts.specs.Starts.{under, least, proper_part, sums, trying}
use Rattle.parts.specs.Tables.{value_at, row_of, RowsTo, lone_pin, Tried, Begun, RowPut, RowFilled, MaskRow, FilledTo}
use Rattle.parts.proofs.Under.{of-under}

-- Parts, bit by bit

pub part-stop : (m p s : ℕ) → 0 < m → s % 2 < p % 2 → part_of m p s ≡ false
unfolding part_of
part-stop zero p s h k = absurd (let z : ⊥ = omega (arith, h) in z)
part-stop (suc m) p s h k = rw (lt-leb (p % 2) (s % 2) k) refl

pub part-pass : (m p s : ℕ) → 0 < m → p % 2 ≤ s % 2 → part_of m p s ≡ part_of (m - 1) (p / 2) (s / 2)
unfolding part_of
part-pass zero p s h k = absurd (let z : ⊥ = omega (arith, h) in z)
part-pass (suc m) p s h k =
    let e : suc m - 1 ≡ m = omega arith in
    rw (le-leb (p % 2) (s % 2) k, e) refl

pub part_end : (m p s : ℕ) → m ≤ 0 → part_of m p s ≡ true
unfolding part_of
part_end zero p s h = refl
part_end (suc m) p s h = absurd (let z : ⊥ = omega (arith, h) in z)

-- the rest of a set is a part too
pub part-rest : (m p s : ℕ) → p ≤ s → part_of m p s ≡ true → part_of m (s - p) s ≡ true
unfolding part_of
part-rest zero p s h e = refl
part-rest (suc m) p s h e =
    let bit = leb-true (p % 2) (s % 2) (and_left (leb (p % 2) (s % 2)) (part_of m (p / 2) (s / 2)) e) in
    let half : s / 2 - p / 2 ≡ (s - p) / 2 = omega (arith, h, bit) in
    let rest = part-rest m (p / 2) (s / 2) (omega (arith, h)) (and_right (leb (p % 2) (s % 2)) (part_of m (p / 2) (s / 2)) e) in
    and_both (leb ((s - p) % 2) (s % 2)) (part_of m ((s - p) / 2) (s / 2)) (le-leb ((s - p) % 2) (s % 2) (omega (arith, h, bit)))
    (subst (λ (n : ℕ). part_of m n (s / 2) ≡ true) half rest)

-- The lone pin of a set

pub lone-one : (s : ℕ) → s ≡ 1 → 1 ≡ lone_pin s
unfolding lone_pin
lone-one s e = rw e refl

pub lone-two : (s : ℕ) → s ≡ 2 → 2 ≡ lone_pin s
unfolding lone_pin
lone-two s e = rw e refl

pub lone-three : (s : ℕ) → s ≡ 4 → 3 ≡ lone_pin s
unfolding lone_pin
lone-three s e = rw e refl

pub lone-four : (s : ℕ) → s ≡ 8 → 4 ≡ lone_pin s
unfolding lone_pin
lone-four s e = rw e refl

pub lone-none : (s : ℕ) → (s ≡ 1 → ⊥) → (s ≡ 2 → ⊥) → (s ≡ 4 → ⊥) → (s ≡ 8 → ⊥) → 0 ≡ lone_pin s
unfolding lone_pin
lone-none s a b c d = rw (lone_pin, ne_eqb s 1 a, ne_eqb s 2 b, ne_eqb s 4 c, ne_eqb s 8 d) refl

-- a set with no lone pin has two pins or more
pub lone-more : (s : ℕ) → 1 ≤ s → lone_pin s ≡ 0 → 2 ≤ s
unfolding lone_pin
lone-more zero h e = absurd (let z : ⊥ = omega (arith, h) in z)
lone-more (suc zero) h e = absurd (let z : ⊥ = omega (arith, e) in z)
lone-more (suc (suc n)) h e = omega arith

-- Rows

pub row_at : (w : List ℕ) (s v : ℕ) → v < crossing_bound → at (row_of w s) v ≡ value_at w s v
unfolding row_of
row_at w s v h = get_or-take crossing_bound (drop (s * crossing_bound) w) v 0 h ∙ get_or-drop (s * crossing_bound) w v 0

pub row-long : (w : List ℕ) (s : ℕ) → work_bound ≤ length w → s < mask_bound → length (row_of w s) ≡ crossing_bound
unfolding row_of
row-long w s h k =
    length-take-le crossing_bound (drop (s * crossing_bound) w) (omega (arith, h, k, length-drop (s * crossing_bound) w))

-- a list with the numbers of a row is the row
pub row_is : (w : List ℕ) (s : ℕ) (row : List ℕ) → work_bound ≤ length w → s < mask_bound → length row ≡ crossing_bound →
    ((v : ℕ) → v < crossing_bound → at row v ≡ value_at w s v) → row ≡ row_of w s
row_is w s row h k long each =
    ext_get_or 0 row (row_of w s) (long ∙ sym (row-long w s h k))
    (λ v i. let j : v < crossing_bound = omega (arith, i, long) in each v j ∙ sym (row_at w s v j))

-- Sums so far

map-agree : {A : Type 0} (f g : A → ℕ) (l : List A) → ((x : A) → x ∈ l → f x ≡ g x) → map f l ≡ map g l
map-agree f g [] h = refl
map-agree f g (x ∷ l) h = ap₂ (λ (a : ℕ) (r : List ℕ). a ∷ r) (h x (here refl)) (map-agree f g l (λ y m. h y (there m)))

-- the sums look at the parts only
pub sums-agree : (m s v : ℕ) (value other : ℕ → ℕ → ℕ) → ((p : ℕ) → 1 ≤ p → p < s → value p v ≡ other p v) →
    sums m value s v ≡ sums m other s v
unfolding sums proper_part
sums-agree m s v value other h =
    map-agree (λ (p : ℕ). value p v + value (s - p) v) (λ (p : ℕ). other p v + other (s - p) v)
    (those (proper_part m s) (under s))
    (λ p i. let r = of-those (proper_part m s) (under s) i in
    let less = of-under s p r.0 in
    let one = leb-true 1 p (and_left (leb 1 p) (part_of m p s) r.1) in
    ap₂ ◌+◌ (h p one less) (h (s - p) (omega (arith, less)) (omega (arith, less, one))))

module _ (m : ℕ) (value : ℕ → ℕ → ℕ) (s v : ℕ) where
  -- over the parts below p
  unfoldable pub sofar : ℕ → ℕ
  sofar p = least unreached (map (λ (p : ℕ). value p v + value (s - p) v) (those (proper_part m s) (under p)))

  pub sofar-none : sofar 1 ≡ unreached
  unfolding sofar under proper_part those least
  sofar-none = refl

  pub sofar-more : (p : ℕ) → 1 ≤ p → trying m value s v p (sofar p) ≡ sofar (p + 1)
  unfolding sofar under trying proper_part those least
  sofar-more p h =
      let n : p + 1 ≡ suc p = omega arith in
      let one = le-leb 1 p h in
      by (part_of m p s) (λ e. rw (n, trying, those, one, e) refl) (λ e. rw (n, trying, those, one, e) refl)

  -- the two answers for a part
  pub try-none : (p best : ℕ) → part_of m p s ≡ false → trying m value s v p best ≡ best
  unfolding trying
  try-none p best e = rw (trying, e) refl

  pub try_one : (p best : ℕ) → part_of m p s ≡ true → trying m value s v p best ≡ min (value p v + value (s - p) v) best
  unfolding trying
  try_one p best e = rw (trying, e) refl

  try-low : (p best : ℕ) → trying m value s v p best ≤ best
  try-low p best =
      by (part_of m p s) (λ e. omega (arith, try_one p best e)) (λ e. omega (arith, try-none p best e))

  -- not above the sum of any part that was tried
  sofar-low : (q d : ℕ) → 1 ≤ q → part_of m q s ≡ true → sofar (q + 1 + d) ≤ value q v + value (s - q) v
  sofar-low q zero h e =
      let n : q + 1 + 0 ≡ q + 1 = omega arith in
      rw n (omega (arith, sofar-more q h, try_one q (sofar q) e))
  sofar-low q (suc d) h e =
      let n : q + 1 + suc d ≡ q + 1 + d + 1 = omega arith in
      rw n (omega (arith, sofar-more (q + 1 + d) (omega arith), try-low (q + 1 + d) (sofar (q + 1 + d)), sofar-low q d h e))

  -- a part above the half lowers nothing: the rest of the set has been tried
  sofar-rest : (p : ℕ) → p < s → s < p + p → sofar (p + 1) ≡ sofar p
  sofar-rest p h k = sym (sofar-more p (omega (arith, h, k))) ∙ by (part_of m p s) (λ e. met e) (λ e. try-none p (sofar p) e)
    where
      met : part_of m p s ≡ true → trying m value s v p (sofar p) ≡ sofar p
      met e =
          let d = p - (s - p + 1) in
          let n : s - p + 1 + d ≡ p = omega (arith, h, k) in
          let back : s - (s - p) ≡ p = omega (arith, h) in
          let low = sofar-low (s - p) d (omega (arith, h)) (part-rest m p s (omega (arith, h)) e) in
          let low-p : sofar p ≤ value (s - p) v + value p v = rw (n, back) at low in
          try_one p (sofar p) e ∙ (let z : min (value p v + value (s - p) v) (sofar p) ≡ sofar p = omega (arith, low-p) in z)

  -- the parts of the lower half are enough
  sofar-on : (p d : ℕ) → s < p + p → p + d ≤ s → sofar (p + d) ≡ sofar p
  sofar-on p zero h k = ap sofar (let z : p + 0 ≡ p = omega arith in z)
  sofar-on p (suc d) h k =
      let n : p + suc d ≡ p + d + 1 = omega arith in
      ap sofar n ∙ sofar-rest (p + d) (omega (arith, k)) (omega (arith, h)) ∙ sofar-on p d h (omega (arith, k))

  pub sofar-end : (p : ℕ) → p ≤ s → s < p + p → sofar p ≡ least unreached (sums m value s v)
  unfolding sofar sums
  sofar-end p h k =
      let n : p + (s - p) ≡ s = omega (arith, h) in
      sym (sofar-on p (s - p) k (omega (arith, h))) ∙ ap sofar n

-- A part tried, number by number

pub record Trying (m : ℕ) (value : ℕ → ℕ → ℕ) (s p : ℕ) (t : List ℕ) (v : ℕ) (u : List ℕ) : Type 0 where
  pub row : Row u
  pub each : (x : ℕ) → x < v → at u x ≡ trying m value s x p (at t x)
  pub rest : (x : ℕ) → v ≤ x → at u x ≡ at t x

module _ (m : ℕ) (value : ℕ → ℕ → ℕ) (s p : ℕ) (t : List ℕ) where
  pub tried-none : Row t → part_of m p s ≡ false → Tried m value s p t t
  tried-none r e = record { row = r; each = λ v h. sym (try-none m value s v p (at t v) e) }

  pub trying-more : (v sum n : ℕ) (u : List ℕ) → v < crossing_bound → part_of m p s ≡ true → sum ≡ value p v + value (s - p) v →
      n ≡ min sum (at u v) → Trying m value s p t v u → Trying m value s p t (v + 1) (set u v n)
  trying-more v sum n u h e f k b = record {
    row = record { size = length-set u v n ∙ b.row.size; low = λ x. low x (ℕ_discrete x v) };
    each = λ x i. each x i (ℕ_discrete x v);
    rest = λ x i. get_or-set_other u v x n 0 (λ z. let y : ⊥ = omega (arith, z, i) in y) ∙ b.rest x (omega (arith, i));
  }
    where
      here-is : at (set u v n) v ≡ n
      here-is = get_or-set_same u v n 0 (omega (arith, h, b.row.size))

      low : (x : ℕ) → Dec (x ≡ v) → at (set u v n) x ≤ unreached
      low x (yes z) = rw z (omega (arith, here-is, k, b.row.low v))
      low x (no z) = omega (arith, get_or-set_other u v x n 0 z, b.row.low x)

      here-tried : at (set u v n) v ≡ trying m value s v p (at t v)
      here-tried =
          let same = b.rest v (omega arith) in
          here-is ∙ k ∙ ap₂ min f same ∙ sym (try_one m value s v p (at t v) e)

      each : (x : ℕ) → x < v + 1 → Dec (x ≡ v) → at (set u v n) x ≡ trying m value s x p (at t x)
      each x i (yes z) = subst (λ (y : ℕ). at (set u v n) y ≡ trying m value s y p (at t y)) (sym z) here-tried
      each x i (no z) = get_or-set_other u v x n 0 z ∙ b.each x (omega (arith, i, z))

-- The start row, part by part

-- one in which no crossing is reached
fresh-past : (v : ℕ) → crossing_bound ≤ v → at (replicate crossing_bound unreached) v ≡ 0
fresh-past v h =
    get_or-eq_default (replicate crossing_bound unreached) 0
    (let z : length (replicate crossing_bound unreached) ≤ v = omega (arith, h, length-replicate crossing_bound unreached) in z)

pub fresh-row : (t : List ℕ) → t ≡ replicate crossing_bound unreached → Row t
fresh-row t e = record {
  size = ap length e ∙ length-replicate crossing_bound unreached;
  low = λ v. by (ltb v crossing_bound)
      (λ h. omega (arith, ap (λ (l : List ℕ). at l v) e, get_or-replicate crossing_bound v unreached 0 (ltb-true v crossing_bound h)))
      (λ h. omega (arith, ap (λ (l : List ℕ). at l v) e, fresh-past v (ltb-false v crossing_bound h)));
}

pub record Beginning (m : ℕ) (work : List ℕ) (s p : ℕ) (t : List ℕ) : Type 0 where
  pub row : Row t
  pub each : (v : ℕ) → v < crossing_bound → at t v ≡ sofar m (value_at work) s v p

module _ (m : ℕ) (work : List ℕ) (s : ℕ) where
  pub begin-none : (t : List ℕ) → t ≡ replicate crossing_bound unreached → Beginning m work s 1 t
  begin-none t e = record {
    row = fresh-row t e;
    each = λ v h. ap (λ (l : List ℕ). at l v) e ∙ get_or-replicate crossing_bound v unreached 0 h ∙ sym (sofar-none m (value_at work) s v);
  }

  pub begin-more : (p : ℕ) (t u : List ℕ) → 1 ≤ p → Beginning m work s p t → Tried m (value_at work) s p t u →
      Beginning m work s (p + 1) u
  begin-more p t u h b r = record {
    row = r.row;
    each = λ v i. r.each v i ∙ ap (trying m (value_at work) s v p) (b.each v i) ∙ sofar-more m (value_at work) s v p h;
  }

  pub begin-end : (numbers : List ℕ) (p : ℕ) (t : List ℕ) → lone_pin s ≡ 0 → p ≤ s → s < p + p → Beginning m work s p t →
      Begun m numbers work s t
  begin-end numbers p t z h k b = record {
    row = b.row;
    lone = λ o. let y : ⊥ = omega (arith, z, o) in absurd y;
    parts = λ o v i. b.each v i ∙ sofar-end m (value_at work) s v p h k;
  }

-- Rows one after the other

module _ (near : ℕ → ℕ → ℕ → Type 0) (m : ℕ) (numbers : List ℕ) where
  row_kept : (w u : List ℕ) (s p : ℕ) (row : List ℕ) → work_bound ≤ length w → RowPut s row w u → s < mask_bound → p < s →
      row_of u p ≡ row_of w p
  row_kept w u s p row long r h k =
      row_is w p (row_of u p) long (omega (arith, h, k)) (row-long u p (omega (arith, long, r.size)) (omega (arith, h, k)))
      (λ v i. row_at u p v i ∙ r.below (p * crossing_bound + v) (omega (arith, i, k)))

  pub fill_none : (w : List ℕ) → FilledTo near m numbers 1 w w
  fill_none w = record { size = refl; past = λ i h. refl; each = λ s h k. let z : ⊥ = omega (arith, h, k) in absurd z }

  pub fill_more : (n : ℕ) (w u x : List ℕ) → work_bound ≤ length w → 1 ≤ n → n < mask_bound → FilledTo near m numbers n w u →
      RowFilled near m numbers n u x → FilledTo near m numbers (n + 1) w x
  fill_more n w u x long one h f r = record {
    size = r.put.size ∙ f.size;
    past = λ i k. r.put.above i (omega (arith, k, h)) ∙ f.past i k;
    each = λ s i k. each s i k (ℕ_discrete s n);
  }
    where
      room : work_bound ≤ length u
      room = omega (arith, long, f.size)

      begun_kept : (s : ℕ) (t : List ℕ) → s ≤ n → Begun m numbers u s t → Begun m numbers x s t
      begun_kept s t k b = record {
        row = b.row;
        lone = b.lone;
        parts = λ z v i. b.parts z v i ∙ ap (least unreached)
            (sums-agree m s v (value_at u) (value_at x)
            (λ p a c. sym (r.put.below (p * crossing_bound + v) (omega (arith, c, k, i)))));
      }

      each : (s : ℕ) → 1 ≤ s → s < n + 1 → Dec (s ≡ n) → MaskRow near m numbers x s
      each s i k (yes e) =
          let is : r.row ≡ row_of x n = row_is x n r.row (omega (arith, room, r.put.size)) h
          (held-row near r.start r.row r.begun.row r.held).size (λ v j. sym (r.put.here v j)) in
          subst (MaskRow near m numbers x) (sym e) record {
            start = r.start;
            begun = begun_kept n r.start (omega arith) r.begun;
            held = subst (Held near r.start) is r.held;
            quiet = λ v y c j. subst (Quiet near) is r.quiet v y c j;
          }
      each s i k (no d) =
          let o = f.each s i (omega (arith, k, d)) in
          let same : row_of x s ≡ row_of u s = row_kept u x n s r.row room r.put h (omega (arith, k, d)) in
          record {
            start = o.start;
            begun = begun_kept s o.start (omega (arith, k)) o.begun;
            held = subst (Held near o.start) (sym same) o.held;
            quiet = λ v y c j. subst (Quiet near) (sym same) o.quiet v y c j;
          }

  pub fill-rows : (n : ℕ) (w u : List ℕ) → work_bound ≤ length w → FilledTo near m numbers n w u → RowsTo n u
  fill-rows n w u long f = record {
    size = omega (arith, long, f.size);
    low = λ p v one h i.
        let r = f.each p one h in
        let t = held-row near r.start (row_of u p) r.begun.row r.held in
        omega (arith, t.low v, row_at u p v i);
  }

  pub fill_end : (k n : ℕ) (w u : List ℕ) → k ≤ n → n ≤ k → FilledTo near m numbers k w u → FilledTo near m numbers n w u
  fill_end k n w u h i f = let e : k ≡ n = omega (arith, h, i) in subst (λ (j : ℕ). FilledTo near m numbers j w u) e f

pub rows-fewer : (n k : ℕ) (w : List ℕ) → n ≤ k → RowsTo k w → RowsTo n w
rows-fewer n k w h r = record { size = r.size; low = λ p v a b c. r.low p v a (omega (arith, b, h)) c }

pub row_low : (n s : ℕ) (w : List ℕ) → 1 ≤ s → s < n → s < mask_bound → RowsTo n w → Row (row_of w s)
row_low n s w one h k r = record {
  size = row-long w s r.size k;
  low = λ v. by (ltb v crossing_bound)
      (λ e. let i = ltb-true v crossing_bound e in omega (arith, row_at w s v i, r.low s v one h i))
      (λ e. omega (arith, past v (ltb-false v crossing_bound e)));
}
  where
    past : (v : ℕ) → crossing_bound ≤ v → at (row_of w s) v ≡ 0
    past v i = get_or-eq_default (row_of w s) 0 (let z : length (row_of w s) ≤ v = omega (arith, i, row-long w s r.size k) in z)
