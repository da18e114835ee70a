-- What taking an entry out of a table, putting one in and moving numbers on does to every sum over its entries.
-- Assumes nothing.
use mathlib.Core.Path.{◌≡◌, refl, sym, ap, ap₂, subst, ◌∙◌}
use mathlib.Core.Bool.{true, false}
use mathlib.Core.List.{List, [], ◌∷◌}
use Prim.Native.Nat.{ℕ, zero, suc, ◌+◌, ◌-◌, ◌≤◌, ◌<◌}
use native.Mathlib.Omega.{arith}
use native.Mathlib.Numerals.{add-one}
use lib.Dec.{ltb}
use lib.ListN.{length, get_or, set, length-set}
use borrow.Author.Tests.{ltb-true, ltb-false, lt-ltb, le-ltb}
use Rattle.std.specs.List.{CopiedTo, SameBelow, SameFrom}
use Rattle.std.proofs.lemmas.List.{ext_get_or}
use Rattle.lists.proofs.TestLaws.{by}
use Rattle.lists.specs.Turns.{turns}
use Rattle.tree.specs.Table.{key, first_end, second_end, Row}
use Rattle.tree.specs.Sum.{below, sum_over}
use Rattle.exchanges.specs.Exchange.{shift, closed, drop_two, bump, bump_at, carrying, lay, lays}
use Rattle.tree.proofs.SumLaws.{below-same, from, from-below, from-same, other, here}

-- One taken out

-- the numbers but k, in order
unfoldable pub skip : ℕ → ℕ → ℕ
skip k i = elim (ltb i k) [ true ↦ i | false ↦ suc i ]

pub skip-low : (k i : ℕ) → i < k → skip k i ≡ i
unfolding skip
skip-low k i h = rw (skip, lt-ltb _ _ h) refl

pub skip-high : (k i : ℕ) → k ≤ i → skip k i ≡ suc i
unfolding skip
skip-high k i h = rw (skip, le-ltb _ _ h) refl

shift-here : (xs : List ℕ) (i : ℕ) → get_or (shift i xs) i 0 ≡ get_or xs (suc i) 0
unfolding shift
shift-here [] i = refl
shift-here (x ∷ xs) zero = refl
shift-here (x ∷ xs) (suc i) = shift-here xs i

shift-other : (xs : List ℕ) (i j : ℕ) → (i ≡ j → ⊥) → get_or (shift i xs) j 0 ≡ get_or xs j 0
unfolding shift
shift-other xs i j h = other xs i j (get_or xs (suc i) 0) h

shifts-low : (n k : ℕ) (xs : List ℕ) (j : ℕ) → j < k → get_or (turns shift k n xs) j 0 ≡ get_or xs j 0
unfolding turns
shifts-low zero k xs j h = refl
shifts-low (suc n) k xs j h = shifts-low n (suc k) (shift k xs) j (omega arith) ∙ shift-other xs k j (λ e. let z : ⊥ = omega arith in z)

shifts-high : (n k : ℕ) (xs : List ℕ) (j : ℕ) → k ≤ j → j < k + n → get_or (turns shift k n xs) j 0 ≡ get_or xs (suc j) 0
unfolding turns
shifts-high zero k xs j h l = absurd (let z : ⊥ = omega arith in z)
shifts-high (suc n) k xs j h l =
    by (ltb k j)
    (λ t. shifts-high n (suc k) (shift k xs) j (ltb-true k j t) (omega arith)
    ∙ shift-other xs k (suc j) (λ e. let z : ⊥ = omega arith in z))
    (λ t.
    let e : j ≡ k = omega (arith, ltb-false k j t) in
    shifts-low n (suc k) (shift k xs) j (omega arith) ∙ rw e (shift-here xs k))

shifts-past : (n k : ℕ) (xs : List ℕ) (j : ℕ) → k + n ≤ j → get_or (turns shift k n xs) j 0 ≡ get_or xs j 0
unfolding turns
shifts-past zero k xs j h = refl
shifts-past (suc n) k xs j h = shifts-past n (suc k) (shift k xs) j (omega arith) ∙ shift-other xs k j (λ e. let z : ⊥ = omega arith in z)

shifts-length : (n k : ℕ) (xs : List ℕ) → length (turns shift k n xs) ≡ length xs
unfolding turns shift
shifts-length zero k xs = refl
shifts-length (suc n) k xs = shifts-length n (suc k) (shift k xs) ∙ length-set xs k (get_or xs (suc k) 0)

-- the entries behind k copied one to the front
pub closed-copied : (k n src m : ℕ) (xs ys : List ℕ) → k ≤ n → src ≡ k + 1 → m ≡ n - k → length ys ≡ length xs
    → SameBelow xs ys k → CopiedTo xs ys src k m → SameFrom xs ys (k + m) → ys ≡ closed k n xs
unfolding closed
closed-copied k n src m xs ys h a b l below copied past =
    ext_get_or 0 ys (turns shift k (n - k) xs) (l ∙ sym (shifts-length (n - k) k xs))
    (λ i _. by (ltb i k)
    (λ t. let u : i < k = ltb-true i k t in below i 0 u ∙ sym (shifts-low (n - k) k xs i u))
    (λ t.
    let u : k ≤ i = ltb-false i k t in
    by (ltb i n)
    (λ v.
    let w : i < n = ltb-true i n v in
    let e : src + (i - k) ≡ suc i = omega arith in
    copied i 0 u (omega arith) ∙ ap (λ (j : ℕ). get_or xs j 0) e ∙ sym (shifts-high (n - k) k xs i u (omega arith)))
    (λ v.
    let w : n ≤ i = ltb-false i n v in
    past i 0 (omega arith) ∙ sym (shifts-past (n - k) k xs i (omega arith)))))

pub closed_at : (k n : ℕ) (xs : List ℕ) (i : ℕ) → i < n → get_or (closed k n xs) i 0 ≡ get_or xs (skip k i) 0
unfolding closed
closed_at k n xs i h =
    by (ltb i k)
    (λ t. let l : i < k = ltb-true i k t in shifts-low (n - k) k xs i l ∙ ap (λ (j : ℕ). get_or xs j 0) (sym (skip-low k i l)))
    (λ t. let l : k ≤ i = ltb-false i k t in shifts-high (n - k) k xs i l (omega arith)
    ∙ ap (λ (j : ℕ). get_or xs j 0) (sym (skip-high k i l)))

below-skip : (f : ℕ → ℕ) (k n : ℕ) → k ≤ n → f k + below (λ i. f (skip k i)) n ≡ below f (suc n)
unfolding below
below-skip f k zero h = let e : k ≡ 0 = omega arith in rw e refl
below-skip f k (suc n) h =
    by (ltb k (suc n))
    (λ t.
    let l : k ≤ n = omega (arith, ltb-true k (suc n) t) in
    let e : f (skip k n) ≡ f (suc n) = ap f (skip-high k n l) in
    omega (arith, e, below-skip f k n l))
    (λ t.
    let e : k ≡ suc n = omega (arith, ltb-false k (suc n) t) in
    let s : below (λ i. f (skip k i)) (suc n) ≡ below f (suc n) = below-same _ f (suc n) (λ i l. ap f (skip-low k i (omega arith))) in
    ap₂ ◌+◌ (ap f e) s)

pub over_closed : (g : ℕ → ℕ) (k n : ℕ) (xs : List ℕ) → k ≤ n → g (get_or xs k 0) + sum_over g (closed k n xs) n ≡ sum_over g xs (suc n)
over_closed g k n xs h =
    let e : sum_over g (closed k n xs) n ≡ below (λ i. g (get_or xs (skip k i) 0)) n = below-same _ _ n (λ i l. ap g (closed_at k n xs i l)) in
    let r : g (get_or xs k 0) + below (λ i. g (get_or xs (skip k i) 0)) n ≡ sum_over g xs (suc n) = below-skip (λ i. g (get_or xs i 0)) k n h in
    omega (arith, e, r)

-- One put in

pub carrying-low : (n i q : ℕ) (xs : List ℕ) (j : ℕ) → j < i → get_or (carrying i n q xs) j 0 ≡ get_or xs j 0
unfolding carrying
carrying-low zero i q xs j h = other xs i j q (λ e. let z : ⊥ = omega arith in z)
carrying-low (suc n) i q xs j h =
    by (ltb q (get_or xs i 0))
    (λ t. rw (carrying, t) (carrying-low n (suc i) (get_or xs i 0) (set xs i q) j (omega arith)
    ∙ other xs i j q (λ e. let z : ⊥ = omega arith in z)))
    (λ t. rw (carrying, t) (carrying-low n (suc i) q xs j (omega arith)))

carrying-end : (i q : ℕ) (xs : List ℕ) → carrying i zero q xs ≡ set xs i q
unfolding carrying
carrying-end i q xs = refl

carrying-put : (n i q : ℕ) (xs : List ℕ) → ltb q (get_or xs i 0) ≡ true → carrying i (suc n) q xs ≡ carrying (suc i) n (get_or xs i 0) (set xs i q)
unfolding carrying
carrying-put n i q xs t = rw (carrying, t) refl

carrying-past : (n i q : ℕ) (xs : List ℕ) → ltb q (get_or xs i 0) ≡ false → carrying i (suc n) q xs ≡ carrying (suc i) n q xs
unfolding carrying
carrying-past n i q xs t = rw (carrying, t) refl

from-carrying : (g : ℕ → ℕ) (n i q : ℕ) (xs : List ℕ) → i + n < length xs →
    from (λ j. g (get_or (carrying i n q xs) j 0)) i (suc n) ≡ g q + from (λ j. g (get_or xs j 0)) i n
unfolding from
from-carrying g zero i q xs h =
    let e : g (get_or (carrying i zero q xs) i 0) ≡ g q = ap (λ (ys : List ℕ). g (get_or ys i 0)) (carrying-end i q xs) ∙ ap g (here xs i q (omega arith)) in
    omega (arith, e)
from-carrying g (suc n) i q xs h =
    by (ltb q (get_or xs i 0))
    (λ t. subst (λ (ys : List ℕ). from (λ j. g (get_or ys j 0)) i (suc (suc n)) ≡ g q + from (λ j. g (get_or xs j 0)) i (suc n)) (sym (carrying-put n i q xs t))
    (swapped (from-carrying g n (suc i) (get_or xs i 0) (set xs i q) (rw (length-set xs i q) (omega arith)))))
    (λ t. subst (λ (ys : List ℕ). from (λ j. g (get_or ys j 0)) i (suc (suc n)) ≡ g q + from (λ j. g (get_or xs j 0)) i (suc n)) (sym (carrying-past n i q xs t))
    (stayed (from-carrying g n (suc i) q xs (omega arith))))
  where
    swapped : from (λ j. g (get_or (carrying (suc i) n (get_or xs i 0) (set xs i q)) j 0)) (suc i) (suc n) ≡ g (get_or xs i 0) + from
        (λ j. g (get_or (set xs i q) j 0)) (suc i) n
        → from (λ j. g (get_or (carrying (suc i) n (get_or xs i 0) (set xs i q)) j 0)) i (suc (suc n)) ≡ g q
        + from (λ j. g (get_or xs j 0)) i (suc n)
    swapped b =
        let x = get_or xs i 0 in
        let ys = set xs i q in
        let a : g (get_or (carrying (suc i) n x ys) i 0)
        ≡ g q = ap g (carrying-low n (suc i) x ys i (omega arith) ∙ here xs i q (omega arith)) in
        let d : from (λ j. g (get_or ys j 0)) (suc i) n ≡ from (λ j. g (get_or xs j 0)) (suc i) n
        = from-same _ _ n (suc i) (λ j l. ap g (other xs i j q (λ e. let z : ⊥ = omega arith in z))) in
        omega (arith, a, b, d)

    stayed : from (λ j. g (get_or (carrying (suc i) n q xs) j 0)) (suc i) (suc n) ≡ g q + from (λ j. g (get_or xs j 0)) (suc i) n
        → from (λ j. g (get_or (carrying (suc i) n q xs) j 0)) i (suc (suc n)) ≡ g q + from (λ j. g (get_or xs j 0)) i (suc n)
    stayed b =
        let a : g (get_or (carrying (suc i) n q xs) i 0) ≡ g (get_or xs i 0) = ap g (carrying-low n (suc i) q xs i (omega arith)) in
        omega (arith, a, b)

pub over-carrying : (g : ℕ → ℕ) (e q : ℕ) (xs : List ℕ) → e < length xs → sum_over g (carrying 0 e q xs) (suc e) ≡ g q + sum_over g xs e
over-carrying g e q xs h =
    sym (from-below _ (suc e)) ∙ from-carrying g e 0 q xs (omega arith) ∙ ap (λ (s : ℕ). g q + s) (from-below _ e)

-- the edge of two points, smaller number first, or none
unfoldable pub between : (ℕ → ℕ) → ℕ → ℕ → ℕ
between g p a = elim (ltb p a) [ true ↦ g (key p a) | false ↦ elim (ltb a p) [ true ↦ g (key a p) | false ↦ 0 ] ]

-- what laying an edge does to a table: its sums, its room and its size
pub over-lay : (g : ℕ → ℕ) (p a : ℕ) (r : Row) → r.size < length r.keys →
    sum_over g (lay p a r).keys (lay p a r).size ≡ between g p a + sum_over g r.keys r.size
unfolding lay between
over-lay g p a r h =
    by (ltb p a)
    (λ t. rw (lay, between, t) (ap (sum_over g (carrying 0 r.size (key p a) r.keys)) (add-one r.size)
    ∙ over-carrying g r.size (key p a) r.keys h))
    (λ t.
    by (ltb a p)
    (λ s. rw (lay, between, t, s) (ap (sum_over g (carrying 0 r.size (key a p) r.keys)) (add-one r.size)
    ∙ over-carrying g r.size (key a p)
    r.keys h))
    (λ s. rw (lay, between, t, s) (omega arith)))

pub length-carrying : (i n q : ℕ) (xs : List ℕ) → length (carrying i n q xs) ≡ length xs
unfolding carrying
length-carrying i zero q xs = length-set xs i q
length-carrying i (suc n) q xs =
    by (ltb q (get_or xs i 0))
    (λ t. rw (carrying, t) (length-carrying (suc i) n (get_or xs i 0) (set xs i q) ∙ length-set xs i q))
    (λ t. rw (carrying, t) (length-carrying (suc i) n q xs))

pub length-lay : (p a : ℕ) (r : Row) → length (lay p a r).keys ≡ length r.keys
unfolding lay
length-lay p a r =
    by (ltb p a) (λ t. rw (lay, t) (length-carrying 0 r.size (key p a) r.keys))
    (λ t. by (ltb a p) (λ s. rw (lay, t, s) (length-carrying 0 r.size (key a p) r.keys)) (λ s. rw (lay, t, s) refl))

pub size-lay : (p a : ℕ) (r : Row) → (lay p a r).size ≤ r.size + 1
unfolding lay
size-lay p a r =
    by (ltb p a) (λ t. rw (lay, t) (omega arith)) (λ t. by (ltb a p) (λ s. rw (lay, t, s) (omega arith))
    (λ s. rw (lay, t, s) (omega arith)))

-- edges one after the other: what they add, the room and the size
abbrev pub betweens : (ℕ → ℕ) → List (ℕ × ℕ) → ℕ
betweens g [] = 0
betweens g (e ∷ es) = betweens g es + between g e.0 e.1

pub length-lays : (es : List (ℕ × ℕ)) (r : Row) → length (lays es r).keys ≡ length r.keys
unfolding lays
length-lays [] r = refl
length-lays (e ∷ es) r = length-lays es (lay e.0 e.1 r) ∙ length-lay e.0 e.1 r

pub over-lays : (g : ℕ → ℕ) (es : List (ℕ × ℕ)) (r : Row) → r.size + length es ≤ length r.keys →
    sum_over g (lays es r).keys (lays es r).size ≡ betweens g es + sum_over g r.keys r.size
unfolding lays
over-lays g [] r h = omega arith
over-lays g (e ∷ es) r h =
    let one = lay e.0 e.1 r in
    let more = over-lays g es one (rw (length-lay e.0 e.1 r) (omega (arith, size-lay e.0 e.1 r))) in
    let first = over-lay g e.0 e.1 r (omega arith) in
    omega (arith, more, first)

-- Two taken out

pub over-dropped : (g : ℕ → ℕ) (n k l : ℕ) (xs : List ℕ) → k < suc (suc n) → l < suc (suc n) → (k ≡ l → ⊥) →
    g (get_or xs k 0) + (g (get_or xs l 0) + sum_over g (drop_two n k l xs) n) ≡ sum_over g xs (suc (suc n))
unfolding drop_two
over-dropped g n k l xs h i d =
    by (ltb k l)
    (λ t.
    let lt : k < l = ltb-true k l t in
    let same : get_or (closed l (n + 1) xs) k 0 ≡ get_or xs k 0 = closed_at l (n + 1) xs k (omega arith)
    ∙ ap (λ (j : ℕ). get_or xs j 0) (skip-low l k lt) in
    rw (drop_two, t) (both l k lt same i))
    (λ t.
    let le : l ≤ k = ltb-false k l t in
    let lt : l < k = omega arith in
    let same : get_or (closed k (n + 1) xs) l 0 ≡ get_or xs l 0 = closed_at k (n + 1) xs l (omega arith)
    ∙ ap (λ (j : ℕ). get_or xs j 0) (skip-low k l lt) in
    rw (drop_two, t) (let r = both k l lt same h in omega (arith, r)))
  where
    both : (hi lo : ℕ) → lo < hi → get_or (closed hi (n + 1) xs) lo 0 ≡ get_or xs lo 0 → hi < suc (suc n) →
        g (get_or xs lo 0) + (g (get_or xs hi 0) + sum_over g (closed lo n (closed hi (n + 1) xs)) n) ≡ sum_over g xs (suc (suc n))
    both hi lo lt same top =
        let a : g (get_or xs hi 0) + sum_over g (closed hi (n + 1) xs) (suc n) ≡ sum_over g xs (suc (suc n))
        = rw (← add-one n) (over_closed g hi (n + 1) xs (omega arith)) in
        let b : g (get_or (closed hi (n + 1) xs) lo 0) + sum_over g (closed lo n (closed hi (n + 1) xs)) n ≡ sum_over g
        (closed hi (n + 1) xs) (suc n)
        = over_closed g lo n (closed hi (n + 1) xs) (omega arith) in
        let c : g (get_or (closed hi (n + 1) xs) lo 0) ≡ g (get_or xs lo 0) = ap g same in
        omega (arith, a, b, c)

-- Numbers moved on

abbrev pub bump_key : ℕ → ℕ → ℕ
bump_key p k = key (bump p (first_end k)) (bump p (second_end k))

bumps-low : (p n i : ℕ) (xs : List ℕ) (j : ℕ) → j < i → get_or (turns (bump_at p) i n xs) j 0 ≡ get_or xs j 0
unfolding turns bump_at
bumps-low p zero i xs j h = refl
bumps-low p (suc n) i xs j h =
    bumps-low p n (suc i) _ j (omega arith) ∙ other xs i j (bump_key p (get_or xs i 0)) (λ e. let z : ⊥ = omega arith in z)

pub bumps_at : (p n i : ℕ) (xs : List ℕ) (j : ℕ) → i + n ≤ length xs → i ≤ j → j < i + n → get_or (turns (bump_at p) i n xs) j 0
    ≡ bump_key p (get_or xs j 0)
unfolding turns bump_at
bumps_at p zero i xs j b h l = absurd (let z : ⊥ = omega arith in z)
bumps_at p (suc n) i xs j b h l =
    let x = bump_key p (get_or xs i 0) in
    by (ltb i j)
    (λ t.
    let m : i < j = ltb-true i j t in
    bumps_at p n (suc i) (set xs i x) j (rw (length-set xs i x) (omega arith)) m (omega arith)
    ∙ ap (bump_key p) (other xs i j x (λ e. let z : ⊥ = omega arith in z)))
    (λ t.
    let e : j ≡ i = omega (arith, ltb-false i j t) in
    bumps-low p n (suc i) (set xs i x) j (omega arith) ∙ rw e (here xs i x (omega arith)))

pub over-bumped : (g : ℕ → ℕ) (p e : ℕ) (xs : List ℕ) → e ≤ length xs → sum_over g (turns (bump_at p) 0 e xs) e
    ≡ sum_over (λ k. g (bump_key p k)) xs e
over-bumped g p e xs h = below-same _ _ e (λ i l. ap g (bumps_at p e 0 xs i (omega arith) (omega arith) (omega arith)))

length-bumped : (p n i : ℕ) (xs : List ℕ) → length (turns (bump_at p) i n xs) ≡ length xs
unfolding turns bump_at
length-bumped p zero i xs = refl
length-bumped p (suc n) i xs = length-bumped p n (suc i) _ ∙ length-set xs i (bump_key p (get_or xs i 0))

pub length-bumps : (p e : ℕ) (xs : List ℕ) → length (turns (bump_at p) 0 e xs) ≡ length xs
length-bumps p e xs = length-bumped p e 0 xs

length-shifts : (n k : ℕ) (xs : List ℕ) → length (turns shift k n xs) ≡ length xs
unfolding turns shift
length-shifts zero k xs = refl
length-shifts (suc n) k xs = length-shifts n (suc k) _ ∙ length-set xs k (get_or xs (suc k) 0)

pub length-dropped : (n k l : ℕ) (xs : List ℕ) → length (drop_two n k l xs) ≡ length xs
unfolding drop_two closed
length-dropped n k l xs =
    by (ltb k l)
    (λ t. rw (drop_two, t) (length-shifts (n - k) k _ ∙ length-shifts (n + 1 - l) l xs))
    (λ t. rw (drop_two, t) (length-shifts (n - l) l _ ∙ length-shifts (n + 1 - k) k xs))
