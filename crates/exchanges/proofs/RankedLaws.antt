-- Edges stay smaller place first and in order: where some are taken out, where numbers move on, where edges are laid. That no edge is there
-- twice is no matter of the tables: they are a tree.
-- Assumes nothing.
use mathlib.Core.Path.{◌≡◌, sym, ap, ◌∙◌, subst}
use mathlib.Core.Logic.{inl}
use mathlib.Core.List.Memᴰ
use mathlib.Core.List.{List, [], ◌∷◌}
use Prim.Native.Nat.{ℕ, zero, suc, ◌+◌, ◌≤◌, ◌<◌}
use native.Mathlib.Omega.{arith}
use native.Mathlib.Numerals.{add-one}
use lib.Dec.{ltb, eqb}
use lib.IntN.{ℤ}
use lib.ListN.{length, get_or, set, length-set}
use borrow.Author.Tests.{ltb-true, ltb-false, eqb-true, eqb-false}
use Rattle.lists.specs.Member.{Once}
use Rattle.lists.proofs.TestLaws.{by}
use Rattle.plane.specs.declared.Place.{Place}
use Rattle.joined.specs.Tree.{Forest}
use Rattle.joined.proofs.JoinedLaws.{one as one_link}
use Rattle.joined.proofs.TreeLaws.{tree-cuts, cuts-forest}
use Rattle.lists.specs.Turns.{turns}
use Rattle.net.specs.Net.{Net}
use Rattle.tree.specs.Table.{tree_bound, key, first_end, second_end, Row, row, Tree, Within}
use Rattle.exchanges.specs.Exchange.{closed, drop_two, stands, bump, bump_at, carrying, lay, lays, star, laid_at}
use Rattle.exchanges.specs.Prune.{first_loose, prune}
use Rattle.tree.specs.Places.{listing, ends_of, edges_of, Ranked, Sound}
use Rattle.exchanges.proofs.ExchangeLaws.{bump-lt, bump-ge}
use Rattle.exchanges.proofs.WithinLaws.{bump-in, Ends, star-ends}
use Rattle.tree.proofs.SumLaws.{other, here}
use Rattle.exchanges.proofs.ExchangeSums.{skip, skip-low, skip-high, closed_at, bump_key, bumps_at, length-bumps, length-lay}
use Rattle.exchanges.proofs.ExchangeSums.{size-lay}
use Rattle.tree.proofs.ListingLaws.{in-listing}
use Rattle.exchanges.proofs.AfterLaws.{first_of, second-of}
use Rattle.tree.proofs.PointLaws.{same-place}

-- Some taken out

skip-less : (k i j : ℕ) → i < j → skip k i < skip k j
skip-less k i j h =
    by (ltb i k)
    (λ t.
    by (ltb j k)
    (λ v. omega (arith, skip-low k i (ltb-true i k t), skip-low k j (ltb-true j k v)))
    (λ v. omega (arith, skip-low k i (ltb-true i k t), skip-high k j (ltb-false j k v))))
    (λ t. let g : k ≤ i = ltb-false i k t in omega (arith, skip-high k i g, skip-high k j (omega arith)))

skip-in : (k i n : ℕ) → i < n → skip k i < suc n
skip-in k i n h =
    by (ltb i k) (λ t. omega (arith, skip-low k i (ltb-true i k t))) (λ t. omega (arith, skip-high k i (ltb-false i k t)))

pub closed-ranked : (k n : ℕ) (xs : List ℕ) → Ranked xs (suc n) → Ranked (closed k n xs) n
closed-ranked k n xs r = record {
  upward = λ i h. subst (λ (j : ℕ). first_end j < second_end j) (sym (closed_at k n xs i h)) (r.upward (skip k i) (skip-in k i n h));
  rising =
      λ i j h l.
      let o = r.rising (skip k i) (skip k j) (skip-less k i j h) (skip-in k j n l) in
      omega (arith, o, closed_at k n xs i (omega arith), closed_at k n xs j l);
}

pub dropped-ranked : (n k l : ℕ) (xs : List ℕ) → Ranked xs (suc (suc n)) → Ranked (drop_two n k l xs) n
unfolding drop_two
dropped-ranked n k l xs r =
    let q : Ranked xs (suc (n + 1)) = subst (λ (m : ℕ). Ranked xs (suc m)) (sym (add-one n)) r in
    by (ltb k l)
    (λ t. rw (drop_two, t) (closed-ranked k n _ (subst (Ranked (closed l (n + 1) xs)) (add-one n) (closed-ranked l (n + 1) xs q))))
    (λ t. rw (drop_two, t) (closed-ranked l n _ (subst (Ranked (closed k (n + 1) xs)) (add-one n) (closed-ranked k (n + 1) xs q))))

pub prune-ranked : (pin : List ℕ) (e : ℕ) (ks : List ℕ) → Ranked ks e → Ranked (prune pin ks e).keys (prune pin ks e).size
unfolding prune
prune-ranked pin zero ks r = r
prune-ranked pin (suc e) ks r =
    by (eqb (first_loose pin ks (suc e)) (suc e)) (λ t. rw (prune, t) r)
    (λ t. rw (prune, t) (prune-ranked pin e _ (closed-ranked (first_loose pin ks (suc e)) e ks r)))

-- Numbers moved on

bump-less : (p a b : ℕ) → a < b → bump p a < bump p b
bump-less p a b h =
    by (ltb a p)
    (λ t.
    by (ltb b p)
    (λ v. omega (arith, bump-lt p a (ltb-true a p t), bump-lt p b (ltb-true b p v)))
    (λ v. omega (arith, bump-lt p a (ltb-true a p t), bump-ge p b (ltb-false b p v))))
    (λ t. let g : p ≤ a = ltb-false a p t in omega (arith, bump-ge p a g, bump-ge p b (omega arith)))

bump-key-less : (n p j k : ℕ) → n < tree_bound → second_end j < n → second_end k < n → j < k → bump_key p j < bump_key p k
bump-key-less n p j k few hj hk h =
    let bj = bump-in n p (second_end j) hj in
    by (ltb (first_end j) (first_end k))
    (λ t. omega (arith, bj, bump-less p (first_end j) (first_end k) (ltb-true _ _ t)))
    (λ t.
    let e : first_end j ≡ first_end k = omega (arith, ltb-false (first_end j) (first_end k) t) in
    let f : bump p (first_end j) ≡ bump p (first_end k) = ap (bump p) e in
    omega (arith, f, bump-less p (second_end j) (second_end k) (omega (arith, e))))

pub bumped-ranked : (n p e : ℕ) (ks : List ℕ) → n < tree_bound → e ≤ length ks → Within n ks → Ranked ks e
    → Ranked (turns (bump_at p) 0 e ks) e
bumped-ranked n p e ks few room w r = record {
  upward =
      λ i h.
      let k = get_or ks i 0 in
      let high : bump p (second_end k) < tree_bound = omega (arith, bump-in n p (second_end k) (w.ends i).1) in
      let up = bump-less p (first_end k) (second_end k) (r.upward i h) in
      subst (λ (j : ℕ). first_end j < second_end j) (sym (at i h))
      (omega (
        arith,
        up,
        first_of (bump p (first_end k)) (bump p (second_end k)) high,
        second-of (bump p (first_end k))
            (bump p (second_end k)) high,
      ));
  rising =
      λ i j h l.
      let o = bump-key-less n p (get_or ks i 0) (get_or ks j 0) few (w.ends i).1 (w.ends j).1 (r.rising i j h l) in
      omega (arith, o, at i (omega arith), at j l);
}
  where
    at : (i : ℕ) → i < e → get_or (turns (bump_at p) 0 e ks) i 0 ≡ bump_key p (get_or ks i 0)
    at i h = bumps_at p e 0 ks i (omega arith) (omega arith) (omega arith)

-- Edges laid

-- the same with equal keys allowed: what tables show by themselves
pub record Level (ks : List ℕ) (e : ℕ) : Type 0 where
  pub upward : (i : ℕ) → i < e → first_end (get_or ks i 0) < second_end (get_or ks i 0)
  pub level : (i j : ℕ) → i < j → j < e → get_or ks i 0 ≤ get_or ks j 0

pub ranked-level : {ks : List ℕ} {e : ℕ} → Ranked ks e → Level ks e
ranked-level r = record { upward = r.upward; level = λ i j h l. omega (arith, r.rising i j h l) }

-- q in the place of an entry, not below those before it nor above those after it
module _ (xs : List ℕ) (i n q : ℕ) (room : i < length xs) (up : first_end q < second_end q) (low : (j : ℕ) → j < i → get_or xs j 0 ≤ q)
    (high : (j : ℕ) → i < j → j < n → q ≤ get_or xs j 0) where
  put_up : ((j : ℕ) → j < n → (i ≡ j → ⊥) → first_end (get_or xs j 0) < second_end (get_or xs j 0))
      → (j : ℕ) → j < n → first_end (get_or (set xs i q) j 0) < second_end (get_or (set xs i q) j 0)
  put_up old j h =
      by (eqb i j)
      (λ t.
      let e : get_or (set xs i q) j 0 ≡ q = ap (λ (k : ℕ). get_or (set xs i q) k 0) (sym (eqb-true i j t)) ∙ here xs i q room in
      subst (λ (k : ℕ). first_end k < second_end k) (sym e) up)
      (λ t.
      let d : i ≡ j → ⊥ = eqb-false i j t in
      subst (λ (k : ℕ). first_end k < second_end k) (sym (other xs i j q d)) (old j h d))

  put-level : ((j k : ℕ) → j < k → k < n → (i ≡ j → ⊥) → (i ≡ k → ⊥) → get_or xs j 0 ≤ get_or xs k 0)
      → (j k : ℕ) → j < k → k < n → get_or (set xs i q) j 0 ≤ get_or (set xs i q) k 0
  put-level old j k h l =
      by (eqb i j)
      (λ t.
      let e : get_or (set xs i q) j 0 ≡ q = ap (λ (m : ℕ). get_or (set xs i q) m 0) (sym (eqb-true i j t)) ∙ here xs i q room in
      omega (arith, e, other xs i k q (λ f. let z : ⊥ = omega (arith, f, eqb-true i j t) in z), high k (omega (arith, eqb-true i j t)) l))
      (λ t.
      let d : i ≡ j → ⊥ = eqb-false i j t in
      by (eqb i k)
      (λ v.
      let e : get_or (set xs i q) k 0 ≡ q = ap (λ (m : ℕ). get_or (set xs i q) m 0) (sym (eqb-true i k v)) ∙ here xs i q room in
      omega (arith, e, other xs i j q d, low j (omega (arith, eqb-true i k v))))
      (λ v.
      let f : i ≡ k → ⊥ = eqb-false i k v in
      omega (arith, other xs i j q d, other xs i k q f, old j k h l d f)))

pub carry-level : (c i q : ℕ) (xs : List ℕ) → i + c < length xs → first_end q < second_end q → ((j : ℕ) → j < i → get_or xs j 0 ≤ q) →
    Level xs (i + c)
    → Level (carrying i c q xs) (suc (i + c))
unfolding carrying
carry-level zero i q xs room up low g = record {
  upward = put_up xs i (suc (i + 0)) q (omega arith) up low none (λ j h d. g.upward j (omega (arith, d)));
  level = put-level xs i (suc (i + 0)) q (omega arith) up low none (λ j k h l d f. g.level j k h (omega (arith, f)));
}
  where
    none : (j : ℕ) → i < j → j < suc (i + 0) → q ≤ get_or xs j 0
    none j h l = absurd (let z : ⊥ = omega arith in z)
carry-level (suc c) i q xs room up low g =
    let next : suc i + c ≡ i + suc c = omega arith in
    by (ltb q (get_or xs i 0))
    (λ t.
    rw (carrying, t) (subst (λ (m : ℕ). Level (carrying (suc i) c (get_or xs i 0) (set xs i q)) (suc m)) next
    (carry-level c (suc i) (get_or xs i 0) (set xs i q) (rw (length-set xs i q) (omega arith)) (g.upward i (omega arith))
    (swapped-low (ltb-true _ _ t))
    (swapped (ltb-true _ _ t)))))
    (λ t.
    rw (carrying, t) (subst (λ (m : ℕ). Level (carrying (suc i) c q xs) (suc m)) next
    (carry-level c (suc i) q xs (omega arith) up (stayed-low (ltb-false _ _ t)) (subst (Level xs) (sym next) g))))
  where
    above : q < get_or xs i 0 → (j : ℕ) → i < j → j < i + suc c → q ≤ get_or xs j 0
    above t j h l = omega (arith, t, g.level i j h l)

    swapped : q < get_or xs i 0 → Level (set xs i q) (suc i + c)
    swapped t = record {
      upward = λ j h. put_up xs i (i + suc c) q (omega arith) up low (above t) (λ k l d. g.upward k l) j (omega arith);
      level = λ j k h l. put-level xs i (i + suc c) q (omega arith) up low (above t) (λ x y v w d f. g.level x y v w) j k h (omega arith);
    }

    swapped-low : q < get_or xs i 0 → (j : ℕ) → j < suc i → get_or (set xs i q) j 0 ≤ get_or xs i 0
    swapped-low t j h =
        by (eqb i j)
        (λ v.
        let e : get_or (set xs i q) j 0 ≡ q = ap (λ (m : ℕ). get_or (set xs i q) m 0) (sym (eqb-true i j v)) ∙ here xs i q (omega arith) in
        omega (arith, e, t))
        (λ v. let d : i ≡ j → ⊥ = eqb-false i j v in omega (arith, other xs i j q d, g.level j i (omega (arith, d)) (omega arith)))

    stayed-low : get_or xs i 0 ≤ q → (j : ℕ) → j < suc i → get_or xs j 0 ≤ q
    stayed-low t j h =
        by (eqb i j)
        (λ v. let e : get_or xs i 0 ≡ get_or xs j 0 = ap (λ (m : ℕ). get_or xs m 0) (eqb-true i j v) in omega (arith, e, t))
        (λ v. let d : i ≡ j → ⊥ = eqb-false i j v in low j (omega (arith, d)))

lay-level : (p a : ℕ) (r : Row) → p < tree_bound → a < tree_bound → r.size < length r.keys → Level r.keys r.size
    → Level (lay p a r).keys (lay p a r).size
unfolding lay
lay-level p a r hp ha room g =
    by (ltb p a)
    (λ t. rw (lay, t) (put p a (ltb-true p a t) ha))
    (λ t. by (ltb a p) (λ s. rw (lay, t, s) (put a p (ltb-true a p s) hp)) (λ s. rw (lay, t, s) g))
  where
    put : (x y : ℕ) → x < y → y < tree_bound → Level (carrying 0 r.size (key x y) r.keys) (r.size + 1)
    put x y h l =
        let z : suc (0 + r.size) ≡ r.size + 1 = omega arith in
        let n : r.size ≡ 0 + r.size = omega arith in
        subst (Level (carrying 0 r.size (key x y) r.keys)) z
        (carry-level r.size 0 (key x y) r.keys (omega arith) (omega (arith, first_of x y l, second-of x y l))
        (λ j f. absurd (let z : ⊥ = omega arith in z)) (subst (Level r.keys) n g))

lays-level : (es : List (ℕ × ℕ)) (r : Row) → Ends tree_bound es → r.size + length es ≤ length r.keys → Level r.keys r.size
    → Level (lays es r).keys (lays es r).size
unfolding lays
lays-level [] r h room g = g
lays-level (e ∷ es) r h room g =
    lays-level es (lay e.0 e.1 r) h.1 (rw (length-lay e.0 e.1 r) (omega (arith, size-lay e.0 e.1 r)))
    (lay-level e.0 e.1 r h.0.0 h.0.1 (omega arith) g)

pub laid-level : (pts : List ℤ) (n : ℕ) (ks : List ℕ) (e p a b u : ℕ) (s : Place) → n < tree_bound → e + 2 < length ks → p ≤ n → a < n → b
    < n → u < n
    → Within n ks → Ranked ks e → Level (laid_at pts n ks e p a b u s).edges.keys (laid_at pts n ks e p a b u s).edges.size
unfolding laid_at
laid-level pts n ks e p a b u s few room hp ha hb hu w r =
    by (stands pts n p s)
    (λ t.
    rw (laid_at, t)
    (lays-level (star p a b u) (row ks e) (star-ends tree_bound p a b u (omega arith) (omega arith) (omega arith) (omega arith))
    (omega arith) (ranked-level r)))
    (λ t.
    rw (laid_at, t)
    (lays-level (star p (bump p a) (bump p b) (bump p u)) (row (turns (bump_at p) 0 e ks) e)
    (star-ends tree_bound p (bump p a) (bump p b) (bump p u) (omega arith) (omega (arith, bump-in n p a ha))
    (omega (arith, bump-in n p b hb)) (omega (arith, bump-in n p u hu)))
    (rw (length-bumps p e ks) (omega arith))
    (ranked-level (bumped-ranked n p e ks few (omega arith) w r))))

-- Each edge once

forest-once : {A : Type 0} (T : List (A × A)) → Forest T → Once T
forest-once [] f = tt
forest-once (e ∷ T) f = (λ m. f.0 (one_link (inl m)), forest-once T f.1)

once-listing : {A : Type 0} (f : ℕ → A) (n : ℕ) → Once (listing f n) → (i j : ℕ) → i < j → j < n → f i ≡ f j → ⊥
unfolding listing
once-listing f zero o i j h l e = let z : ⊥ = omega arith in z
once-listing f (suc n) o i j h l e =
    by (ltb j n) (λ t. once-listing f n o.1 i j h (ltb-true j n t) e)
    (λ t.
    let q : j ≡ n = omega (arith, ltb-false j n t) in
    o.0 (Memᴰ.cast (ap f (sym q) ∙ sym e) (in-listing f n i (omega arith))))

pub ranked-of : {net : Net} (t : Tree) → Sound net t → Level t.edges.keys t.edges.size
    → Ranked t.edges.keys t.edges.size
ranked-of t sound g =
    let edges = edges_of t.points t.edges.keys t.edges.size in
    let once : Once edges = forest-once edges (cuts-forest edges (tree-cuts same-place sound.whole)) in
    record {
      upward = g.upward;
      rising =
          λ i j h l.
          let d : get_or t.edges.keys i 0 ≡ get_or t.edges.keys j 0 → ⊥
          = λ e. once-listing (λ i. ends_of t.points (get_or t.edges.keys i 0)) t.edges.size once i j h l
          (ap (ends_of t.points) e) in
          omega (arith, g.level i j h l, d);
    }
