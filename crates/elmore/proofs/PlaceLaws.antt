-- The tables of a tree, whose points are in the order of places and whose edges are in the order of edges, hold the rooted tree of its
-- edges. The scan of the edges finds the neighbours of a point in order: two edges at one point are in the order of their other ends.
-- Assumes nothing.
use Rattle.std.proofs.Common.{◌≡◌, ℕ, zero, suc, ◌+◌, ◌<◌, ◌≤◌, Bool, true, false, not, eqb, ltb, List, [], ◌∷◌, map, get_or, ℤ, sym, refl, ap, ◌∙◌, ap₂, add-one, arith, ltb-false, ltb-true, le-ltb, lt-ltb, eq-eqb, ne_eqb, eqb-true}
use mathlib.Core.List.Memᴰ
use borrow.Author.Tests.{eqb-false}
use Rattle.lists.specs.Member.{◌∈◌, here, there}
use Rattle.lists.specs.Sorted.{put}
use Rattle.lists.specs.Those.{those}
use Rattle.lists.proofs.TestLaws.{by, differ, either}
use Rattle.lists.proofs.MapLaws.{of_map}
use Rattle.lists.proofs.ThoseLaws.{those-hit, those-miss, those-none, those-map, of-those}
use Rattle.plane.specs.declared.Place.{Place}
use Rattle.plane.specs.Place.{before, same_place}
use Rattle.plane.specs.Flat.{place_at}
use Rattle.plane.specs.Rank.{InOrder}
use Rattle.plane.proofs.PlaceLaws.{same_true, same_refl, before-irrefl}
use Rattle.tree.specs.Table.{tree_bound, first_end, second_end, Within}
use Rattle.tree.specs.Places.{Ranked}
use Rattle.tree.specs.Edges.{edges_from, table_edges}
use Rattle.elmore.specs.Rooted.{renamed, Every, sprout, neighbours, children, hanging}
use Rattle.elmore.specs.Table.{other_end, child_at, children_from, hung}
use Rattle.elmore.proofs.TableLaws.{other-first, other-second, other_none, child-parent, child-other}
use Rattle.elmore.proofs.CarriedLaws.{sprout-renamed, sprout-every}

-- Lists

put_first : {A : Type 0} (before : A → A → Bool) (a : A) (l : List A) → ((b : A) → b ∈ l → before a b ≡ true) → put before a l ≡ a ∷ l
unfolding put
put_first before a [] h = refl
put_first before a (b ∷ l) h = rw (put, h b (here refl)) refl

those-agree : {A : Type 0} (f g : A → Bool) (l : List A) → ((x : A) → x ∈ l → f x ≡ g x) → those f l ≡ those g l
those-agree f g [] h = those-none f ∙ sym (those-none g)
those-agree {A} f g (x ∷ l) h =
    by (g x)
    (λ e. those-hit f x l (h x (here refl) ∙ e) ∙ ap (λ (k : List A). x ∷ k) (those-agree f g l (λ y m. h y (there m)))
    ∙ sym (those-hit g x l e))
    (λ e. those-miss f x l (h x (here refl) ∙ e) ∙ those-agree f g l (λ y m. h y (there m)) ∙ sym (those-miss g x l e))

-- One edge

-- an edge at p leads from its first end to its second, or back
data Leads (k p : ℕ) : Type 0 where
  forth : first_end k ≡ p → other_end k p ≡ second_end k → Leads k p
  back : (first_end k ≡ p → ⊥) → second_end k ≡ p → other_end k p ≡ first_end k → Leads k p
  past : (first_end k ≡ p → ⊥) → (second_end k ≡ p → ⊥) → other_end k p ≡ tree_bound → Leads k p

leads : (k p : ℕ) → Leads k p
leads k p =
    by (eqb (first_end k) p) (λ t. let e = eqb-true (first_end k) p t in forth e (sym (other-first k p e))) λ t.
    by (eqb (second_end k) p)
    (λ u. let n = eqb-false (first_end k) p t in let e = eqb-true (second_end k) p u in back n e (sym (other-second k p n e)))
    (λ u. let n = eqb-false (first_end k) p t in let m = eqb-false (second_end k) p u in past n m (sym (other_none k p n m)))

-- the other end of an edge with both ends below n
other-within : {n : ℕ} (k p : ℕ) → (first_end k < n) × (second_end k < n) → other_end k p < tree_bound → other_end k p < n
other-within {n} k p h d = at (leads k p)
  where
    at : Leads k p → other_end k p < n
    at (forth e f) = omega (arith, h.1, f)
    at (back m e f) = omega (arith, h.0, f)
    at (past m e f) = absurd (let z : ⊥ = omega (arith, d, f) in z)

-- two edges at one point are in the order of their other ends
key-order : (k l p : ℕ) → k < l → first_end k < second_end k → first_end l < second_end l → other_end k p < tree_bound → other_end l p < tree_bound
    → other_end k p < other_end l p
key-order k l p h a b c d = at (leads k p) (leads l p)
  where
    at : Leads k p → Leads l p → other_end k p < other_end l p
    at (forth e f) (forth g i) = omega (arith, h, a, b, e, f, g, i)
    at (forth e f) (back n g i) = absurd (let z : ⊥ = omega (arith, h, a, b, e, f, g, i) in z)
    at (back n e f) (forth g i) = omega (arith, h, a, b, e, f, g, i)
    at (back n e f) (back m g i) = omega (arith, h, a, b, e, f, g, i)
    at (forth e f) (past n m i) = absurd (let z : ⊥ = omega (arith, d, i) in z)
    at (back n e f) (past m g i) = absurd (let z : ⊥ = omega (arith, d, i) in z)
    at (past n m f) (forth e g) = absurd (let z : ⊥ = omega (arith, c, f) in z)
    at (past n m f) (back e g i) = absurd (let z : ⊥ = omega (arith, c, f) in z)
    at (past n m f) (past e g i) = absurd (let z : ⊥ = omega (arith, c, f) in z)

-- The scan without regard to the parent

unfoldable neighbours_from : List ℕ → ℕ → ℕ → ℕ → List ℕ
neighbours_from ks p i zero = []
neighbours_from ks p i (suc n) =
    elim (ltb (other_end (get_or ks i 0) p) tree_bound) [
      | true ↦ other_end (get_or ks i 0) p ∷ neighbours_from ks p (i + 1) n
      | false ↦ neighbours_from ks p (i + 1) n
    ]

module _ (ks : List ℕ) (p i n : ℕ) where
  neighbours-hit : other_end (get_or ks i 0) p < tree_bound
      → neighbours_from ks p i (suc n) ≡ other_end (get_or ks i 0) p ∷ neighbours_from ks p (i + 1) n
  unfolding neighbours_from
  neighbours-hit h = rw (neighbours_from, lt-ltb _ _ h) refl

  neighbours-miss : tree_bound ≤ other_end (get_or ks i 0) p → neighbours_from ks p i (suc n) ≡ neighbours_from ks p (i + 1) n
  unfolding neighbours_from
  neighbours-miss h = rw (neighbours_from, le-ltb _ _ h) refl

-- the children are those but the parent
scan-hit : (ks : List ℕ) (up p i n : ℕ) → child_at (get_or ks i 0) up p < tree_bound
    → children_from ks up p i (suc n) ≡ child_at (get_or ks i 0) up p ∷ children_from ks up p (i + 1) n
unfolding children_from
scan-hit ks up p i n h = rw (children_from, lt-ltb _ _ h) refl

scan-miss : (ks : List ℕ) (up p i n : ℕ) → tree_bound ≤ child_at (get_or ks i 0) up p
    → children_from ks up p i (suc n) ≡ children_from ks up p (i + 1) n
unfolding children_from
scan-miss ks up p i n h = rw (children_from, le-ltb _ _ h) refl

abbrev not-up : ℕ → ℕ → Bool
not-up up c = not (eqb c up)

children-those : (ks : List ℕ) (up p n i : ℕ) → children_from ks up p i n ≡ those (not-up up) (neighbours_from ks p i n)
unfolding children_from neighbours_from
children-those ks up p zero i = sym (those-none (not-up up))
children-those ks up p (suc n) i =
    let o = other_end (get_or ks i 0) p in
    let k = child_at (get_or ks i 0) up p in
    let more = children-those ks up p n (i + 1) in
    by (ltb o tree_bound)
    (λ t.
    let into : those (not-up up) (neighbours_from ks p i (suc n)) ≡ those (not-up up) (o ∷ neighbours_from ks p (i + 1) n) =
    ap (those (not-up up)) (neighbours-hit ks p i n (ltb-true o tree_bound t)) in
    by (eqb o up)
    (λ u.
    let z : tree_bound ≡ k = child-parent (get_or ks i 0) up p o refl (eqb-true o up u) in
    scan-miss ks up p i n (omega (arith, z)) ∙ more
    ∙ sym (into ∙ those-miss (not-up up) o (neighbours_from ks p (i + 1) n) (ap not u)))
    (λ u.
    let z : o ≡ k = child-other (get_or ks i 0) up p o refl (eqb-false o up u) in
    scan-hit ks up p i n (omega (arith, z, ltb-true o tree_bound t))
    ∙ ap₂ (λ (x : ℕ) (l : List ℕ). x ∷ l) (sym z) more
    ∙ sym (into ∙ those-hit (not-up up) o (neighbours_from ks p (i + 1) n) (ap not u))))
    (λ t.
    let far : tree_bound ≤ k =
    by (eqb o up)
    (λ u. let z : tree_bound ≡ k = child-parent (get_or ks i 0) up p o refl (eqb-true o up u) in omega (arith, z))
    (λ u. let z : o ≡ k = child-other (get_or ks i 0) up p o refl (eqb-false o up u) in omega (arith, z, ltb-false o tree_bound t)) in
    scan-miss ks up p i n far ∙ more ∙ sym (ap (those (not-up up)) (neighbours-miss ks p i n (ltb-false o tree_bound t))))

-- The neighbours of a place, edge by edge

module _ (a b : Place) (es : List (Place × Place)) (p : Place) where
  from_first : same_place a p ≡ true → neighbours ((a, b) ∷ es) p ≡ put before b (neighbours es p)
  unfolding neighbours
  from_first s = rw (neighbours, s) refl

  from_second : same_place a p ≡ false → same_place b p ≡ true → neighbours ((a, b) ∷ es) p ≡ put before a (neighbours es p)
  unfolding neighbours
  from_second s u = rw (neighbours, s, u) refl

  from-neither : same_place a p ≡ false → same_place b p ≡ false → neighbours ((a, b) ∷ es) p ≡ neighbours es p
  unfolding neighbours
  from-neither s u = rw (neighbours, s, u) refl

-- Tables in order

module _ (pts : List ℤ) (ks : List ℕ) (N e : ℕ) (order : InOrder pts N) (within : Within N ks) (ranked : Ranked ks e)
    (few : N ≤ tree_bound) where
  abbrev at : ℕ → Place
  at i = place_at pts i

  -- two points at one place are one
  pub same_number : (a b : ℕ) → a < N → b < N → same_place (at a) (at b) ≡ eqb a b
  same_number a b h k =
      by (eqb a b)
      (λ t. let z : a ≡ b = eqb-true a b t in rw (t, z) (same_refl (at b)))
      (λ t. rw t (by (same_place (at a) (at b)) (λ s. absurd (apart (same_true (at a) (at b) s) (eqb-false a b t))) (λ s. s)))
    where
      apart : at a ≡ at b → (a ≡ b → ⊥) → ⊥
      apart s n =
          by (ltb a b)
          (λ t. differ (order a b (ltb-true a b t) k) (ap (before (at a)) (sym s) ∙ before-irrefl (at a)))
          (λ t.
          let l : b < a = omega (arith, ltb-false a b t, n) in
          differ (order b a l h) (ap (before (at b)) s ∙ before-irrefl (at b)))

  -- the neighbours of p by later edges come later
  later-neighbours : (p i : ℕ) → other_end (get_or ks i 0) p < tree_bound → (n j : ℕ) → i < j → j + n ≤ e
      → (c : ℕ) → c ∈ neighbours_from ks p j n → (other_end (get_or ks i 0) p < c) × (c < N)
  unfolding neighbours_from
  later-neighbours p i o zero j h b c m = elim m [ ]
  later-neighbours p i o (suc n) j h b c m =
      let q = other_end (get_or ks j 0) p in
      by (ltb q tree_bound)
      (λ t.
      let d = ltb-true q tree_bound t in
      let r = key-order (get_or ks i 0) (get_or ks j 0) p (ranked.rising i j h (omega arith)) (ranked.upward i (omega arith))
      (ranked.upward j (omega arith)) o d in
      let s = other-within (get_or ks j 0) p (within.ends j) d in
      either (λ k. (omega (arith, r, k), omega (arith, s, k))) (later-neighbours p i o n (j + 1) (omega arith) (omega arith) c)
      (Memᴰ.cases_cons (rw (neighbours-hit ks p j n d) at m)))
      (λ t. later-neighbours p i o n (j + 1) (omega arith) (omega arith) c (rw (neighbours-miss ks p j n (ltb-false q tree_bound t)) at m))

  neighbours-small : (p n j : ℕ) (c : ℕ) → c ∈ neighbours_from ks p j n → c < N
  unfolding neighbours_from
  neighbours-small p zero j c m = elim m [ ]
  neighbours-small p (suc n) j c m =
      let q = other_end (get_or ks j 0) p in
      by (ltb q tree_bound)
      (λ t.
      let d = ltb-true q tree_bound t in
      let s = other-within (get_or ks j 0) p (within.ends j) d in
      either (λ k. omega (arith, s, k)) (neighbours-small p n (j + 1) c) (Memᴰ.cases_cons (rw (neighbours-hit ks p j n d) at m)))
      (λ t. neighbours-small p n (j + 1) c (rw (neighbours-miss ks p j n (ltb-false q tree_bound t)) at m))

  -- one edge more in front of those whose neighbours the scan has found
  neighbours-step : (p : ℕ) → p < N → (n i : ℕ) → i + suc n ≤ e
      → neighbours (edges_from pts ks (i + 1) n) (at p) ≡ map at (neighbours_from ks p (i + 1) n)
      → neighbours ((at (first_end (get_or ks i 0)), at (second_end (get_or ks i 0))) ∷ edges_from pts ks (i + 1) n) (at p)
      ≡ map at (neighbours_from ks p i (suc n))
  neighbours-step p h n i b ih = step (leads k p)
    where
      k : ℕ
      k = get_or ks i 0

      o : ℕ
      o = other_end k p

      es : List (Place × Place)
      es = edges_from pts ks (i + 1) n

      left : List ℕ
      left = neighbours_from ks p (i + 1) n

      in-front : o < tree_bound → (y : Place) → y ∈ map at left → before (at o) y ≡ true
      in-front d y m =
          let r = of_map at left m in
          let q = later-neighbours p i d n (i + 1) (omega arith) (omega arith) r.entry r.stands in
          ap (before (at o)) r.is ∙ order o r.entry q.0 q.1

      more : o < tree_bound → (x : Place) → x ≡ at o → put before x (neighbours es (at p)) ≡ map at (neighbours_from ks p i (suc n))
      more d x f =
          ap₂ (put before) f ih ∙ put_first before (at o) (map at left) (in-front d) ∙ sym (ap (map at) (neighbours-hit ks p i n d))

      step : Leads k p → neighbours ((at (first_end k), at (second_end k)) ∷ es) (at p) ≡ map at (neighbours_from ks p i (suc n))
      step (forth e f) =
          from_first (at (first_end k)) (at (second_end k)) es (at p)
          (same_number (first_end k) p (within.ends i).0 h ∙ eq-eqb (first_end k) p e)
          ∙ more (omega (arith, f, (within.ends i).1, few)) (at (second_end k)) (ap at (sym f))
      step (back n e f) =
          from_second (at (first_end k)) (at (second_end k)) es (at p)
          (same_number (first_end k) p (within.ends i).0 h ∙ ne_eqb (first_end k) p n)
          (same_number (second_end k) p (within.ends i).1 h ∙ eq-eqb (second_end k) p e)
          ∙ more (omega (arith, f, (within.ends i).0, few)) (at (first_end k)) (ap at (sym f))
      step (past n m f) =
          from-neither (at (first_end k)) (at (second_end k)) es (at p)
          (same_number (first_end k) p (within.ends i).0 h ∙ ne_eqb (first_end k) p n)
          (same_number (second_end k) p (within.ends i).1 h ∙ ne_eqb (second_end k) p m)
          ∙ ih ∙ sym (ap (map at) (neighbours-miss ks p i _ (omega (arith, f))))

  -- the scan finds the neighbours in order
  neighbours-places : (p : ℕ) → p < N → (n i : ℕ) → i + n ≤ e
      → neighbours (edges_from pts ks i n) (at p) ≡ map at (neighbours_from ks p i n)
  unfolding edges_from neighbours neighbours_from
  neighbours-places p h zero i b = refl
  neighbours-places p h (suc n) i b =
      let front : Place × Place = (at (first_end (get_or ks i 0)), at (second_end (get_or ks i 0))) in
      ap (λ (j : ℕ). neighbours (front ∷ edges_from pts ks j n) (at p)) (sym (add-one i))
      ∙ neighbours-step p h n i b (neighbours-places p h n (i + 1) (omega arith))

  children-small : (up p c : ℕ) → c ∈ children_from ks up p 0 e → c < N
  children-small up p c m =
      neighbours-small p e 0 c (of-those (not-up up) (neighbours_from ks p 0 e) (rw (children-those ks up p e 0) at m)).0

  -- so it finds the children in order
  pub children-places : (up p : ℕ) → up < N → p < N → children (table_edges pts ks e) (at up) (at p) ≡ map at (children_from ks up p 0 e)
  unfolding children
  children-places up p u h =
      let g : Place → Bool = λ q. not (same_place q (at up)) in
      ap (those g) (neighbours-places p h e 0 (omega arith))
      ∙ those-map at g (neighbours_from ks p 0 e)
      ∙ ap (map at)
      (those-agree (λ x. g (at x)) (not-up up) (neighbours_from ks p 0 e)
      (λ x m. ap not (same_number x up (neighbours-small p e 0 x m) u))
      ∙ sym (children-those ks up p e 0))

  -- the rooted tree by numbers is that by places, and its points are points of the tree
  pub hung-places : (n up p : ℕ) → up < N → p < N → renamed at (hung ks e n up p) ≡ hanging (table_edges pts ks e) n (at up) (at p)
  unfolding hung hanging renamed
  hung-places zero up p u h = refl
  hung-places (suc n) up p u h =
      sprout-renamed at (hung ks e n p) (hanging (table_edges pts ks e) n (at p)) (children_from ks up p 0 e)
      (λ c m. hung-places n p c h (children-small up p c m))
      ∙ ap (sprout (hanging (table_edges pts ks e) n (at p))) (sym (children-places up p u h))

  pub hung-small : (n up p : ℕ) → Every (λ c. c < N) (hung ks e n up p)
  unfolding hung
  hung-small zero up p = tt
  hung-small (suc n) up p =
      sprout-every (λ c. c < N) (hung ks e n p) (children_from ks up p 0 e) (λ c m. (children-small up p c m, hung-small n p c))
