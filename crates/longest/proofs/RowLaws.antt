-- Rows of an edge: known at its ends and at all that they hang on, and from there on filled in from what a point hangs on.
-- Assumes nothing.
use mathlib.Core.Path.{◌≡◌, sym, ap, ap₂, ◌∙◌, subst}
use mathlib.Core.List.{List, [], ◌∷◌}
use Prim.Native.Nat.{ℕ, zero, suc, ◌-◌, ◌≤◌, ◌<◌}
use native.Mathlib.Omega.{arith}
use lib.Dec.{ltb, eqb}
use lib.ListN.{length, get_or, set, length-set, replicate}
use borrow.Author.Tests.{ltb-true, ltb-false, eqb-true, eqb-false}
use Rattle.lists.proofs.TestLaws.{by}
use Rattle.tree.specs.Table.{tree_bound, key}
use Rattle.tree.proofs.SumLaws.{other, here as put-here}
use Rattle.longest.specs.Longest.{longer, shorter, no_edge, cut_of}
use Rattle.longest.specs.Hung.{Ties, onto_of, link_of, turn_of, top_of, Tied, Told, Known, Begun, Fresh, Row, Climbed}
use Rattle.longest.proofs.HungLaws.{same-entry}
use Rattle.longest.proofs.WinsLaws.{longer-swap, longer-turn, shorter-longer, longer-shorter, shorter-both}
use Rattle.longest.proofs.WinsLaws.{longer-none, none-longer, shorter-none, none-shorter}

-- One entry written

known-set : (row : List ℕ) (i x v : ℕ) → x < tree_bound → Known row v → Known (set row i x) v
known-set [] i x v h k = k
known-set (y ∷ ys) zero x zero h k = h
known-set (y ∷ ys) zero x (suc v) h k = k
known-set (y ∷ ys) (suc i) x zero h k = k
known-set (y ∷ ys) (suc i) x (suc v) h k = known-set ys i x v h k

pub known-here : (row : List ℕ) (i x : ℕ) → i < length row → x < tree_bound → Known (set row i x) i
known-here row i x l h = omega (arith, h, put-here row i x l)

-- known elsewhere, or not, as before
was-known : (row : List ℕ) (i x v : ℕ) → (i ≡ v → ⊥) → Known (set row i x) v → Known row v
was-known row i x v d k = subst (λ (z : ℕ). z < tree_bound) (other row i v x d) k

was-not : (row : List ℕ) (i x v : ℕ) → x < tree_bound → i < length row → tree_bound ≤ get_or (set row i x) v 0 →
    (i ≡ v → ⊥) × (tree_bound ≤ get_or row v 0)
was-not row i x v h l k =
    by (eqb i v)
    (λ q. absurd (let z : ⊥ = omega (arith, k, h, ap (λ (j : ℕ). get_or (set row i x) j 0) (eqb-true i v q), put-here row i x l) in z))
    (λ q. let d = eqb-false i v q in (d, omega (arith, k, other row i v x d)))

-- a row in which nothing is known
pub fresh_start : (s : Ties) → Tied s → Fresh s (replicate tree_bound tree_bound)
fresh_start s tied v g = omega (arith, same-entry tree_bound tree_bound v (tied.low v g))

-- not known, so not the first
pub later : (s : Ties) (row : List ℕ) (v : ℕ) → Begun s row → 0 < turn_of s v → tree_bound ≤ get_or row v 0 → 1 < turn_of s v
later s row v b g k =
    by (ltb 1 (turn_of s v)) (λ q. ltb-true _ _ q)
    (λ q. absurd (let z : ⊥ = omega (arith, b.first v (omega (arith, g, ltb-false 1 (turn_of s v) q)), k) in z))

-- Climbing from x: known up to v, with the longest edge l on the way

pub record Chain (el : List ℕ) (s : Ties) (t : List ℕ) (x v l : ℕ) (row : List ℕ) : Type 0 where
  pub far : (w : ℕ) → 0 < turn_of s w → turn_of s w ≤ turn_of s v → top_of t x w ≡ longer el l (top_of t v w)
  pub right : (w : ℕ) → 0 < turn_of s w → Known row w → (get_or row w 0 ≡ top_of t x w) × (turn_of s w ≤ turn_of s x)
  pub closed : (w : ℕ) → 1 < turn_of s w → Known row w → (w ≡ v → ⊥) → Known row (onto_of s w)
  pub here : Known row x
  pub below : turn_of s v ≤ turn_of s x

module _ (el : List ℕ) (s : Ties) (tied : Tied s) where
  -- Filling in

  module _ (f : ℕ → ℕ) (before : List ℕ) (v y l : ℕ) (g : 0 < turn_of s v) (un : tree_bound ≤ get_or before v 0)
      (q : l ≡ longer el y (link_of s v)) (b : Row el s f before) (e : y ≡ f (onto_of s v)) where
    pub fill_is : l ≡ f v
    fill_is = q ∙ ap (λ (z : ℕ). longer el z (link_of s v)) e ∙ sym (b.grows v g un)

  module _ (t : List ℕ) (told : Told el s t) where
    pub chain-start : (x : ℕ) (row : List ℕ) → 0 < turn_of s x → length row ≡ tree_bound → Fresh s row →
        Chain el s t x x no_edge (set row x no_edge)
    chain-start x row g room fresh =
        let i : x < length row = rw room (tied.low x g) in
        let known = put-here row x no_edge i in
        record {
          far = λ w a b. sym (none-longer el told.none (top_of t x w) (told.small.small (key x w)));
          right = λ w a k.
              by (eqb x w)
              (λ q.
              let z = eqb-true x w q in (
                ap (λ (j : ℕ). get_or (set row x no_edge) j 0) (sym z) ∙ known ∙ sym (told.woven.self x g) ∙ ap (top_of t x) z,
                omega (arith, ap (turn_of s) z),
              ))
              (λ q. absurd (let z : ⊥ = omega (arith, was-known row x no_edge w (eqb-false x w q) k, fresh w a) in z));
          closed = λ w a k d.
              absurd (let z : ⊥ = omega (arith, was-known row x no_edge w (λ q. d (sym q)) k, fresh w (omega (arith, a))) in z);
          here = omega (arith, known);
          below = omega arith;
        }

    step : (x v l : ℕ) (row : List ℕ) (l' : ℕ) → 1 < turn_of s v → length row ≡ tree_bound → l' ≡ longer el l (link_of s v) →
        l' < tree_bound → Chain el s t x v l row → Chain el s t x (onto_of s v) l' (set row (onto_of s v) l')
    step x v l row l' g room q small c =
        let u = onto_of s v in
        let up = tied.up v g in
        let i : u < length row = rw room (tied.low u up.0) in
        let known = put-here row u l' i in
        let far : (w : ℕ) → 0 < turn_of s w → turn_of s w ≤ turn_of s u → top_of t x w ≡ longer el l' (top_of t u w) = λ w a b.
        c.far w a (omega (arith, b, up.1)) ∙ ap (longer el l) (told.woven.step v w a (omega (arith, b, up.1)))
        ∙ longer-turn el l (top_of t u w) (link_of s v) ∙ ap (λ (z : ℕ). longer el z (top_of t u w)) (sym q) in
        record {
          far = far;
          right = λ w a k.
              by (eqb u w)
              (λ e.
              let z = eqb-true u w e in (
                ap (λ (j : ℕ). get_or (set row u l') j 0) (sym z) ∙ known ∙ sym (longer-none el told.none l' small)
                    ∙ ap (longer el l') (sym (told.woven.self u up.0)) ∙ sym (far u up.0 (omega arith)) ∙ ap (top_of t x) z,
                omega (arith, ap (turn_of s) z, up.1, c.below),
              ))
              (λ e.
              let d = eqb-false u w e in
              let r = c.right w a (was-known row u l' w d k) in
              (other row u w l' d ∙ r.0, r.1));
          closed = λ w a k d.
              by (eqb w v)
              (λ e. subst (λ (z : ℕ). Known (set row u l') (onto_of s z)) (sym (eqb-true w v e)) (omega (arith, known, small)))
              (λ e.
              known-set row u l' (onto_of s w) small
              (c.closed w a (was-known row u l' w (λ z. d (sym z)) k) (eqb-false w v e)));
          here = known-set row u l' x small c.here;
          below = omega (arith, up.1, c.below);
        }

    pub chain-step : (x v l : ℕ) (row : List ℕ) (l' y : ℕ) → 1 < turn_of s v → length row ≡ tree_bound → l' ≡ longer el l (link_of s v) →
        l' < tree_bound → y ≡ l' → Chain el s t x v l row → Chain el s t x (onto_of s v) l' (set row (onto_of s v) y)
    chain-step x v l row l' y g room q small p c =
        subst (λ (z : ℕ). Chain el s t x (onto_of s v) l' (set row (onto_of s v) z)) (sym p) (step x v l row l' g room q small c)

    pub chain-end : (x v l : ℕ) (row : List ℕ) → turn_of s v ≤ 1 → Chain el s t x v l row → Climbed s t x row
    chain-end x v l row h c = record {
      right = c.right;
      closed = λ w a k. c.closed w a k (λ q. let z : ⊥ = omega (arith, a, h, ap (turn_of s) q) in z);
      here = c.here;
    }

  -- A point that is not known hangs outside the ways of those that are

  module _ (t : List ℕ) (told : Told el s t) (row : List ℕ)
      (closed : (v : ℕ) → 1 < turn_of s v → Known row v → Known row (onto_of s v)) (v : ℕ) (g : 1 < turn_of s v)
      (un : tree_bound ≤ get_or row v 0) where
    abbrev u : ℕ
    u = onto_of s v

    abbrev Grown : ℕ → Type 0
    Grown x = top_of t x v ≡ longer el (top_of t x u) (link_of s v)

    grown : (m x : ℕ) → turn_of s x ≤ m → 0 < turn_of s x → Known row x → Grown x
    grown zero x h a k = absurd (let z : ⊥ = omega (arith, h, a) in z)
    grown (suc m) x h a k =
        let up = tied.up v g in
        by (ltb (turn_of s x) (turn_of s v))
        (λ q.
        told.woven.even x v a (omega (arith, g)) ∙ told.woven.step v x a (ltb-true _ _ q)
        ∙ ap (λ (z : ℕ). longer el z (link_of s v)) (told.woven.even u x up.0 a))
        (λ q.
        let ge : turn_of s v ≤ turn_of s x = ltb-false _ _ q in
        by (ltb (turn_of s v) (turn_of s x))
        (λ p.
        let lt : turn_of s v < turn_of s x = ltb-true _ _ p in
        let xs = tied.up x (omega (arith, g, lt)) in
        let y = onto_of s x in
        let i : Grown y = grown m y (omega (arith, h, xs.1)) xs.0 (closed x (omega (arith, g, lt)) k) in
        told.woven.step x v (omega (arith, g)) lt
        ∙ ap (λ (z : ℕ). longer el z (link_of s x)) i
        ∙ longer-swap el (top_of t y u) (link_of s v) (link_of s x)
        ∙ ap (λ (z : ℕ). longer el z (link_of s v)) (sym (told.woven.step x u up.0 (omega (arith, lt, up.1)))))
        (λ p.
        let e : x ≡ v = tied.alone x v a (omega (arith, ge, ltb-false (turn_of s v) (turn_of s x) p)) in
        absurd (let z : ⊥ = omega (arith, k, un, ap (λ (j : ℕ). get_or row j 0) e) in z)))

    pub grown-at : (x : ℕ) → 0 < turn_of s x → Known row x → Grown x
    grown-at x a k = grown (turn_of s x) x (omega arith) a k

  -- The row of a point

  pub row-point : (t : List ℕ) → Told el s t → (x : ℕ) (row : List ℕ) → 0 < turn_of s x → Begun s row → Climbed s t x row →
      Row el s (top_of t x) row
  row-point t told x row g begun climbed = record {
    right = λ v h k. (climbed.right v h k).0;
    grows = λ v h k. grown-at t told row climbed.closed v (later s row v begun h k) k x g climbed.here;
  }

  -- The row of an edge: c hangs on p

  module _ (t : List ℕ) (told : Told el s t) (p c : ℕ) (row : List ℕ) (climbed : Climbed s t p row) (begun : Begun s row)
      (hp : 0 < turn_of s p) (on : onto_of s c ≡ p) (lt : turn_of s p < turn_of s c) where
    abbrev after : List ℕ
    after = set row c no_edge

    in_row : c < length row
    in_row = rw begun.room (tied.low c (omega (arith, lt)))

    at_c : get_or after c 0 ≡ no_edge
    at_c = put-here row c no_edge in_row

    known-after : (v : ℕ) → Known row v → Known after v
    known-after v k = known-set row c no_edge v (omega arith) k

    after-closed : (v : ℕ) → 1 < turn_of s v → Known after v → Known after (onto_of s v)
    after-closed v g k =
        by (eqb c v)
        (λ q. subst (λ (z : ℕ). Known after (onto_of s z)) (eqb-true c v q) (subst (Known after) (sym on) (known-after p climbed.here)))
        (λ q. known-after (onto_of s v) (climbed.closed v g (was-known row c no_edge v (eqb-false c v q) k)))

    -- at a point that p hangs on
    above : (v : ℕ) → 0 < turn_of s v → turn_of s v ≤ turn_of s p → top_of t c v ≡ longer el (top_of t p v) (link_of s c)
    above v g h =
        told.woven.step c v g (omega (arith, h, lt)) ∙ ap (λ (z : ℕ). longer el (top_of t z v) (link_of s c)) on

    -- the entry at a point where it is known, for f that is none at c and p's elsewhere
    entry : (f : ℕ → ℕ) → f c ≡ no_edge → ((v : ℕ) → 0 < turn_of s v → turn_of s v ≤ turn_of s p → f v ≡ top_of t p v) →
        (v : ℕ) → 0 < turn_of s v → Known after v → get_or after v 0 ≡ f v
    entry f fc fv v g k =
        by (eqb c v)
        (λ q.
        let z = eqb-true c v q in
        ap (λ (j : ℕ). get_or after j 0) (sym z) ∙ at_c ∙ sym fc ∙ ap f z)
        (λ q.
        let d = eqb-false c v q in
        let r = climbed.right v g (was-known row c no_edge v d k) in
        other row c v no_edge d ∙ r.0 ∙ sym (fv v g r.1))

    small_at : (v w : ℕ) → top_of t v w < tree_bound
    small_at v w = told.small.small (key v w)

    unknown : (v x : ℕ) → 0 < turn_of s v → tree_bound ≤ get_or after v 0 → 0 < turn_of s x → Known after x →
        top_of t x v ≡ longer el (top_of t x (onto_of s v)) (link_of s v)
    unknown v x g k a b =
        grown-at t told after after-closed v (later s row v begun g (was-not row c no_edge v (omega arith) in_row k).1) k x a b

    known-c : Known after c
    known-c = omega (arith, at_c)

    known-p : Known after p
    known-p = known-after p climbed.here

    pub row-after : Row el s (cut_of el t p c) after
    unfolding cut_of
    row-after = record {
      right = entry (cut_of el t p c)
          (ap (shorter el (top_of t p c)) (told.woven.self c (omega (arith, lt))) ∙ shorter-none el told.none _ (small_at p c))
          (λ v g h. ap (shorter el (top_of t p v)) (above v g h) ∙ shorter-longer el (top_of t p v) (link_of s c));
      grows = λ v g k.
          ap₂ (shorter el) (unknown v p g k hp known-p) (unknown v c g k (omega (arith, lt)) known-c)
          ∙ shorter-both el (top_of t p (onto_of s v)) (top_of t c (onto_of s v)) (link_of s v);
    }

    pub row_before : Row el s (cut_of el t c p) after
    unfolding cut_of
    row_before = record {
      right = entry (cut_of el t c p)
          (ap (λ (z : ℕ). shorter el z (top_of t p c)) (told.woven.self c (omega (arith, lt)))
          ∙ none-shorter el told.none _ (small_at p c))
          (λ v g h. ap (λ (z : ℕ). shorter el z (top_of t p v)) (above v g h) ∙ longer-shorter el (top_of t p v) (link_of s c));
      grows = λ v g k.
          ap₂ (shorter el) (unknown v c g k (omega (arith, lt)) known-c) (unknown v p g k hp known-p)
          ∙ shorter-both el (top_of t c (onto_of s v)) (top_of t p (onto_of s v)) (link_of s v);
    }
