-- Offers, passes and the rounds of passes: one more edge, one more pass, the end. A loop's position is what is left to do from the present
-- labels. Offers never raise a distance, so one bound is kept.
-- Assumes nothing.
use mathlib.Core.Path.{◌≡◌, refl, sym, ap, ◌∙◌}
use mathlib.Core.Bool.{Bool, true, false, ◌||◌}
use mathlib.Core.List.{List, [], ◌∷◌}
use Prim.Native.Nat.{ℕ, zero, suc, ◌+◌, ◌-◌, ◌≤◌, ◌<◌}
use native.Mathlib.Omega.{arith}
use lib.Dec.{ltb}
use lib.ListN.{get_or, set}
use borrow.Author.Tests.{ltb-true, ltb-false}
use Rattle.lists.proofs.TestLaws.{by, differ, or-none}
use Rattle.forest.specs.Bounds.{point_bound, unreached}
use Rattle.forest.specs.Edges.{Graph, one, two, len, entries, FirstBelow, Below}
use Rattle.forest.specs.Labels.{Labels, labels, far, root, better, gains, offer, relax_edge, moves, relax, changes, settled}
use Rattle.forest.specs.Labels.{starts, unlabelled, Low}
use Rattle.forest.proofs.EdgeLaws.{entries_next, entries-end, below_set, below-replicate}

-- Offers

pub offer-yes : (u v d : ℕ) (t : Labels) → gains u v d t ≡ true →
    offer u v d t ≡ labels (set t.fars v (far t u + d)) (set t.roots v (root t u))
unfolding offer
offer-yes u v d t e = rw (offer, e) refl

pub offer-no : (u v d : ℕ) (t : Labels) → gains u v d t ≡ false → offer u v d t ≡ t
unfolding offer
offer-no u v d t e = rw (offer, e) refl

better-le : (f r g s : ℕ) → better f r g s ≡ true → f ≤ g
unfolding better
better-le f r g s e =
    by (ltb f g) (λ h. omega (arith, ltb-true f g h))
    (λ h. by (ltb g f) (λ i. differ refl (sym (rw (better, h, i) at e))) (λ i. omega (arith, ltb-false g f i)))

-- an edge's two offers
pub both_ways : (a b d : ℕ) (t t' t'' : Labels) (p q : Bool) → (p ≡ gains a b d t) × (t' ≡ offer a b d t) →
    (q ≡ gains b a d t') × (t'' ≡ offer b a d t') →
    ((p || q) ≡ (gains a b d t || gains b a d (offer a b d t))) × (t'' ≡ offer b a d (offer a b d t))
both_ways a b d t t' t'' p q h i = (rw (h.0, i.0, h.1) refl, i.1 ∙ ap (offer b a d) h.1)

-- Bounds of labels

-- distances that can be added to, and roots that are vertices
pub record Fine (t : Labels) : Type 0 where
  pub low : Low t.fars
  pub rooted : Below point_bound t.roots

low_of : {xs : List ℕ} → Below (suc unreached) xs → Low xs
low_of s = record { low = λ k. (let h = s.below k in omega arith) }

of_low : {xs : List ℕ} → Low xs → Below (suc unreached) xs
of_low s = record { below = λ k. (let h = s.low k in omega arith) }

low-set : (xs : List ℕ) (v x : ℕ) → x ≤ unreached → Low xs → Low (set xs v x)
low-set xs v x h l = low_of (below_set (suc unreached) xs v x (omega arith) (of_low l))

pub low-offer : (u v d : ℕ) (t : Labels) → Low t.fars → Low (offer u v d t).fars
unfolding gains
low-offer u v d t l =
    by (gains u v d t)
    (λ e. rw (offer-yes u v d t e) (low-set t.fars v _ (let h = better-le _ _ _ _ e in let i = l.low v in omega arith) l))
    (λ e. rw (offer-no u v d t e) l)

pub low-offered : (u v d : ℕ) (t t' : Labels) → t' ≡ offer u v d t → Low t.fars → Low t'.fars
low-offered u v d t t' e l = rw e (low-offer u v d t l)

root-offer : (u v d : ℕ) (t : Labels) → Below point_bound t.roots → Below point_bound (offer u v d t).roots
root-offer u v d t s =
    by (gains u v d t)
    (λ e. rw (offer-yes u v d t e) (below_set point_bound t.roots v (root t u) (s.below u) s))
    (λ e. rw (offer-no u v d t e) s)

low-edge : (g : Graph) (k : ℕ) (t : Labels) → Low t.fars → Low (relax_edge g k t).fars
unfolding relax_edge
low-edge g k t l = low-offer _ _ _ _ (low-offer _ _ _ _ l)

low-relax : (g : Graph) (ks : List ℕ) (t : Labels) → Low t.fars → Low (relax g ks t).fars
unfolding relax
low-relax g [] t l = l
low-relax g (k ∷ ks) t l = low-relax g ks (relax_edge g k t) (low-edge g k t l)

root-relax : (g : Graph) (ks : List ℕ) (t : Labels) → Below point_bound t.roots → Below point_bound (relax g ks t).roots
unfolding relax relax_edge
root-relax g [] t s = s
root-relax g (k ∷ ks) t s = root-relax g ks _ (root-offer _ _ _ _ (root-offer _ _ _ t s))

fine-rounds : (n : ℕ) (g : Graph) (ks : List ℕ) (t : Labels) → Fine t → Fine (settled n g ks t)
unfolding settled
fine-rounds zero g ks t f = f
fine-rounds (suc n) g ks t f =
    by (changes g ks t)
    (λ c.
    rw (settled, c)
    (fine-rounds n g ks (relax g ks t) (record { low = low-relax g ks t f.low; rooted = root-relax g ks t f.rooted })))
    (λ c. rw (settled, c) f)

pub fine-settled : (n : ℕ) (g : Graph) (ks : List ℕ) (t t' : Labels) → t' ≡ settled n g ks t → Fine t → Fine t'
fine-settled n g ks t t' e f = rw e (fine-rounds n g ks t f)

pub fine-unlabelled : Fine unlabelled
fine-unlabelled = record {
  low = low_of (below-replicate _ point_bound _ (omega arith));
  rooted = below-replicate _ point_bound _ (omega arith);
}

fine_sources : (sources : List ℕ) (i n m : ℕ) (t : Labels) → i + n ≤ m → FirstBelow sources m point_bound → Fine t →
    Fine (starts (entries sources i n) t)
unfolding starts entries
fine_sources sources i zero m t h s f = f
fine_sources sources i (suc n) m t h s f =
    fine_sources sources (suc i) n m _ (omega arith) s (record {
      low = low-set t.fars (get_or sources i 0) 0 (omega arith) f.low;
      rooted = below_set _ t.roots _ _ (s.inside i (omega arith)) f.rooted;
    })

pub fine-starts : (sources : List ℕ) (m : ℕ) (t t' : Labels) → t' ≡ starts (entries sources 0 m) t → FirstBelow sources m point_bound →
    Fine t → Fine t'
fine-starts sources m t t' e s f = rw e (fine_sources sources 0 m m t (omega arith) s f)

-- A pass over edges

-- the edges `left` are still to come, of `all` from the labels `start`
pub record Passing (g : Graph) (all : List ℕ) (start : Labels) (left : List ℕ) (t : Labels) (moved : Bool) : Type 0 where
  pub low : Low t.fars
  pub table : relax g left t ≡ relax g all start
  pub flag : (moved || changes g left t) ≡ changes g all start

or_assoc : (a b c : Bool) → ((a || b) || c) ≡ (a || (b || c))
or_assoc true b c = refl
or_assoc false b c = refl

or-false : (a : Bool) → (a || false) ≡ a
or-false true = refl
or-false false = refl

module _ (g : Graph) where
  pub pass-none : (ks : List ℕ) (t : Labels) → Low t.fars → Passing g ks t ks t false
  pass-none ks t l = record { low = l; table = refl; flag = refl }

  module _ (all : List ℕ) (start : Labels) (left : List ℕ) (t : Labels) (moved : Bool) (p : Passing g all start left t moved) where
    pub pass-more : (k : ℕ) (ks : List ℕ) (t' : Labels) (m : Bool) → left ≡ k ∷ ks → (m ≡ moves g k t) × (t' ≡ relax_edge g k t) →
        Passing g all start ks t' (moved || m)
    unfolding relax changes
    pass-more k ks t' m q r =
        rw (r.0, r.1) (record {
          low = low-edge g k t p.low;
          table = ap (λ (l : List ℕ). relax g l t) (sym q) ∙ p.table;
          flag = or_assoc moved (moves g k t) (changes g ks (relax_edge g k t)) ∙ ap (λ (l : List ℕ). moved || changes g l t) (sym q)
              ∙ p.flag;
        })

    pub pass-end : left ≡ [] → (moved ≡ changes g all start) × (t ≡ relax g all start)
    unfolding relax changes
    pass-end q = (
      sym (or-false moved) ∙ ap (λ (l : List ℕ). moved || changes g l t) (sym q) ∙ p.flag,
      ap (λ (l : List ℕ). relax g l t) (sym q) ∙ p.table,
    )

  -- a pass that changes nothing
  still-edge : (k : ℕ) (t : Labels) → moves g k t ≡ false → relax_edge g k t ≡ t
  unfolding moves relax_edge
  still-edge k t h =
      let n = or-none (gains (one g k) (two g k) (len g k) t) (gains (two g k) (one g k) (len g k) (offer (one g k) (two g k) (len g k) t))
      h in
      offer-no (two g k) (one g k) (len g k) _ n.1 ∙ offer-no (one g k) (two g k) (len g k) t n.0

  pub still : (ks : List ℕ) (t : Labels) → changes g ks t ≡ false → relax g ks t ≡ t
  unfolding changes relax
  still [] t h = refl
  still (k ∷ ks) t h =
      let n = or-none (moves g k t) (changes g ks (relax_edge g k t)) h in
      still ks (relax_edge g k t) n.1 ∙ still-edge k t n.0

-- Passes until one changes nothing

-- `left` passes at most are still to come, of n from the labels `start`
pub record Settling (g : Graph) (ks : List ℕ) (start : Labels) (n : ℕ) (t : Labels) (left : ℕ) : Type 0 where
  pub low : Low t.fars
  pub table : settled left g ks t ≡ settled n g ks start

module _ (g : Graph) (ks : List ℕ) where
  pub settle-none : (t : Labels) (n left : ℕ) → Low t.fars → left ≡ n → Settling g ks t n t left
  settle-none t n left l e = record { low = l; table = ap (λ (k : ℕ). settled k g ks t) e }

  module _ (start : Labels) (n : ℕ) (t : Labels) (left : ℕ) (s : Settling g ks start n t left) where
    pub settle-more : (t' : Labels) (less : ℕ) → left ≡ suc less → changes g ks t ≡ true → t' ≡ relax g ks t → Settling g ks start n t' less
    unfolding settled
    settle-more t' less e c r = rw r (record { low = low-relax g ks t s.low; table = sym (rw (e, settled, c) refl) ∙ s.table })

    pub settle-stop : (t' : Labels) (less : ℕ) → left ≡ suc less → changes g ks t ≡ false → t' ≡ relax g ks t → t' ≡ settled n g ks start
    unfolding settled
    settle-stop t' less e c r = r ∙ still g ks t c ∙ sym (rw (e, settled, c) refl) ∙ s.table

    pub settle-end : left ≡ 0 → t ≡ settled n g ks start
    unfolding settled
    settle-end e = sym (rw e refl) ∙ s.table

-- Sources, one after the other

pub start-more : (sources : List ℕ) (i m : ℕ) (fars roots : List ℕ) (all : Labels) →
    starts (entries sources i (m - i)) (labels fars roots) ≡ all → i < m →
    starts (entries sources (i + 1) (m - (i + 1)))
    (labels (set fars (get_or sources i 0) 0) (set roots (get_or sources i 0) (get_or sources i 0))) ≡ all
unfolding starts
start-more sources i m fars roots all p h = sym (rw (entries_next i m sources h) refl) ∙ p

pub start-end : (sources : List ℕ) (i m : ℕ) (t all : Labels) → starts (entries sources i (m - i)) t ≡ all → m ≤ i → t ≡ all
unfolding starts
start-end sources i m t all p h = sym (rw (entries-end i m sources h) refl) ∙ p
