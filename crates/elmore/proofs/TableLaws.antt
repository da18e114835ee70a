-- The steps of a scan for the children of a point, as each of the two passes makes them: a child found, an edge passed over, the end.
-- Assumes nothing.
use Rattle.std.proofs.Common.{◌≡◌, ℕ, zero, suc, ◌+◌, ◌-◌, ◌<◌, ◌≤◌, false, List, [], ◌∷◌, ◌++◌, get_or, set, negsuc, sym, refl, ap, ◌∙◌, arith, le-ltb, lt-ltb, eq-eqb, ne_eqb}
use lib.Ieee.{Float, fin, binary64, of_bits}
use Rattle.tree.specs.Table.{tree_bound, first_end, second_end}
use Rattle.floats.specs.declared.Technology.{Technology}
use Rattle.floats.specs.Float.{whole}
use Rattle.elmore.specs.Rooted.{Branches, none, branch, sprout}
use Rattle.elmore.specs.Elmore.{with_child, child_delay, edge_resistance, edge_capacitance, capacitance, gathered}
use Rattle.elmore.specs.Elmore.{delay_of_child, delays}
use Rattle.elmore.specs.Table.{other_end, child_at, children_from, hung, stored}

-- One edge

pub other-first : (k p : ℕ) → first_end k ≡ p → second_end k ≡ other_end k p
unfolding other_end
other-first k p e = rw (other_end, eq-eqb (first_end k) p e) refl

pub other-second : (k p : ℕ) → (first_end k ≡ p → ⊥) → second_end k ≡ p → first_end k ≡ other_end k p
unfolding other_end
other-second k p n e = rw (other_end, ne_eqb (first_end k) p n, eq-eqb (second_end k) p e) refl

pub other_none : (k p : ℕ) → (first_end k ≡ p → ⊥) → (second_end k ≡ p → ⊥) → tree_bound ≡ other_end k p
unfolding other_end
other_none k p n e = rw (other_end, ne_eqb (first_end k) p n, ne_eqb (second_end k) p e) refl

pub child-parent : (k up p c : ℕ) → c ≡ other_end k p → c ≡ up → tree_bound ≡ child_at k up p
unfolding child_at
child-parent k up p c o e = rw (child_at, eq-eqb (other_end k p) up (sym o ∙ e)) refl

pub child-other : (k up p c : ℕ) → c ≡ other_end k p → (c ≡ up → ⊥) → c ≡ child_at k up p
unfolding child_at
child-other k up p c o n = o ∙ rw (child_at, ne_eqb (other_end k p) up (λ e. n (o ∙ e))) refl

-- 0.5 as the code has it
pub half_bits : of_bits binary64 0x3fe0_0000_0000_0000 ≡ fin false 1 (negsuc 0)
unfolding of_bits
half_bits = refl

-- What hangs from a point

pub hung-none : (ks : List ℕ) (e n up p : ℕ) → n ≡ 0 → hung ks e n up p ≡ none
unfolding hung
hung-none ks e n up p h = rw h refl

pub hung-some : (ks : List ℕ) (e n up p : ℕ) → (n ≡ 0 → ⊥) → hung ks e n up p ≡ sprout (hung ks e (n - 1) p) (children_from ks up p 0 e)
unfolding hung
hung-some ks e zero up p h = absurd (h refl)
hung-some ks e (suc n) up p h = let z : suc n - 1 ≡ n = omega arith in rw z refl

-- delays stored one after the other, in two parts
pub stored-append : (l m : List (ℕ × Float)) (table : List Float) → stored (l ++ m) table ≡ stored m (stored l table)
unfolding stored
stored-append [] m table = refl
stored-append (x ∷ l) m table = stored-append l m (set table x.0 x.1)

-- The scan

module _ (ks : List ℕ) (up p e : ℕ) where
  children-hit : (k : ℕ) → k < e → child_at (get_or ks k 0) up p < tree_bound →
      children_from ks up p k (e - k) ≡ child_at (get_or ks k 0) up p ∷ children_from ks up p (k + 1) (e - (k + 1))
  unfolding children_from
  children-hit k h t =
      let n : e - k ≡ suc (e - (k + 1)) = omega arith in
      rw (n, children_from, lt-ltb _ _ t) refl

  children-miss : (k : ℕ) → k < e → tree_bound ≤ child_at (get_or ks k 0) up p →
      children_from ks up p k (e - k) ≡ children_from ks up p (k + 1) (e - (k + 1))
  unfolding children_from
  children-miss k h t =
      let n : e - k ≡ suc (e - (k + 1)) = omega arith in
      rw (n, children_from, le-ltb _ _ t) refl

  children-end : (k : ℕ) → e ≤ k → children_from ks up p k (e - k) ≡ []
  unfolding children_from
  children-end k h = let n : e - k ≡ 0 = omega arith in rw n refl

  module _ (below : ℕ → Branches ℕ) where
    -- what hangs from p by the edges from number k on
    abbrev pub pending : ℕ → Branches ℕ
    pending k = sprout below (children_from ks up p k (e - k))

    pub pending-all : pending 0 ≡ sprout below (children_from ks up p 0 e)
    pending-all = let n : e - 0 ≡ e = omega arith in ap (λ (m : ℕ). sprout below (children_from ks up p 0 m)) n

    pending-hit : (k : ℕ) → k < e → child_at (get_or ks k 0) up p < tree_bound →
        pending k ≡ branch (child_at (get_or ks k 0) up p) (below (child_at (get_or ks k 0) up p)) (pending (k + 1))
    unfolding sprout
    pending-hit k h t = ap (sprout below) (children-hit k h t)

    pending-miss : (k : ℕ) → k < e → tree_bound ≤ child_at (get_or ks k 0) up p → pending k ≡ pending (k + 1)
    pending-miss k h t = ap (sprout below) (children-miss k h t)

    pending-end : (k : ℕ) → e ≤ k → pending k ≡ none
    unfolding sprout
    pending-end k h = ap (sprout below) (children-end k h)

    -- The two passes over it

    module _ (apart : ℕ → ℕ → ℕ) (load : ℕ → ℕ) (t : Technology) where
      pub gather-hit : (k c : ℕ) (sum child more all : Float) → gathered apart load t p sum (pending k) ≡ all → k < e
          → c ≡ child_at (get_or ks k 0) up p → c < tree_bound → child ≡ capacitance apart load t c (below c)
          → more ≡ with_child sum child (edge_capacitance apart load t p c)
          → gathered apart load t p more (pending (k + 1)) ≡ all
      unfolding gathered
      gather-hit k c sum child more all g h o f q m =
          let step : pending k ≡ branch c (below c) (pending (k + 1)) = rw o (pending-hit k h (rw o at f)) in
          ap (λ (s : Float). gathered apart load t p s (pending (k + 1)))
          (m ∙ ap (λ (s : Float). with_child sum s (edge_capacitance apart load t p c)) q)
          ∙ sym (ap (gathered apart load t p sum) step)
          ∙ g

      pub gather-miss : (k c : ℕ) (sum all : Float) → gathered apart load t p sum (pending k) ≡ all → k < e
          → c ≡ child_at (get_or ks k 0) up p → tree_bound ≤ c → gathered apart load t p sum (pending (k + 1)) ≡ all
      gather-miss k c sum all g h e f = sym (ap (gathered apart load t p sum) (pending-miss k h (rw e at f))) ∙ g

      pub gather-end : (k : ℕ) (sum all : Float) → gathered apart load t p sum (pending k) ≡ all → e ≤ k → sum ≡ all
      unfolding gathered
      gather-end k sum all g h = sym (ap (gathered apart load t p sum) (pending-end k h)) ∙ g

      pub lay-hit : (k c : ℕ) (d child f : Float) (table next all : List Float)
          → stored (delays apart load t p d (pending k)) table ≡ all → k < e
          → c ≡ child_at (get_or ks k 0) up p → c < tree_bound → child ≡ capacitance apart load t c (below c)
          → f ≡ child_delay d (edge_resistance apart load t p c) (edge_capacitance apart load t p c) child
          → next ≡ stored (delays apart load t c f (below c)) (set table c f)
          → stored (delays apart load t p d (pending (k + 1))) next ≡ all
      unfolding delays stored
      lay-hit k c d child f table next all g h o b q m n =
          let step : pending k ≡ branch c (below c) (pending (k + 1)) = rw o (pending-hit k h (rw o at b)) in
          let one : Float → List Float = λ x. stored (delays apart load t c x (below c)) (set table c x) in
          let is : f ≡ delay_of_child apart load t p d c (below c) =
          m ∙ ap (child_delay d (edge_resistance apart load t p c) (edge_capacitance apart load t p c)) q in
          ap (stored (delays apart load t p d (pending (k + 1)))) (n ∙ ap one is)
          ∙ sym (stored-append (delays apart load t c (delay_of_child apart load t p d c (below c)) (below c))
          (delays apart load t p d (pending (k + 1))) (set table c (delay_of_child apart load t p d c (below c))))
          ∙ sym (ap (λ (x : Branches ℕ). stored (delays apart load t p d x) table) step)
          ∙ g

      pub lay-miss : (k c : ℕ) (d : Float) (table all : List Float) → stored (delays apart load t p d (pending k)) table ≡ all → k < e
          → c ≡ child_at (get_or ks k 0) up p → tree_bound ≤ c → stored (delays apart load t p d (pending (k + 1))) table ≡ all
      lay-miss k c d table all g h e f =
          sym (ap (λ (b : Branches ℕ). stored (delays apart load t p d b) table) (pending-miss k h (rw e at f))) ∙ g

      pub lay-end : (k : ℕ) (d : Float) (table all : List Float) → stored (delays apart load t p d (pending k)) table ≡ all → e ≤ k
          → table ≡ all
      unfolding delays stored
      lay-end k d table all g h = sym (ap (λ (b : Branches ℕ). stored (delays apart load t p d b) table) (pending-end k h)) ∙ g

  -- Where both passes begin: at a point with nothing more below it, and at the first edge

  module _ (apart : ℕ → ℕ → ℕ) (load : ℕ → ℕ) (t : Technology) where
    pub gather_none : (n : ℕ) (sum : Float) → n ≡ 0 → sum ≡ whole (load p) → sum ≡ capacitance apart load t p (hung ks e n up p)
    unfolding gathered
    gather_none n sum z m = m ∙ sym (ap (gathered apart load t p (whole (load p))) (hung-none ks e n up p z))

    pub gather-start : (n : ℕ) (sum : Float) → (n ≡ 0 → ⊥) → sum ≡ whole (load p)
        → gathered apart load t p sum (pending (hung ks e (n - 1) p) 0) ≡ capacitance apart load t p (hung ks e n up p)
    gather-start n sum z m =
        ap (λ (s : Float). gathered apart load t p s (pending (hung ks e (n - 1) p) 0)) m
        ∙ ap (gathered apart load t p (whole (load p))) (pending-all (hung ks e (n - 1) p) ∙ sym (hung-some ks e n up p z))

    pub lay-none : (n : ℕ) (d : Float) (table : List Float) → n ≡ 0 → table ≡ stored (delays apart load t p d (hung ks e n up p)) table
    unfolding delays stored
    lay-none n d table z = sym (ap (λ (b : Branches ℕ). stored (delays apart load t p d b) table) (hung-none ks e n up p z))

    pub lay-start : (n : ℕ) (d : Float) (table : List Float) → (n ≡ 0 → ⊥)
        → stored (delays apart load t p d (pending (hung ks e (n - 1) p) 0)) table
        ≡ stored (delays apart load t p d (hung ks e n up p)) table
    lay-start n d table z =
        ap (λ (b : Branches ℕ). stored (delays apart load t p d b) table)
        (pending-all (hung ks e (n - 1) p) ∙ sym (hung-some ks e n up p z))
