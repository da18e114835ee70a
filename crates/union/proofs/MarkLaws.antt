-- Marks made one after the other, and the marked numbers taken upwards: what is left to mark, one point more, one key more.
-- Assumes nothing.
use mathlib.Core.Path.{◌≡◌, refl, sym, ap, ap₂, ◌∙◌}
use mathlib.Core.Bool.{Bool, true, false}
use mathlib.Core.List.{List, [], ◌∷◌, ◌++◌, map, append-nil}
use Prim.Native.Nat.{ℕ, zero, suc, ◌+◌, ◌-◌, ◌*◌, ◌≤◌, ◌<◌}
use native.Mathlib.Numerals.{add-one}
use native.Mathlib.Omega.{arith}
use borrow.Author.Tests.{ltb-true, ltb-false, lt-ltb, le-ltb}
use lib.Dec.{ltb}
use lib.IntN.{ℤ}
use lib.ListN.{length, get_or, set, length-set, length-map, length-append}
use lib.Seq.{sets, get_or-set_same, get_or-set_other}
use Rattle.lists.specs.Those.{those}
use Rattle.lists.proofs.TestLaws.{by, differ}
use Rattle.lists.proofs.ThoseLaws.{those-hit, those-miss, those-none}
use Rattle.lent.specs.Over.{over}
use Rattle.lent.specs.Entries.{flat}
use Rattle.lent.proofs.OverLaws.{over_none, over-more}
use Rattle.lent.proofs.EntryTable.{entry_more}
use Rattle.plane.specs.declared.Place.{Place}
use Rattle.plane.specs.Flat.{place_from}
use Rattle.graph.specs.Numbers.{place_numbers}
use Rattle.graph.proofs.WidthLaws.{place-width}
use Rattle.forest.specs.Bounds.{point_bound}
use Rattle.forest.specs.Edges.{from, entries, Below}
use Rattle.forest.specs.Parents.{Parents, up, via, way, Falls}
use Rattle.forest.proofs.EdgeLaws.{from_next, from-end, entries_next, entries-end, below_set}
use Rattle.forest.proofs.WayLaws.{way-none, way_step}
use Rattle.tree.specs.Table.{set_point}
use Rattle.union.specs.Union.{both_ends}
use Rattle.union.specs.Marks.{marked, is_marked, marks, Ranking}

pub marked_append : (l m t : List ℕ) → marked (l ++ m) t ≡ marked m (marked l t)
unfolding marked
marked_append [] m t = refl
marked_append (k ∷ l) m t = marked_append l m (set t k 1)

-- a list, a number and a list
pub mark-both : (l m : List ℕ) (k : ℕ) (t t₁ t₂ : List ℕ) → t₁ ≡ marked l t → t₂ ≡ marked m (set t₁ k 1) → t₂ ≡ marked (l ++ (k ∷ m)) t
unfolding marked
mark-both l m k t t₁ t₂ a b = b ∙ ap (λ (s : List ℕ). marked m (set s k 1)) a ∙ sym (marked_append l (k ∷ m) t)

-- Ways

pub mark-stop : (fars : List ℕ) (p : Parents) (v : ℕ) (t : List ℕ) → point_bound ≤ up p v → t ≡ marked (way fars p v) t
unfolding way marked
mark-stop fars p v t h = rw (way-none p (get_or fars v 0) v h) refl

pub mark-go : (lengths fars : List ℕ) (p : Parents) → Falls lengths fars p → (v : ℕ) (t : List ℕ) → v < point_bound → up p v < point_bound →
    marked (way fars p (up p v)) (set t (via p v) 1) ≡ marked (way fars p v) t
unfolding marked
mark-go lengths fars p f v t h u = rw (way_step lengths fars p f v h u) refl

-- What is left to mark

-- the entries of a table
module _ (xs : List ℕ) (i m : ℕ) (t all : List ℕ) (p : marked (entries xs i (m - i)) t ≡ all) where
  pub entry-marked : i < m → marked (entries xs (i + 1) (m - (i + 1))) (set t (get_or xs i 0) 1) ≡ all
  unfolding marked
  entry-marked h = sym (rw (entries_next i m xs h) refl) ∙ p

  pub entries-marked : m ≤ i → t ≡ all
  unfolding marked
  entries-marked h = sym (rw (entries-end i m xs h) refl) ∙ p

-- a piece for each entry of a table
module _ (piece : ℕ → List ℕ) (xs : List ℕ) (i m : ℕ) (t all : List ℕ) (p : marked (flat piece (entries xs i (m - i))) t ≡ all) where
  pub piece-marked : (t' : List ℕ) → i < m → t' ≡ marked (piece (get_or xs i 0)) t →
      marked (flat piece (entries xs (i + 1) (m - (i + 1)))) t' ≡ all
  unfolding flat
  piece-marked t' h e =
      ap (marked (flat piece (entries xs (i + 1) (m - (i + 1))))) e
      ∙ sym (marked_append (piece (get_or xs i 0)) (flat piece (entries xs (i + 1) (m - (i + 1)))) t)
      ∙ sym (rw (entries_next i m xs h) refl)
      ∙ p

  pub pieces-marked : m ≤ i → t ≡ all
  unfolding marked flat
  pieces-marked h = sym (rw (entries-end i m xs h) refl) ∙ p

-- both ends of each of n edges that passes a test
module _ (ones twos : List ℕ) (test : ℕ → Bool) (k n : ℕ) (t all : List ℕ)
    (p : marked (flat (both_ends ones twos) (those test (from k (n - k)))) t ≡ all) where
  pub ends-hit : k < n → test k ≡ true →
      marked (flat (both_ends ones twos) (those test (from (k + 1) (n - (k + 1))))) (set (set t (get_or ones k 0) 1) (get_or twos k 0) 1) ≡ all
  unfolding marked flat
  ends-hit h e = sym (rw (from_next k n h, those-hit test k (from (k + 1) (n - (k + 1))) e) refl) ∙ p

  pub ends-miss : k < n → test k ≡ false → marked (flat (both_ends ones twos) (those test (from (k + 1) (n - (k + 1))))) t ≡ all
  ends-miss h e = sym (rw (from_next k n h, those-miss test k (from (k + 1) (n - (k + 1))) e) refl) ∙ p

  pub ends-end : n ≤ k → t ≡ all
  unfolding marked flat those
  ends-end h = sym (rw (from-end k n h) refl) ∙ p

-- The marked numbers, upwards

pub from_parts : (k a b : ℕ) → from k (a + b) ≡ from k a ++ from (k + a) b
unfolding from
from_parts k zero b = ap₂ from (let e : k ≡ k + 0 = omega arith in e) (let e : 0 + b ≡ b = omega arith in e)
from_parts k (suc a) b =
    ap (from k) (let e : suc a + b ≡ suc (a + b) = omega arith in e)
    ∙ ap (λ (l : List ℕ). k ∷ l)
    (from_parts (suc k) a b ∙ ap (λ (j : ℕ). from (suc k) a ++ from j b) (let e : suc k + a ≡ k + suc a = omega arith in e))

pub those-append : (f : ℕ → Bool) (l m : List ℕ) → those f (l ++ m) ≡ those f l ++ those f m
those-append f [] m = sym (ap (λ (r : List ℕ). r ++ those f m) (those-none f))
those-append f (x ∷ l) m =
    by (f x)
    (λ e. those-hit f x (l ++ m) e ∙ ap (λ (r : List ℕ). x ∷ r) (those-append f l m) ∙ ap (λ (r : List ℕ). r ++ those f m)
    (sym (those-hit f x l e)))
    (λ e. those-miss f x (l ++ m) e ∙ those-append f l m ∙ ap (λ (r : List ℕ). r ++ those f m) (sym (those-miss f x l e)))

module _ (t : List ℕ) (n : ℕ) where
  last : marks t (n + 1) ≡ marks t n ++ those (is_marked t) (n ∷ [])
  unfolding marks from
  last =
      ap (those (is_marked t)) (from_parts 0 n 1 ∙ ap (λ (j : ℕ). from 0 n ++ (j ∷ [])) (let e : 0 + n ≡ n = omega arith in e))
      ∙ those-append (is_marked t) (from 0 n) (n ∷ [])

  pub marks-hit : is_marked t n ≡ true → marks t (n + 1) ≡ marks t n ++ (n ∷ [])
  marks-hit e =
      last ∙ ap (λ (l : List ℕ). marks t n ++ l) (those-hit (is_marked t) n [] e ∙ ap (λ (l : List ℕ). n ∷ l) (those-none (is_marked t)))

  pub marks-miss : is_marked t n ≡ false → marks t (n + 1) ≡ marks t n
  marks-miss e =
      last ∙ ap (λ (l : List ℕ). marks t n ++ l) (those-miss (is_marked t) n [] e ∙ those-none (is_marked t)) ∙ append-nil (marks t n)

  pub one_more : is_marked t n ≡ true → length (marks t (n + 1)) ≡ length (marks t n) + 1
  one_more e = ap length (marks-hit e) ∙ length-append (marks t n) (n ∷ [])

pub marks-none : (t : List ℕ) → marks t 0 ≡ []
unfolding marks from those
marks-none t = refl

-- no more than there are numbers
pub marks-few : (t : List ℕ) (n : ℕ) → length (marks t n) ≤ n
marks-few t zero = omega (arith, ap length (marks-none t))
marks-few t (suc n) =
    by (is_marked t n)
    (λ e. rw (← add-one n) (omega (arith, one_more t n e, marks-few t n)))
    (λ e. rw (← add-one n) (omega (arith, ap length (marks-miss t n e), marks-few t n)))

-- and no fewer among more numbers
marks-more : (t : List ℕ) (n d : ℕ) → length (marks t n) ≤ length (marks t (n + d))
marks-more t n zero = let e : n + 0 ≡ n = omega arith in rw e (omega arith)
marks-more t n (suc d) =
    let e : n + suc d ≡ n + d + 1 = omega arith in
    rw e
    (by (is_marked t (n + d))
    (λ h. omega (arith, one_more t (n + d) h, marks-more t n d))
    (λ h. omega (arith, ap length (marks-miss t (n + d) h), marks-more t n d)))

pub marks-room : (t : List ℕ) (i n : ℕ) → i < n → is_marked t i ≡ true → length (marks t i) < length (marks t n)
marks-room t i n h e =
    let d = n - (i + 1) in
    let q : i + 1 + d ≡ n = omega arith in
    let m : length (marks t (i + 1)) ≤ length (marks t n) = rw q at (marks-more t (i + 1) d) in
    omega (arith, one_more t i e)

map-append : {A B : Type 0} (f : A → B) (l m : List A) → map f (l ++ m) ≡ map f l ++ map f m
map-append f [] m = refl
map-append f (x ∷ l) m = ap (λ (r : List _). f x ∷ r) (map-append f l m)

-- Points: the marked ones of the first i vertices are written, and ranked

pub record Placing (places : ℕ → Place) (t : List ℕ) (lent : List ℤ) (i c : ℕ) (pts : List ℤ) (ranks : List ℕ) : Type 0 where
  pub count : c ≡ length (marks t i)
  pub written : pts ≡ over (flat place_numbers (map places (marks t i))) lent
  pub room : length ranks ≡ point_bound
  pub small : Below point_bound ranks
  pub ranked : Ranking t i ranks

module _ (places : ℕ → Place) (t : List ℕ) (lent : List ℤ) where
  pub place_none : (ranks : List ℕ) → length ranks ≡ point_bound → Below point_bound ranks → Placing places t lent 0 0 lent ranks
  unfolding flat
  place_none ranks r b = record {
    count = sym (ap length (marks-none t));
    written = sym (rw (marks-none t) (over_none lent));
    room = r;
    small = b;
    ranked = record { rank = λ v h. absurd (let z : ⊥ = omega arith in z) };
  }

  module _ (i c : ℕ) (pts : List ℤ) (ranks : List ℕ) (s : Placing places t lent i c pts ranks) where
    pub place-pass : get_or t i 0 ≤ 0 → Placing places t lent (i + 1) c pts ranks
    place-pass l =
        let e : is_marked t i ≡ false = le-ltb 0 (get_or t i 0) l in
        record {
          count = s.count ∙ sym (ap length (marks-miss t i e));
          written = s.written ∙ ap (λ (m : List ℕ). over (flat place_numbers (map places m)) lent) (sym (marks-miss t i e));
          room = s.room;
          small = s.small;
          ranked = record { rank = old e };
        }
      where
        old : is_marked t i ≡ false → (v : ℕ) → v < i + 1 → is_marked t v ≡ true → get_or ranks v 0 ≡ length (marks t v)
        old e v h m =
            by (ltb v i)
            (λ q. s.ranked.rank v (ltb-true v i q) m)
            (λ q. let z : v ≡ i = omega (arith, ltb-false v i q) in differ m (rw z e))

    pub place-more : (pts' : List ℤ) → 0 < get_or t i 0 → i < point_bound → c * 2 + 2 ≤ length lent → pts' ≡ set_point pts c (places i) →
        Placing places t lent (i + 1) (c + 1) pts' (set ranks i c)
    place-more pts' l h r w =
        let e : is_marked t i ≡ true = lt-ltb 0 (get_or t i 0) l in
        let n : length (map places (marks t i)) ≡ c = length-map (marks t i) places ∙ sym s.count in
        let few = marks-few t i in
        record {
          count = omega (arith, one_more t i e, s.count);
          written =
              w
              ∙ rw add-one refl
              ∙ ap (λ (k : List ℤ). sets k (c * 2) (place_numbers (places i))) s.written
              ∙ entry_more place_numbers place_from 2 place-width (map places (marks t i)) (places i) lent c n r
              ∙ ap (λ (m : List Place). over (flat place_numbers m) lent)
              (sym (map-append places (marks t i) (i ∷ [])) ∙ ap (map places) (sym (marks-hit t i e)));
          room = length-set ranks i c ∙ s.room;
          small = below_set point_bound ranks i c (omega (arith, s.count)) s.small;
          ranked = record { rank = next e };
        }
      where
        next : is_marked t i ≡ true → (v : ℕ) → v < i + 1 → is_marked t v ≡ true → get_or (set ranks i c) v 0 ≡ length (marks t v)
        next e v k m =
            by (ltb v i)
            (λ q.
            let d : v < i = ltb-true v i q in
            get_or-set_other ranks i v c 0 (λ z. (let y : ⊥ = omega arith in y)) ∙ s.ranked.rank v d m)
            (λ q.
            let z : v ≡ i = omega (arith, ltb-false v i q) in
            rw z (get_or-set_same ranks i c 0 (omega (arith, s.room)) ∙ s.count))

-- Keys: the marked ones of the first i edges are written

pub record Keying (code : ℕ → ℕ) (t lent : List ℕ) (i c : ℕ) (keys : List ℕ) : Type 0 where
  pub count : c ≡ length (marks t i)
  pub written : keys ≡ over (map code (marks t i)) lent

module _ (code : ℕ → ℕ) (t lent : List ℕ) where
  pub key-none : Keying code t lent 0 0 lent
  key-none = record { count = sym (ap length (marks-none t)); written = sym (rw (marks-none t) (over_none lent)) }

  module _ (i c : ℕ) (keys : List ℕ) (s : Keying code t lent i c keys) where
    pub key-pass : get_or t i 0 ≤ 0 → Keying code t lent (i + 1) c keys
    key-pass l =
        let e : is_marked t i ≡ false = le-ltb 0 (get_or t i 0) l in
        record {
          count = s.count ∙ sym (ap length (marks-miss t i e));
          written = s.written ∙ ap (λ (m : List ℕ). over (map code m) lent) (sym (marks-miss t i e));
        }

    -- a marked one finds room where there is room for all of n
    pub key-room : (n m : ℕ) → i < n → 0 < get_or t i 0 → length (marks t n) ≤ m → c < m
    key-room n m h l r = omega (arith, marks-room t i n h (lt-ltb 0 (get_or t i 0) l), s.count)

    pub key_more : 0 < get_or t i 0 → c < length lent → Keying code t lent (i + 1) (c + 1) (set keys c (code i))
    key_more l r =
        let e : is_marked t i ≡ true = lt-ltb 0 (get_or t i 0) l in
        let n : length (map code (marks t i)) ≡ c = length-map (marks t i) code ∙ sym s.count in
        record {
          count = omega (arith, one_more t i e, s.count);
          written =
              ap (λ (k : List ℕ). set k c (code i)) s.written
              ∙ over-more (map code (marks t i)) lent c (code i) n r
              ∙ ap (λ (m : List ℕ). over m lent) (sym (map-append code (marks t i) (i ∷ [])) ∙ ap (map code) (sym (marks-hit t i e)));
        }
