-- Hanging points: what hangs on what agrees with the table of longest edges, from the first point on and over every edge.
-- Assumes nothing.
use mathlib.Core.Path.{◌≡◌, refl, sym, ap, ap₂, ◌∙◌, subst}
use mathlib.Core.Logic.{◌⊎◌, inl, inr}
use mathlib.Core.List.{List}
use Prim.Native.Nat.{ℕ, zero, suc, ◌+◌, ◌-◌, ◌≤◌, ◌<◌}
use native.Mathlib.Omega.{arith}
use lib.Dec.{eqb}
use lib.ListN.{length, get_or, set, length-set, replicate}
use borrow.Author.Tests.{eqb-true, eqb-false, eq-eqb, ne_eqb}
use Rattle.lists.proofs.TestLaws.{by, either}
use Rattle.lists.specs.Turns.{turns}
use Rattle.lists.proofs.TurnLaws.{turns-none, turns_next, turns-end, turns-still}
use Rattle.tree.specs.Table.{tree_bound, pair_bound, first_end, second_end, Within}
use Rattle.tree.proofs.SumLaws.{other, here as put-here}
use Rattle.longest.specs.Longest.{longer, no_edge, Reach, hang, attach, pass, reached, start}
use Rattle.longest.specs.Hung.{Ties, ties, onto_of, link_of, turn_of, top_of, Tied, Woven, Joins, Hung}
use Rattle.longest.proofs.LongestLaws.{small-set}
use Rattle.longest.proofs.FoundLaws.{small_all}
use Rattle.longest.proofs.ReadingLaws.{untouched, spreads-length, spreads-row, spreads-column, spreads-self}

-- v is hung on p by the edge k
module _ (ks el : List ℕ) (e n c : ℕ) (s : Ties) (r : Reach) (h : Hung ks el e n c s r) (few : n ≤ tree_bound) (fewer : e ≤ tree_bound)
    (v p k : ℕ) (hv : v < n) (hp : 0 < turn_of s p) (un : turn_of s v ≡ 0) (hk : k < e) (ends : Joins ks k v p) where
  abbrev after : Ties
  after = ties (set s.onto v p) (set s.link v k) (set s.turn v (c + 1))

  abbrev next : Reach
  next = hang el n v p k r

  turn-v : turn_of after v ≡ c + 1
  turn-v = put-here s.turn v (c + 1) (rw h.tied.room (omega arith))

  onto-v : onto_of after v ≡ p
  onto-v = put-here s.onto v p (rw h.tied.wide (omega arith))

  link-v : link_of after v ≡ k
  link-v = put-here s.link v k (rw h.tied.long (omega arith))

  not-v : (i : ℕ) → 0 < turn_of s i → v ≡ i → ⊥
  not-v i g q = let z : turn_of s i ≡ 0 = ap (turn_of s) (sym q) ∙ un in omega (arith, z, g)

  -- a point that hangs is v or hung before
  pub record Old (i : ℕ) : Type 0 where
    pub apart : v ≡ i → ⊥
    pub was : 0 < turn_of s i
    pub turn : turn_of after i ≡ turn_of s i
    pub onto : onto_of after i ≡ onto_of s i
    pub link : link_of after i ≡ link_of s i

  old : (i : ℕ) → (v ≡ i → ⊥) → 0 < turn_of after i → Old i
  old i d g =
      let t = other s.turn v i (c + 1) d in
      record { apart = d; was = omega (arith, t, g); turn = t; onto = other s.onto v i p d; link = other s.link v i k d }

  cases : {C : Type 0} (i : ℕ) → 0 < turn_of after i → (i ≡ v → C) → (Old i → C) → C
  cases i g f d = by (eqb v i) (λ q. f (sym (eqb-true v i q))) (λ q. d (old i (eqb-false v i q) g))

  still : (i : ℕ) → 0 < turn_of s i → turn_of after i ≡ turn_of s i
  still i g = other s.turn v i (c + 1) (not-v i g)

  same : (x y : ℕ) → 0 < turn_of s x → 0 < turn_of s y → top_of next.top x y ≡ top_of r.top x y
  unfolding hang
  same x y a b = untouched el v p k (omega arith) n r.top x y few (omega (arith, h.low y b)) (not-v x a) (not-v y b)

  row-v : (w : ℕ) → 0 < turn_of s w → top_of next.top v w ≡ longer el (top_of r.top p w) k
  unfolding hang
  row-v w g = spreads-row el v p k (omega arith) n r.top few h.sized (not-v p hp) w (h.low w g) (not-v w g)

  column-v : (w : ℕ) → 0 < turn_of s w → top_of next.top w v ≡ longer el (top_of r.top p w) k
  unfolding hang
  column-v w g = spreads-column el v p k (omega arith) n r.top few h.sized (not-v p hp) w (h.low w g) (not-v w g)

  hung-tied : Tied after
  hung-tied = record {
    wide = length-set s.onto v p ∙ h.tied.wide;
    long = length-set s.link v k ∙ h.tied.long;
    room = length-set s.turn v (c + 1) ∙ h.tied.room;
    points = small-set tree_bound s.onto v p (h.tied.low p hp) h.tied.points;
    edges = small-set tree_bound s.link v k (omega arith) h.tied.edges;
    low = λ i g. cases i g (λ q. omega (arith, q, hv)) (λ o. h.tied.low i o.was);
    alone = λ i j g q.
        cases i g
        (λ a. cases j (omega (arith, q, g)) (λ b. a ∙ sym b)
        (λ o. absurd (let z : ⊥ = omega (arith, h.late j, o.turn, q, ap (turn_of after) a, turn-v) in z)))
        (λ o. cases j (omega (arith, q, g))
        (λ b. absurd (let z : ⊥ = omega (arith, h.late i, o.turn, q, ap (turn_of after) b, turn-v) in z))
        (λ u. h.tied.alone i j o.was (sym o.turn ∙ q ∙ u.turn)));
    up = λ i g.
        cases i (omega (arith, g))
        (λ a.
        let b : onto_of after i ≡ p = ap (onto_of after) a ∙ onto-v in
        let t : turn_of after i ≡ c + 1 = ap (turn_of after) a ∙ turn-v in
        let f : turn_of after (onto_of after i) ≡ turn_of s p = ap (turn_of after) b ∙ still p hp in
        (omega (arith, f, hp), omega (arith, f, t, h.late p)))
        (λ o.
        let u = h.tied.up i (omega (arith, o.turn, g)) in
        let f : turn_of after (onto_of after i) ≡ turn_of s (onto_of s i) = ap (turn_of after) o.onto ∙ still (onto_of s i) u.0 in
        (omega (arith, f, u.0), omega (arith, f, u.1, o.turn)));
  }

  hung-even : (x y : ℕ) → 0 < turn_of after x → 0 < turn_of after y → top_of next.top x y ≡ top_of next.top y x
  hung-even x y f g =
      cases x f
      (λ a.
      cases y g (λ b. ap₂ (top_of next.top) (a ∙ sym b) (b ∙ sym a))
      (λ o. ap (λ (i : ℕ). top_of next.top i y) a ∙ row-v y o.was ∙ sym (column-v y o.was)
      ∙ ap (top_of next.top y) (sym a)))
      (λ o.
      cases y g
      (λ b. ap (top_of next.top x) b ∙ column-v x o.was ∙ sym (row-v x o.was) ∙ ap (λ (i : ℕ). top_of next.top i x) (sym b))
      (λ u. same x y o.was u.was ∙ h.woven.even x y o.was u.was ∙ sym (same y x u.was o.was)))

  hung-step : (x w : ℕ) → 0 < turn_of after w → turn_of after w < turn_of after x →
      top_of next.top x w ≡ longer el (top_of next.top (onto_of after x) w) (link_of after x)
  hung-step x w g l =
      cases w g
      (λ b.
      cases x (omega (arith, l, g))
      (λ a. absurd (let z : ⊥ = omega (arith, l, ap (turn_of after) (a ∙ sym b)) in z))
      (λ o. absurd (let z : ⊥ = omega (arith, l, o.turn, h.late x, ap (turn_of after) b, turn-v) in z)))
      (λ u.
      cases x (omega (arith, l, g))
      (λ a.
      let o : onto_of after x ≡ p = ap (onto_of after) a ∙ onto-v in
      let k' : link_of after x ≡ k = ap (link_of after) a ∙ link-v in
      ap (λ (i : ℕ). top_of next.top i w) a ∙ row-v w u.was
      ∙ ap₂ (longer el) (sym (ap (λ (i : ℕ). top_of next.top i w) o ∙ same p w hp u.was)) (sym k'))
      (λ o.
      let j : turn_of s w < turn_of s x = omega (arith, l, o.turn, u.turn) in
      let d = h.tied.up x (omega (arith, j, u.was)) in
      same x w o.was u.was ∙ h.woven.step x w u.was j
      ∙ ap₂ (longer el) (sym (ap (λ (i : ℕ). top_of next.top i w) o.onto ∙ same (onto_of s x) w d.0 u.was)) (sym o.link)))

  hung-self : (x : ℕ) → 0 < turn_of after x → top_of next.top x x ≡ no_edge
  unfolding hang
  hung-self x f =
      cases x f
      (λ a. ap₂ (top_of next.top) a a ∙ spreads-self el v p k (omega arith) n r.top few h.sized (not-v p hp))
      (λ o. same x x o.was o.was ∙ h.woven.self x o.was)

  pub hung-hang : Hung ks el e n (c + 1) after next
  unfolding hang
  hung-hang = record {
    tied = hung-tied;
    woven = record { self = hung-self; even = hung-even; step = hung-step };
    room = length-set r.seen v 1 ∙ h.room;
    sized = spreads-length el v p k (omega arith) n r.top few h.sized (not-v p hp);
    first = still 0 (omega (arith, h.first)) ∙ h.first;
    off = λ i q.
        by (eqb v i)
        (λ t. absurd (let z : ⊥ = omega (arith, q, turn-v, ap (turn_of after) (eqb-true v i t)) in z))
        (λ t.
        let d = eqb-false v i t in
        other r.seen v i 1 d ∙ h.off i (sym (other s.turn v i (c + 1) d) ∙ q));
    on = λ i g.
        cases i g
        (λ a. ap (λ (j : ℕ). get_or (set r.seen v 1) j 0) a ∙ put-here r.seen v 1 (rw h.room (omega arith)))
        (λ o. other r.seen v i 1 o.apart ∙ h.on i o.was);
    low = λ i g. cases i g (λ a. omega (arith, a, hv)) (λ o. h.low i o.was);
    late = λ i.
        by (eqb v i)
        (λ t. omega (arith, turn-v, ap (turn_of after) (eqb-true v i t)))
        (λ t. omega (arith, other s.turn v i (c + 1) (eqb-false v i t), h.late i));
    ends = λ i g.
        cases i (omega (arith, g))
        (λ a.
        let o : onto_of after i ≡ p = ap (onto_of after) a ∙ onto-v in
        let j : link_of after i ≡ k = ap (link_of after) a ∙ link-v in (
          omega (arith, j, hk),
          subst (λ (x : ℕ). Joins ks x i (onto_of after i)) (sym j)
              (subst (λ (x : ℕ). Joins ks k i x) (sym o) (subst (λ (x : ℕ). Joins ks k x p) (sym a) ends)),
        ))
        (λ o.
        let d = h.ends i (omega (arith, o.turn, g)) in (
          omega (arith, o.link, d.0),
          subst (λ (x : ℕ). Joins ks x i (onto_of after i)) (sym o.link)
              (subst (λ (x : ℕ). Joins ks (link_of s i) i x) (sym o.onto) d.1),
        ));
  }

-- An edge

module _ (ks el : List ℕ) (e n c : ℕ) (s : Ties) (r : Reach) (h : Hung ks el e n c s r) (few : n ≤ tree_bound) (fewer : e ≤ tree_bound)
    (within : Within n ks) (k a b : ℕ) (hk : k < e) (ea : a ≡ first_end (get_or ks k 0)) (eb : b ≡ second_end (get_or ks k 0)) where
  attach-is : attach el n a b k r ≡ pass ks el n k r
  unfolding pass
  attach-is = rw (ea, eb) refl

  -- what the edge does: d have hung then, as s' says
  abbrev pub Passed : ℕ → Ties → Type 0
  Passed d s' = Hung ks el e n d s' (pass ks el n k r) × (d ≡ c → pass ks el n k r ≡ r)

  unmoved : attach el n a b k r ≡ r → Passed c s
  unmoved q =
      let p : pass ks el n k r ≡ r = sym attach-is ∙ q in
      (subst (λ (x : Reach). Hung ks el e n c s x) (sym p) h, λ _. p)

  none_is : get_or r.seen a 0 ≡ get_or r.seen b 0 → attach el n a b k r ≡ r
  unfolding attach
  none_is q = rw (attach, eq-eqb _ _ q) refl

  -- neither hangs, or both do
  pub pass-neither : turn_of s a ≡ 0 → turn_of s b ≡ 0 → Passed c s
  pass-neither p q = unmoved (none_is (h.off a p ∙ sym (h.off b q)))

  pub pass-both : (turn_of s a ≡ 0 → ⊥) → (turn_of s b ≡ 0 → ⊥) → Passed c s
  pass-both p q = unmoved (none_is (h.on a (omega (arith, p)) ∙ sym (h.on b (omega (arith, q)))))

  -- one of them hangs
  hangs-first : turn_of s a ≡ 0 → (turn_of s b ≡ 0 → ⊥) → attach el n a b k r ≡ hang el n a b k r
  unfolding attach
  hangs-first p q =
      let x = h.off a p in
      let y = h.on b (omega (arith, q)) in
      rw (attach, ne_eqb (get_or r.seen a 0) (get_or r.seen b 0) (λ z. let w : ⊥ = omega (arith, x, y, z) in w), eq-eqb _ _ x) refl

  hangs-second : (turn_of s a ≡ 0 → ⊥) → turn_of s b ≡ 0 → attach el n a b k r ≡ hang el n b a k r
  unfolding attach
  hangs-second p q =
      let x = h.on a (omega (arith, p)) in
      let y = h.off b q in
      rw (
        attach,
        ne_eqb (get_or r.seen a 0) (get_or r.seen b 0) (λ z. let w : ⊥ = omega (arith, x, y, z) in w),
        ne_eqb (get_or r.seen a 0) 0 (λ z. let w : ⊥ = omega (arith, x, z) in w),
      ) refl

  moved : (v p : ℕ) (s' : Ties) → s' ≡ ties (set s.onto v p) (set s.link v k) (set s.turn v (c + 1)) →
      attach el n a b k r ≡ hang el n v p k r → v < n → 0 < turn_of s p → turn_of s v ≡ 0 → Joins ks k v p → Passed (c + 1) s'
  moved v p s' q i hv hp un j = (
    subst (λ (x : Reach). Hung ks el e n (c + 1) s' x) (sym i ∙ attach-is)
        (subst (λ (x : Ties). Hung ks el e n (c + 1) x (hang el n v p k r)) (sym q)
        (hung-hang ks el e n c s r h few fewer v p k hv hp un hk j)),
    λ z. absurd (let w : ⊥ = omega (arith, z) in w),
  )

  pub pass-first : turn_of s a ≡ 0 → (turn_of s b ≡ 0 → ⊥) → (s' : Ties) →
      s' ≡ ties (set s.onto a b) (set s.link a k) (set s.turn a (c + 1)) → Passed (c + 1) s'
  pass-first p q s' i =
      moved a b s' i (hangs-first p q) (rw ea (within.ends k).0) (omega (arith, q)) p (inl (sym ea, sym eb))

  pub pass-second : (turn_of s a ≡ 0 → ⊥) → turn_of s b ≡ 0 → (s' : Ties) →
      s' ≡ ties (set s.onto b a) (set s.link b k) (set s.turn b (c + 1)) → Passed (c + 1) s'
  pass-second p q s' i =
      moved b a s' i (hangs-second p q) (rw eb (within.ends k).1) (omega (arith, p)) q (inr (sym ea, sym eb))

-- A pass: after k edges, what is reached, and the edges that are left

pub record Going (ks el : List ℕ) (e n c d k : ℕ) (s : Ties) (r : Reach) : Type 0 where
  pub at : Reach
  pub rest : turns (pass ks el n) k (e - k) at ≡ turns (pass ks el n) 0 e r
  pub hung : Hung ks el e n d s at
  pub still : d ≡ c → at ≡ r

module _ (ks el : List ℕ) (e n c : ℕ) (r : Reach) where
  pub going_next : (d k d' : ℕ) (s s' : Ties) (g : Going ks el e n c d k s r) → k < e → c ≤ d → d ≤ d' →
      (Hung ks el e n d' s' (pass ks el n k g.at) × (d' ≡ d → pass ks el n k g.at ≡ g.at)) → Going ks el e n c d' (k + 1) s' r
  going_next d k d' s s' g hk l m p = record {
    at = pass ks el n k g.at;
    rest = turns_next (pass ks el n) k e g.at (pass ks el n k g.at) _ g.rest hk refl;
    hung = p.0;
    still = λ q. p.1 (omega (arith, l, m, q)) ∙ g.still (omega (arith, l, m, q));
  }

  pub going_end : (d k : ℕ) (s : Ties) → Going ks el e n c d k s r → e ≤ k →
      Hung ks el e n d s (turns (pass ks el n) 0 e r) × (d ≡ c → turns (pass ks el n) 0 e r ≡ r)
  going_end d k s g l =
      let q = turns-end (pass ks el n) k e g.at _ g.rest l in
      (subst (λ (x : Reach). Hung ks el e n d s x) q g.hung, λ z. sym q ∙ g.still z)

-- All passes

pub record Passing (ks el : List ℕ) (e n c i : ℕ) (s : Ties) (r : Reach) : Type 0 where
  pub at : Reach
  pub rest : turns (λ (_ : ℕ) (q : Reach). turns (pass ks el n) 0 e q) i (e - i) at ≡ reached ks el e n r
  pub hung : Hung ks el e n c s at

module _ (ks el : List ℕ) (e n : ℕ) (r : Reach) where
  abbrev sweep : ℕ → Reach → Reach
  sweep _ q = turns (pass ks el n) 0 e q

  pub passing-start : (c : ℕ) (s : Ties) → Hung ks el e n c s r → Passing ks el e n c 0 s r
  unfolding reached
  passing-start c s h = record { at = r; rest = turns-none sweep e r; hung = h }

  pub passing-next : (c d i : ℕ) (s s' : Ties) (g : Passing ks el e n c i s r) → i < e → Hung ks el e n d s' (sweep i g.at) →
      Passing ks el e n d (i + 1) s' r
  passing-next c d i s s' g l h = record {
    at = sweep i g.at;
    rest = turns_next sweep i e g.at (sweep i g.at) _ g.rest l refl;
    hung = h;
  }

  -- after a pass that hangs nothing, and after the last
  pub passing-still : (c d i : ℕ) (s s' : Ties) (g : Passing ks el e n c i s r) → d ≡ c → Hung ks el e n d s' (sweep i g.at) →
      (d ≡ c → sweep i g.at ≡ g.at) → Hung ks el e n c s' (reached ks el e n r)
  passing-still c d i s s' g q h f =
      let z : sweep i g.at ≡ g.at = f q in
      let w = sym (turns-still sweep (e - i) i g.at (λ j. z)) ∙ g.rest in
      subst (λ (x : ℕ). Hung ks el e n x s' (reached ks el e n r)) q (subst (λ (x : Reach). Hung ks el e n d s' x) (z ∙ w) h)

  pub passing-end : (c i : ℕ) (s : Ties) → Passing ks el e n c i s r → e ≤ i → Hung ks el e n c s (reached ks el e n r)
  passing-end c i s g l = subst (λ (x : Reach). Hung ks el e n c s x) (turns-end sweep i e g.at _ g.rest l) g.hung

-- The first point

pub same-entry : (m x i : ℕ) → i < m → get_or (replicate m x) i 0 ≡ x
same-entry zero x i h = absurd (let z : ⊥ = omega arith in z)
same-entry (suc m) x zero h = refl
same-entry (suc m) x (suc i) h = same-entry m x i (omega arith)

zero-entry : (m i : ℕ) → ◌≡◌ {A = ℕ} (get_or (replicate m 0) i 0) 0
zero-entry zero i = refl
zero-entry (suc m) zero = refl
zero-entry (suc m) (suc i) = zero-entry m i

pub same_length : (m x : ℕ) → length (replicate m x) ≡ m
same_length zero x = refl
same_length (suc m) x = ap suc (same_length m x)

abbrev zeros : List ℕ
zeros = replicate tree_bound 0

abbrev pub begun : Ties
begun = ties zeros zeros (set zeros 0 1)

first-turn : turn_of begun 0 ≡ 1
first-turn = put-here zeros 0 1 (rw (same_length tree_bound 0) (omega arith))

only : (i : ℕ) → 0 < turn_of begun i → i ≡ 0
only i g =
    by (eqb 0 i) (λ q. sym (eqb-true 0 i q))
    (λ q. absurd (let z : ⊥ = omega (arith, g, other zeros 0 i 1 (eqb-false 0 i q), zero-entry tree_bound i) in z))

one_at_most : (i : ℕ) → turn_of begun i ≤ 1
one_at_most i =
    by (eqb 0 i) (λ q. omega (arith, ap (turn_of begun) (eqb-true 0 i q), first-turn))
    (λ q. omega (arith, other zeros 0 i 1 (eqb-false 0 i q), zero-entry tree_bound i))

pub hung-start : (ks el : List ℕ) (e n : ℕ) → 0 < n → Hung ks el e n 1 begun start
unfolding start
hung-start ks el e n h = record {
  tied = record {
    wide = same_length tree_bound 0;
    long = same_length tree_bound 0;
    room = length-set zeros 0 1 ∙ same_length tree_bound 0;
    points = small_all tree_bound tree_bound 0 (omega arith) (omega arith);
    edges = small_all tree_bound tree_bound 0 (omega arith) (omega arith);
    low = λ v g. omega (arith, only v g);
    alone = λ v w g q. only v g ∙ sym (only w (omega (arith, g, q)));
    up = λ v g. absurd (let z : ⊥ = omega (arith, g, one_at_most v) in z);
  };
  woven = record {
    self = λ v g. ap₂ (top_of (replicate pair_bound no_edge)) (only v g) (only v g) ∙ same-entry pair_bound no_edge 0 (omega arith);
    even = λ v w f g. ap₂ (top_of (replicate pair_bound no_edge)) (only v f ∙ sym (only w g)) (only w g ∙ sym (only v f));
    step = λ v w g l. absurd (let z : ⊥ = omega (arith, g, l, one_at_most v) in z);
  };
  room = length-set zeros 0 1 ∙ same_length tree_bound 0;
  sized = same_length pair_bound no_edge;
  first = first-turn;
  off = λ v q. q;
  on = λ v g. omega (arith, g, one_at_most v);
  low = λ v g. omega (arith, only v g, h);
  late = one_at_most;
  ends = λ v g. absurd (let z : ⊥ = omega (arith, g, one_at_most v) in z);
}
