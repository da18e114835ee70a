-- Ends of edges are numbers of points, before and after an exchange.
-- Assumes nothing.
use mathlib.Core.Path.{◌≡◌, refl, sym, ap, ◌∙◌, subst}
use mathlib.Core.Bool.{Bool, ◌&&◌}
use mathlib.Core.List.{List, [], ◌∷◌}
use Prim.Native.Nat.{ℕ, zero, suc, ◌+◌, ◌-◌, ◌/◌, ◌%◌, ◌≤◌, ◌<◌}
use native.Mathlib.Omega.{arith}
use lib.Dec.{ltb, eqb}
use lib.IntN.{ℤ}
use lib.ListN.{get_or, set, replicate}
use borrow.Author.Tests.{ltb-true, ltb-false}
use Rattle.plane.specs.declared.Place.{Place}
use Rattle.plane.specs.declared.Macro.{Macro}
use Rattle.plane.specs.declared.Weights.{Weights}
use Rattle.plane.specs.Flat.{place_at}
use Rattle.plane.specs.Place.{same_place}
use Rattle.plane.specs.Rank.{later, rank}
use Rattle.lists.proofs.TestLaws.{by, and_left}
use Rattle.candidates.specs.declared.Best.{Best}
use Rattle.candidates.specs.Candidate.{found}
use Rattle.exchanges.specs.Exchange.{bump, bump_at, carrying, closed, drop_two, exchange, laid_at}
use Rattle.exchanges.specs.Exchange.{lay, lays, star, shift, stands}
use Rattle.longest.specs.Longest.{costs, measure}
use Rattle.exchanges.specs.Prune.{pruned}
use Rattle.exchanges.specs.Prune.{marks, first_loose, prune}
use Rattle.tree.specs.Table.{In, Row, Small, Tree, Within, key, pair_bound, tree_bound, row, tree}
use Rattle.lists.specs.Turns.{seek, turns}
use Rattle.candidates.proofs.CandidateBounds.{Fine, fine-search}
use Rattle.lists.proofs.TurnLaws.{turns-keep}

all_set : (P : ℕ → Type 0) (xs : List ℕ) (v x : ℕ) → P x → ((i : ℕ) → P (get_or xs i 0)) → (i : ℕ) → P (get_or (set xs v x) i 0)
all_set P [] v x h l i = l i
all_set P (y ∷ ys) zero x h l zero = h
all_set P (y ∷ ys) zero x h l (suc i) = l (suc i)
all_set P (y ∷ ys) (suc v) x h l zero = l zero
all_set P (y ∷ ys) (suc v) x h l (suc i) = all_set P ys v x h (λ j. l (suc j)) i

within-set : (n : ℕ) (xs : List ℕ) (v x : ℕ) → In n x → Within n xs → Within n (set xs v x)
within-set n xs v x h w = record { ends = all_set (In n) xs v x h w.ends }

pub in-key : (n p a : ℕ) → p < n → a < n → n ≤ tree_bound → In n (key p a)
in-key n p a h i l =
    let b : a < tree_bound = omega arith in
    let d : (key p a) / tree_bound ≡ p = omega arith in
    let m : (key p a) % tree_bound ≡ a = omega arith in
    (rw d h, rw m i)

pub within-carrying : (n i c q : ℕ) (xs : List ℕ) → In n q → Within n xs → Within n (carrying i c q xs)
unfolding carrying
within-carrying n i zero q xs h w = within-set n xs i q h w
within-carrying n i (suc c) q xs h w =
    by (ltb q (get_or xs i 0))
    (λ t. rw (carrying, t) (within-carrying n (suc i) c (get_or xs i 0) (set xs i q) (w.ends i) (within-set n xs i q h w)))
    (λ t. rw (carrying, t) (within-carrying n (suc i) c q xs h w))

within-lay : (n p a : ℕ) (r : Row) → p < n → a < n → n ≤ tree_bound → Within n r.keys → Within n (lay p a r).keys
unfolding lay
within-lay n p a r h i l w =
    by (ltb p a)
    (λ t. rw (lay, t) (within-carrying n 0 r.size (key p a) r.keys (in-key n p a h i l) w))
    (λ t. by (ltb a p) (λ s. rw (lay, t, s) (within-carrying n 0 r.size (key a p) r.keys (in-key n a p i h l) w))
    (λ s. rw (lay, t, s) w))

-- edges between points below a number
abbrev pub Ends : ℕ → List (ℕ × ℕ) → Type 0
Ends n [] = Unit
Ends n (e ∷ es) = ((e.0 < n) × (e.1 < n)) × Ends n es

pub star-ends : (n p a b u : ℕ) → p < n → a < n → b < n → u < n → Ends n (star p a b u)
star-ends n p a b u h i j k = ((h, i), ((h, j), ((h, k), tt)))

within-lays : (n : ℕ) (es : List (ℕ × ℕ)) (r : Row) → Ends n es → n ≤ tree_bound → Within n r.keys → Within n (lays es r).keys
unfolding lays
within-lays n [] r h l w = w
within-lays n (e ∷ es) r h l w = within-lays n es _ h.1 l (within-lay n e.0 e.1 r h.0.0 h.0.1 l w)

pub within-closed : (n k m : ℕ) (xs : List ℕ) → Within n xs → Within n (closed k m xs)
unfolding closed shift
within-closed n k m xs w = turns-keep shift (Within n) (m - k) k xs (λ j t q. within-set n t j _ (q.ends (suc j)) q) w

pub within-dropped : (n m k l : ℕ) (xs : List ℕ) → Within n xs → Within n (drop_two m k l xs)
unfolding drop_two
within-dropped n m k l xs w =
    by (ltb k l) (λ t. rw (drop_two, t) (within-closed n k m _ (within-closed n l (m + 1) xs w)))
    (λ t. rw (drop_two, t) (within-closed n l m _ (within-closed n k (m + 1) xs w)))

pub bump-in : (n p i : ℕ) → i < n → bump p i < n + 1
unfolding bump
bump-in n p i h = by (ltb i p) (λ t. rw (bump, t) (omega arith)) (λ t. rw (bump, t) (omega arith))

pub past : (xs : List ℕ) (i j x : ℕ) → i < j → get_or (set xs i x) j 0 ≡ get_or xs j 0
past [] i j x h = refl
past (y ∷ ys) i zero x h = absurd (let z : ⊥ = omega arith in z)
past (y ∷ ys) zero (suc j) x h = refl
past (y ∷ ys) (suc i) (suc j) x h = past ys i j x (omega arith)

pub within-bumped : (n p : ℕ) → n < tree_bound → (c i : ℕ) (xs : List ℕ) → Within (n + 1) xs → ((j : ℕ) → i ≤ j → In n (get_or xs j 0))
    → Within (n + 1) (turns (bump_at p) i c xs)
unfolding turns bump_at
within-bumped n p l zero i xs w h = w
within-bumped n p l (suc c) i xs w h =
    let q = h i (omega arith) in
    within-bumped n p l c (suc i) _
    (within-set (n + 1) xs i _ (in-key (n + 1) _ _ (bump-in n p _ q.0) (bump-in n p _ q.1) (omega arith)) w)
    (λ j g. subst (In n) (sym (past xs i j _ (omega arith))) (h j (omega arith)))

pub within_more : (n : ℕ) (xs : List ℕ) → Within n xs → Within (n + 1) xs
within_more n xs w = record { ends = λ i. (omega (arith, (w.ends i).0), omega (arith, (w.ends i).1)) }

module _ (pts : List ℤ) (n : ℕ) (ks : List ℕ) (e p a b u : ℕ) (s : Place) (l : n < tree_bound) (hp : p ≤ n) (ha : a < n) (hb : b < n)
    (hu : u < n)
    (w : Within n ks) where
  pub within-joined : Within (laid_at pts n ks e p a b u s).count (laid_at pts n ks e p a b u s).edges.keys
  unfolding laid_at stands
  within-joined =
      by (ltb p n && same_place s (place_at pts p))
      (λ t.
      rw (laid_at, t)
      (within-lays n (star p a b u) (row ks e) (star-ends n p a b u (ltb-true p n (and_left _ _ t)) ha hb hu) (omega arith) w))
      (λ t.
      rw (laid_at, t)
      (within-lays (n + 1) (star p _ _ _) (row (turns (bump_at p) 0 e ks) e)
      (star-ends (n + 1) p _ _ _ (omega arith) (bump-in n p a ha) (bump-in n p b hb) (bump-in n p u hu)) (omega arith)
      (within-bumped n p l e 0 ks (within_more n ks w) (λ j _. w.ends j))))

pub seek-le : (t : ℕ → Bool) (n i : ℕ) → seek t i n ≤ i + n
unfolding seek
seek-le t zero i = omega arith
seek-le t (suc n) i = by (t i) (λ e. rw (seek, e) (omega arith)) (λ e. rw (seek, e) (omega (arith, seek-le t n (suc i))))

pub rank-le : (pts : List ℤ) (n : ℕ) (s : Place) → rank pts n s ≤ n
unfolding rank
rank-le pts n s = omega (arith, seek-le (later pts s) n 0)

pub within-exchange : (c : Best) (pts : List ℤ) (n : ℕ) (ks : List ℕ) (e : ℕ) → n < tree_bound → c.point < n → Within n ks
    → Within (exchange c pts n ks e).count (exchange c pts n ks e).edges.keys
unfolding exchange
within-exchange c pts n ks e l h w =
    let q = w.ends c.edge in
    within-joined pts n _ _ _ _ _ _ _ l (rank-le pts n _) q.0 q.1 h (within-dropped n _ _ _ ks w)

pub within-after : (c : Best) (pts qts : List ℤ) (n m : ℕ) (ks ls : List ℕ) (e f : ℕ) → tree qts m ls f ≡ exchange c pts n ks e → n
    < tree_bound
    → c.point < n → Within n ks → Within m ls
within-after c pts qts n m ks ls e f q l h w =
    rw (ap (λ (t : Tree). t.count) q, ap (λ (t : Tree). t.edges.keys) q) (within-exchange c pts n ks e l h w)

-- past the edges no cost stands
pub measured-past : (w : Weights) (pts : List ℤ) (ks : List ℕ) (j c i : ℕ) (el : List ℕ) → i + c ≤ j
    → get_or (turns (measure w pts ks) i c el) j 0 ≡ get_or el j 0
unfolding turns measure
measured-past w pts ks j zero i el h = refl
measured-past w pts ks j (suc c) i el h = measured-past w pts ks j c (suc i) _ (omega arith) ∙ past el i j _ (omega arith)

pub zeros-at : (n i : ℕ) → ◌≡◌ {A = ℕ} (get_or (replicate n 0) i 0) 0
zeros-at zero i = refl
zeros-at (suc n) zero = refl
zeros-at (suc n) (suc i) = zeros-at n i

pub cut_in : (w : Weights) (pts : List ℤ) (ks : List ℕ) (e l : ℕ) → 0 < get_or (costs w pts ks e) l 0 → l < e
unfolding costs
cut_in w pts ks e l h =
    by (ltb l e) (λ t. ltb-true l e t)
    (λ t. absurd (
    let g : e ≤ l = ltb-false l e t in
    let z : get_or (turns (measure w pts ks) 0 e (replicate tree_bound 0)) l 0 ≡ 0
    = measured-past w pts ks l e 0 _ (omega arith) ∙ zeros-at tree_bound l in
    let y : ⊥ = omega arith in y))

pub fine-found : (w : Weights) (ms : List Macro) (pts : List ℤ) (n : ℕ) (ks : List ℕ) (e : ℕ) (c : Best) → c ≡ found w ms pts n ks e
    → (c.gain ≡ 0 → ⊥) → ((c.edge < e) × (c.cut < e)) × ((c.cut ≡ c.edge → ⊥) × (c.point < n))
unfolding found
fine-found w ms pts n ks e c q g =
    let f = fine-search w pts e n ms ks (costs w pts ks e) _ in
    let h : Fine (costs w pts ks e) e n c = rw q f in
    let i = h (omega arith) in
    ((i.0.0, cut_in w pts ks e c.cut i.1.0), (i.1.1, i.0.1))

pub within-small : (n : ℕ) (ks : List ℕ) → n ≤ tree_bound → Within n ks → Small pair_bound ks
within-small n ks h w = record { small = λ i. omega (arith, (w.ends i).0, (w.ends i).1) }

-- pruning adds no edge
pub pruned-few : (pin ks : List ℕ) (e : ℕ) → (prune pin ks e).size ≤ e
unfolding prune
pruned-few pin ks zero = omega arith
pruned-few pin ks (suc e) =
    by (eqb (first_loose pin ks (suc e)) (suc e)) (λ t. rw (prune, t) (omega arith))
    (λ t. rw (prune, t) (omega (arith, pruned-few pin (closed (first_loose pin ks (suc e)) e ks) e)))

pub pruned-within : (n : ℕ) (pin ks : List ℕ) (e : ℕ) → Within n ks → Within n (prune pin ks e).keys
unfolding prune
pruned-within n pin ks zero w = w
pruned-within n pin ks (suc e) w =
    by (eqb (first_loose pin ks (suc e)) (suc e)) (λ t. rw (prune, t) w)
    (λ t. rw (prune, t) (pruned-within n pin (closed (first_loose pin ks (suc e)) e ks) e
    (within-closed n (first_loose pin ks (suc e)) e ks w)))

pub after-pruning : (pins : List Place) (pts : List ℤ) (n : ℕ) (ks : List ℕ) (e k : ℕ) (ls : List ℕ) (f : ℕ)
    → row ls f ≡ (pruned pins (tree pts n ks e)).edges → Within k ks → (f ≤ e) × Within k ls
unfolding pruned
after-pruning pins pts n ks e k ls f h w = (
  rw (ap (λ (r : Row). r.size) h) (pruned-few (marks pins pts n) ks e),
  rw (ap (λ (r : Row). r.keys) h) (pruned-within k (marks pins pts n) ks e w),
)
