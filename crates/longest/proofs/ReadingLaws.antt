-- The entries of the table of longest edges after a point is hung on: its row, its column, and all others.
-- Assumes nothing.
use mathlib.Core.Path.{◌≡◌, refl, ap, ◌∙◌}
use mathlib.Core.List.{List, [], ◌∷◌}
use Prim.Native.Nat.{ℕ, zero, suc, ◌+◌, ◌≤◌, ◌<◌}
use native.Mathlib.Omega.{arith}
use native.Mathlib.Decide.{dec_le}
use lib.ListN.{length, get_or, set, length-set}
use Rattle.longest.specs.Longest.{longer, no_edge, spread, spreads}
use Rattle.tree.specs.Table.{key, pair_bound, tree_bound}
use Rattle.lists.specs.Turns.{turns}
use Rattle.lists.proofs.TurnLaws.{turns-below}

other : (xs : List ℕ) (i j x : ℕ) → (i ≡ j → ⊥) → get_or (set xs i x) j 0 ≡ get_or xs j 0
other [] i j x h = refl
other (y ∷ ys) zero zero x h = absurd (h refl)
other (y ∷ ys) zero (suc j) x h = refl
other (y ∷ ys) (suc i) zero x h = refl
other (y ∷ ys) (suc i) (suc j) x h = other ys i j x (λ e. h (ap suc e))

here : (xs : List ℕ) (i x : ℕ) → i < length xs → get_or (set xs i x) i 0 ≡ x
here [] i x h = absurd (let z : ⊥ = omega arith in z)
here (y ∷ ys) zero x h = refl
here (y ∷ ys) (suc i) x h = here ys i x (omega arith)

apart : (a b c d : ℕ) → b < tree_bound → d < tree_bound → (a ≡ c → ⊥) → key a b ≡ key c d → ⊥
apart a b c d h i n e = n (omega arith)

low_part : (a b c d : ℕ) → b < tree_bound → d < tree_bound → key a b ≡ key c d → b ≡ d
low_part a b c d h i e = omega arith

module _ (el : List ℕ) (v p k : ℕ) (hv : v < tree_bound) where
  -- ways middle_place other points stay
  still : (w : ℕ) (t : List ℕ) (x y : ℕ) → w < tree_bound → y < tree_bound → (v ≡ x → ⊥) → (v ≡ y → ⊥)
      → get_or (spread el v p k w t) (key x y) 0 ≡ get_or t (key x y) 0
  unfolding spread
  still w t x y hw hy nx ny =
      let z = longer el (get_or t (key p w) 0) k in
      other (set t (key v w) z) (key w v) (key x y) z (λ e. ny (low_part w v x y hv hy e))
      ∙ other t (key v w) (key x y) z (apart v w x y hw hy nx)

  pub untouched : (n : ℕ) (t : List ℕ) (x y : ℕ) → n ≤ tree_bound → y < tree_bound → (v ≡ x → ⊥) → (v ≡ y → ⊥)
      → get_or (spreads el n v p k t) (key x y) 0 ≡ get_or t (key x y) 0
  unfolding spreads
  untouched n t x y h hy nx ny =
      other (turns (spread el v p k) 0 n t) (key v v) (key x y) no_edge (apart v v x y hv hy nx)
      ∙ turns-below (spread el v p k) (λ s. get_or s (key x y) 0 ≡ get_or t (key x y) 0) tree_bound (λ w s hw q. still w s x y hw hy nx ny ∙ q)
      n 0 t
      (omega arith) refl

  -- the row of v: as from p, or the new edge
  -- once a turn has written v's entry for y, later turns leave it
  settled : (n i : ℕ) (t : List ℕ) (y : ℕ) → i + n ≤ tree_bound → y < i → (v ≡ y → ⊥) → get_or (turns (spread el v p k) i n t) (key v y) 0
      ≡ get_or t (key v y) 0
  unfolding turns spread
  settled zero i t y b h ny = refl
  settled (suc n) i t y b h ny =
      let x = longer el (get_or t (key p i) 0) k in
      settled n (suc i) (set (set t (key v i) x) (key i v) x) y (omega arith) (omega arith) ny
      ∙ other (set t (key v i) x) (key i v) (key v y) x (λ e. ny (low_part i v v y hv (omega arith) e))
      ∙ other t (key v i) (key v y) x (λ e. let q : i ≡ y = low_part v i v y (omega arith) (omega arith) e in let z : ⊥ = omega arith in z)

  pub row-of : (n i : ℕ) (t : List ℕ) (y : ℕ) → i + n ≤ tree_bound → length t ≡ pair_bound → (v ≡ p → ⊥) → (v ≡ y → ⊥) → i ≤ y → y < i + n
      → get_or (turns (spread el v p k) i n t) (key v y) 0 ≡ longer el (get_or t (key p y) 0) k
  unfolding turns spread
  row-of zero i t y b l np ny h g = absurd (let z : ⊥ = omega arith in z)
  row-of (suc n) i t y b l np ny h g = pick (λ j. row-of n (suc i) next y (omega arith) (sized ∙ l) np ny (omega arith) (omega arith))
      (dec_le y i)
    where
      x : ℕ
      x = longer el (get_or t (key p i) 0) k

      next : List ℕ
      next = set (set t (key v i) x) (key i v) x

      sized : length next ≡ length t
      sized = length-set (set t (key v i) x) (key i v) x ∙ length-set t (key v i) x

      pick : (i < y → get_or (turns (spread el v p k) (suc i) n next) (key v y) 0 ≡ longer el (get_or next (key p y) 0) k) → Dec (y ≤ i)
          → get_or (turns (spread el v p k) (suc i) n next) (key v y) 0 ≡ longer el (get_or t (key p y) 0) k
      pick ih (yes d) =
          let e : i ≡ y = omega arith in
          settled n (suc i) next y (omega arith) (omega arith) ny
          ∙ other (set t (key v i) x) (key i v) (key v y) x (λ f. ny (low_part i v v y hv (omega arith) f))
          ∙ rw (← e) (here t (key v i) x (omega arith))
      pick ih (no d) =
          let j : i < y = omega arith in
          ih j
          ∙ ap (λ (z : ℕ). longer el z k) (other (set t (key v i) x) (key i v) (key p y) x (λ f. ny (low_part i v p y hv (omega arith) f))
          ∙ other t
          (key v i) (key p y) x (apart v i p y (omega arith) (omega arith) np))

  -- the column of v, in the same way
  settled-column : (n i : ℕ) (t : List ℕ) (y : ℕ) → i + n ≤ tree_bound → y < i → (v ≡ y → ⊥) →
      get_or (turns (spread el v p k) i n t) (key y v) 0 ≡ get_or t (key y v) 0
  unfolding turns spread
  settled-column zero i t y b h ny = refl
  settled-column (suc n) i t y b h ny =
      let x = longer el (get_or t (key p i) 0) k in
      settled-column n (suc i) (set (set t (key v i) x) (key i v) x) y (omega arith) (omega arith) ny
      ∙ other (set t (key v i) x) (key i v) (key y v) x (λ e. let q : i ≡ y = omega arith in let z : ⊥ = omega arith in z)
      ∙ other t (key v i) (key y v) x (apart v i y v (omega arith) hv ny)

  pub column-of : (n i : ℕ) (t : List ℕ) (y : ℕ) → i + n ≤ tree_bound → length t ≡ pair_bound → (v ≡ p → ⊥) → (v ≡ y → ⊥) → i ≤ y → y < i
      + n →
      get_or (turns (spread el v p k) i n t) (key y v) 0 ≡ longer el (get_or t (key p y) 0) k
  unfolding turns spread
  column-of zero i t y b l np ny h g = absurd (let z : ⊥ = omega arith in z)
  column-of (suc n) i t y b l np ny h g = pick (λ j. column-of n (suc i) next y (omega arith) (sized ∙ l) np ny (omega arith)
      (omega arith)) (dec_le y i)
    where
      x : ℕ
      x = longer el (get_or t (key p i) 0) k

      next : List ℕ
      next = set (set t (key v i) x) (key i v) x

      sized : length next ≡ length t
      sized = length-set (set t (key v i) x) (key i v) x ∙ length-set t (key v i) x

      pick : (i < y → get_or (turns (spread el v p k) (suc i) n next) (key y v) 0 ≡ longer el (get_or next (key p y) 0) k) → Dec (y ≤ i) →
          get_or (turns (spread el v p k) (suc i) n next) (key y v) 0 ≡ longer el (get_or t (key p y) 0) k
      pick ih (yes d) =
          let e : i ≡ y = omega arith in
          settled-column n (suc i) next y (omega arith) (omega arith) ny
          ∙ rw (← e) (here (set t (key v i) x) (key i v) x (rw (length-set t (key v i) x, l) (omega arith)))
      pick ih (no d) =
          let j : i < y = omega arith in
          ih j
          ∙ ap (λ (z : ℕ). longer el z k)
          (other (set t (key v i) x) (key i v) (key p y) x (λ f. ny (low_part i v p y hv (omega arith) f))
          ∙ other t (key v i) (key p y) x (apart v i p y (omega arith) (omega arith) np))

  -- the whole table
  module _ (n : ℕ) (t : List ℕ) (hn : n ≤ tree_bound) (l : length t ≡ pair_bound) (np : v ≡ p → ⊥) where
    length-spreads : (c i : ℕ) (s : List ℕ) → length (turns (spread el v p k) i c s) ≡ length s
    unfolding turns spread
    length-spreads zero i s = refl
    length-spreads (suc c) i s =
        let x = longer el (get_or s (key p i) 0) k in
        length-spreads c (suc i) (set (set s (key v i) x) (key i v) x)
        ∙ (length-set (set s (key v i) x) (key i v) x ∙ length-set s (key v i) x)

    pub spreads-length : length (spreads el n v p k t) ≡ pair_bound
    unfolding spreads
    spreads-length = length-set (turns (spread el v p k) 0 n t) (key v v) no_edge ∙ length-spreads n 0 t ∙ l

    pub spreads-row : (y : ℕ) → y < n → (v ≡ y → ⊥) → get_or (spreads el n v p k t) (key v y) 0 ≡ longer el (get_or t (key p y) 0) k
    unfolding spreads
    spreads-row y h ny =
        other (turns (spread el v p k) 0 n t) (key v v) (key v y) no_edge (λ e. ny (let q : v ≡ y = omega arith in q))
        ∙ row-of n 0 t y (omega arith) l np ny (omega arith) (omega arith)

    pub spreads-column : (y : ℕ) → y < n → (v ≡ y → ⊥) → get_or (spreads el n v p k t) (key y v) 0 ≡ longer el (get_or t (key p y) 0) k
    unfolding spreads
    spreads-column y h ny =
        other (turns (spread el v p k) 0 n t) (key v v) (key y v) no_edge (apart v v y v hv hv ny)
        ∙ column-of n 0 t y (omega arith) l np ny (omega arith) (omega arith)

    pub spreads-self : get_or (spreads el n v p k t) (key v v) 0 ≡ no_edge
    unfolding spreads
    spreads-self = here (turns (spread el v p k) 0 n t) (key v v) no_edge (rw (length-spreads n 0 t, l) (omega arith))
