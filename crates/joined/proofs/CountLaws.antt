-- Two counts: to join all points takes at least one pair fewer than there are points, and a forest has at most so many pairs. Both by
-- contracting the first pair: its second end is renamed to the first, which takes one point and one pair away.
-- Assumes nothing.
use mathlib.Core.Path.{◌≡◌, refl, sym, ◌∙◌}
use mathlib.Core.Logic.{inl, inr}
use mathlib.Core.List.Memᴰ
use mathlib.Core.List.{List, [], ◌∷◌, map}
use Prim.Native.Nat.{ℕ, zero, suc, ◌≤◌}
use native.Mathlib.Omega.{arith}
use lib.ListN.{length, length-map}
use Rattle.lists.specs.Member.{◌∈◌, here, there, Once, rest}
use Rattle.lists.proofs.TestLaws.{either}
use Rattle.lists.proofs.MemberLaws.{length_rest, rest-or, rest_in, rest-once, rest-gone, is-in}
use Rattle.lists.proofs.MapLaws.{in_map, of_map}
use Rattle.joined.specs.Joined.{Joined, stay, step, Joins, Inside, Across, beside, forwards, backwards}
use Rattle.joined.specs.Labels.{renamed}
use Rattle.joined.specs.Tree.{Forest}
use Rattle.joined.proofs.JoinedLaws.{one, cast, then, back, between, carried, through, older, by-none, without-first, firsts}
use Rattle.joined.proofs.JoinedLaws.{seconds}
use Rattle.joined.proofs.LabelLaws.{Renames, hit, miss, renames, renamed-hit, renamed-miss, renamed-fix}

-- Contraction of the pair of a and b: b is renamed to a

module _ {A : Type 0} (same : Discrete A) (a b : A) where
  abbrev into : A → A
  into = renamed same a b

  abbrev both : A × A → A × A
  both e = (into e.0, into e.1)

  contract : (T : List (A × A)) {x y : A} → Joined ((a, b) ∷ T) x y → Joined (map both T) (into x) (into y)
  contract T j = carried into pairs j
    where
      pairs : (c d : A) → (c, d) ∈ ((a, b) ∷ T) → Joined (map both T) (into c) (into d)
      pairs c d (here e) = stay (renamed-fix same a b c (firsts e) ∙ sym (renamed-hit same a b d (seconds e)))
      pairs c d (there m) = one (inl (in_map both m))

  -- a point and what it is renamed to are joined by the pair
  back_to : (T : List (A × A)) (x : A) → Joined ((a, b) ∷ T) (into x) x
  back_to T x = at (renames same a b x)
    where
      at : Renames same a b x → Joined ((a, b) ∷ T) (into x) x
      at (hit e r) = cast r (step (inl (here refl)) (stay (sym e)))
      at (miss e r) = stay r

  expand : (T : List (A × A)) {x y : A} → Joined (map both T) x y → Joined ((a, b) ∷ T) x y
  expand T j = through pairs j
    where
      pairs : (c d : A) → (c, d) ∈ map both T → Joined ((a, b) ∷ T) c d
      pairs c d m =
          let s = of_map both T m in
          between (firsts s.is) (seconds s.is)
          (then (back_to T s.entry.0) (step (inl (there s.stands)) (back (back_to T s.entry.1))))

  -- the contracted pairs are a forest, where they were one with the pair in front
  contract-forest : (T : List (A × A)) → (Joined T a b → ⊥) → Forest T → Forest (map both T)
  contract-forest [] n f = tt
  contract-forest (e ∷ T) n f =
      (λ j. at (without-first (back-between (expand T j))), contract-forest T (λ j. n (older j)) f.1)
    where
      back-between : Joined ((a, b) ∷ T) (into e.0) (into e.1) → Joined ((a, b) ∷ T) e.0 e.1
      back-between j = then (back (back_to T e.0)) (then j (back_to T e.1))

      over : {x y u v : A} → Joined T x u → Joined T v y → Joined (e ∷ T) u v → Joined (e ∷ T) x y
      over i k l = then (older i) (then l (older k))

      at : Across T a b e.0 e.1 → ⊥
      at (beside j) = f.0 j
      at (forwards i k) = n (over (back i) (back k) (one (inl (here refl))))
      at (backwards i k) = n (over k i (one (inr (here refl))))

  contract-inside : (X : List A) (T : List (A × A)) → Inside X T → (m : b ∈ X) → a ∈ rest m → Inside (rest m) (map both T)
  contract-inside X T s m i c d k =
      let r = of_map both T k in
      let h = s r.entry.0 r.entry.1 r.stands in
      (Memᴰ.cast (firsts r.is) (stays r.entry.0 h.0), Memᴰ.cast (seconds r.is) (stays r.entry.1 h.1))
    where
      stays : (x : A) → x ∈ X → into x ∈ rest m
      stays x k = at (renames same a b x)
        where
          at : Renames same a b x → into x ∈ rest m
          at (hit e r) = Memᴰ.cast r i
          at (miss e r) = Memᴰ.cast r (either (λ q. absurd (e q)) (λ j. j) (rest-or m k))

-- The two counts

module _ {A : Type 0} (same : Discrete A) where
  -- by none: at most one point
  alone : (X : List A) → Once X → Joins X [] → length X ≤ 1
  alone [] o j = omega arith
  alone (x ∷ []) o j = omega arith
  alone (x ∷ (y ∷ X)) o j = absurd (o.0 (here (by-none (j x y (here refl) (there (here refl))))))

  -- the points but for b are joined by the contracted pairs
  fewer : (a b : A) (X : List A) (T : List (A × A)) → (b ∈ X → ⊥) → Joins X ((a, b) ∷ T) → Joins X (map (both same a b) T)
  fewer a b X T n j x y i k = between (sym (stays x i)) (sym (stays y k)) (contract same a b T (j x y i k))
    where
      stays : (x : A) → x ∈ X → renamed same a b x ≡ x
      stays x i = renamed-miss same a b x (λ e. n (Memᴰ.cast (sym e) i))

  -- one pair fewer
  less : (a b : A) (T : List (A × A)) {n : ℕ} → suc (length T) ≡ suc n → length (map (both same a b) T) ≡ n
  less a b T e = length-map T (both same a b) ∙ omega arith

  enough-at : (n : ℕ) (X : List A) (T : List (A × A)) → length T ≡ n → Once X → Joins X T → length X ≤ suc n
  enough-at zero X [] s o j = alone X o j
  enough-at (suc n) X [] s o j = omega arith
  enough-at zero X (e ∷ T) s o j = omega arith
  enough-at (suc n) X (e ∷ T) s o j =
      at
      (λ Y p h i. enough-at n Y (map (both same e.0 e.1) T) (less e.0 e.1 T s) p (fewer e.0 e.1 Y T h i))
      (is-in same e.1 X)
    where
      at : ((Y : List A) → Once Y → (e.1 ∈ Y → ⊥) → Joins Y (e ∷ T) → length Y ≤ suc n) → Dec (e.1 ∈ X) → length X ≤ suc (suc n)
      at ih (yes m) =
          let others : Joins (rest m) (e ∷ T) = λ x y i k. j x y (rest_in m i) (rest_in m k) in
          omega (arith, length_rest m, ih (rest m) (rest-once m o) (rest-gone m o) others)
      at ih (no m) = omega (arith, ih X o m j)

  pub enough : {X : List A} {T : List (A × A)} → Once X → Joins X T → length X ≤ suc (length T)
  enough {X} {T} o j = enough-at (length T) X T refl o j

  at-most-at : (n : ℕ) (X : List A) (T : List (A × A)) → length T ≡ n → Inside X T → Forest T → (x : A) → x ∈ X → suc n ≤ length X
  at-most-at zero X T s i f x m = omega (arith, length_rest m)
  at-most-at (suc n) X [] s i f x m = omega arith
  at-most-at (suc n) X (e ∷ T) s i f x m =
      let ih = at-most-at n (rest b) (map (both same e.0 e.1) T) (less e.0 e.1 T s) inside forest e.0 a in
      omega (arith, length_rest b)
    where
      b : e.1 ∈ X
      b = (i e.0 e.1 (here refl)).1

      a : e.0 ∈ rest b
      a = either (λ q. absurd (f.0 (stay q))) (λ k. k) (rest-or b (i e.0 e.1 (here refl)).0)

      inside : Inside (rest b) (map (both same e.0 e.1) T)
      inside = contract-inside same e.0 e.1 X T (λ c d k. i c d (there k)) b a

      forest : Forest (map (both same e.0 e.1) T)
      forest = contract-forest same e.0 e.1 T f.0 f.1

  pub at_most : {X : List A} {T : List (A × A)} → Inside X T → Forest T → {x : A} → x ∈ X → suc (length T) ≤ length X
  at_most {X} {T} s f {x} m = at-most-at (length T) X T refl s f x m
