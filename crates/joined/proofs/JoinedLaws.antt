-- Joined is an equivalence, and what carries pairs over carries joined points over: `carried`. More pairs join more, a test that is the
-- same at both ends of each pair is the same on joined points, and one pair less leaves three cases, each by one use of it.
-- Assumes nothing.
use mathlib.Core.Path.{◌≡◌, refl, sym, ap, ◌∙◌}
use mathlib.Core.Logic.{inl, inr}
use mathlib.Core.List.Memᴰ
use mathlib.Core.List.{List, [], ◌∷◌}
use Rattle.lists.specs.Member.{◌∈◌, here, there, Among, rest}
use Rattle.lists.proofs.TestLaws.{either}
use Rattle.lists.proofs.MemberLaws.{rest-or}
use Rattle.joined.specs.Joined.{Link, Joined, stay, step, Inside, Across, beside, forwards, backwards}

-- the two parts of equal pairs
module _ {A B : Type 0} {a c : A} {b d : B} (e : ◌≡◌ {A = A × B} (a, b) (c, d)) where
  pub firsts : a ≡ c
  firsts = ap (λ (p : A × B). p.0) e

  pub seconds : b ≡ d
  seconds = ap (λ (p : A × B). p.1) e

-- An equivalence

module _ {A : Type 0} {L : List (A × A)} where
  pub turn : {x y : A} → Link L x y → Link L y x
  turn (inl m) = inr m
  turn (inr m) = inl m

  pub one : {x y : A} → Link L x y → Joined L x y
  one l = step l (stay refl)

  pub cast : {x y z : A} → x ≡ y → Joined L y z → Joined L x z
  cast e (stay f) = stay (e ∙ f)
  cast e (step l j) = rw e (step l j)

  pub then : {x y z : A} → Joined L x y → Joined L y z → Joined L x z
  then (stay e) k = cast e k
  then (step l j) k = step l (then j k)

  pub back : {x y : A} → Joined L x y → Joined L y x
  back (stay e) = stay (sym e)
  back (step l j) = then (back j) (one (turn l))

  -- joined, by ends that are equal to those in hand
  pub between : {x y a b : A} → x ≡ a → y ≡ b → Joined L a b → Joined L x y
  between e f j = cast e (then j (stay (sym f)))

  -- a point that is joined with another one has a link
  pub has-link : {x y : A} → (x ≡ y → ⊥) → Joined L x y → (z : A) × Link L x z
  has-link n (stay e) = absurd (n e)
  has-link n (step {y = z} l j) = (z, l)

-- What carries pairs over

pub carried : {A B : Type 0} {L : List (A × A)} {M : List (B × B)} (f : A → B) → ((a b : A) → (a, b) ∈ L → Joined M (f a) (f b)) →
    {x y : A} → Joined L x y → Joined M (f x) (f y)
carried f h (stay e) = stay (ap f e)
carried f h (step (inl m) j) = then (h _ _ m) (carried f h j)
carried f h (step (inr m) j) = then (back (h _ _ m)) (carried f h j)

pub constant : {A B : Type 0} {L : List (A × A)} (f : A → B) → ((a b : A) → (a, b) ∈ L → f a ≡ f b) →
    {x y : A} → Joined L x y → f x ≡ f y
constant f h (stay e) = ap f e
constant f h (step (inl m) j) = h _ _ m ∙ constant f h j
constant f h (step (inr m) j) = sym (h _ _ m) ∙ constant f h j

module _ {A : Type 0} where
  -- pairs whose ends another list joins
  pub through : {L M : List (A × A)} → ((a b : A) → (a, b) ∈ L → Joined M a b) → {x y : A} → Joined L x y → Joined M x y
  through h j = carried (λ x. x) h j

  pub more : {L M : List (A × A)} → Among L M → {x y : A} → Joined L x y → Joined M x y
  more h j = through (λ a b m. one (inl (h (a, b) m))) j

  -- one pair more at the head
  pub older : {e : A × A} {L : List (A × A)} {x y : A} → Joined L x y → Joined (e ∷ L) x y
  older j = more (λ p m. there m) j

  pub by-none : {x y : A} → Joined [] x y → x ≡ y
  by-none j = constant (λ x. x) (λ a b m. elim m [ ]) j

  pub joined-inside : {X : List A} {L : List (A × A)} → Inside X L → {x y : A} → Joined L x y → x ∈ X → y ∈ X
  joined-inside s (stay e) i = Memᴰ.cast (sym e) i
  joined-inside s (step (inl m) j) i = joined-inside s j (s _ _ m).1
  joined-inside s (step (inr m) j) i = joined-inside s j (s _ _ m).0

  -- a point counted once more than needed
  pub inside-known : {X : List A} {L : List (A × A)} {x : A} → x ∈ X → Inside (x ∷ X) L → Inside X L
  inside-known {X} {x = x} i s a b m = let h = s a b m in (known h.0, known h.1)
    where
      known : {y : A} → y ∈ (x ∷ X) → y ∈ X
      known k = either (λ e. Memᴰ.cast e i) (λ j. j) (Memᴰ.cases_cons k)

-- One pair less

module _ {A : Type 0} {L : List (A × A)} {v w : A} (m : (v, w) ∈ L) where
  pub without : {x y : A} → Joined L x y → Across (rest m) v w x y
  without (stay e) = beside (stay e)
  without (step {x = x} {y = y} {z = z} l j) = at l (without j)
    where
      kept : Link (rest m) x y → Across (rest m) v w y z → Across (rest m) v w x z
      kept l (beside k) = beside (step l k)
      kept l (forwards k i) = forwards (step l k) i
      kept l (backwards k i) = backwards (step l k) i

      taken : x ≡ v → y ≡ w → Across (rest m) v w y z → Across (rest m) v w x z
      taken e f (beside k) = forwards (stay e) (cast (sym f) k)
      taken e f (forwards k i) = forwards (stay e) i
      taken e f (backwards k i) = beside (cast e i)

      turned : x ≡ w → y ≡ v → Across (rest m) v w y z → Across (rest m) v w x z
      turned e f (beside k) = backwards (stay e) (cast (sym f) k)
      turned e f (forwards k i) = beside (cast e i)
      turned e f (backwards k i) = backwards (stay e) i

      at : Link L x y → Across (rest m) v w y z → Across (rest m) v w x z
      at (inl k) r = either (λ e. taken (firsts e) (seconds e) r) (λ i. kept (inl i) r) (rest-or m k)
      at (inr k) r = either (λ e. turned (seconds e) (firsts e) r) (λ i. kept (inr i) r) (rest-or m k)

  -- where the others join its ends, they join whatever the list joins
  pub around : Joined (rest m) v w → {x y : A} → Joined L x y → Joined (rest m) x y
  around j k = through (λ a b i. either (λ e. between (firsts e) (seconds e) j) (λ r. one (inl r)) (rest-or m i)) k

-- one pair less at the head
pub without-first : {A : Type 0} {L : List (A × A)} {v w x y : A} → Joined ((v, w) ∷ L) x y → Across L v w x y
unfolding rest
without-first j = without (here refl) j
