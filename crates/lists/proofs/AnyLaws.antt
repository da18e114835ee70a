-- A scan of a list for an entry that passes a test: what is found, what is passed over, the end; and what it means that none passes.
-- The position of a scan is the list that is left, `drop i xs`.
-- Assumes nothing.
use mathlib.Core.Path.{◌≡◌, refl, ap₂}
use mathlib.Core.Bool.{Bool, true, false, ◌||◌}
use mathlib.Core.List.Memᴰ
use mathlib.Core.List.{List, [], ◌∷◌, Memᴰ}
use Rattle.lists.specs.Any.{any, any_two, NoTwo}
use Rattle.lists.proofs.TestLaws.{either, or-none, or-neither}

-- `left` begins with x, and `rest` is what follows
module _ {A : Type 0} (f : A → Bool) (left : List A) (x : A) (rest : List A) (at : left ≡ x ∷ rest) where
  pub any-hit : f x ≡ true → any f left ≡ true
  unfolding any
  any-hit e = rw (at, e) refl

  pub any-miss : f x ≡ false → any f left ≡ any f rest
  unfolding any
  any-miss e = rw (at, e) refl

pub any-end : {A : Type 0} (f : A → Bool) (left : List A) → left ≡ [] → any f left ≡ false
unfolding any
any-end f left e = rw e refl

module _ {A : Type 0} (f : A → A → Bool) (left : List A) (x : A) (rest : List A) (at : left ≡ x ∷ rest) where
  pub two-hit : any (f x) rest ≡ true → any_two f left ≡ true
  unfolding any_two
  two-hit e = rw (at, e) refl

  pub two-miss : any (f x) rest ≡ false → any_two f left ≡ any_two f rest
  unfolding any_two
  two-miss e = rw (at, e) refl

pub two-end : {A : Type 0} (f : A → A → Bool) (left : List A) → left ≡ [] → any_two f left ≡ false
unfolding any_two
two-end f left e = rw e refl

-- no entry passes: said of each member
pub any_none : {A : Type 0} (f : A → Bool) (xs : List A) → any f xs ≡ false → (x : A) → Memᴰ x xs → f x ≡ false
unfolding any
any_none {A = A} f [] e x m = elim m [ ]
any_none f (y ∷ ys) e x m =
    let r = or-none (f y) (any f ys) e in
    either (λ k. rw k r.0) (λ i. any_none f ys r.1 x i) (Memᴰ.cases_cons m)

pub none_any : {A : Type 0} (f : A → Bool) (xs : List A) → ((x : A) → Memᴰ x xs → f x ≡ false) → any f xs ≡ false
unfolding any
none_any f [] h = refl
none_any f (y ∷ ys) h =
    or-neither (f y) (any f ys) (h y (Memᴰ.head refl)) (none_any f ys (λ x i. h x (Memᴰ.tail i)))

pub two_none : {A : Type 0} (f : A → A → Bool) (xs : List A) → any_two f xs ≡ false → NoTwo f xs
unfolding any_two
two_none f [] e = tt
two_none f (y ∷ ys) e =
    let r = or-none (any (f y) ys) (any_two f ys) e in
    (any_none (f y) ys r.0, two_none f ys r.1)

pub none-two : {A : Type 0} (f : A → A → Bool) (xs : List A) → NoTwo f xs → any_two f xs ≡ false
unfolding any_two
none-two f [] h = refl
none-two f (y ∷ ys) h = or-neither (any (f y) ys) (any_two f ys) (none_any (f y) ys h.0) (none-two f ys h.1)

-- tests that agree find the same
pub any-agree : {A : Type 0} (f g : A → Bool) → ((x : A) → f x ≡ g x) → (xs : List A) → any f xs ≡ any g xs
unfolding any
any-agree f g h [] = refl
any-agree f g h (x ∷ xs) = ap₂ ◌||◌ (h x) (any-agree f g h xs)
