-- The image of a list under a map: what stands in it and where that comes from, positions and repeats carried over.
-- Assumes nothing.
use mathlib.Core.Path.{◌≡◌, refl, ap, ap₂}
use mathlib.Core.List.Memᴰ
use mathlib.Core.List.{List, [], ◌∷◌, map, reverse, reverse_aux}
use Prim.Native.Nat.{ℕ, zero, suc, ◌<◌}
use native.Mathlib.Omega.{arith}
use lib.ListN.{length, get_or}
use Rattle.lists.specs.Member.{◌∈◌, here, there, Among, Once, rest}
use Rattle.lists.proofs.TestLaws.{either}

module _ {A B : Type 0} (f : A → B) where
  pub in_map : {x : A} {l : List A} → x ∈ l → f x ∈ map f l
  in_map (here e) = here (ap f e)
  in_map (there m) = there (in_map m)

  -- where an entry of the image comes from
  pub record Source (l : List A) (y : B) : Type 0 where
    pub entry : A
    pub stands : entry ∈ l
    pub is : y ≡ f entry

  pub of_map : (l : List A) {y : B} → y ∈ map f l → Source l y
  of_map [] m = elim m [ ]
  of_map (x ∷ l) m = either (λ e. record { entry = x; stands = here refl; is = e }) (λ i. further (of_map l i)) (Memᴰ.cases_cons m)
    where
      further : {y : B} → Source l y → Source (x ∷ l) y
      further s = record { entry = s.entry; stands = there s.stands; is = s.is }

  -- a position struck out before or after
  pub map-rest : {x : A} {l : List A} (m : x ∈ l) → rest (in_map m) ≡ map f (rest m)
  unfolding rest in_map
  map-rest (here e) = refl
  map-rest (there {x = y} m) = ap (λ (k : List B). f y ∷ k) (map-rest m)

  pub map-among : (l m : List A) → Among l m → Among (map f l) (map f m)
  map-among l m h y i = let s = of_map l i in Memᴰ.cast s.is (in_map (h s.entry s.stands))

  pub get_d_map : (l : List A) (i : ℕ) (d : A) (c : B) → i < length l → get_or (map f l) i c ≡ f (get_or l i d)
  get_d_map [] i d c h = absurd (let z : ⊥ = omega arith in z)
  get_d_map (x ∷ l) zero d c h = refl
  get_d_map (x ∷ l) (suc i) d c h = get_d_map l i d c (omega arith)

  -- a map under which different entries stay different
  pub map-once : (l : List A) → ((x y : A) → x ∈ l → y ∈ l → f x ≡ f y → x ≡ y) → Once l → Once (map f l)
  map-once [] h o = tt
  map-once (x ∷ l) h o = (λ m. twice (of_map l m), map-once l (λ y z i k. h y z (there i) (there k)) o.1)
    where
      twice : Source l (f x) → ⊥
      twice s = o.0 (Memᴰ.cast (h x s.entry (here refl) (there s.stands) s.is) s.stands)

-- The list turned round

module _ {A B : Type 0} (f : A → B) where
  map_turned : (l m : List A) → map f (reverse_aux l m) ≡ reverse_aux (map f l) (map f m)
  map_turned [] m = refl
  map_turned (x ∷ l) m = map_turned l (x ∷ m)

  pub map-reverse : (l : List A) → map f (reverse l) ≡ reverse (map f l)
  map-reverse l = map_turned l []

-- Two maps, one after the other

module _ {A B C : Type 0} (f : A → B) (h : B → C) (k : A → C) where
  pub map-then : (l : List A) → ((x : A) → x ∈ l → h (f x) ≡ k x) → map h (map f l) ≡ map k l
  map-then [] e = refl
  map-then (x ∷ l) e = ap₂ (λ (y : C) (m : List C). y ∷ m) (e x (here refl)) (map-then l (λ y m. e y (there m)))

-- the second undoes the first on the entries
pub map-undone : {A B : Type 0} (f : A → B) (h : B → A) (l : List A) → ((x : A) → x ∈ l → h (f x) ≡ x) → map h (map f l) ≡ l
map-undone f h [] e = refl
map-undone {A} f h (x ∷ l) e = ap₂ (λ (y : A) (m : List A). y ∷ m) (e x (here refl)) (map-undone f h l (λ y m. e y (there m)))

-- A map that is given for the entries alone

module _ {A B : Type 0} where
  unfoldable pub map_in : (l : List A) → ((x : A) → x ∈ l → B) → List B
  map_in [] f = []
  map_in (x ∷ l) f = f x (here refl) ∷ map_in l (λ y m. f y (there m))

  pub map_in-then : {C : Type 0} (h : B → C) (k : A → C) (l : List A) (f : (x : A) → x ∈ l → B) →
      ((x : A) (m : x ∈ l) → h (f x m) ≡ k x) → map h (map_in l f) ≡ map k l
  unfolding map_in
  map_in-then h k [] f e = refl
  map_in-then {C} h k (x ∷ l) f e =
      ap₂ (λ (y : C) (m : List C). y ∷ m) (e x (here refl)) (map_in-then h k l (λ y m. f y (there m)) (λ y m. e y (there m)))

  -- what stands in its image, and where that comes from
  pub map_in-has : (l : List A) (f : (x : A) → x ∈ l → B) (x : A) → x ∈ l → (y : A) × ((m : y ∈ l) × ((x ≡ y) × (f y m ∈ map_in l f)))
  unfolding map_in
  map_in-has [] f x x3 = elim x3 [ ]
  map_in-has (y ∷ l) f x (here e) = (y, (here refl, (e, here refl)))
  map_in-has (y ∷ l) f x (there m) =
      let r = map_in-has l (λ z i. f z (there i)) x m in
      (r.0, (there r.1.0, (r.1.1.0, there r.1.1.1)))

  pub map_in-of : (l : List A) (f : (x : A) → x ∈ l → B) (c : B) → c ∈ map_in l f → (x : A) × ((m : x ∈ l) × (c ≡ f x m))
  unfolding map_in
  map_in-of [] f c i = elim i [ ]
  map_in-of (y ∷ l) f c i =
      either (λ e. (y, (here refl, e)))
      (λ k. let r = map_in-of l (λ z j. f z (there j)) c k in (r.0, (there r.1.0, r.1.1)))
      (Memᴰ.cases_cons i)
