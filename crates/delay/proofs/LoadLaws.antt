-- Loads by place do not depend on the order of the pins, where no two are at one place; and delays depend on loads by their values only.
-- Assumes nothing.
use mathlib.Core.Path.{◌≡◌, refl, sym, ap, ap₂, ◌∙◌}
use mathlib.Core.Bool.{Bool, true, cond}
use mathlib.Core.List.Memᴰ
use mathlib.Core.List.{List, [], ◌∷◌, ◌++◌, map}
use Prim.Native.Nat.{ℕ}
use lib.IntN.{ℤ}
use lib.Ieee.{Float}
use Rattle.lists.specs.Member.{◌∈◌, here, there, Among, Once}
use Rattle.lists.proofs.TestLaws.{by}
use Rattle.lists.proofs.MemberLaws.{is-in}
use Rattle.lists.proofs.MapLaws.{in_map, of_map}
use Rattle.signed.specs.Sides.{up}
use Rattle.plane.specs.declared.Place.{Place}
use Rattle.plane.specs.Place.{same_place}
use Rattle.plane.proofs.PlaceLaws.{same_true, same_refl}
use Rattle.plane.proofs.PlaceOrder.{place_same}
use Rattle.floats.specs.declared.Technology.{Technology}
use Rattle.floats.specs.Float.{whole}
use Rattle.elmore.specs.Rooted.{Branches, none, branch}
use Rattle.elmore.specs.Elmore.{with_child, child_delay, edge_resistance, edge_capacitance, gathered, delay_of_child, delays}
use Rattle.delay.specs.Load.{load_of}

-- Loads by place

abbrev places_in : List (Place × ℤ) → List Place
places_in l = map (λ (x : Place × ℤ). x.0) l

no-load : (l : List (Place × ℤ)) (q : Place) → (q ∈ places_in l → ⊥) → load_of l q ≡ 0
unfolding load_of
no-load [] q n = refl
no-load (x ∷ l) q n =
    by (same_place x.0 q)
    (λ s. absurd (n (here (sym (same_true x.0 q s)))))
    (λ s. ap (λ (b : Bool). cond b (up x.1) (load_of l q)) s ∙ no-load l q (λ m. n (there m)))

its-load : (l : List (Place × ℤ)) → Once (places_in l) → (x : Place × ℤ) → x ∈ l → load_of l x.0 ≡ up x.1
unfolding load_of
its-load [] o x x4 = elim x4 [ ]
its-load (y ∷ l) o x (here e) =
    let z : x.0 ≡ y.0 = ap (λ (w : Place × ℤ). w.0) e in
    let s : same_place y.0 x.0 ≡ true = ap (same_place y.0) z ∙ same_refl y.0 in
    ap (λ (b : Bool). cond b (up y.1) (load_of l x.0)) s ∙ ap (λ (w : Place × ℤ). up w.1) (sym e)
its-load (y ∷ l) o x (there m) =
    by (same_place y.0 x.0)
    (λ s. absurd (o.0 (Memᴰ.cast (same_true y.0 x.0 s) (in_map (λ (w : Place × ℤ). w.0) m))))
    (λ s. ap (λ (b : Bool). cond b (up y.1) (load_of l x.0)) s ∙ its-load l o.1 x m)

-- the same pins with the same loads, in whatever order
pub loads-same : (l m : List (Place × ℤ)) → Once (places_in l) → Once (places_in m) → Among l m → Among m l
    → (q : Place) → load_of l q ≡ load_of m q
loads-same l m o r h k q = at (is-in place_same q (places_in l))
  where
    back : q ∈ places_in m → q ∈ places_in l
    back i = let s = of_map (λ (w : Place × ℤ). w.0) m i in Memᴰ.cast s.is (in_map (λ (w : Place × ℤ). w.0) (k s.entry s.stands))

    at : Dec (q ∈ places_in l) → load_of l q ≡ load_of m q
    at (no n) = no-load l q n ∙ sym (no-load m q (λ i. n (back i)))
    at (yes i) =
        let s = of_map (λ (w : Place × ℤ). w.0) l i in
        ap (load_of l) s.is ∙ its-load l o s.entry s.stands
        ∙ sym (ap (load_of m) s.is ∙ its-load m r s.entry (h s.entry s.stands))

-- Delays by equal loads

module _ {A : Type 0} (apart : A → A → ℕ) (load load' : A → ℕ) (t : Technology) (h : (a : A) → load a ≡ load' a) where
  gathered-load : (b : Branches A) (p : A) (s : Float) → gathered apart load t p s b ≡ gathered apart load' t p s b
  unfolding gathered
  gathered-load none p s = refl
  gathered-load (branch c below beside) p s =
      gathered-load beside p (with_child s (gathered apart load t c (whole (load c)) below) (edge_capacitance apart load t p c))
      ∙ ap (λ (x : Float). gathered apart load' t p (with_child s x (edge_capacitance apart load t p c)) beside)
      (gathered-load below c (whole (load c)) ∙ ap (λ (n : ℕ). gathered apart load' t c (whole n) below) (h c))

  pub delays-load : (b : Branches A) (p : A) (d : Float) → delays apart load t p d b ≡ delays apart load' t p d b
  unfolding delays
  delays-load none p d = refl
  delays-load (branch c below beside) p d =
      let one : delay_of_child apart load t p d c below ≡ delay_of_child apart load' t p d c below =
      ap (child_delay d (edge_resistance apart load t p c) (edge_capacitance apart load t p c))
      (gathered-load below c (whole (load c)) ∙ ap (λ (n : ℕ). gathered apart load' t c (whole n) below) (h c)) in
      ap₂ (λ (x : A × Float) (l : List (A × Float)). x ∷ l) (ap (λ (x : Float). (c, x)) one)
      (ap₂ (λ (k l : List (A × Float)). k ++ l)
      (delays-load below c (delay_of_child apart load t p d c below) ∙ ap (λ (x : Float). delays apart load' t c x below) one)
      (delays-load beside p d))
