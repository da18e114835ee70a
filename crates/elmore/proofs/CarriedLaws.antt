-- The two passes do not depend on how points are named: what they make of a renamed tree is what they make of the tree, renamed.
-- Assumes nothing.
use Rattle.std.proofs.Common.{◌≡◌, ℕ, ◌<◌, Bool, cond, eqb, List, [], ◌∷◌, ◌++◌, map, length, get_or, set, sym, refl, ap, ◌∙◌, ap₂, length-set, get_or-set_other, get_or-set_same, eqb-true}
use mathlib.Core.List.Memᴰ
use lib.Ieee.{Float, nan}
use borrow.Author.Tests.{eqb-false}
use Rattle.lists.specs.Member.{◌∈◌, here, there}
use Rattle.lists.proofs.TestLaws.{by, either}
use Rattle.floats.specs.declared.Technology.{Technology}
use Rattle.floats.specs.Float.{whole}
use Rattle.elmore.specs.Rooted.{Branches, none, branch, sprout, renamed, Every}
use Rattle.elmore.specs.Elmore.{edge_value, with_child, child_delay, edge_capacitance, capacitance, gathered}
use Rattle.elmore.specs.Elmore.{delay_of_child, delays, delay_in}
use Rattle.elmore.specs.Table.{stored}

map-append : {A B : Type 0} (g : A → B) (l m : List A) → map g (l ++ m) ≡ map g l ++ map g m
map-append g [] m = refl
map-append {A} {B} g (x ∷ l) m = ap (λ (k : List B). g x ∷ k) (map-append g l m)

-- Renamed trees

module _ {A B : Type 0} (f : A → B) where
  pub sprout-renamed : (g : A → Branches A) (h : B → Branches B) (cs : List A) → ((c : A) → c ∈ cs → renamed f (g c) ≡ h (f c))
      → renamed f (sprout g cs) ≡ sprout h (map f cs)
  unfolding sprout renamed
  sprout-renamed g h [] e = refl
  sprout-renamed g h (c ∷ cs) e =
      ap₂ (λ (x y : Branches B). branch (f c) x y) (e c (here refl)) (sprout-renamed g h cs (λ k m. e k (there m)))

  abbrev pub named : A × Float → B × Float
  named x = (f x.0, x.1)

  module _ (apart : A → A → ℕ) (apart' : B → B → ℕ) (far : (a b : A) → apart a b ≡ apart' (f a) (f b)) (load : A → ℕ) (load' : B → ℕ)
      (t : Technology) (P : A → Type 0) (h : (a : A) → P a → load a ≡ load' (f a)) where
    gathered-renamed : (b : Branches A) → Every P b → (p : A) (s : Float)
        → gathered apart load t p s b ≡ gathered apart' load' t (f p) s (renamed f b)
    unfolding gathered renamed
    gathered-renamed none e p s = refl
    gathered-renamed (branch c below beside) e p s =
        let one : gathered apart load t c (whole (load c)) below ≡ gathered apart' load' t (f c) (whole (load' (f c))) (renamed f below) =
        gathered-renamed below e.1.0 c (whole (load c))
        ∙ ap (λ (n : ℕ). gathered apart' load' t (f c) (whole n) (renamed f below)) (h c e.0) in
        gathered-renamed beside e.1.1 p
        (with_child s (gathered apart load t c (whole (load c)) below) (edge_capacitance apart load t p c))
        ∙ ap₂ (λ (x : Float) (n : ℕ). gathered apart' load' t (f p) (with_child s x (edge_value t.capacitance n)) (renamed f beside))
        one (far p c)

    pub capacitance-renamed : (c : A) (b : Branches A) → P c → Every P b
        → capacitance apart load t c b ≡ capacitance apart' load' t (f c) (renamed f b)
    capacitance-renamed c b o e =
        gathered-renamed b e c (whole (load c)) ∙ ap (λ (n : ℕ). gathered apart' load' t (f c) (whole n) (renamed f b)) (h c o)

    pub delays-renamed : (b : Branches A) → Every P b → (p : A) (d : Float)
        → map named (delays apart load t p d b) ≡ delays apart' load' t (f p) d (renamed f b)
    unfolding delays renamed
    delays-renamed none e p d = refl
    delays-renamed (branch c below beside) e p d =
        let mine = delay_of_child apart load t p d c below in
        let one : mine ≡ delay_of_child apart' load' t (f p) d (f c) (renamed f below) =
        ap₂ (λ (n : ℕ) (x : Float). child_delay d (edge_value t.resistance n) (edge_value t.capacitance n) x) (far p c)
        (capacitance-renamed c below e.0 e.1.0) in
        ap₂ (λ (x : B × Float) (l : List (B × Float)). x ∷ l) (ap (λ (x : Float). (f c, x)) one)
        (map-append named (delays apart load t c mine below) (delays apart load t p d beside)
        ∙ ap₂ (λ (k l : List (B × Float)). k ++ l)
        (delays-renamed below e.1.0 c mine ∙ ap (λ (x : Float). delays apart' load' t (f c) x (renamed f below)) one)
        (delays-renamed beside e.1.1 p d))

  -- the delay that a list has for a point
  pub delay_in-renamed : (same : A → A → Bool) (same' : B → B → Bool) (q : A) (d : Float) (l : List (A × Float))
      → ((x : A × Float) → x ∈ l → same x.0 q ≡ same' (f x.0) (f q)) → delay_in same q d l ≡ delay_in same' (f q) d (map named l)
  unfolding delay_in
  delay_in-renamed same same' q d [] e = refl
  delay_in-renamed same same' q d (x ∷ l) e =
      delay_in-renamed same same' q (cond (same x.0 q) x.1 d) l (λ y m. e y (there m))
      ∙ ap (λ (b : Bool). delay_in same' (f q) (cond b x.1 d) (map named l)) (e x (here refl))

-- What holds of every point

module _ {A : Type 0} (P : A → Type 0) where
  pub sprout-every : (g : A → Branches A) (cs : List A) → ((c : A) → c ∈ cs → P c × Every P (g c)) → Every P (sprout g cs)
  unfolding sprout
  sprout-every g [] h = tt
  sprout-every g (c ∷ cs) h =
      let r = h c (here refl) in
      (r.0, (r.1, sprout-every g cs (λ k m. h k (there m))))

  module _ (apart : A → A → ℕ) (load : A → ℕ) (t : Technology) where
    pub delays-every : (b : Branches A) → Every P b → (p : A) (d : Float) (x : A × Float) → x ∈ delays apart load t p d b → P x.0
    unfolding delays
    delays-every none e p d x m = elim m [ ]
    delays-every (branch c below beside) e p d x m =
        either (λ k. rw k e.0)
        (λ i. either (delays-every below e.1.0 c (delay_of_child apart load t p d c below) x) (delays-every beside e.1.1 p d x)
        (Memᴰ.append_cases (delays apart load t c (delay_of_child apart load t p d c below) below) i))
        (Memᴰ.cases_cons m)

-- A table of delays holds what its list has

set-read : (table : List Float) (c q : ℕ) (v : Float) → q < length table
    → get_or (set table c v) q nan ≡ cond (eqb c q) v (get_or table q nan)
set-read table c q v h =
    by (eqb c q)
    (λ t. let e : c ≡ q = eqb-true c q t in rw (t, e) (get_or-set_same table q v nan h))
    (λ t. rw t (get_or-set_other table c q v nan (λ e. eqb-false c q t (sym e))))

pub stored-read : (l : List (ℕ × Float)) (table : List Float) (q : ℕ) → q < length table
    → get_or (stored l table) q nan ≡ delay_in eqb q (get_or table q nan) l
unfolding stored delay_in
stored-read [] table q h = refl
stored-read (x ∷ l) table q h =
    stored-read l (set table x.0 x.1) q (rw (length-set table x.0 x.1) h)
    ∙ ap (λ (d : Float). delay_in eqb q d l) (set-read table x.0 q x.1 h)
