-- The delays of a tree keep what is promised: each point has one delay, since each hangs once from the driver. And they are the same for
-- every order of the edges and of the pins.
-- Assumes nothing.
use mathlib.Core.Path.{◌≡◌, refl, sym, ap, ap₂, ◌∙◌}
use mathlib.Core.Bool.{true, cond, not}
use mathlib.Core.List.Memᴰ
use mathlib.Core.List.{List, [], ◌∷◌, ◌++◌, map}
use Prim.Native.Nat.{ℕ, zero, suc}
use lib.ListN.{length}
use lib.Ieee.{Float}
use Rattle.lists.specs.Member.{◌∈◌, here, there, Among, Once}
use Rattle.lists.specs.Sorted.{sorted}
use Rattle.lists.specs.Those.{those}
use Rattle.lists.proofs.TestLaws.{by}
use Rattle.lists.proofs.SortedLaws.{of-sorted, in-sorted, sorted-ascending, ascending-same}
use Rattle.plane.specs.declared.Place.{Place}
use Rattle.plane.specs.Place.{before, same_place}
use Rattle.plane.specs.Distance.{distance}
use Rattle.plane.proofs.PlaceLaws.{same_true, same_refl}
use Rattle.plane.proofs.PlaceOrder.{place-order}
use Rattle.joined.specs.Joined.{Inside}
use Rattle.joined.specs.Tree.{TreeOn}
use Rattle.floats.specs.declared.Technology.{Technology}
use Rattle.floats.specs.Mark.{Delay}
use Rattle.floats.specs.Float as float
use Rattle.elmore.specs.Rooted.{Branches, none, branch, sprout, visited, children, hanging, rooted}
use Rattle.elmore.specs.Elmore.{delay_of_child, delays, delay_in}
use Rattle.floats.specs.Mark.{marked}
use Rattle.delay.specs.Answer.{delay_of, marks_of}
use Rattle.delay.specs.Promise.{Follows, Timed}
use Rattle.elmore.proofs.ChildLaws.{neighbours-same}
use Rattle.delay.proofs.LoadLaws.{delays-load}
use Rattle.elmore.proofs.RootedLaws.{rooted-once, rooted-all}

-- A list with each point once has one delay for it

absent : (q : Place) (d : Float) (l : List (Place × Float)) → (q ∈ map (λ (x : Place × Float). x.0) l → ⊥) → delay_in same_place q d l ≡ d
unfolding delay_in
absent q d [] n = refl
absent q d (x ∷ l) n =
    by (same_place x.0 q)
    (λ s. absurd (n (here (sym (same_true x.0 q s)))))
    (λ s. ap (λ b. delay_in same_place q (cond b x.1 d) l) s ∙ absent q d l (λ m. n (there m)))

present : (q : Place) (d f : Float) (l : List (Place × Float)) → Once (map (λ (x : Place × Float). x.0) l) → (q, f) ∈ l
    → delay_in same_place q d l ≡ f
unfolding delay_in
present q d f [] o x'' = elim x'' [ ]
present q d f (x ∷ l) o (here e) =
    let z : q ≡ x.0 = ap (λ (y : Place × Float). y.0) e in
    let w : f ≡ x.1 = ap (λ (y : Place × Float). y.1) e in
    let s : same_place x.0 q ≡ true = ap (same_place x.0) z ∙ same_refl x.0 in
    ap (λ b. delay_in same_place q (cond b x.1 d) l) s
    ∙ absent q x.1 l (λ m. o.0 (Memᴰ.cast (sym z) m))
    ∙ sym w
present q d f (x ∷ l) o (there m) = present q (cond (same_place x.0 q) x.1 d) f l o.1 m

module _ (apart : Place → Place → ℕ) (load : Place → ℕ) (t : Technology) where
  -- the names of the delays are the points that hang there
  names-append : (l m : List (Place × Float)) → map (λ (x : Place × Float). x.0) (l ++ m)
      ≡ map (λ (x : Place × Float). x.0) l ++ map (λ (x : Place × Float). x.0) m
  names-append [] m = refl
  names-append (x ∷ l) m = ap (λ (k : List Place). x.0 ∷ k) (names-append l m)

  delays-names : (b : Branches Place) (p : Place) (d : Float) → map (λ (x : Place × Float). x.0) (delays apart load t p d b) ≡ visited b
  unfolding delays visited
  delays-names none p d = refl
  delays-names (branch c below beside) p d =
      let f = delay_of_child apart load t p d c below in
      ap (λ (k : List Place). c ∷ k)
      (names-append (delays apart load t c f below) (delays apart load t p d beside)
      ∙ ap₂ (λ (k l : List Place). k ++ l) (delays-names below c f) (delays-names beside p d))

  -- the rule holds of any delays that agree with the list
  follow : (delay : Place → Float) (b : Branches Place) (p : Place) (d : Float) → delay p ≡ d
      → ((q : Place) (f : Float) → (q, f) ∈ delays apart load t p d b → delay q ≡ f) → Follows apart load t delay p b
  unfolding delays
  follow delay none p d e h = tt
  follow delay (branch c below beside) p d e h =
      let f = delay_of_child apart load t p d c below in
      let own : delay c ≡ f = h c f (here refl) in (
        own ∙ ap (λ (x : Float). delay_of_child apart load t p x c below) (sym e),
        (
          follow delay below c f own (λ q g m. h q g (there (Memᴰ.append_left (delays apart load t p d beside) m))),
          follow delay beside p d e (λ q g m. h q g (there (Memᴰ.append_right (delays apart load t c f below) m))),
        ),
      )

module _ {X : List Place} {es : List (Place × Place)} (tree : TreeOn X es) (inside : Inside X es) {driver : Place} (stands : driver ∈ X)
    (load : Place → ℕ) (t : Technology) where
  abbrev list : List (Place × Float)
  list = delays distance load t driver float.zero (rooted es driver)

  once : Once (driver ∷ visited (rooted es driver))
  once = rooted-once tree inside stands

  list-names : map (λ (x : Place × Float). x.0) list ≡ visited (rooted es driver)
  list-names = delays-names distance load t (rooted es driver) driver float.zero

  zero-there : delay_of es load t driver driver ≡ float.zero
  unfolding delay_of
  zero-there = absent driver float.zero list (λ m. once.0 (rw list-names at m))

  pub timed : Timed X es load t driver
  unfolding delay_of
  timed = record {
    each-once = once;
    none_left = rooted-all tree inside stands;
    driver-zero = zero-there;
    follows = follow distance load t (delay_of es load t driver) (rooted es driver) driver float.zero zero-there
        (λ q f m. present q float.zero f list (rw list-names once.1) m);
  }

-- Every order of the edges and of the pins

-- the same places are the same in order
pub same-sorted : (pins qins : List Place) → Among pins qins → Among qins pins → sorted before pins ≡ sorted before qins
same-sorted pins qins i j =
    ascending-same before place-order (sorted before pins) (sorted before qins) (sorted-ascending before place-order pins)
    (sorted-ascending before place-order qins)
    (λ q m. in-sorted before place-order qins q (i q (of-sorted before pins q m)))
    (λ q m. in-sorted before place-order pins q (j q (of-sorted before qins q m)))

module _ (es fs : List (Place × Place)) (h : Among es fs) (k : Among fs es) where
  sprout-same : {A : Type 0} (f g : A → Branches A) (cs : List A) → ((c : A) → f c ≡ g c) → sprout f cs ≡ sprout g cs
  unfolding sprout
  sprout-same f g [] e = refl
  sprout-same {A} f g (c ∷ cs) e = ap₂ (λ (x y : Branches A). branch c x y) (e c) (sprout-same f g cs e)

  hanging-same : (n : ℕ) (up p : Place) → hanging es n up p ≡ hanging fs n up p
  unfolding hanging children
  hanging-same zero up p = refl
  hanging-same (suc n) up p =
      sprout-same (hanging es n p) (hanging fs n p) (children es up p) (λ c. hanging-same n p c)
      ∙ ap (λ (l : List Place). sprout (hanging fs n p) (those (λ q. not (same_place q up)) l)) (neighbours-same es fs h k p)

  pub rooted-same : length es ≡ length fs → (driver : Place) → rooted es driver ≡ rooted fs driver
  unfolding rooted
  rooted-same e driver = hanging-same (length es) driver driver ∙ ap (λ (n : ℕ). hanging fs n driver driver) e

  -- with loads that are equal place by place
  module _ (even : length es ≡ length fs) (load load' : Place → ℕ) (loaded : (q : Place) → load q ≡ load' q) (t : Technology)
      (driver : Place) where
    pub delay_of-same : (q : Place) → delay_of es load t driver q ≡ delay_of fs load' t driver q
    unfolding delay_of
    delay_of-same q =
        ap (delay_in same_place q float.zero)
        (delays-load distance load load' t loaded (rooted es driver) driver float.zero
        ∙ ap (delays distance load' t driver float.zero) (rooted-same even driver))

    pub marks_of-same : (pins qins : List Place) → Among pins qins → Among qins pins
        → marks_of es load t driver pins ≡ marks_of fs load' t driver qins
    unfolding marks_of
    marks_of-same pins qins i j =
        each (sorted before pins) ∙ ap (map (λ q. marked (delay_of fs load' t driver q))) (same-sorted pins qins i j)
      where
        each : (l : List Place) → map (λ q. marked (delay_of es load t driver q)) l ≡ map (λ q. marked (delay_of fs load' t driver q)) l
        each [] = refl
        each (q ∷ l) = ap₂ (λ (x : Delay) (k : List Delay). x ∷ k) (ap marked (delay_of-same q)) (each l)
