-- Bends and bars of shifted edges are the bends and bars, shifted.
-- Assumes nothing.
use mathlib.Core.Path.{◌≡◌, refl, sym, ap, ap₂, ◌∙◌}
use mathlib.Core.Bool.{Bool, true, false, not, ◌&&◌, ◌||◌}
use mathlib.Core.List.{List, [], ◌∷◌, ◌++◌, map}
use Prim.Native.Nat.{ℕ, zero, suc, min}
use native.Mathlib.Omega.{arith}
use lib.Dec.{eqb}
use lib.IntN.{ℤ, pos, ◌+ℤ◌, ◌-ℤ◌, neg_ℤ}
use lib.Signed.{lt_z, le_z}
use Rattle.lists.specs.Any.{any}
use Rattle.lists.specs.Those.{those}
use Rattle.lists.specs.Sorted.{sorted}
use Rattle.lists.proofs.TestLaws.{by}
use Rattle.signed.specs.Order.{z_eq, z_min, z_max}
use Rattle.signed.proofs.SideLaws.{eq_of, add-sides, sub-sides}
use Rattle.plane.specs.declared.Place.{Place}
use Rattle.plane.specs.Place.{place, before, same_place}
use Rattle.plane.specs.Distance.{apart}
use Rattle.net.specs.Net.{Net}
use Rattle.graph.specs.Edges.{edge_of}
use Rattle.joined.specs.Labels.{equal, labels}
use Rattle.slide.specs.declared.Side.{Side}
use Rattle.slide.specs.declared.Side.TheVariants.{Above, Below, Right, Left}
use Rattle.slide.specs.Side.{across, moved}
use Rattle.slide.specs.Bend.{Edge, straight, x_first, y_first, taken, Bent, bent, given_back, kept, through, bends}
use Rattle.slide.specs.Bar.{same, level, on_bar, of_bar, hangs, ahead, behind, far, long, least, shortest, far_ends, first_of, last_of}
use Rattle.slide.specs.Slide.{ends, tree_points}
use Rattle.rules.specs.Moved.{moved_edge}
use Rattle.site.specs.Shift.{shift, shift_net}
use Rattle.site.proofs.ShiftLaws.{lt-there, eq-there, apart-there, before-there, same-there}
use Rattle.site.proofs.ListShift.{any-there, those-there, sorted-there, equal-there, labels-there}
use Rattle.site.proofs.NetShift.{unshifted, unshift}

pub map-append : {A B : Type 0} (f : A → B) (l m : List A) → map f (l ++ m) ≡ map f l ++ map f m
map-append f [] m = refl
map-append f (x ∷ l) m = ap (λ (r : List _). f x ∷ r) (map-append f l m)

pub map-map : {A B C D : Type 0} (f : A → B) (g : B → D) (h : A → C) (k : C → D) → ((x : A) → g (f x) ≡ k (h x)) → (l : List A) →
    map g (map f l) ≡ map k (map h l)
map-map f g h k e [] = refl
map-map f g h k e (x ∷ l) = ap₂ (λ (y : _) (r : List _). y ∷ r) (e x) (map-map f g h k e l)

module _ (dx dy : ℤ) where
  abbrev pub F : Place → Place
  F = shift dx dy

  abbrev pub E : Edge → Edge
  E = moved_edge (shift dx dy)

  pub only : (x y : Place) → F x ≡ F y → x ≡ y
  only x y e = sym (unshifted dx dy x) ∙ ap (unshift dx dy) e ∙ unshifted dx dy y

  -- Bends

  straight-there : (e : Edge) → straight (E e) ≡ straight e
  unfolding straight
  straight-there e = ap₂ ◌||◌ (eq-there dx e.0.x e.1.x) (eq-there dy e.0.y e.1.y)

  x-there : (e : Edge) → x_first (E e) ≡ F (x_first e)
  unfolding x_first
  x-there e = refl

  y-there : (e : Edge) → y_first (E e) ≡ F (y_first e)
  unfolding y_first
  y-there e = refl

  pub taken-there : (X : List Place) (c : Place) → taken (map F X) (F c) ≡ taken X c
  unfolding taken
  taken-there X c = any-there F (same_place c) (same_place (F c)) (same-there dx dy c) X

  edge-of-there : (u v : Place) → edge_of (F u) (F v) ≡ E (edge_of u v)
  unfolding edge_of
  edge-of-there u v =
      by (before u v)
      (λ e. let g : before (F u) (F v) ≡ true = before-there dx dy u v ∙ e in rw (edge_of, g, e) refl)
      (λ e. let g : before (F u) (F v) ≡ false = before-there dx dy u v ∙ e in rw (edge_of, g, e) refl)

  unfoldable pub moved_bent : Bent → Bent
  moved_bent (bent X T) = bent (map F X) (map E T)
  moved_bent given_back = given_back

  kept_there : (e : Edge) (r : Bent) → kept (E e) (moved_bent r) ≡ moved_bent (kept e r)
  unfolding kept moved_bent
  kept_there e (bent X T) = refl
  kept_there e given_back = refl

  through-there : (e : Edge) (c : Place) (r : Bent) → through (E e) (F c) (moved_bent r) ≡ moved_bent (through e c r)
  unfolding through
  through-there e c r =
      ap₂ (λ (a b : Edge). kept a (kept b (moved_bent r))) (edge-of-there e.0 c) (edge-of-there c e.1)
      ∙ ap (kept (E (edge_of e.0 c))) (kept_there (edge_of c e.1) r)
      ∙ kept_there (edge_of e.0 c) (kept (edge_of c e.1) r)

  pub bends-there : (X : List Place) (T : List Edge) → bends (map F X) (map E T) ≡ moved_bent (bends X T)
  unfolding bends moved_bent
  bends-there X [] = refl
  bends-there X (e ∷ T) =
      by (straight e)
      (λ s.
      let s' : straight (E e) ≡ true = straight-there e ∙ s in
      rw (bends, s', s) (ap (kept (E e)) (bends-there X T) ∙ kept_there e (bends X T))) λ s.
      let s' : straight (E e) ≡ false = straight-there e ∙ s in
      by (taken X (x_first e))
      (λ t.
      let t' : taken (map F X) (x_first (E e)) ≡ true = ap (taken (map F X)) (x-there e) ∙ taken-there X (x_first e) ∙ t in
      by (taken X (y_first e))
      (λ u.
      let u' : taken (map F X) (y_first (E e)) ≡ true = ap (taken (map F X)) (y-there e) ∙ taken-there X (y_first e) ∙ u in
      rw (bends, s', s, t', t, u', u) refl)
      (λ u.
      let u' : taken (map F X) (y_first (E e)) ≡ false = ap (taken (map F X)) (y-there e) ∙ taken-there X (y_first e) ∙ u in
      rw (bends, s', s, t', t, u', u)
      (ap (λ (c : Place). through (E e) c (bends (c ∷ map F X) (map E T))) (y-there e)
      ∙ ap (through (E e) (F (y_first e))) (bends-there (y_first e ∷ X) T)
      ∙ through-there e (y_first e) (bends (y_first e ∷ X) T))))
      (λ t.
      let t' : taken (map F X) (x_first (E e)) ≡ false = ap (taken (map F X)) (x-there e) ∙ taken-there X (x_first e) ∙ t in
      rw (bends, s', s, t', t)
      (ap (λ (c : Place). through (E e) c (bends (c ∷ map F X) (map E T))) (x-there e)
      ∙ ap (through (E e) (F (x_first e))) (bends-there (x_first e ∷ X) T)
      ∙ through-there e (x_first e) (bends (x_first e ∷ X) T)))

  -- Tree points

  ends_there : (T : List Edge) → ends (map E T) ≡ map F (ends T)
  unfolding ends
  ends_there [] = refl
  ends_there (e ∷ T) = ap (λ (l : List Place). F e.0 ∷ (F e.1 ∷ l)) (ends_there T)

  pub points-there : (net : Net) (T : List Edge) → tree_points (shift_net dx dy net) (map E T) ≡ map F (tree_points net T)
  unfolding tree_points
  points-there net T =
      ap (λ (l : List Place). sorted before (map F net.pins ++ l)) (ends_there T)
      ∙ ap (sorted before) (sym (map-append F net.pins (ends T)))
      ∙ sorted-there F before before (before-there dx dy) (net.pins ++ ends T)

  -- Sides

  -- what a shift adds across a bar
  unfoldable pub adds : Side → ℤ
  adds Above = dy
  adds Below = neg_ℤ dy
  adds Right = dx
  adds Left = neg_ℤ dx

  turned-there : (d a : ℤ) → pos 0 -ℤ (a +ℤ d) ≡ (pos 0 -ℤ a) +ℤ neg_ℤ d
  turned-there d a =
      eq_of (pos 0 -ℤ (a +ℤ d)) ((pos 0 -ℤ a) -ℤ d)
      (omega (arith, sub-sides (pos 0) (a +ℤ d), add-sides a d, sub-sides (pos 0 -ℤ a) d, sub-sides (pos 0) a))

  pub across-there : (s : Side) (p : Place) → across s (F p) ≡ across s p +ℤ adds s
  unfolding across adds
  across-there Above p = refl
  across-there Below p = turned-there dy p.y
  across-there Right p = refl
  across-there Left p = turned-there dx p.x

  plus-swap : (a b c : ℤ) → (a +ℤ b) +ℤ c ≡ (a +ℤ c) +ℤ b
  plus-swap a b c =
      eq_of ((a +ℤ b) +ℤ c) ((a +ℤ c) +ℤ b)
      (omega (arith, add-sides (a +ℤ b) c, add-sides a b, add-sides (a +ℤ c) b, add-sides a c))

  pub moved-there : (s : Side) (d : ℕ) (p : Place) → moved s d (F p) ≡ F (moved s d p)
  unfolding moved
  moved-there Above d p = ap (place (p.x +ℤ dx)) (plus-swap p.y dy (pos d))
  moved-there Below d p = ap (place (p.x +ℤ dx)) (plus-swap p.y dy (neg_ℤ (pos d)))
  moved-there Right d p = ap (λ (z : ℤ). place z (p.y +ℤ dy)) (plus-swap p.x dx (pos d))
  moved-there Left d p = ap (λ (z : ℤ). place z (p.y +ℤ dy)) (plus-swap p.x dx (neg_ℤ (pos d)))

  -- Bars

  pub level-there : (s : Side) (e : Edge) → level s (E e) ≡ level s e
  unfolding level
  level-there s e =
      ap₂ z_eq (across-there s e.0) (across-there s e.1) ∙ eq-there (adds s) (across s e.0) (across s e.1)

  pub on-there : (s : Side) (T : List Edge) (a p : Place) → on_bar s (map E T) (F a) (F p) ≡ on_bar s T a p
  unfolding on_bar
  on-there s T a p =
      ap (λ (L : List Edge). equal same (labels same L (F a)) (labels same L (F p)))
      (those-there E (level s) (level s) (level-there s) T)
      ∙ ap₂ (equal same) (labels-there same same F only (those (level s) T) a) (labels-there same same F only (those (level s) T) p)
      ∙ equal-there same same F only (labels same (those (level s) T) a) (labels same (those (level s) T) p)

  below-there : (s : Side) (p q : Place) → lt_z (across s (F p)) (across s (F q)) ≡ lt_z (across s p) (across s q)
  below-there s p q = ap₂ lt_z (across-there s p) (across-there s q) ∙ lt-there (adds s) (across s p) (across s q)

  pub long-there : (s : Side) (e : Edge) → long s (E e) ≡ long s e
  unfolding long
  long-there s e =
      ap₂ apart (across-there s e.0) (across-there s e.1) ∙ apart-there (adds s) (across s e.0) (across s e.1)

  -- a bar and its shifted one, by their tests
  module _ (s : Side) (on on' : Place → Bool) (k : (p : Place) → on' (F p) ≡ on p) where
    pub of-bar-there : (e : Edge) → of_bar s on' (E e) ≡ of_bar s on e
    unfolding of_bar
    of-bar-there e = ap₂ ◌&&◌ (level-there s e) (ap₂ ◌&&◌ (k e.0) (k e.1))

    pub hangs-there : (e : Edge) → hangs s on' (E e) ≡ hangs s on e
    unfolding hangs
    hangs-there e = ap₂ (λ (a b : Bool). not a && b) (level-there s e) (ap₂ ◌||◌ (k e.0) (k e.1))

    pub ahead-there : (e : Edge) → ahead s on' (E e) ≡ ahead s on e
    unfolding ahead
    ahead-there e =
        ap₂ ◌||◌ (ap₂ ◌&&◌ (k e.0) (below-there s e.0 e.1)) (ap₂ ◌&&◌ (k e.1) (below-there s e.1 e.0))

    pub behind-there : (e : Edge) → behind s on' (E e) ≡ behind s on e
    unfolding behind
    behind-there e =
        ap₂ ◌||◌ (ap₂ ◌&&◌ (k e.0) (below-there s e.1 e.0)) (ap₂ ◌&&◌ (k e.1) (below-there s e.0 e.1))

    far-there : (e : Edge) → far on' (E e) ≡ F (far on e)
    unfolding far
    far-there e =
        by (on e.0)
        (λ t. let u : on' (F e.0) ≡ true = k e.0 ∙ t in rw (far, u, t) refl)
        (λ t. let u : on' (F e.0) ≡ false = k e.0 ∙ t in rw (far, u, t) refl)

    pub those-ahead : (T : List Edge) → those (ahead s on') (map E T) ≡ map E (those (ahead s on) T)
    those-ahead T = those-there E (ahead s on) (ahead s on') ahead-there T

    pub shortest-there : (T : List Edge) → shortest s on' (map E T) ≡ shortest s on T
    unfolding shortest
    shortest-there T =
        ap (λ (l : List Edge). least (map (long s) l)) (those-ahead T)
        ∙ ap least (longs (those (ahead s on) T))
      where
        longs : (l : List Edge) → map (long s) (map E l) ≡ map (long s) l
        longs [] = refl
        longs (e ∷ l) = ap₂ (λ (n : ℕ) (r : List ℕ). n ∷ r) (long-there s e) (longs l)

    pub far-ends-there : (T : List Edge) → far_ends s on' (map E T) ≡ map F (far_ends s on T)
    unfolding far_ends
    far-ends-there T =
        ap (λ (l : List Edge). map (far on') (those (λ e. eqb (long s e) (shortest s on' (map E T))) l)) (those-ahead T)
        ∙ ap (map (far on')) (those-there E (λ e. eqb (long s e) (shortest s on T)) (λ e. eqb (long s e) (shortest s on' (map E T)))
        (λ e. ap₂ eqb (long-there s e) (shortest-there T)) (those (ahead s on) T))
        ∙ map-map E (far on') (far on) F far-there (those (λ e. eqb (long s e) (shortest s on T)) (those (ahead s on) T))

  pub first-there : (a : Place) (l : List Place) → first_of (F a) (map F l) ≡ F (first_of a l)
  unfolding first_of
  first-there a [] = refl
  first-there a (p ∷ l) =
      by (before p a)
      (λ t. let u : before (F p) (F a) ≡ true = before-there dx dy p a ∙ t in rw (first_of, u, t) (first-there p l))
      (λ t. let u : before (F p) (F a) ≡ false = before-there dx dy p a ∙ t in rw (first_of, u, t) (first-there a l))

  pub last-there : (a : Place) (l : List Place) → last_of (F a) (map F l) ≡ F (last_of a l)
  unfolding last_of
  last-there a [] = refl
  last-there a (p ∷ l) =
      by (before a p)
      (λ t. let u : before (F a) (F p) ≡ true = before-there dx dy a p ∙ t in rw (last_of, u, t) (last-there p l))
      (λ t. let u : before (F a) (F p) ≡ false = before-there dx dy a p ∙ t in rw (last_of, u, t) (last-there a l))
