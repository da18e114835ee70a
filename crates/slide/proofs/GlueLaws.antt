-- Two clear segments of one line that share a place are together clear: a macro that meets the whole meets one of the two.
-- Assumes nothing.
use mathlib.Core.Path.{◌≡◌, refl, sym, ap, ◌∙◌}
use mathlib.Core.Bool.{Bool, true, false, ◌&&◌}
use mathlib.Core.Logic.{◌⊎◌, inl, inr}
use mathlib.Core.List.{List}
use lib.IntN.{ℤ}
use lib.Signed.{lt_z, le_z}
use borrow.Author.Tests.{not-true}
use Rattle.lists.specs.Any.{any}
use Rattle.lists.specs.Member.{◌∈◌}
use Rattle.lists.proofs.TestLaws.{by, differ, and_left, and_right, and_both}
use Rattle.lists.proofs.AnyLaws.{any_none, none_any}
use Rattle.signed.specs.Sides.{up, down, Lt, Le}
use Rattle.signed.specs.Order.{z_min, z_max}
use Rattle.signed.proofs.SideLaws.{z_lt-true, z_lt-false, lt-z_lt, eq_of, signed}
use Rattle.signed.proofs.OrderLaws.{min-sides, max-sides}
use Rattle.plane.specs.declared.Place.{Place}
use Rattle.plane.specs.declared.Macro.{Macro}
use Rattle.plane.specs.Macro.{span_meets, meets, clear}
use Rattle.plane.specs.Box.{Between, InBox}
use Rattle.plane.proofs.MacroLaws.{clear_comm}
use Rattle.net.specs.Allowed.{Upright}

-- C14: every macro has a width and a height
abbrev pub UprightAll : List Macro → Type 0
UprightAll ms = (m : Macro) → m ∈ ms → Upright m

pub span-true : (a b from to : ℤ) → Le a b → Lt a to → Lt from b → span_meets a b from to ≡ true
unfolding span_meets
span-true a b from to l h k =
    and_both _ _ (lt-z_lt (z_min a b) to (omega (signed, min-sides a b))) (lt-z_lt from (z_max a b) (omega (signed, max-sides a b)))

pub span-parts : (a b from to : ℤ) → Le a b → span_meets a b from to ≡ true → Lt a to × Lt from b
unfolding span_meets
span-parts a b from to l h =
    let p = z_lt-true (z_min a b) to (and_left _ (lt_z from (z_max a b)) h) in
    let q = z_lt-true from (z_max a b) (and_right (lt_z (z_min a b) to) _ h) in
    (omega (signed, p, min-sides a b), omega (signed, q, max-sides a b))

-- a span cut at s
span-cut : (a s b from to : ℤ) → Le a s → Le s b → Lt from to →
    span_meets a b from to ≡ true → span_meets a s from to ≡ false → span_meets s b from to ≡ true
span-cut a s b from to h k l m n =
    let p = span-parts a b from to (omega (signed, h, k)) m in
    by (lt_z from s)
    (λ e. differ (span-true a s from to h p.0 (z_lt-true from s e)) n)
    (λ e. span-true s b from to k (omega (signed, z_lt-false from s e, l)) p.1)

and_cut : (p q r t : Bool) → (q ≡ true → r ≡ false → t ≡ true) → (p && q) ≡ true → (p && r) ≡ false → (p && t) ≡ true
and_cut true q r t h e f = h e f
and_cut false q r t h e f = e

cut-and : (p q r t : Bool) → (p ≡ true → r ≡ false → t ≡ true) → (p && q) ≡ true → (r && q) ≡ false → (t && q) ≡ true
cut-and p true r t h e f =
    by r (λ g. differ (and_both r true g refl) f) (λ g. and_both t true (h (and_left p true e) g) refl)
cut-and p false r t h e f = differ (and_right p false e) refl

module _ (ms : List Macro) (upright : UprightAll ms) (a s b : Place) where
  -- what is clear of both parts is clear of the whole, where it is so of each macro
  glued : ((m : Macro) → m ∈ ms → meets a b m ≡ true → meets a s m ≡ false → meets s b m ≡ true) →
      clear a s ms ≡ true → clear s b ms ≡ true → clear a b ms ≡ true
  unfolding clear
  glued cut h k =
      let first = any_none (meets a s) ms (not-true _ h) in
      let second = any_none (meets s b) ms (not-true _ k) in
      let none : any (meets a b) ms ≡ false =
      none_any (meets a b) ms (λ m i. by (meets a b m) (λ e. differ (cut m i e (first m i)) (second m i)) (λ e. e))
      in
      rw none refl

  -- upwards, and to the right
  glue-up : a.x ≡ b.x → s.x ≡ b.x → Le a.y s.y → Le s.y b.y →
      clear a s ms ≡ true → clear s b ms ≡ true → clear a b ms ≡ true
  unfolding meets
  glue-up e f h k = glued λ m i p q.
      let l = ap (λ (z : ℤ). span_meets a.x z m.left m.right) f in
      let r = ap (λ (z : ℤ). span_meets z b.x m.left m.right) (f ∙ sym e) in
      let q' : (span_meets a.x b.x m.left m.right && span_meets a.y s.y m.bottom m.top) ≡ false =
      ap (λ (t : Bool). t && span_meets a.y s.y m.bottom m.top) (sym l) ∙ q
      in
      ap (λ (t : Bool). t && span_meets s.y b.y m.bottom m.top) r
      ∙ and_cut (span_meets a.x b.x m.left m.right) _ _ _ (span-cut a.y s.y b.y m.bottom m.top h k
      (z_lt-true _ _ (upright m i).along)) p q'

  glue-right : a.y ≡ b.y → s.y ≡ b.y → Le a.x s.x → Le s.x b.x →
      clear a s ms ≡ true → clear s b ms ≡ true → clear a b ms ≡ true
  unfolding meets
  glue-right e f h k = glued λ m i p q.
      let l = ap (λ (z : ℤ). span_meets a.y z m.bottom m.top) f in
      let r = ap (λ (z : ℤ). span_meets z b.y m.bottom m.top) (f ∙ sym e) in
      let q' : (span_meets a.x s.x m.left m.right && span_meets a.y b.y m.bottom m.top) ≡ false =
      ap (λ (t : Bool). span_meets a.x s.x m.left m.right && t) (sym l) ∙ q
      in
      ap (λ (t : Bool). span_meets s.x b.x m.left m.right && t) r
      ∙ cut-and _ _ _ _ (span-cut a.x s.x b.x m.left m.right h k (z_lt-true _ _ (upright m i).across)) p q'

-- what is between two equal numbers
on_line : (z x y : ℤ) → x ≡ y → Between z x y → z ≡ y
on_line z x y e h = eq_of z y (omega (signed, h.0, h.1, min-sides x y, max-sides x y, ap up e, ap down e))

-- Gluing: s between a and b on one line
module _ (ms : List Macro) (upright : UprightAll ms) (a s b : Place) (i : InBox s a b) (h : clear a s ms ≡ true)
    (k : clear s b ms ≡ true) where
  -- the same from b to a
  turned : (clear b s ms ≡ true → clear s a ms ≡ true → clear b a ms ≡ true) → clear a b ms ≡ true
  turned g = clear_comm a b ms ∙ g (clear_comm b s ms ∙ k) (clear_comm s a ms ∙ h)

  pub glue-vertical : a.x ≡ b.x → clear a b ms ≡ true
  glue-vertical e =
      let f : s.x ≡ b.x = on_line s.x a.x b.x e i.across in
      by (le_z a.y b.y)
      (λ l. glue-up ms upright a s b e f
      (omega (signed, l, i.along.0, min-sides a.y b.y)) (omega (signed, l, i.along.1, max-sides a.y b.y)) h k)
      (λ l. turned (glue-up ms upright b s a (sym e) (f ∙ sym e)
      (omega (signed, l, i.along.0, min-sides a.y b.y)) (omega (signed, l, i.along.1, max-sides a.y b.y))))

  pub glue-horizontal : a.y ≡ b.y → clear a b ms ≡ true
  glue-horizontal e =
      let f : s.y ≡ b.y = on_line s.y a.y b.y e i.along in
      by (le_z a.x b.x)
      (λ l. glue-right ms upright a s b e f
      (omega (signed, l, i.across.0, min-sides a.x b.x)) (omega (signed, l, i.across.1, max-sides a.x b.x)) h k)
      (λ l. turned (glue-right ms upright b s a (sym e) (f ∙ sym e)
      (omega (signed, l, i.across.0, min-sides a.x b.x)) (omega (signed, l, i.across.1, max-sides a.x b.x))))

  -- along either axis
  pub glue : (a.x ≡ b.x) ⊎ (a.y ≡ b.y) → clear a b ms ≡ true
  glue (inl e) = glue-vertical e
  glue (inr e) = glue-horizontal e
