-- Past a macro: in turned numbers the box meets its interior exactly where the macro is ahead and begins before the box ends.
-- Assumes nothing.
use mathlib.Core.Path.{◌≡◌, refl, sym, ap, ap₂, ◌∙◌}
use mathlib.Core.Bool.{Bool, true, false, not, ◌&&◌}
use mathlib.Core.List.{List, ◌∷◌}
use Prim.Native.Nat.{ℕ, zero, suc, ◌+◌, ◌-◌, ◌/◌, ◌≤◌, min}
use native.Mathlib.Omega.{arith}
use borrow.Author.Tests.{ltb-true, ltb-false, lt-ltb, le-ltb}
use lib.Dec.{ltb}
use lib.IntN.{ℤ, pos, ◌+ℤ◌}
use lib.ListN.{length, drop}
use lib.Signed.{lt_z}
use Rattle.lists.proofs.TestLaws.{by, and_left, and_right, and_both}
use Rattle.signed.proofs.SideLaws.{one_side, z_lt-true, lt-z_lt, add-sides, up_pos, down_pos}
use Rattle.plane.specs.declared.Place.{Place}
use Rattle.plane.specs.declared.Macro.{Macro}
use Rattle.plane.specs.Flat.{macros_of, macro_at}
use Rattle.plane.specs.Macro.{meets}
use Rattle.plane.proofs.Fits.{MacroFits}
use Rattle.plane.proofs.FlatLaws.{macros-next, macros-end}
use Rattle.slide.specs.declared.Side.{Side}
use Rattle.slide.specs.declared.Side.TheVariants.{Above, Below, Right, Left}
use Rattle.slide.specs.Side.{along, across, moved}
use Rattle.slide.specs.Stop.{starts, finishes, near_side, far_side, beyond, macro_ahead, macro_stop}
use Rattle.slide.proofs.AcrossLaws.{along-moved}
use Rattle.slide.proofs.LabelledBars.{agree}
use Rattle.slide.proofs.TouchLaws.{hit, hits}
use Rattle.straight.specs.Table.{run}
use Rattle.reach.specs.declared.Bar.{Bar}
use Rattle.reach.specs.declared.Way.{Way}
use Rattle.turned.specs.Turned.{raised, face}
use Rattle.reach.specs.Passing.{way, past_face}
use Rattle.turned.proofs.RaisedLaws.{High, high, high-turned, raised_lt, raised-beyond}
use Rattle.turned.proofs.SeenLaws.{across-high, along-high}
use Rattle.reach.proofs.PassLaws.{and-three, Stands, beside-le, across-le, top-is, high-M}

-- A macro's sides are not too far below zero

pub record HighFace (s : Side) (m : Macro) : Type 0 where
  pub starts-high : High (starts s m)
  pub finishes-high : High (finishes s m)
  pub near-high : High (near_side s m)
  pub far-high : High (far_side s m)

pub face-high : (s : Side) (m : Macro) → MacroFits m → HighFace s m
unfolding starts finishes near_side far_side
face-high Above m f = record {
  starts-high = high m.left f.left;
  finishes-high = high m.right f.right;
  near-high = high m.bottom f.bottom;
  far-high = high m.top f.top;
}
face-high Below m f = record {
  starts-high = high m.left f.left;
  finishes-high = high m.right f.right;
  near-high = high-turned m.top f.top;
  far-high = high-turned m.bottom f.bottom;
}
face-high Right m f = record {
  starts-high = high m.bottom f.bottom;
  finishes-high = high m.top f.top;
  near-high = high m.left f.left;
  far-high = high m.right f.right;
}
face-high Left m f = record {
  starts-high = high m.bottom f.bottom;
  finishes-high = high m.top f.top;
  near-high = high-turned m.right f.right;
  far-high = high-turned m.left f.left;
}

next-high : (z : ℤ) → High z → High (z +ℤ pos 1)
next-high z h = omega (arith, h, add-sides z (pos 1), up_pos 1, down_pos 1, one_side (z +ℤ pos 1))

raised-next : (z : ℤ) → High z → raised (z +ℤ pos 1) ≡ raised z + 1
unfolding raised
raised-next z h = omega (arith, h, add-sides z (pos 1), up_pos 1, down_pos 1, one_side (z +ℤ pos 1), one_side z)

-- the tests and numbers of a step by themselves
abbrev given : Bool → Bool → ℕ → ℕ → ℕ → Way
given a f k n d = elim a as (λ u. Way) [ true ↦ way (min k d) (f && ltb n d) | false ↦ way k f ]

abbrev wanted : Bool → Bool → ℕ → ℕ → ℕ → Way
wanted a f k n d = way (min k (elim a as (λ u. ℕ) [ true ↦ d | false ↦ n ])) (f && not (a && not (ltb n d)))

core : (a f : Bool) (k n d : ℕ) → k ≤ n → (t : Bool) → ltb n d ≡ t → given a f k n d ≡ wanted a f k n d
core true f k n d l true e = rw e refl
core true f k n d l false e = rw e refl
core false true k n d l t e = let z : k ≡ min k n = omega (arith, l) in ap (λ (i : ℕ). way i true) z
core false false k n d l t e = let z : k ≡ min k n = omega (arith, l) in ap (λ (i : ℕ). way i false) z

module _ {s : Side} {b : Bar} {F L : Place} (r : Stands s b F L) (m : Macro) (fits : MacroFits m) where
  abbrev M : Place
  M = moved s b.most L

  abbrev g : HighFace s m
  g = face-high s m fits

  abbrev on : Place → Bool
  on p = true

  abbrev d : ℕ
  d = raised (near_side s m) + 1 - raised (across s F)

  abbrev front : Bool
  front = ltb (raised (starts s m)) (raised (along s L))
      && (ltb (raised (along s F)) (raised (finishes s m)) && ltb (raised (across s F)) (raised (far_side s m)))

  front-is : macro_ahead s F L m ≡ front
  unfolding macro_ahead
  front-is =
      ap₂ ◌&&◌
      (ap₂ ◌&&◌ (raised_lt _ _ g.starts-high (along-high s L r.fits-L))
      (raised_lt _ _ (along-high s F r.fits-F) g.finishes-high))
      (raised_lt _ _ (across-high s F r.fits-F) g.far-high)
      ∙ and-three
      (ltb (raised (starts s m)) (raised (along s L)))
      (ltb (raised (along s F)) (raised (finishes s m)))
      (ltb (raised (across s F)) (raised (far_side s m)))

  beyond-is : beyond (across s F) (near_side s m +ℤ pos 1) ≡ d
  unfolding beyond
  beyond-is =
      raised-beyond _ _ (across-high s F r.fits-F) (next-high _ g.near-high)
      ∙ ap (λ (i : ℕ). i - raised (across s F)) (raised-next (near_side s m) g.near-high)

  -- it begins before the box ends
  near-M : lt_z (near_side s m) (across s M) ≡ not (ltb b.most d)
  near-M =
      raised_lt _ _ g.near-high (high-M r on (F, F) r.fits-F r.fits-F)
      ∙ ap (ltb (raised (near_side s m))) (top-is r on (F, F) r.fits-F r.fits-F)
      ∙ shifted (raised (near_side s m)) (raised (across s F)) b.most
    where
      shifted : (i j k : ℕ) → ltb i (j + k) ≡ not (ltb k (i + 1 - j))
      shifted i j k =
          by (ltb k (i + 1 - j))
          (λ e. rw e (le-ltb i (j + k) (let z = ltb-true k (i + 1 - j) e in omega (arith, z))))
          (λ e. rw e (lt-ltb i (j + k) (let z = ltb-false k (i + 1 - j) e in omega (arith, z))))

  meets-is : meets F M m ≡ (macro_ahead s F L m && not (ltb b.most d))
  unfolding macro_ahead
  meets-is =
      let bl = beside-le r on (F, F) r.fits-F r.fits-F in
      let al = across-le r on (F, F) r.fits-F r.fits-F in
      agree _ _
      (λ e.
      let t = hit s F M m bl al e in
      and_both _ _
      (and_both _ _
      (and_both _ _ (lt-z_lt _ _ (rw (along-moved s b.most L) at t.beside.1)) (lt-z_lt _ _ t.beside.0))
      (lt-z_lt _ _ t.ahead.0))
      (sym near-M ∙ lt-z_lt _ _ t.ahead.1))
      (λ e.
      let k = and_left (macro_ahead s F L m) (not (ltb b.most d)) e in
      let p = and_left (lt_z (starts s m) (along s L) && lt_z (along s F) (finishes s m)) _ k in
      hits s F M m bl al
      (record {
        beside = (
          z_lt-true (along s F) (finishes s m) (and_right (lt_z (starts s m) (along s L)) _ p),
          rw (along-moved s b.most L) (z_lt-true (starts s m) (along s L) (and_left _ (lt_z (along s F) (finishes s m)) p)),
        );
        ahead = (
          z_lt-true (across s F) (far_side s m) (and_right (lt_z (starts s m) (along s L) && lt_z (along s F) (finishes s m)) _ k),
          z_lt-true (near_side s m) (across s M) (near-M ∙ and_right (macro_ahead s F L m) (not (ltb b.most d)) e),
        );
      }))

  pub macro-past : (w : Way) → w.stop ≤ b.most
      → past_face b (face s m) w ≡ way (min w.stop (macro_stop s F L b.most m)) (w.free && not (meets F M m))
  unfolding past_face macro_stop
  macro-past w l =
      let p : past_face b (face s m) w ≡ given front w.free w.stop b.most d = rw (r.first, r.last) refl in
      let a : macro_stop s F L b.most m ≡ elim front as (λ u. ℕ) [ true ↦ d | false ↦ b.most ] =
      rw (macro_stop, front-is) (ap (λ (i : ℕ). elim front as (λ u. ℕ) [ true ↦ i | false ↦ b.most ]) beyond-is)
      in
      let c : meets F M m ≡ (front && not (ltb b.most d)) = meets-is ∙ ap (λ (t : Bool). t && not (ltb b.most d)) front-is in
      p
      ∙ core front w.free w.stop b.most d l (ltb b.most d) refl
      ∙ ap₂ (λ (i : ℕ) (t : Bool). way (min w.stop i) (w.free && not t)) (sym a) (sym c)

-- The macros of a flat list, one after the other

macros-from : (s : List ℤ) (k i : ℕ) → i + k ≡ length s / 4 → drop i (macros_of s) ≡ run (macro_at s) i k
unfolding run
macros-from s zero i e = macros-end s i (omega (arith, e))
macros-from s (suc k) i e =
    let z : i + 1 ≡ suc i = omega arith in
    macros-next s i (omega (arith, e))
    ∙ ap (λ (j : ℕ). macro_at s i ∷ drop j (macros_of s)) z
    ∙ ap (λ (l : List Macro). macro_at s i ∷ l) (macros-from s k (suc i) (omega (arith, e)))

pub macros-run : (s : List ℤ) → macros_of s ≡ run (macro_at s) 0 (length s / 4)
macros-run s = macros-from s (length s / 4) 0 (omega arith)
