-- Where the box of a bar meets an edge, in turned numbers: axis by axis, plainly or turned about zero.
-- Assumes nothing.
use mathlib.Core.Path.{◌≡◌, refl, sym, ap, ap₂, ◌∙◌}
use mathlib.Core.Bool.{Bool, true, false, ◌&&◌}
use Prim.Native.Nat.{ℕ, min, max}
use native.Mathlib.Omega.{arith}
use lib.Dec.{eqb}
use lib.IntN.{ℤ, pos, ◌-ℤ◌}
use lib.Signed.{le_z}
use Rattle.lists.proofs.TestLaws.{by}
use Rattle.signed.specs.Sides.{Le}
use Rattle.signed.specs.Order.{z_eq, z_min, z_max}
use Rattle.signed.proofs.SideLaws.{sub-sides, eq_of}
use Rattle.signed.proofs.OrderLaws.{min-sides, max-sides}
use Rattle.plane.specs.declared.Place.{Place}
use Rattle.plane.specs.Place.{same_place}
use Rattle.slide.specs.declared.Side.{Side}
use Rattle.slide.specs.declared.Side.TheVariants.{Above, Below, Right, Left}
use Rattle.slide.specs.Side.{along, across}
use Rattle.slide.specs.Bend.{Edge}
use Rattle.slide.specs.Sweep.{low_corner, high_corner, only_in}
use Rattle.turned.specs.declared.Spot.{Spot}
use Rattle.turned.specs.Turned.{raised, spot, same_spot}
use Rattle.turned.proofs.RaisedLaws.{High, raised-eq, raised-min, raised-max, negated}

abbrev neg : ℤ → ℤ
neg a = pos 0 -ℤ a

neg-min : (a b : ℤ) → neg (z_min a b) ≡ z_max (neg a) (neg b)
neg-min a b =
    eq_of _ _
    (omega (arith, sub-sides (pos 0) (z_min a b), sub-sides (pos 0) a, sub-sides (pos 0) b, min-sides a b, max-sides (neg a) (neg b)))

neg-max : (a b : ℤ) → neg (z_max a b) ≡ z_min (neg a) (neg b)
neg-max a b =
    eq_of _ _
    (omega (arith, sub-sides (pos 0) (z_max a b), sub-sides (pos 0) a, sub-sides (pos 0) b, max-sides a b, min-sides (neg a) (neg b)))

min-le : (f m : ℤ) → Le f m → z_min f m ≡ f
min-le f m l = eq_of _ _ (omega (arith, l, min-sides f m))

max-le : (f m : ℤ) → Le f m → z_max f m ≡ m
max-le f m l = eq_of _ _ (omega (arith, l, max-sides f m))

pub high-min : (a b : ℤ) → High a → High b → High (z_min a b)
unfolding z_min
high-min a b h k = by (le_z a b) (λ e. rw (z_min, e) h) (λ e. rw (z_min, e) k)

pub high-max : (a b : ℤ) → High a → High b → High (z_max a b)
unfolding z_max
high-max a b h k = by (le_z a b) (λ e. rw (z_max, e) k) (λ e. rw (z_max, e) h)

-- the greater of the lower end and f, the smaller of the upper end and m
abbrev low : ℤ → ℤ → ℤ → ℤ → ℤ
low p q f m = z_max (z_min p q) (z_min f m)

abbrev high : ℤ → ℤ → ℤ → ℤ → ℤ
high p q f m = z_min (z_max p q) (z_max f m)

abbrev low_n : ℤ → ℤ → ℤ → ℕ
low_n p q f = max (min (raised p) (raised q)) (raised f)

abbrev high_n : ℤ → ℤ → ℤ → ℕ
high_n p q m = min (max (raised p) (raised q)) (raised m)

module _ (p q f m : ℤ) (l : Le f m) (hp : High p) (hq : High q) (hf : High f) (hm : High m) where
  low-plain : raised (low p q f m) ≡ low_n p q f
  low-plain =
      ap (λ (z : ℤ). raised (z_max (z_min p q) z)) (min-le f m l)
      ∙ raised-max (z_min p q) f (high-min p q hp hq) hf
      ∙ ap (λ (z : ℕ). max z (raised f)) (raised-min p q hp hq)

  high-plain : raised (high p q f m) ≡ high_n p q m
  high-plain =
      ap (λ (z : ℤ). raised (z_min (z_max p q) z)) (max-le f m l)
      ∙ raised-min (z_max p q) m (high-max p q hp hq) hm
      ∙ ap (λ (z : ℕ). min z (raised m)) (raised-max p q hp hq)

  -- the tests of a third number
  pub low-eq : (z : ℤ) → High z → z_eq (low p q f m) z ≡ eqb (low_n p q f) (raised z)
  low-eq z hz =
      raised-eq (low p q f m) z (high-max _ _ (high-min p q hp hq) (high-min f m hf hm)) hz ∙ ap (λ (i : ℕ). eqb i (raised z)) low-plain

  pub high-eq : (z : ℤ) → High z → z_eq (high p q f m) z ≡ eqb (high_n p q m) (raised z)
  high-eq z hz =
      raised-eq (high p q f m) z (high-min _ _ (high-max p q hp hq) (high-max f m hf hm)) hz ∙ ap (λ (i : ℕ). eqb i (raised z)) high-plain

neg-high : (p q f m : ℤ) → neg (high p q f m) ≡ low (neg p) (neg q) (neg f) (neg m)
neg-high p q f m = neg-min (z_max p q) (z_max f m) ∙ ap₂ z_max (neg-max p q) (neg-max f m)

neg_low : (p q f m : ℤ) → neg (low p q f m) ≡ high (neg p) (neg q) (neg f) (neg m)
neg_low p q f m = neg-max (z_min p q) (z_min f m) ∙ ap₂ z_min (neg-min p q) (neg-min f m)

module _ (p q f m : ℤ) (l : Le (neg f) (neg m)) (hp : High (neg p)) (hq : High (neg q)) (hf : High (neg f)) (hm : High (neg m)) where
  pub high-turned-eq : (z : ℤ) → High (neg z) → z_eq (high p q f m) z ≡ eqb (low_n (neg p) (neg q) (neg f)) (raised (neg z))
  high-turned-eq z hz =
      sym (negated (high p q f m) z)
      ∙ ap (λ (i : ℤ). z_eq i (neg z)) (neg-high p q f m)
      ∙ low-eq (neg p) (neg q) (neg f) (neg m) l hp hq hf hm (neg z) hz

  pub low-turned-eq : (z : ℤ) → High (neg z) → z_eq (low p q f m) z ≡ eqb (high_n (neg p) (neg q) (neg m)) (raised (neg z))
  low-turned-eq z hz =
      sym (negated (low p q f m) z)
      ∙ ap (λ (i : ℤ). z_eq i (neg z)) (neg_low p q f m)
      ∙ high-eq (neg p) (neg q) (neg f) (neg m) l hp hq hf hm (neg z) hz

-- In a place and nowhere else

and-fours : (a b c d : Bool) → ((a && b) && (c && d)) ≡ ((a && d) && (c && b))
and-fours true true true d = by d (λ e. rw e refl) (λ e. rw e refl)
and-fours true true false d = by d (λ e. rw e refl) (λ e. rw e refl)
and-fours true false true d = by d (λ e. rw e refl) (λ e. rw e refl)
and-fours true false false d = by d (λ e. rw e refl) (λ e. rw e refl)
and-fours false b c d = refl

and-swap : (a b c d : Bool) → ((a && b) && (c && d)) ≡ ((b && a) && (d && c))
and-swap a b c d = ap₂ ◌&&◌ (swap a b) (swap c d)
  where
    swap : (a b : Bool) → (a && b) ≡ (b && a)
    swap true true = refl
    swap true false = refl
    swap false true = refl
    swap false false = refl

-- a place's two numbers are not too far below zero
abbrev pub Highs : Side → Place → Type 0
Highs s p = High (along s p) × High (across s p)

module _ (s : Side) (x : Edge) (F M : Place) where
  abbrev pub low_spot : Spot
  low_spot = record {
    along = low_n (along s x.0) (along s x.1) (along s F);
    across = low_n (across s x.0) (across s x.1) (across s F);
  }

  abbrev pub high_spot : Spot
  high_spot = record {
    along = high_n (along s x.0) (along s x.1) (along s M);
    across = high_n (across s x.0) (across s x.1) (across s M);
  }

pub only-is : (s : Side) (x : Edge) (F M q : Place) → Le (along s F) (along s M) → Le (across s F) (across s M)
    → Highs s x.0 → Highs s x.1 → Highs s F → Highs s M → Highs s q
    → only_in x (F, M) q ≡ (same_spot (low_spot s x F M) (spot s q) && same_spot (high_spot s x F M) (spot s q))
unfolding only_in low_corner high_corner same_spot same_place along across
only-is Above x F M q l c h0 h1 hF hM hq =
    ap₂ ◌&&◌
    (ap₂ ◌&&◌ (low-eq x.0.x x.1.x F.x M.x l h0.0 h1.0 hF.0 hM.0 q.x hq.0)
    (low-eq x.0.y x.1.y F.y M.y c h0.1 h1.1 hF.1 hM.1 q.y hq.1))
    (ap₂ ◌&&◌ (high-eq x.0.x x.1.x F.x M.x l h0.0 h1.0 hF.0 hM.0 q.x hq.0)
    (high-eq x.0.y x.1.y F.y M.y c h0.1 h1.1 hF.1 hM.1 q.y hq.1))
only-is Below x F M q l c h0 h1 hF hM hq =
    and-fours (z_eq (low x.0.x x.1.x F.x M.x) q.x) (z_eq (low x.0.y x.1.y F.y M.y) q.y)
    (z_eq (high x.0.x x.1.x F.x M.x) q.x) (z_eq (high x.0.y x.1.y F.y M.y) q.y)
    ∙ ap₂ ◌&&◌
    (ap₂ ◌&&◌ (low-eq x.0.x x.1.x F.x M.x l h0.0 h1.0 hF.0 hM.0 q.x hq.0)
    (high-turned-eq x.0.y x.1.y F.y M.y c h0.1 h1.1 hF.1 hM.1 q.y hq.1))
    (ap₂ ◌&&◌ (high-eq x.0.x x.1.x F.x M.x l h0.0 h1.0 hF.0 hM.0 q.x hq.0)
    (low-turned-eq x.0.y x.1.y F.y M.y c h0.1 h1.1 hF.1 hM.1 q.y hq.1))
only-is Right x F M q l c h0 h1 hF hM hq =
    and-swap (z_eq (low x.0.x x.1.x F.x M.x) q.x) (z_eq (low x.0.y x.1.y F.y M.y) q.y)
    (z_eq (high x.0.x x.1.x F.x M.x) q.x) (z_eq (high x.0.y x.1.y F.y M.y) q.y)
    ∙ ap₂ ◌&&◌
    (ap₂ ◌&&◌ (low-eq x.0.y x.1.y F.y M.y l h0.0 h1.0 hF.0 hM.0 q.y hq.0)
    (low-eq x.0.x x.1.x F.x M.x c h0.1 h1.1 hF.1 hM.1 q.x hq.1))
    (ap₂ ◌&&◌ (high-eq x.0.y x.1.y F.y M.y l h0.0 h1.0 hF.0 hM.0 q.y hq.0)
    (high-eq x.0.x x.1.x F.x M.x c h0.1 h1.1 hF.1 hM.1 q.x hq.1))
only-is Left x F M q l c h0 h1 hF hM hq =
    and-swap (z_eq (low x.0.x x.1.x F.x M.x) q.x) (z_eq (low x.0.y x.1.y F.y M.y) q.y)
    (z_eq (high x.0.x x.1.x F.x M.x) q.x) (z_eq (high x.0.y x.1.y F.y M.y) q.y)
    ∙ and-fours (z_eq (low x.0.y x.1.y F.y M.y) q.y) (z_eq (low x.0.x x.1.x F.x M.x) q.x)
    (z_eq (high x.0.y x.1.y F.y M.y) q.y) (z_eq (high x.0.x x.1.x F.x M.x) q.x)
    ∙ ap₂ ◌&&◌
    (ap₂ ◌&&◌ (low-eq x.0.y x.1.y F.y M.y l h0.0 h1.0 hF.0 hM.0 q.y hq.0)
    (high-turned-eq x.0.x x.1.x F.x M.x c h0.1 h1.1 hF.1 hM.1 q.x hq.1))
    (ap₂ ◌&&◌ (high-eq x.0.y x.1.y F.y M.y l h0.0 h1.0 hF.0 hM.0 q.y hq.0)
    (low-turned-eq x.0.x x.1.x F.x M.x c h0.1 h1.1 hF.1 hM.1 q.x hq.1))
