-- What is used of a side: a place moved to it, a place told by its two numbers, boxes, and the cost by the two numbers. Each is said of the
-- four sides here and nowhere else.
-- Assumes nothing.
use mathlib.Core.Path.{◌≡◌, refl, sym, ap, ap₂, ◌∙◌}
use mathlib.Core.Bool.{true}
use mathlib.Core.Logic.{◌⊎◌, inl, inr}
use Prim.Native.Nat.{ℕ, ◌+◌, ◌*◌}
use native.Mathlib.Omega.{arith}
use native.Mathlib.Nat.{mul_comm}
use lib.IntN.{ℤ, pos, ◌+ℤ◌, ◌-ℤ◌}
use Rattle.lists.proofs.TestLaws.{by, either}
use Rattle.signed.specs.Sides.{up, down, Lt, Le}
use Rattle.signed.specs.Order.{z_eq}
use Rattle.signed.proofs.SideLaws.{add-sides, sub-sides, up_pos, down_pos, eq_of, signed}
use Rattle.signed.proofs.OrderLaws.{min-sides, max-sides, z_eq-true, z_eq-refl}
use Rattle.plane.specs.declared.Place.{Place}
use Rattle.plane.specs.Place.{place, before}
use Rattle.plane.specs.Distance.{apart}
use Rattle.plane.specs.Cost.{cost}
use Rattle.plane.specs.Box.{Between, InBox}
use Rattle.plane.proofs.DistanceLaws.{apart-sides}
use Rattle.plane.proofs.PlaceLaws.{before-by-x, before-by-y}
use Rattle.net.specs.Net.{Net, cost_in}
use Rattle.slide.specs.declared.Side.{Side}
use Rattle.slide.specs.declared.Side.TheVariants.{Above, Below, Right, Left}
use Rattle.slide.specs.Side.{along, across, moved, weight, weight_along}
use Rattle.slide.specs.Bend.{straight}
use Rattle.slide.specs.Bar.{level}

-- Numbers

between : (c a b : ℤ) → Le a c → Le c b → Between c a b
between c a b h k = (omega (signed, h, k, min-sides a b), omega (signed, h, k, max-sides a b))

between-back : (c a b : ℤ) → Le b c → Le c a → Between c a b
between-back c a b h k = (omega (signed, h, k, min-sides a b), omega (signed, h, k, max-sides a b))

zero-up : up (pos 0) ≡ 0
zero-up = up_pos 0

zero-down : down (pos 0) ≡ 0
zero-down = down_pos 0

-- below zero what was above it
pub less : (a b : ℤ) → Le (pos 0 -ℤ a) (pos 0 -ℤ b) → Le b a
less a b h = omega (arith, h, sub-sides (pos 0) a, sub-sides (pos 0) b, zero-up, zero-down)

turned-eq : (a b : ℤ) → pos 0 -ℤ a ≡ pos 0 -ℤ b → a ≡ b
turned-eq a b e =
    let h = ap up e in
    let k = ap down e in
    eq_of a b (omega (arith, sub-sides (pos 0) a, sub-sides (pos 0) b, zero-up, zero-down))

turned_apart : (a b : ℤ) → apart (pos 0 -ℤ a) (pos 0 -ℤ b) ≡ apart a b
turned_apart a b =
    omega (arith, apart-sides (pos 0 -ℤ a) (pos 0 -ℤ b), apart-sides a b, sub-sides (pos 0) a, sub-sides (pos 0) b, zero-up, zero-down)

-- z is y raised by d
abbrev Raised : ℤ → ℕ → ℤ → Type 0
Raised y d z = up z + down y ≡ d + up y + down z

raised : (y : ℤ) (d : ℕ) → Raised y d (y +ℤ pos d)
raised y d = omega (arith, add-sides y (pos d), up_pos d, down_pos d)

sunk : (y : ℤ) (d : ℕ) → Raised (pos 0 -ℤ y) d (pos 0 -ℤ (y -ℤ pos d))
sunk y d =
    omega (arith, sub-sides y (pos d), sub-sides (pos 0) y, sub-sides (pos 0) (y -ℤ pos d), up_pos d, down_pos d, zero-up, zero-down)

-- A place and a side

pub along-moved : (s : Side) (d : ℕ) (p : Place) → along s (moved s d p) ≡ along s p
unfolding along moved
along-moved Above d p = refl
along-moved Below d p = refl
along-moved Right d p = refl
along-moved Left d p = refl

pub across-moved : (s : Side) (d : ℕ) (p : Place) → Raised (across s p) d (across s (moved s d p))
unfolding across moved
across-moved Above d p = raised p.y d
across-moved Below d p = sunk p.y d
across-moved Right d p = raised p.x d
across-moved Left d p = sunk p.x d

pub one_place : (s : Side) (p q : Place) → along s p ≡ along s q → across s p ≡ across s q → p ≡ q
unfolding along across
one_place Above p q e f = ap₂ place e f
one_place Below p q e f = ap₂ place e (turned-eq p.y q.y f)
one_place Right p q e f = ap₂ place f e
one_place Left p q e f = ap₂ place (turned-eq p.x q.x f) e

pub in-box : (s : Side) (c a b : Place) → Le (along s a) (along s c) → Le (along s c) (along s b) →
    Le (across s a) (across s c) → Le (across s c) (across s b) → InBox c a b
unfolding along across
in-box Above c a b h k l m = record { across = between c.x a.x b.x h k; along = between c.y a.y b.y l m }
in-box Below c a b h k l m =
    record {
      across = between c.x a.x b.x h k;
      along = between-back c.y a.y b.y (less c.y b.y m) (less a.y c.y l);
    }
in-box Right c a b h k l m = record { across = between c.x a.x b.x l m; along = between c.y a.y b.y h k }
in-box Left c a b h k l m =
    record {
      across = between-back c.x a.x b.x (less c.x b.x m) (less a.x c.x l);
      along = between c.y a.y b.y h k;
    }

-- the only place above `plane` where cost is taken apart: a bar's saving is of one axis
cost-axes : (net : Net) (a b : Place) →
    cost_in net a b ≡ net.weights.across * apart a.x b.x + net.weights.along * apart a.y b.y
unfolding cost
cost-axes net a b =
    ap₂ ◌+◌ (mul_comm (apart a.x b.x) net.weights.across) (mul_comm (apart a.y b.y) net.weights.along)

pub cost-by : (net : Net) (s : Side) (a b : Place) →
    cost_in net a b ≡ weight_along net s * apart (along s a) (along s b) + weight net s * apart (across s a) (across s b)
unfolding along across weight weight_along
cost-by net Above a b = cost-axes net a b
cost-by net Below a b = rw (turned_apart a.y b.y) (cost-axes net a b)
cost-by net Right a b = omega (arith, cost-axes net a b)
cost-by net Left a b = rw (turned_apart a.x b.x) (omega (arith, cost-axes net a b))

-- Edges

-- a line at right angles to a bar, or along it, is axis-parallel
pub upright-line : (s : Side) (a b : Place) → along s a ≡ along s b → (a.x ≡ b.x) ⊎ (a.y ≡ b.y)
unfolding along
upright-line Above a b e = inl e
upright-line Below a b e = inl e
upright-line Right a b e = inr e
upright-line Left a b e = inr e

pub level-line : (s : Side) (a b : Place) → across s a ≡ across s b → (a.x ≡ b.x) ⊎ (a.y ≡ b.y)
unfolding across
level-line Above a b e = inr e
level-line Below a b e = inr (turned-eq a.y b.y e)
level-line Right a b e = inl e
level-line Left a b e = inl (turned-eq a.x b.x e)

pub line-straight : (a b : Place) → (a.x ≡ b.x) ⊎ (a.y ≡ b.y) → straight (a, b) ≡ true
unfolding straight
line-straight a b (inl e) = rw (ap (z_eq a.x) (sym e) ∙ z_eq-refl a.x) refl
line-straight a b (inr e) =
    by (z_eq a.x b.x) (λ h. rw h refl) (λ h. rw (h, ap (z_eq a.y) (sym e) ∙ z_eq-refl a.y) refl)

pub straight_line : (a b : Place) → straight (a, b) ≡ true → (a.x ≡ b.x) ⊎ (a.y ≡ b.y)
unfolding straight
straight_line a b h =
    by (z_eq a.x b.x) (λ e. inl (z_eq-true _ _ e)) (λ e. inr (z_eq-true a.y b.y (rw e at h)))

-- an axis-parallel edge is at right angles to a bar or level
pub upright-or-level : (s : Side) (a b : Place) → straight (a, b) ≡ true → (along s a ≡ along s b) ⊎ (across s a ≡ across s b)
unfolding along across
upright-or-level Above a b h = straight_line a b h
upright-or-level Below a b h = either inl (λ e. inr (ap (λ (z : ℤ). pos 0 -ℤ z) e)) (straight_line a b h)
upright-or-level Right a b h = either inr inl (straight_line a b h)
upright-or-level Left a b h = either (λ e. inr (ap (λ (z : ℤ). pos 0 -ℤ z) e)) inl (straight_line a b h)

pub level-true : (s : Side) (a b : Place) → level s (a, b) ≡ true → across s a ≡ across s b
unfolding level
level-true s a b h = z_eq-true _ _ h

pub true-level : (s : Side) (a b : Place) → across s a ≡ across s b → level s (a, b) ≡ true
unfolding level
true-level s a b e = ap (z_eq (across s a)) (sym e) ∙ z_eq-refl (across s a)

-- There and back

pub opposite : Side → Side
opposite Above = Below
opposite Below = Above
opposite Right = Left
opposite Left = Right

less-more : (y : ℤ) (d : ℕ) → (y -ℤ pos d) +ℤ pos d ≡ y
less-more y d = eq_of _ _ (omega (arith, add-sides (y -ℤ pos d) (pos d), sub-sides y (pos d), up_pos d, down_pos d))

more-less : (y : ℤ) (d : ℕ) → (y +ℤ pos d) -ℤ pos d ≡ y
more-less y d = eq_of _ _ (omega (arith, add-sides y (pos d), sub-sides (y +ℤ pos d) (pos d), up_pos d, down_pos d))

pub there_and_back : (s : Side) (d : ℕ) (p : Place) → moved (opposite s) d (moved s d p) ≡ p
unfolding moved opposite
there_and_back Above d p = ap (place p.x) (more-less p.y d)
there_and_back Below d p = ap (place p.x) (less-more p.y d)
there_and_back Right d p = ap (λ (z : ℤ). place z p.y) (more-less p.x d)
there_and_back Left d p = ap (λ (z : ℤ). place z p.y) (less-more p.x d)

pub back-and-there : (s : Side) (d : ℕ) (p : Place) → moved s d (moved (opposite s) d p) ≡ p
unfolding moved opposite
back-and-there Above d p = ap (place p.x) (less-more p.y d)
back-and-there Below d p = ap (place p.x) (more-less p.y d)
back-and-there Right d p = ap (λ (z : ℤ). place z p.y) (less-more p.x d)
back-and-there Left d p = ap (λ (z : ℤ). place z p.y) (more-less p.x d)

-- The order of places on a bar's line

pub before-along : (s : Side) (p q : Place) → across s p ≡ across s q → Lt (along s p) (along s q) → before p q ≡ true
unfolding along across
before-along Above p q e h = before-by-x p q h
before-along Below p q e h = before-by-x p q h
before-along Right p q e h = before-by-y p q e h
before-along Left p q e h = before-by-y p q (turned-eq p.x q.x e) h
