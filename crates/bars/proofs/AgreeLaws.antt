-- The best move that a scan keeps agrees with the best of the definitions: the same saving, and the same move where that is above zero.
-- What saves nothing may be passed over, and so may a bar that could not beat the best even if it moved as far as its shortest edge.
-- Assumes nothing.
use mathlib.Core.Path.{◌≡◌, refl, sym, ap, ap₂, ◌∙◌}
use mathlib.Core.Bool.{Bool, true, false}
use mathlib.Core.List.{List, [], ◌∷◌}
use Prim.Native.Nat.{ℕ, ◌≤◌, ◌<◌}
use native.Mathlib.Omega.{arith}
use native.Mathlib.Nat.{mul-le-mul_right}
use borrow.Author.Tests.{eqb-true, eqb-false, ltb-true, ltb-false, le-ltb}
use lib.Dec.{eqb, leb, ltb}
use lib.IntN.{ℤ}
use Rattle.lists.specs.Sorted.{first_then}
use Rattle.lists.proofs.TestLaws.{by, differ}
use Rattle.plane.specs.declared.Place.{Place}
use Rattle.plane.specs.Place.{before}
use Rattle.slide.specs.declared.Side.{Side}
use Rattle.slide.specs.declared.Move.{Move}
use Rattle.slide.specs.Side.{horizontal}
use Rattle.slide.specs.Slide.{flatter, better, best_of}
use Rattle.bars.specs.declared.Best.{Best}
use Rattle.reach.specs.declared.Size.{Size}
use Rattle.turned.specs.Turned.{View}
use Rattle.hanging.specs.Hanging.{hang}
use Rattle.moves.specs.Moving.{held}
use Rattle.bars.specs.Offers.{move_by, rate_of, reach_of, taken, offered}
use Rattle.moves.proofs.MovingLaws.{better-more}

pub record Agrees (b c : Move) : Type 0 where
  pub saves : b.saving ≡ c.saving
  pub is : 0 < c.saving → b ≡ c

-- Better saves no less

pub better-least : (m n : Move) → better m n ≡ true → n.saving ≤ m.saving
unfolding better first_then
better-least m n e =
    by (ltb n.saving m.saving)
    (λ h. let z = ltb-true n.saving m.saving h in omega (arith, z))
    (λ h. by (ltb m.saving n.saving)
    (λ k. differ e (rw (better, first_then, h, k) refl))
    (λ k. ltb-false m.saving n.saving k))

pub better-most : (m n : Move) → better m n ≡ false → m.saving ≤ n.saving
better-most m n e =
    by (ltb n.saving m.saving)
    (λ h. differ (sym (better-more m n (ltb-true n.saving m.saving h))) e)
    (λ h. ltb-false n.saving m.saving h)

-- the same bar and side with a smaller saving is no better either
abbrev later : Move → Move → Bool
later m n = first_then before flatter (m.first, horizontal m.side) (n.first, horizontal n.side)

pub better-fewer : (n m b : Move) → n.saving ≤ m.saving → n.first ≡ m.first → n.side ≡ m.side → better m b ≡ false
    → better n b ≡ false
unfolding better first_then
better-fewer n m b l f s e =
    by (ltb b.saving n.saving)
    (λ h. differ (sym (better-more m b (let z = ltb-true b.saving n.saving h in omega (arith, z, l)))) e)
    (λ h. by (ltb n.saving b.saving)
    (λ k. rw (better, first_then, h, k) refl)
    (λ k.
    let z = ltb-false b.saving n.saving h in
    let y = ltb-false n.saving b.saving k in
    let most = better-most m b e in
    let u = le-ltb b.saving m.saving most in
    let w = le-ltb m.saving b.saving (omega (arith, z, y, l)) in
    let tail : later m b ≡ false = sym (rw (better, first_then, u, w) refl) ∙ e in
    rw (better, first_then, h, k) (ap₂
    (λ (p : Place) (t : Side). first_then before flatter (p, horizontal t) (b.first, horizontal b.side)) f s ∙ tail)))

-- One move more

pub none-agrees : (b n : Move) → b.saving ≡ 0 → n.saving ≡ 0 → Agrees b n
none-agrees b n e f = record { saves = e ∙ sym f; is = λ h. absurd (let z : ⊥ = omega (arith, h, f) in z) }

pub agrees-none : (b c n : Move) → Agrees b c → n.saving ≡ 0 → Agrees b (best_of c (n ∷ []))
unfolding best_of
agrees-none b c n a z =
    by (better n c)
    (λ e. rw (best_of, e) (none-agrees b n (let l = better-least n c e in omega (arith, l, z, a.saves)) z))
    (λ e. rw (best_of, e) a)

pub agrees-taken : (b c n : Move) → Agrees b c → Agrees (best_of b (n ∷ [])) (best_of c (n ∷ []))
unfolding best_of
agrees-taken b c n a =
    by (eqb c.saving 0)
    (λ e.
    let zc = eqb-true c.saving 0 e in
    let zb : b.saving ≡ 0 = a.saves ∙ zc in
    by (eqb n.saving 0)
    (λ g.
    let zn = eqb-true n.saving 0 g in
    by (better n b)
    (λ x. by (better n c) (λ y. rw (best_of, x, y) (none-agrees n n zn zn)) (λ y. rw (best_of, x, y) (none-agrees n c zn zc)))
    (λ x. by (better n c) (λ y. rw (best_of, x, y) (none-agrees b n zb zn)) (λ y. rw (best_of, x, y) (none-agrees b c zb zc))))
    (λ g.
    let d = eqb-false n.saving 0 g in
    let x = sym (better-more n b (omega (arith, d, zb))) in
    let y = sym (better-more n c (omega (arith, d, zc))) in
    rw (best_of, x, y) (record { saves = refl; is = λ h. refl })))
    (λ e.
    let d = eqb-false c.saving 0 e in
    let q = a.is (omega (arith, d)) in
    rw q (record { saves = refl; is = λ h. refl }))

pub agrees-weak : (b c n m : Move) → Agrees b c → n.saving ≤ m.saving → n.first ≡ m.first → n.side ≡ m.side → better m b ≡ false
    → Agrees b (best_of c (n ∷ []))
unfolding best_of
agrees-weak b c n m a l f s e =
    by (eqb c.saving 0)
    (λ g.
    let zc = eqb-true c.saving 0 g in
    let k = better-most m b e in
    agrees-none b c n a (omega (arith, k, l, zc, a.saves)))
    (λ g.
    let d = eqb-false c.saving 0 g in
    let q = a.is (omega (arith, d)) in
    let x : better n c ≡ false = ap (better n) (sym q) ∙ better-fewer n m b l f s e in
    rw (best_of, x) a)

-- A bar offered: n is its move as the definitions have it

module _ (v : View) (z : Size) (ms : List ℤ) (seats : List ℕ) (c : Best) (n : Move) where
  abbrev level : Bool
  level = leb (hang v z.edges).ahead (hang v z.edges).behind

  taken_is : (k : Move) → (taken v k c).best ≡ best_of c.best (k ∷ [])
  unfolding taken best_of
  taken_is k = by (better k c.best) (λ g. rw (taken, best_of, g) refl) (λ g. rw (taken, best_of, g) refl)

  taken-agrees : n ≡ move_by v z (reach_of v z ms) → (m : Move) → Agrees c.best m
      → Agrees (taken v (move_by v z (reach_of v z ms)) c).best (best_of m (n ∷ []))
  taken-agrees q m a =
      rw (taken_is (move_by v z (reach_of v z ms)), q) (agrees-taken c.best m (move_by v z (reach_of v z ms)) a)

  pub offered-agrees : (level ≡ true → n.saving ≡ 0) → (held v seats z.pins ≡ true → n.saving ≡ 0)
      → (level ≡ false → held v seats z.pins ≡ false → n ≡ move_by v z (reach_of v z ms))
      → reach_of v z ms ≤ (hang v z.edges).shortest
      → (m : Move) → Agrees c.best m → Agrees (offered v z ms seats c).best (best_of m (n ∷ []))
  unfolding offered taken
  offered-agrees even pinned is less m a =
      by level
      (λ e. rw (offered, e) (agrees-none c.best m n a (even e)))
      (λ e. by (held v seats z.pins)
      (λ h. by (better (move_by v z (hang v z.edges).shortest) c.best)
      (λ g. rw (offered, e, g, h) (agrees-none c.best m n a (pinned h)))
      (λ g. rw (offered, e, g) (agrees-none c.best m n a (pinned h))))
      (λ h. by (better (move_by v z (hang v z.edges).shortest) c.best)
      (λ g. rw (offered, e, g, h) (taken-agrees (is e h) m a))
      (λ g. rw (offered, e, g)
      (agrees-weak c.best m n (move_by v z (hang v z.edges).shortest) a
      (rw (is e h) (mul-le-mul_right (rate_of v z) less)) (ap (λ (k : Move). k.first) (is e h)) (ap (λ (k : Move). k.side) (is e h)) g))))
