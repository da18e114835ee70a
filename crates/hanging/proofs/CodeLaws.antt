-- The code's small steps are those of the definitions.
-- Assumes nothing.
use mathlib.Core.Path.{◌≡◌, refl}
use mathlib.Core.Bool.{Bool, true, false}
use Prim.Native.Nat.{ℕ, ◌+◌, ◌≤◌, min}
use native.Mathlib.Omega.{arith}
use borrow.Author.Tests.{eq-eqb, ne_eqb}
use lib.Dec.{eqb}
use mir.Val.{bool_byte}
use Rattle.lists.proofs.TestLaws.{by}
use Rattle.turned.specs.declared.Seen.{Seen}
use Rattle.hanging.specs.declared.Hang.{Hang}
use Rattle.hanging.specs.Hanging.{counted, shorter, hung}
use Rattle.turned.specs.Turned.{ahead_of, behind_of, long_of}

pub shorter-first : (d : ℕ) (h : Hang) → h.ahead ≡ 0 → d ≡ shorter true d h
unfolding shorter
shorter-first d h e = rw (shorter, eq-eqb h.ahead 0 e) refl

pub shorter-next : (d : ℕ) (h : Hang) → (h.ahead ≡ 0 → ⊥) → min h.shortest d ≡ shorter true d h
unfolding shorter
shorter-next d h e = rw (shorter, ne_eqb h.ahead 0 e) refl

abbrev hang_of : ℕ → ℕ → ℕ → Hang
hang_of a b d = record { ahead = a; behind = b; shortest = d }

counted-byte : (t : Bool) (n b : ℕ) → b ≡ bool_byte t → n + b ≡ counted t n
unfolding counted
counted-byte true n b e = omega (arith, e)
counted-byte false n b e = omega (arith, e)

module _ (e : Seen) (h : Hang) (a b : ℕ) (t u : Bool) (p : t ≡ ahead_of e) (r : u ≡ behind_of e) (f : a ≡ bool_byte t) (g : b ≡ bool_byte u)
  where
    pub hung-ahead : t ≡ true → (n m : ℕ) → n ≡ long_of e → m ≡ shorter true n h → hang_of (h.ahead + a) (h.behind + b) m ≡ hung e h
    unfolding hung
    hung-ahead q n m v w = rw (hung, counted-byte t h.ahead a f, counted-byte u h.behind b g, ← p, ← r, q, w, v) refl

    pub hung-not : t ≡ false → hang_of (h.ahead + a) (h.behind + b) h.shortest ≡ hung e h
    unfolding hung shorter
    hung-not q = rw (hung, counted-byte t h.ahead a f, counted-byte u h.behind b g, ← p, ← r, q) refl

count_small : (t : Bool) (m k : ℕ) → m ≤ k → counted t m ≤ k + 1
unfolding counted
count_small true m k l = omega arith
count_small false m k l = omega arith

short-small : (t : Bool) (d : ℕ) (h : Hang) (n : ℕ) → h.shortest ≤ n → d ≤ n → shorter t d h ≤ n
unfolding shorter
short-small true d h n a b = by (eqb h.ahead 0) (λ e. rw (shorter, e) b) (λ e. rw (shorter, e) (omega arith))
short-small false d h n a b = a

-- bounds of what hangs
pub hung-small : (e : Seen) (h r : Hang) (k n : ℕ) → r ≡ hung e h → h.ahead ≤ k → h.behind ≤ k → h.shortest ≤ n
    → e.from.across ≤ n → e.to.across ≤ n → ((r.ahead ≤ k + 1) × (r.behind ≤ k + 1)) × (r.shortest ≤ n)
unfolding hung
hung-small e h r k n q a b c d f =
    rw q (
      (count_small (ahead_of e) h.ahead k a, count_small (behind_of e) h.behind k b),
      short-small (ahead_of e) (long_of e) h n c (omega arith),
    )
