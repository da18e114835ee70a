-- Lowering one value keeps what is held of a row, and lowers the sum of the row, which is the measure of the passes.
-- Assumes nothing.
use mathlib.Core.Path.{◌≡◌, refl, ◌∙◌}
use mathlib.Core.Bool.{true, false}
use mathlib.Core.Logic.{◌⊎◌, inl, inr}
use mathlib.Core.List.{List, [], ◌∷◌}
use Prim.Native.Nat.{ℕ, zero, suc, ◌+◌, ◌≤◌, ◌<◌}
use native.Mathlib.Decide.{ℕ_discrete}
use native.Mathlib.Omega.{arith}
use borrow.Author.Tests.{ltb-true, ltb-false}
use lib.Dec.{ltb}
use lib.ListN.{set, length, length-set}
use lib.Seq.{get_or-set_same, get_or-set_other}
use Rattle.lists.specs.Total.{total}
use Rattle.lists.proofs.TestLaws.{by}
use Rattle.grid.specs.Rows.{at, lowered, Held, Quiet}

pub total-set : (t : List ℕ) (v x : ℕ) → v < length t → total (set t v x) + at t v ≡ total t + x
unfolding total
total-set [] v x h = absurd (let z : ⊥ = omega arith in z)
total-set (y ∷ t) zero x h = omega arith
total-set (y ∷ t) (suc v) x h = omega (arith, total-set t v x (omega arith))

-- the two cases
pub lowered-hit : (v w c : ℕ) (t : List ℕ) → ltb (at t w + c) (at t v) ≡ true → lowered v w c t ≡ set t v (at t w + c)
unfolding lowered
lowered-hit v w c t e = rw (lowered, e) refl

pub lowered-miss : (v w c : ℕ) (t : List ℕ) → ltb (at t w + c) (at t v) ≡ false → lowered v w c t ≡ t
unfolding lowered
lowered-miss v w c t e = rw (lowered, e) refl

-- a value that is lowered lowers the sum
pub lowered-less : (v w c : ℕ) (t : List ℕ) → v < length t → ltb (at t w + c) (at t v) ≡ true → total (lowered v w c t) < total t
lowered-less v w c t h e = rw (lowered-hit v w c t e) (omega (arith, total-set t v (at t w + c) h, ltb-true (at t w + c) (at t v) e))

-- the value is then no more than over the edge, and no other is changed
pub lowered-there : (v w c : ℕ) (t : List ℕ) → v < length t → at (lowered v w c t) v ≤ at t w + c
lowered-there v w c t h =
    by (ltb (at t w + c) (at t v))
    (λ e. rw (lowered-hit v w c t e) (omega (arith, get_or-set_same t v (at t w + c) 0 h)))
    (λ e. rw (lowered-miss v w c t e) (omega (arith, ltb-false (at t w + c) (at t v) e)))

pub lowered-other : (v w c : ℕ) (t : List ℕ) (x : ℕ) → (x ≡ v → ⊥) → at (lowered v w c t) x ≡ at t x
lowered-other v w c t x n =
    by (ltb (at t w + c) (at t v))
    (λ e. rw (lowered-hit v w c t e) (get_or-set_other t v x (at t w + c) 0 n))
    (λ e. rw (lowered-miss v w c t e) refl)

module _ (near : ℕ → ℕ → ℕ → Type 0) where
  pub held_start : (s : List ℕ) → Held near s s
  held_start s = record { size = refl; below = λ v. omega arith; why = λ v. inl refl }

  -- one value lowered, at v by an edge
  module _ (s t : List ℕ) (h : Held near s t) (v w c : ℕ) (edge : near v w c) (inside : v < length t)
      (less : at t w + c < at t v) where
    abbrev new : List ℕ
    new = set t v (at t w + c)

    here : at new v ≡ at t w + c
    here = get_or-set_same t v (at t w + c) 0 inside

    elsewhere : (u : ℕ) → (u ≡ v → ⊥) → at new u ≡ at t u
    elsewhere u n = get_or-set_other t v u (at t w + c) 0 n

    lower : (u : ℕ) → at new u ≤ at t u
    lower u = pick (ℕ_discrete u v)
      where
        pick : Dec (u ≡ v) → at new u ≤ at t u
        pick (yes e) = rw e (omega (arith, here, less))
        pick (no n) = omega (arith, elsewhere u n)

    why : (u : ℕ) → (at new u ≡ at s u) ⊎ ((x : ℕ) × ((e : ℕ) × (near u x e × (at new x + e ≤ at new u))))
    why u = pick (ℕ_discrete u v) (h.why u)
      where
        pick : Dec (u ≡ v) → (at t u ≡ at s u) ⊎ ((x : ℕ) × ((e : ℕ) × (near u x e × (at t x + e ≤ at t u)))) →
            (at new u ≡ at s u) ⊎ ((x : ℕ) × ((e : ℕ) × (near u x e × (at new x + e ≤ at new u))))
        pick (yes k) r = inr (w, (c, (rw k edge, rw k (omega (arith, here, lower w)))))
        pick (no n) (inl e) = inl (elsewhere u n ∙ e)
        pick (no n) (inr r) = inr (r.0, (r.1.0, (r.1.1.0, omega (arith, r.1.1.1, lower r.0, elsewhere u n))))

    pub held-lower : Held near s new
    held-lower = record {
      size = length-set t v (at t w + c) ∙ h.size;
      below = λ u. omega (arith, lower u, h.below u);
      why = why;
    }

  pub held-lowered : (s t : List ℕ) → Held near s t → (v w c : ℕ) → near v w c → v < length t → Held near s (lowered v w c t)
  held-lowered s t h v w c edge inside =
      by (ltb (at t w + c) (at t v))
      (λ e. rw (lowered-hit v w c t e) (held-lower s t h v w c edge inside (ltb-true (at t w + c) (at t v) e)))
      (λ e. rw (lowered-miss v w c t e) h)

  -- what became of what became of a row
  pub held_then : (s t u : List ℕ) → Held near s t → Held near t u → Held near s u
  held_then s t u h k = record {
    size = k.size ∙ h.size;
    below = λ v. omega (arith, h.below v, k.below v);
    why = λ v. pick v (h.why v) (k.why v);
  }
    where
      pick : (v : ℕ) → (at t v ≡ at s v) ⊎ ((w : ℕ) × ((c : ℕ) × (near v w c × (at t w + c ≤ at t v)))) →
          (at u v ≡ at t v) ⊎ ((w : ℕ) × ((c : ℕ) × (near v w c × (at u w + c ≤ at u v)))) →
          (at u v ≡ at s v) ⊎ ((w : ℕ) × ((c : ℕ) × (near v w c × (at u w + c ≤ at u v))))
      pick v r (inr q) = inr q
      pick v (inl e) (inl f) = inl (f ∙ e)
      pick v (inr r) (inl f) = inr (r.0, (r.1.0, (r.1.1.0, omega (arith, r.1.1.1, f, k.below r.0))))

  -- where nothing is left to lower, a value is its start or just that over an edge
  pub quiet-why : (s t : List ℕ) → Held near s t → Quiet near t → (v : ℕ) →
      (at t v ≡ at s v) ⊎ ((w : ℕ) × ((c : ℕ) × (near v w c × (at t v ≡ at t w + c))))
  quiet-why s t h q v = pick (h.why v)
    where
      pick : (at t v ≡ at s v) ⊎ ((w : ℕ) × ((c : ℕ) × (near v w c × (at t w + c ≤ at t v)))) →
          (at t v ≡ at s v) ⊎ ((w : ℕ) × ((c : ℕ) × (near v w c × (at t v ≡ at t w + c))))
      pick (inl e) = inl e
      pick (inr r) = inr (r.0, (r.1.0, (r.1.1.0, omega (arith, r.1.1.1, q v r.0 r.1.0 r.1.1.0))))

-- the same edges, said in another way
pub held-near : (near other : ℕ → ℕ → ℕ → Type 0) → ((v w c : ℕ) → near v w c → other v w c) → (s t : List ℕ) → Held near s t →
    Held other s t
held-near near other f s t h = record { size = h.size; below = h.below; why = λ v. pick v (h.why v) }
  where
    pick : (v : ℕ) → (at t v ≡ at s v) ⊎ ((w : ℕ) × ((c : ℕ) × (near v w c × (at t w + c ≤ at t v)))) →
        (at t v ≡ at s v) ⊎ ((w : ℕ) × ((c : ℕ) × (other v w c × (at t w + c ≤ at t v))))
    pick v (inl e) = inl e
    pick v (inr r) = inr (r.0, (r.1.0, (f v r.0 r.1.0 r.1.1.0, r.1.1.1)))

pub quiet-near : (near other : ℕ → ℕ → ℕ → Type 0) → ((v w c : ℕ) → other v w c → near v w c) → (t : List ℕ) → Quiet near t → Quiet other t
quiet-near near other f t q v w c n = q v w c (f v w c n)
