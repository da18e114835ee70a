-- From a row of numbers, as a program holds it, to a table by place: a settled row is a table of distances to a pin. A place that is no
-- crossing has the cap.
-- Assumes nothing.
use mathlib.Core.Path.{◌≡◌, refl, sym, ap, ◌∙◌}
use mathlib.Core.Bool.{Bool, true, false}
use mathlib.Core.Logic.{◌⊎◌, inl, inr}
use mathlib.Core.List.{List}
use Prim.Native.Nat.{ℕ, ◌+◌, ◌≤◌, ◌<◌}
use native.Mathlib.Omega.{arith}
use Rattle.lists.proofs.TestLaws.{by}
use Rattle.joined.specs.Joined.{Link}
use Rattle.grid.specs.Rows.{at, Held, Quiet}
use Rattle.grid.specs.Nearest.{Nearest}

module _ {A : Type 0} (G : List (A × A)) (d : A → A → ℕ) (cap : ℕ) (on : A → Bool) (number : A → ℕ) where
  -- the edges by numbers
  pub record NearOf (v w c : ℕ) : Type 0 where
    pub from : A
    pub to : A
    pub link : Link G from to
    pub from_is : v ≡ number from
    pub to_is : w ≡ number to
    pub cost-is : c ≡ d from to

  unfoldable pub spread : List ℕ → A → ℕ
  spread t v = elim (on v) [ true ↦ at t (number v) | false ↦ cap ]

  pub spread-on : (t : List ℕ) (v : A) → on v ≡ true → spread t v ≡ at t (number v)
  unfolding spread
  spread-on t v e = rw (spread, e) refl

  pub spread-off : (t : List ℕ) (v : A) → on v ≡ false → spread t v ≡ cap
  unfolding spread
  spread-off t v e = rw (spread, e) refl

  module _ (single : (a b : A) → on a ≡ true → on b ≡ true → number a ≡ number b → a ≡ b)
      (ends_on : (a b : A) → Link G a b → (on a ≡ true) × (on b ≡ true)) (s t : List ℕ) (h : Held NearOf s t) where
    pub spread-below : (v : A) → spread t v ≤ spread s v
    spread-below v =
        by (on v) (λ e. omega (arith, spread-on t v e, spread-on s v e, h.below (number v)))
        (λ e. omega (arith, spread-off t v e, spread-off s v e))

    pub spread-quiet : Quiet NearOf t → (v w : A) → Link G v w → spread t v ≤ spread t w + d v w
    spread-quiet q v w l =
        let o = ends_on v w l in
        omega (
          arith,
          spread-on t v o.0,
          spread-on t w o.1,
          q (number v) (number w) (d v w) record { from = v; to = w; link = l; from_is = refl; to_is = refl; cost-is = refl },
        )

    pub spread-why : (v : A) → spread t v < cap → (spread t v ≡ spread s v) ⊎ ((w : A) × (Link G v w × (spread t w + d v w ≤ spread t v)))
    spread-why v low =
        by (on v) (λ e. pick e (h.why (number v))) (λ e. let z : ⊥ = omega (arith, low, spread-off t v e) in absurd z)
      where
        over : on v ≡ true → (x c : ℕ) → NearOf (number v) x c → at t x + c ≤ at t (number v) →
            (w : A) × (Link G v w × (spread t w + d v w ≤ spread t v))
        over e x c n k =
            let o = ends_on n.from n.to n.link in
            let same : v ≡ n.from = single v n.from e o.0 n.from_is in
            let l : Link G v n.to = rw same n.link in
            let cost : c ≡ d v n.to = n.cost-is ∙ ap (λ (z : A). d z n.to) (sym same) in
            let there : at t x ≡ spread t n.to = ap (at t) n.to_is ∙ sym (spread-on t n.to o.1) in
            (n.to, (l, omega (arith, k, cost, there, spread-on t v e)))

        pick : on v ≡ true → (at t (number v) ≡ at s (number v)) ⊎
            ((w : ℕ) × ((c : ℕ) × (NearOf (number v) w c × (at t w + c ≤ at t (number v))))) →
            (spread t v ≡ spread s v) ⊎ ((w : A) × (Link G v w × (spread t w + d v w ≤ spread t v)))
        pick e (inl k) = inl (spread-on t v e ∙ k ∙ sym (spread-on s v e))
        pick e (inr r) = inr (over e r.0 r.1.0 r.1.1.0 r.1.1.1)

    -- a row that starts with 0 at the pin p and the cap elsewhere
    pub row-nearest : Quiet NearOf t → (p : A) → spread s p ≡ 0 → ((v : A) → spread s v < cap → v ≡ p) → Nearest G d cap p (spread t)
    row-nearest q p zero else = record {
      at-point = omega (arith, spread-below p, zero);
      quiet = spread-quiet q;
      why = λ v low. pick v low (spread-why v low);
    }
      where
        pick : (v : A) → spread t v < cap → (spread t v ≡ spread s v) ⊎ ((w : A) × (Link G v w × (spread t w + d v w ≤ spread t v))) →
            ((v ≡ p) × (spread t v ≡ 0)) ⊎ ((w : A) × (Link G v w × (spread t v ≡ spread t w + d v w)))
        pick v low (inl e) = let k = else v (omega (arith, low, e)) in inl (k, e ∙ ap (spread s) k ∙ zero)
        pick v low (inr r) = inr (r.0, (r.1.0, omega (arith, r.1.1, spread-quiet q v r.0 r.1.0)))
