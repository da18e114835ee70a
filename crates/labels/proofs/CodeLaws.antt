-- The code's small steps are those of the definitions.
-- Assumes nothing.
use mathlib.Core.Path.{◌≡◌, refl, sym, ap₂, ◌∙◌}
use mathlib.Core.Bool.{Bool, true, false}
use mathlib.Core.List.{List}
use Prim.Native.Nat.{ℕ, ◌≤◌, ◌<◌, min, max}
use native.Mathlib.Omega.{arith}
use borrow.Author.Tests.{eq-eqb, ne_eqb}
use lib.IntN.{ℤ}
use lib.ListN.{get_or}
use Rattle.joined.specs.Table.{changed}
use Rattle.slide.specs.declared.Side.{Side}
use Rattle.turned.specs.Steps.{set_up_to}
use Rattle.turned.specs.Turned.{level_at}
use Rattle.straight.specs.Table.{first_end, second_end}
use Rattle.labels.specs.Labelling.{united, joined_by}

pub changed-yes : (a b x : ℕ) → x ≡ b → a ≡ changed a b x
unfolding changed
changed-yes a b x e = rw (changed, eq-eqb x b e) refl

pub changed-no : (a b x : ℕ) → (x ≡ b → ⊥) → x ≡ changed a b x
unfolding changed
changed-no a b x e = rw (changed, ne_eqb x b e) refl

pub unite-less : (n p q : ℕ) (t u : List ℕ) → p < q → u ≡ set_up_to (λ i x. changed p q x) n t → u ≡ united n p q t
unfolding united
unite-less n p q t u h e =
    let a : min p q ≡ p = omega arith in
    let b : max p q ≡ q = omega arith in
    rw (a, b) e

pub unite-more : (n p q : ℕ) (t u : List ℕ) → q ≤ p → u ≡ set_up_to (λ i x. changed q p x) n t → u ≡ united n p q t
unfolding united
unite-more n p q t u h e =
    let a : min p q ≡ q = omega arith in
    let b : max p q ≡ p = omega arith in
    rw (a, b) e

module _ (s : Side) (pts : List ℤ) (ks : List ℕ) (n k : ℕ) (t : List ℕ) (r : Bool) (is : r ≡ level_at s pts ks k) where
  pub join-level : r ≡ true → (a b : ℕ) (u : List ℕ) → a ≡ first_end (get_or ks k 0) → b ≡ second_end (get_or ks k 0)
      → u ≡ united n (get_or t a 0) (get_or t b 0) t → u ≡ joined_by s pts ks n k t
  unfolding joined_by
  join-level h a b u e f g =
      g ∙ ap₂ (λ (i j : ℕ). united n (get_or t i 0) (get_or t j 0) t) e f ∙ sym (rw (joined_by, sym is ∙ h) refl)

  pub join-not : r ≡ false → t ≡ joined_by s pts ks n k t
  unfolding joined_by
  join-not h = sym (rw (joined_by, sym is ∙ h) refl)
