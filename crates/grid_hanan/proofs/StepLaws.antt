-- Steps along the grid when one line across is taken out: each has become a point or is a step along the lines that are left.
-- Assumes nothing.
use mathlib.Core.Path.{◌≡◌, sym, ap, ap₂, subst}
use mathlib.Core.Bool.{true}
use mathlib.Core.Logic.{◌⊎◌, inl, inr}
use mathlib.Core.List.Memᴰ
use mathlib.Core.List.{List, ◌∷◌}
use lib.IntN.{ℤ}
use Rattle.lists.specs.Member.{◌∈◌, there}
use Rattle.lists.proofs.TestLaws.{either}
use Rattle.signed.proofs.SideLaws.{signed}
use Rattle.plane.specs.declared.Place.{Place}
use Rattle.plane.specs.declared.Macro.{Macro}
use Rattle.plane.specs.Place.{place}
use Rattle.plane.specs.Macro.{clear}
use Rattle.lines.specs.Lines.{Sides, Neighbours, GridStep, across, along}
use Rattle.lines.proofs.LineLaws.{About, about-itself}
use Rattle.lines.proofs.StepLaws.{step_back, step-cases}
use Rattle.grid.proofs.ClearLines.{clear-across, clear-along}
use Rattle.grid_hanan.proofs.OneLine.{shifted, shifted-about, Wider, shifted-beside}

-- a step along the grid, or a point
abbrev pub Kept : List ℤ → List ℤ → List Macro → Place → Place → Type 0
Kept xs ys ms a b = (a ≡ b) ⊎ GridStep xs ys ms a b

module _ {xs ys : List ℤ} {ms : List Macro} where
  kept_back : {a b : Place} → Kept xs ys ms a b → Kept xs ys ms b a
  kept_back (inl e) = inl (sym e)
  kept_back (inr s) = inr (step_back s)

-- a place on the line c goes to t
abbrev pub shifted_place : ℤ → ℤ → Place → Place
shifted_place c t p = place (shifted c t p.x) p.y

module _ (xs ys : List ℤ) (ms : List Macro) (sides : Sides xs ys ms) (c t : ℤ) (fresh : c ∈ xs → ⊥) (about : About xs t c) where
  abbrev to : Place → Place
  to p = shifted_place c t p

  level : (p q : Place) → Neighbours (c ∷ xs) p.x q.x → p.y ≡ q.y → p.y ∈ ys → clear p q ms ≡ true → Kept xs ys ms (to p) (to q)
  level p q n e m h =
      either (λ k. inl (ap₂ place k e)) (λ w. inr (across (inl w.lines) e m (free w)))
      (shifted-beside xs c t fresh about p.x q.x n)
    where
      flat : clear (place p.x p.y) (place q.x p.y) ms ≡ true
      flat = subst (λ (y : ℤ). clear p (place q.x y) ms ≡ true) (sym e) h

      free : Wider xs c t fresh about p.x q.x → clear (to p) (to q) ms ≡ true
      free w =
          subst (λ (y : ℤ). clear (to p) (place (shifted c t q.x) y) ms ≡ true) e
          (clear-across xs ys ms sides _ _ p.x q.x p.y p.y w.lines w.low n.rise w.high
          (about-itself ys p.y m) flat)

  upright : (p q : Place) → Neighbours ys p.y q.y → p.x ≡ q.x → p.x ∈ (c ∷ xs) → clear p q ms ≡ true →
      Kept xs ys ms (to p) (to q)
  upright p q n e m h = inr (along (inl n) (ap (shifted c t) e) near.line free)
    where
      near : About xs (shifted c t p.x) p.x
      near = shifted-about xs c t fresh about p.x m

      plumb : clear (place p.x p.y) (place p.x q.y) ms ≡ true
      plumb = subst (λ (x : ℤ). clear p (place x q.y) ms ≡ true) (sym e) h

      free : clear (to p) (to q) ms ≡ true
      free =
          subst (λ (x : ℤ). clear (to p) (place (shifted c t x) q.y) ms ≡ true) e
          (clear-along xs ys ms sides p.y q.y p.y q.y (shifted c t p.x) p.x n (omega signed) n.rise (omega signed)
          near plumb)

  pub kept-shifted : (p q : Place) → Kept (c ∷ xs) ys ms p q → Kept xs ys ms (to p) (to q)
  kept-shifted p q (inl e) = inl (ap to e)
  kept-shifted p q (inr s) =
      step-cases (c ∷ xs) ys ms (λ (a b : Place). Kept xs ys ms (to a) (to b))
      record { turned = λ a b k. kept_back k; level = level; upright = upright } p q s

-- the line c is there already
pub line-twice : (xs ys : List ℤ) (ms : List Macro) (c : ℤ) → c ∈ xs → (a b : Place) → Kept (c ∷ xs) ys ms a b → Kept xs ys ms a b
line-twice xs ys ms c i a b k = at k
  where
    within : {z : ℤ} → z ∈ (c ∷ xs) → z ∈ xs
    within m = either (λ e. Memᴰ.cast e i) (λ j. j) (Memᴰ.cases_cons m)

    fewer : {u v : ℤ} → Neighbours (c ∷ xs) u v → Neighbours xs u v
    fewer n = record { first = within n.first; second = within n.second; rise = n.rise; none = λ z j. n.none z (there j) }

    at : Kept (c ∷ xs) ys ms a b → Kept xs ys ms a b
    at (inl e) = inl e
    at (inr (across n e m h)) = inr (across (either (λ s. inl (fewer s)) (λ s. inr (fewer s)) n) e m h)
    at (inr (along n e m h)) = inr (along n e (within m) h)
