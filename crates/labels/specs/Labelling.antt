-- Labels of points as a program makes them: level edge by level edge, the greater label of the two ends becomes the smaller.
use Rattle.std.specs.Prelude.{◌≡◌, Bool, true, false, ◌&&◌, List, ℕ, ◌<◌, min, max, eqb, ℤ, get_or}
use Rattle.joined.specs.Table.{changed}
use Rattle.slide.specs.declared.Side.{Side}
use Rattle.slide.specs.Side.{horizontal}
use Rattle.straight.specs.Table.{first_end, second_end}
use Rattle.turned.specs.Steps.{up_to, set_up_to}
use Rattle.turned.specs.Turned.{level_at}

-- edge k is a first one of its bar: along it, from the bar's first point
unfoldable pub leads : Side → List ℤ → List ℕ → List ℕ → ℕ → Bool
leads s pts ks lab k =
    level_at s pts ks k && eqb (get_or lab (first_end (get_or ks k 0)) 0) (first_end (get_or ks k 0))

-- of the first n labels the greater of p and q becomes the smaller
unfoldable pub united : ℕ → ℕ → ℕ → List ℕ → List ℕ
united n p q t = set_up_to (λ i x. changed (min p q) (max p q) x) n t

-- a label above `top` is its own point's: no other of the first n points has it
pub record Own (n top : ℕ) (t : List ℕ) : Type 0 where
  pub own : (c : ℕ) → c < n → top < get_or t c 0 → get_or t c 0 ≡ c

unfoldable pub joined_by : Side → List ℤ → List ℕ → ℕ → ℕ → List ℕ → List ℕ
joined_by s pts ks n k t =
    elim (level_at s pts ks k) [
      | true ↦ united n (get_or t (first_end (get_or ks k 0)) 0) (get_or t (second_end (get_or ks k 0)) 0) t
      | false ↦ t
    ]

unfoldable pub labelled : Side → List ℤ → List ℕ → ℕ → ℕ → List ℕ → List ℕ
labelled s pts ks n e t = up_to (joined_by s pts ks n) e (set_up_to (λ i x. i) n t)

-- labels along rows tell horizontal bars, those along columns vertical ones
unfoldable pub labels_for : Side → List ℕ → List ℕ → List ℕ
labels_for s rows columns = elim (horizontal s) [ true ↦ rows | false ↦ columns ]
