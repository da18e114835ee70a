-- Crossings have different numbers, all below the number of crossings, and both ends of a grid edge are crossings.
-- Assumes nothing.
use mathlib.Core.Path.{◌≡◌, refl, sym, ap, ap₂, ◌∙◌}
use mathlib.Core.Bool.{true}
use mathlib.Core.Logic.{inl, inr}
use mathlib.Core.List.{List, [], ◌∷◌}
use Prim.Native.Nat.{ℕ, ◌≤◌, ◌<◌}
use native.Mathlib.Omega.{arith}
use lib.IntN.{ℤ, pos}
use lib.ListN.{length, get_or}
use lib.Signed.{lt_z}
use Rattle.lists.specs.Any.{any}
use Rattle.lists.specs.Member.{◌∈◌, here, there}
use Rattle.lists.specs.Sorted.{Ascending, position}
use Rattle.lists.proofs.TestLaws.{by, differ, and_left, and_right, and_both}
use Rattle.lists.proofs.AnyLaws.{any_none}
use Rattle.lists.proofs.SortedLaws.{position-small, at_position}
use Rattle.signed.specs.Order.{z_eq}
use Rattle.signed.proofs.OrderLaws.{z_eq-true, z_eq-refl}
use Rattle.joined.specs.Joined.{Link}
use Rattle.plane.specs.declared.Place.{Place}
use Rattle.plane.specs.declared.Macro.{Macro}
use Rattle.plane.specs.Place.{place}
use Rattle.net.specs.Net.{Net}
use Rattle.lines.specs.Lines.{x_lines, y_lines, Crossing, Beside, GridStep, across, along}
use Rattle.lines.specs.Edges.{grid_edges}
use Rattle.lines.specs.Bounds.{line_bound, crossing_bound}
use Rattle.lines.specs.Crossings.{is_crossing, crossing_number}
use Rattle.lines.proofs.LineLaws.{line-order}
use Rattle.lines.proofs.EdgeLaws.{x-ascending, y-ascending, link-grid}

any-line : (L : List ℤ) (c : ℤ) → any (z_eq c) L ≡ true → c ∈ L
unfolding any
any-line [] c e = differ e refl
any-line (x ∷ l) c e = by (z_eq c x) (λ h. here (z_eq-true c x h)) (λ h. there (any-line l c (rw (any, h) at e)))

line-any : (L : List ℤ) (c : ℤ) → c ∈ L → any (z_eq c) L ≡ true
line-any L c m = by (any (z_eq c) L) (λ e. e) (λ e. differ (z_eq-refl c) (any_none (z_eq c) L e c m))

module _ (xs ys : List ℤ) (hx : Ascending lt_z xs) (hy : Ascending lt_z ys) where
  pub crossing_is : (v : Place) → is_crossing xs ys v ≡ true → Crossing xs ys v
  unfolding is_crossing
  crossing_is v e = record {
    across = any-line xs v.x (and_left _ (any (z_eq v.y) ys) e);
    along = any-line ys v.y (and_right (any (z_eq v.x) xs) _ e);
  }

  pub is-crossing : (v : Place) → Crossing xs ys v → is_crossing xs ys v ≡ true
  unfolding is_crossing
  is-crossing v c = and_both _ _ (line-any xs v.x c.across) (line-any ys v.y c.along)

  same-position : (L : List ℤ) → Ascending lt_z L → (a b : ℤ) → a ∈ L → b ∈ L → position lt_z L a ≡ position lt_z L b → a ≡ b
  same-position L h a b i k e =
      sym (at_position lt_z line-order L h a (pos 0) i) ∙ ap (λ (n : ℕ). get_or L n (pos 0)) e ∙ at_position lt_z line-order L h b (pos 0) k

  -- no more lines than a row of crossings has numbers
  module _ (few-x : length xs ≤ line_bound) (few-y : length ys ≤ line_bound) where
    pub numbers-single : (a b : Place) → is_crossing xs ys a ≡ true → is_crossing xs ys b ≡ true →
        crossing_number xs ys a ≡ crossing_number xs ys b → a ≡ b
    unfolding crossing_number
    numbers-single a b i k e =
        let p = crossing_is a i in
        let q = crossing_is b k in
        let h = position-small lt_z line-order ys hy a.y p.along in
        let l = position-small lt_z line-order ys hy b.y q.along in
        ap₂ place
        (same-position xs hx a.x b.x p.across q.across (omega (arith, e, h, l, few-y)))
        (same-position ys hy a.y b.y p.along q.along (omega (arith, e, h, l, few-y)))

    pub number-below : (a : Place) → Crossing xs ys a → crossing_number xs ys a < crossing_bound
    unfolding crossing_number
    number-below a p =
        let h = position-small lt_z line-order xs hx a.x p.across in
        let k = position-small lt_z line-order ys hy a.y p.along in
        omega (arith, h, k, few-x, few-y)

-- both ends of a step are crossings
pub step-crossings : (xs ys : List ℤ) (ms : List Macro) (a b : Place) → GridStep xs ys ms a b → Crossing xs ys a × Crossing xs ys b
step-crossings xs ys ms a b (across s e m h) =
    (record { across = first_of s; along = m }, record { across = second_of s; along = rw (← e) m })
  where
    first_of : Beside xs a.x b.x → a.x ∈ xs
    first_of (inl n) = n.first
    first_of (inr n) = n.second

    second_of : Beside xs a.x b.x → b.x ∈ xs
    second_of (inl n) = n.second
    second_of (inr n) = n.first
step-crossings xs ys ms a b (along s e m h) = (record { across = m; along = first_of s }, record { across = rw (← e) m; along = second_of s })
  where
    first_of : Beside ys a.y b.y → a.y ∈ ys
    first_of (inl n) = n.first
    first_of (inr n) = n.second

    second_of : Beside ys a.y b.y → b.y ∈ ys
    second_of (inl n) = n.second
    second_of (inr n) = n.first

pub ends-crossings : (net : Net) (a b : Place) → Link (grid_edges net) a b →
    (is_crossing (x_lines net) (y_lines net) a ≡ true) × (is_crossing (x_lines net) (y_lines net) b ≡ true)
ends-crossings net a b l =
    let r = step-crossings (x_lines net) (y_lines net) net.macros a b (link-grid net a b l) in
    let c = is-crossing (x_lines net) (y_lines net) (x-ascending net) (y-ascending net) in
    (c a r.0, c b r.1)
