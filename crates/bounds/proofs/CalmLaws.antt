-- What the longest edge between two points costs, where one hangs on the other: the edge by which it hangs.
-- Assumes nothing.
use mathlib.Core.Path.{◌≡◌, sym, ap, ◌∙◌}
use mathlib.Core.List.{List}
use Prim.Native.Nat.{ℕ, zero, suc, ◌≤◌, ◌<◌}
use native.Mathlib.Omega.{arith}
use lib.Dec.{ltb}
use lib.ListN.{get_or}
use borrow.Author.Tests.{ltb-true, ltb-false}
use Rattle.lists.proofs.TestLaws.{by, either}
use Rattle.tree.specs.Table.{Within}
use Rattle.longest.specs.Longest.{longer}
use Rattle.longest.specs.Hung.{Ties, onto_of, link_of, turn_of, top_of, Tied, Told, Hanging, tall}
use Rattle.longest.proofs.WinsLaws.{none-longer}

module _ (el : List ℕ) (s : Ties) (tied : Tied s) (t : List ℕ) (told : Told el s t) where
  pub hung-cost : (x y d : ℕ) → 0 < turn_of s y → onto_of s x ≡ y → turn_of s y < turn_of s x → d ≡ get_or el (link_of s x) 0 → d ≡ tall el t x y
  hung-cost x y d g on l q =
      let p : top_of t x y ≡ link_of s x = told.woven.step x y g l
      ∙ ap (λ (z : ℕ). longer el (top_of t z y) (link_of s x)) on
      ∙ ap (λ (z : ℕ). longer el z (link_of s x)) (told.woven.self y g)
      ∙ none-longer el told.none (link_of s x) (tied.edges.small x) in
      q ∙ ap (λ (z : ℕ). get_or el z 0) (sym p)

  pub held-cost : (x y d : ℕ) → 0 < turn_of s x → onto_of s y ≡ x → turn_of s x < turn_of s y → d ≡ get_or el (link_of s y) 0 → d ≡ tall el t x y
  held-cost x y d g on l q = hung-cost y x d g on l q ∙ ap (λ (z : ℕ). get_or el z 0) (told.woven.even y x (omega (arith, l)) g)

-- What hangs are the points

module _ (ks el : List ℕ) (e n : ℕ) (s : Ties) (h : Hanging ks el e n s) (within : Within n ks) (some : 0 < n) where
  end_low : (v : ℕ) → 1 < turn_of s v → (v < n) × (onto_of s v < n)
  end_low v g =
      let d = h.ends v g in
      let i = within.ends (link_of s v) in
      either (λ j. (omega (arith, j.0, i.0), omega (arith, j.1, i.1)))
      (λ j. (omega (arith, j.1, i.1), omega (arith, j.0, i.0))) d.1

  first : (f x : ℕ) → turn_of s x ≤ f → x < n → (r : ℕ) × ((r < n) × (turn_of s r ≡ 1))
  first zero x l i = absurd (let z : ⊥ = omega (arith, l, h.all x i) in z)
  first (suc f) x l i =
      by (ltb 1 (turn_of s x))
      (λ t. let g = ltb-true 1 (turn_of s x) t in first f (onto_of s x) (omega (arith, l, (h.tied.up x g).1)) (end_low x g).1)
      (λ t. (x, (i, omega (arith, h.all x i, ltb-false 1 (turn_of s x) t))))

  pub hanging-low : (v : ℕ) → 0 < turn_of s v → v < n
  hanging-low v g =
      by (ltb 1 (turn_of s v)) (λ t. (end_low v (ltb-true 1 (turn_of s v) t)).0)
      (λ t.
      let r = first (turn_of s 0) 0 (omega arith) some in
      omega (arith, h.tied.alone v r.0 g (omega (arith, g, ltb-false 1 (turn_of s v) t, r.1.1)), r.1.0))
