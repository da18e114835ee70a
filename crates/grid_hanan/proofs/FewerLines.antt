-- Lines across that are no side of a macro are taken out one by one: the edges that are left join the crossings of the lines that are left
-- as before, and cost no more.
-- Assumes nothing.
use mathlib.Core.Path.{◌≡◌, sym, ap₂, refl}
use mathlib.Core.Logic.{◌⊎◌, inl, inr}
use mathlib.Core.List.Memᴰ
use mathlib.Core.List.{List, [], ◌∷◌, ◌++◌, map}
use Prim.Native.Nat.{◌≤◌}
use lib.IntN.{ℤ}
use Rattle.lists.specs.Member.{◌∈◌}
use Rattle.lists.proofs.TestLaws.{by, either}
use Rattle.lists.proofs.MemberLaws.{is-in}
use Rattle.signed.specs.Sides.{Lt}
use Rattle.joined.specs.Pairs.{Each, moved_pair}
use Rattle.joined.specs.Cost.{lengths}
use Rattle.joined.proofs.JoinedLaws.{between}
use Rattle.joined.proofs.PairLaws.{moved-each, moved-joined}
use Rattle.plane.specs.declared.Place.{Place}
use Rattle.plane.specs.declared.Macro.{Macro}
use Rattle.plane.specs.declared.Weights.{Weights}
use Rattle.plane.specs.Place.{place}
use Rattle.plane.specs.Cost.{cost}
use Rattle.lines.specs.Lines.{Sides, Crossing, Neighbours}
use Rattle.lines.specs.Edges.{Edge}
use Rattle.lines.proofs.LineLaws.{line_same, About}
use Rattle.lines.proofs.StepLaws.{sides-among}
use Rattle.grid_hanan.specs.Balance.{goes_up}
use Rattle.grid_hanan.proofs.InsteadLaws.{Instead, instead-same, instead-then}
use Rattle.grid_hanan.proofs.NextLines.{differs, one_below, one-above, not-it, next-below, next-above}
use Rattle.grid_hanan.proofs.NextLines.{off-line, about-below, about-above}
use Rattle.grid_hanan.proofs.OneLine.{shifted-line}
use Rattle.grid_hanan.proofs.StepLaws.{Kept, shifted_place, kept-shifted, line-twice}
use Rattle.grid_hanan.proofs.ShiftCost.{up-no-dearer, down-no-dearer, even-all, drawn-all}

-- edges along these lines, and points, that join what F joins of their crossings, for no more
abbrev pub Thinned : List ℤ → List ℤ → List Macro → Weights → List Edge → Type 0
Thinned xs ys ms w F = Instead w (Kept xs ys ms) (Crossing xs ys) F

module _ (ys : List ℤ) (ms : List Macro) (w : Weights) where
  -- One line

  module _ (c : ℤ) (xs : List ℤ) (sides : Sides xs ys ms) (F : List Edge) (k : Each (Kept (c ∷ xs) ys ms) F) where
    module _ (fresh : c ∈ xs → ⊥) where
      -- c has gone to t
      gone-to : (t : ℤ) → About xs t c → lengths (cost w) (map (moved_pair (shifted_place c t)) F) ≤ lengths (cost w) F →
          Thinned xs ys ms w F
      gone-to t about l = record {
        edges = map (moved_pair (shifted_place c t)) F;
        each = moved-each (shifted_place c t) F (Kept (c ∷ xs) ys ms) (Kept xs ys ms) (kept-shifted xs ys ms sides c t fresh about) k;
        joins = λ p q i j h. between (sym (still p i)) (sym (still q j)) (moved-joined (shifted_place c t) F h);
        costs = l;
      }
        where
          still : (p : Place) → Crossing xs ys p → shifted_place c t p ≡ p
          still p i = ap₂ place (shifted-line xs c t fresh about p.x i.across) refl

      -- to the side with more edges, or to the only side that has lines
      goes : (z : ℤ) → z ∈ xs → ((a : ℤ) × Neighbours (c ∷ xs) a c) ⊎ ((y : ℤ) → y ∈ xs → Lt y c → ⊥) →
          ((b : ℤ) × Neighbours (c ∷ xs) c b) ⊎ ((y : ℤ) → y ∈ xs → Lt c y → ⊥) → Thinned xs ys ms w F
      goes z i (inl (a, low)) (inl (b, high)) =
          let even = even-all xs ys ms w c a b low high F k in
          by (goes_up even)
          (λ e. gone-to b (about-above xs c fresh b high) (up-no-dearer even e))
          (λ e. gone-to a (about-below xs c fresh a low) (down-no-dearer even e))
      goes z i (inl (a, low)) (inr none) =
          gone-to a (about-below xs c fresh a low)
          (drawn-all xs ys ms w c a (λ u n. one_below (c ∷ xs) u a c n low)
          (λ v n. absurd (none v (not-it n.second (λ e. differs c v n.rise (sym e))) n.rise)) F k)
      goes z i (inr none) (inl (b, high)) =
          gone-to b (about-above xs c fresh b high)
          (drawn-all xs ys ms w c b (λ u n. absurd (none u (not-it n.first (differs u c n.rise)) n.rise))
          (λ v n. one-above (c ∷ xs) v b c n high) F k)
      goes z i (inr none) (inr nil) = absurd (either (none z i) (nil z i) (off-line xs c fresh z i))

    pub line-less : (z : ℤ) → z ∈ xs → Thinned xs ys ms w F
    line-less z i = at (is-in line_same c xs)
      where
        at : Dec (c ∈ xs) → Thinned xs ys ms w F
        at (yes m) = instead-same (λ a b j. line-twice xs ys ms c m a b (k a b j))
        at (no n) = goes n z i (next-below xs c) (next-above xs c)

  -- All of them

  pub lines-less : (es xs : List ℤ) → Sides xs ys ms → (F : List Edge) → Each (Kept (es ++ xs) ys ms) F → (z : ℤ) → z ∈ xs →
      Thinned xs ys ms w F
  lines-less [] xs s F k z i = instead-same k
  lines-less (c ∷ es) xs s F k z i =
      let sides = sides-among (λ x. Memᴰ.append_right es) (λ y j. j) s in
      let r = line-less c (es ++ xs) sides F k z (Memᴰ.append_right es i) in
      instead-then r (lines-less es xs s r.edges r.each z i)
      (λ p h. record { across = Memᴰ.append_right es h.across; along = h.along }) (λ p h. h)
