-- The definitions tried out on four pins with a tie, by computing: what is kept, by labels and by a table, its sum and longest, what an
-- exchange lays; and that what is asked of offered items can be had.
-- Assumes nothing.
use mathlib.Core.Path.{◌≡◌, refl, ap}
use mathlib.Core.Logic.{inl, inr}
use mathlib.Core.List.Memᴰ
use mathlib.Core.List.{List, [], ◌∷◌, map}
use Prim.Native.Nat.{ℕ, suc}
use native.Mathlib.Decide.{ℕ_discrete}
use native.Mathlib.Omega.{arith}
use lib.ListN.{length}
use Rattle.lists.specs.Member.{◌∈◌, here, there}
use Rattle.lists.specs.Total.{total, most}
use Rattle.joined.specs.Joined.{Joined, stay, Inside}
use Rattle.joined.specs.Labels.{equal, renamed, merge, labels}
use Rattle.joined.specs.Keep.{keep, kept, Offered}
use Rattle.joined.specs.Table.{changed, kept_by}
use Rattle.joined.specs.Exchange.{laid, three}
use Rattle.joined.proofs.JoinedLaws.{one, cast, then, back, firsts, seconds}
use Rattle.joined.proofs.Ours.{ours-count}

-- an item is its ends and its weight
abbrev Item : Type 0
Item = (ℕ × ℕ) × ℕ

abbrev ends : Item → ℕ × ℕ
ends e = e.0

abbrev weight : Item → ℕ
weight e = e.1

abbrev offered : List Item
offered = ((0, 1), 1) ∷ (((1, 2), 2) ∷ (((2, 0), 2) ∷ (((2, 3), 5) ∷ (((3, 0), 7) ∷ []))))

abbrev chosen : List Item
chosen = ((0, 1), 1) ∷ (((1, 2), 2) ∷ (((2, 3), 5) ∷ []))

by-labels : kept ℕ_discrete ends offered ≡ chosen
unfolding kept keep labels merge renamed equal ℕ_discrete
by-labels = refl

by-table : kept_by ends offered (0 ∷ (1 ∷ (2 ∷ (3 ∷ [])))) ≡ chosen
unfolding kept_by changed
by-table = refl

sums : (total (map weight chosen) ≡ 8) × (most (map weight chosen) ≡ 5)
unfolding total most
sums = (refl, refl)

-- s is one of the three points: two pairs are laid
lays-two : laid ℕ_discrete 1 (three 0 1 2) ≡ (1, 0) ∷ ((1, 2) ∷ [])
unfolding laid ℕ_discrete
lays-two = refl

-- s is a new point: three
lays-three : laid ℕ_discrete 9 (three 0 1 2) ≡ (9, 0) ∷ ((9, 1) ∷ ((9, 2) ∷ []))
unfolding laid ℕ_discrete
lays-three = refl

-- the three items of the triangle, over its three pins
abbrev pins : List ℕ
pins = 0 ∷ (1 ∷ (2 ∷ []))

abbrev triangle : List Item
triangle = ((0, 1), 1) ∷ (((1, 2), 2) ∷ (((2, 0), 2) ∷ []))

to-zero : (x : ℕ) → x ∈ pins → Joined (map ends triangle) x 0
to-zero x (here e) = stay e
to-zero x (there (here e)) = cast e (one (inr (here refl)))
to-zero x (there (there (here e))) = cast e (one (inl (there (there (here refl)))))
to-zero x (there (there (there m))) = elim m [ ]

in-pins : Inside pins (map ends triangle)
in-pins a b (here e) = (here (firsts e), there (here (seconds e)))
in-pins a b (there (here e)) = (there (here (firsts e)), there (there (here (seconds e))))
in-pins a b (there (there (here e))) = (there (there (here (firsts e))), here (seconds e))
in-pins a b (there (there (there m))) = elim m [ ]

two-or-more : (d : Item) → d ∈ (((1, 2), 2) ∷ (((2, 0), 2) ∷ [])) → weight d ≡ 2
two-or-more d (here e) = ap weight e
two-or-more d (there (here e)) = ap weight e
two-or-more d (there (there m)) = elim m [ ]

triangle-offered : Offered ends weight pins triangle
triangle-offered = record {
  once = (not-zero 0 refl, (not_in 1 2 (omega arith), (λ m. elim m [ ], tt)));
  some = 0;
  stands = here refl;
  inside = in-pins;
  joins = λ x y i k. then (to-zero x i) (back (to-zero y k));
  rising = (
    λ d m. omega (arith, two-or-more d m),
    (λ d m. omega (arith, two-or-more d (there m)), (λ d m. elim m [ ], tt)),
  );
}
  where
    not_in : (x y : ℕ) → (x ≡ y → ⊥) → x ∈ (y ∷ []) → ⊥
    not_in x y n m = n (Memᴰ.eq_of_singleton m)

    not-zero : (x : ℕ) → x ≡ 0 → x ∈ (1 ∷ (2 ∷ [])) → ⊥
    not-zero x k (here e) = omega arith
    not-zero x k (there m) = not_in x 2 (omega arith) m

-- two of them are kept
two-kept : suc (length (kept ℕ_discrete ends triangle)) ≡ 3
two-kept = ours-count ℕ_discrete ends weight triangle-offered
