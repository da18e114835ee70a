-- One macro of a flat list, by its number, that the box of two places meets: then the box meets one of the list.
-- Assumes nothing.
use mathlib.Core.Path.{◌≡◌, refl}
use mathlib.Core.Bool.{Bool, true}
use mathlib.Core.List.{List, [], ◌∷◌}
use Prim.Native.Nat.{ℕ, zero, suc, ◌+◌, ◌*◌, ◌≤◌}
use lib.IntN.{ℤ}
use lib.ListN.{length, drop}
use Rattle.lists.specs.Any.{any}
use Rattle.lists.proofs.TestLaws.{by}
use Rattle.lists.proofs.AnyLaws.{any-hit}
use Rattle.plane.specs.declared.Place.{Place}
use Rattle.plane.specs.Macro.{meets}
use Rattle.plane.specs.Flat.{macros_of, macro_at}
use Rattle.plane.proofs.FlatLaws.{macros-next}

-- what is found in the rest of a list is in the list
any_left : {A : Type 0} (f : A → Bool) (i : ℕ) (xs : List A) → any f (drop i xs) ≡ true → any f xs ≡ true
unfolding any
any_left f zero xs e = e
any_left f (suc i) [] e = e
any_left f (suc i) (x ∷ xs) e = by (f x) (λ t. rw t refl) (λ t. rw t (any_left f i xs e))

pub one_meets : (a b : Place) (s : List ℤ) (i : ℕ) → i * 4 + 4 ≤ length s → meets a b (macro_at s i) ≡ true
    → any (meets a b) (macros_of s) ≡ true
one_meets a b s i h e = any_left (meets a b) i (macros_of s) (any-hit _ _ _ _ (macros-next s i h) e)
