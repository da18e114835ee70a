-- The numbers of a whole list of macros are their coordinates: a number is out of range exactly when a macro has one that is.
-- Assumes nothing.
use mathlib.Core.Path.{◌≡◌, refl, sym, ap, ◌∙◌}
use mathlib.Core.Bool.{Bool, ◌||◌, or_assoc}
use mathlib.Core.List.{List, [], ◌∷◌}
use Prim.Native.Nat.{◌%◌}
use native.Mathlib.Omega.{arith}
use lib.IntN.{ℤ}
use lib.ListN.{length}
use Rattle.lists.specs.Any.{any}
use Rattle.plane.specs.declared.Macro.{Macro}
use Rattle.plane.specs.Flat.{macros_of}
use Rattle.net.specs.Bounds.{macro_width}
use Rattle.net.specs.Tests.{out_of_range}

abbrev pub macro_out : Macro → Bool
macro_out m = out_of_range m.left || (out_of_range m.bottom || (out_of_range m.right || out_of_range m.top))

regroup : (a b c d r : Bool) → (a || (b || (c || (d || r)))) ≡ ((a || (b || (c || d))) || r)
regroup a b c d r =
    ap (λ (t : Bool). a || (b || t)) (sym (or_assoc c d r))
    ∙ ap (λ (t : Bool). a || t) (sym (or_assoc b (c || d) r))
    ∙ sym (or_assoc a (b || (c || d)) r)

pub range-of-macros : (s : List ℤ) → length s % macro_width ≡ 0 → any out_of_range s ≡ any macro_out (macros_of s)
unfolding any macros_of
range-of-macros [] e = refl
range-of-macros (l ∷ []) e = absurd (let f : ⊥ = omega arith in f)
range-of-macros (l ∷ (b ∷ [])) e = absurd (let f : ⊥ = omega arith in f)
range-of-macros (l ∷ (b ∷ (r ∷ []))) e = absurd (let f : ⊥ = omega arith in f)
range-of-macros (l ∷ (b ∷ (r ∷ (t ∷ s)))) e =
    regroup (out_of_range l) (out_of_range b) (out_of_range r) (out_of_range t) (any out_of_range s)
    ∙ ap (λ (u : Bool). (out_of_range l || (out_of_range b || (out_of_range r || out_of_range t))) || u) (range-of-macros s (omega arith))
