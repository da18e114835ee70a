-- Metal off the grid: two pins on both sides of a macro of one unit's width, joined below it and one unit further down than any line, at a
-- cost of 5 with weights 1 and 1. The theorem finds edges of the grid for no more; a step through the macro is no metal.
-- Assumes nothing.
use mathlib.Core.Path.{◌≡◌, refl, sym}
use mathlib.Core.Bool.{false}
use mathlib.Core.Logic.{inl}
use mathlib.Core.List.Memᴰ
use mathlib.Core.List.{List, [], ◌∷◌}
use lib.IntN.{pos, negsuc}
use Rattle.lists.specs.Member.{◌∈◌, here, there}
use Rattle.lists.specs.Any.{any}
use Rattle.lists.specs.Total.{total}
use Rattle.lists.proofs.TestLaws.{either}
use Rattle.signed.specs.Order.{z_min, z_max}
use Rattle.joined.specs.Joined.{Joined, stay, step}
use Rattle.joined.specs.Pairs.{Each}
use Rattle.joined.specs.Cost.{lengths}
use Rattle.joined.proofs.JoinedLaws.{then, back}
use Rattle.joined.proofs.PairLaws.{each_none, each-cons}
use Rattle.plane.specs.declared.Place.{Place}
use Rattle.plane.specs.Place.{place}
use Rattle.plane.specs.Cost.{cost, plain}
use Rattle.plane.specs.Distance.{apart, distance}
use Rattle.plane.specs.Macro.{macro, span_meets, meets, clear}
use Rattle.net.specs.Net.{Net, cost_in}
use Rattle.lines.specs.Lines.{UnitStep}
use Rattle.lines.specs.Edges.{Edge}
use Rattle.grid_hanan.specs.Metal.{UnitMetal, GridMetal}
use Rattle.grid_hanan.proofs.Hanan.{hanan}

abbrev west : Place
west = place (pos 0) (pos 1)

abbrev east : Place
east = place (pos 1) (pos 1)

abbrev net : Net
net = record { pins = west ∷ (east ∷ []); macros = macro (pos 0) (pos 0) (pos 1) (pos 2) ∷ []; weights = plain }

-- from pin to pin, below the macro
abbrev p1 : Place
p1 = place (pos 0) (pos 0)

abbrev p2 : Place
p2 = place (pos 0) (negsuc 0)

abbrev p3 : Place
p3 = place (pos 1) (negsuc 0)

abbrev p4 : Place
p4 = place (pos 1) (pos 0)

abbrev around : List Edge
around = (west, p1) ∷ ((p1, p2) ∷ ((p2, p3) ∷ ((p3, p4) ∷ ((p4, east) ∷ []))))

units : Each (UnitStep net.macros) around
unfolding distance apart clear any meets span_meets z_min z_max
units =
    let P : Place → Place → Type 0 = UnitStep net.macros in
    each-cons P _ _ _ record { unit = refl; free = refl }
    (each-cons P _ _ _ record { unit = refl; free = refl }
    (each-cons P _ _ _ record { unit = refl; free = refl }
    (each-cons P _ _ _ record { unit = refl; free = refl }
    (each-cons P _ _ _ record { unit = refl; free = refl } (each_none P)))))

reaches : (p : Place) → p ∈ net.pins → Joined around west p
reaches p m = either (λ e. stay (sym e)) (λ i. either whole (λ j. elim j [ ]) (Memᴰ.cases_cons i)) (Memᴰ.cases_cons m)
  where
    whole : p ≡ east → Joined around west p
    whole e =
        step (inl (here refl)) (step (inl (there (here refl))) (step (inl (there (there (here refl))))
        (step (inl (there (there (there (here refl))))) (step (inl (there (there (there (there (here refl)))))) (stay (sym e))))))

off-grid : UnitMetal net around
off-grid = record { units = units; joins = λ p q i k. then (back (reaches p i)) (reaches q k) }

costs-five : lengths (cost_in net) around ≡ 5
unfolding lengths total cost apart
costs-five = refl

on-grid : GridMetal net (lengths (cost_in net) around)
on-grid = hanan net around off-grid

-- straight through
blocked : clear west east net.macros ≡ false
unfolding clear any meets span_meets z_min z_max
blocked = refl
