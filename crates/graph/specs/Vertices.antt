-- G1: the vertices are the pins and the corners of macros, equal places once.
use Rattle.std.specs.Prelude.{List, [], ◌∷◌, ◌++◌}
use Rattle.lists.specs.Sorted.{sorted}
use Rattle.plane.specs.declared.Place.{Place}
use Rattle.plane.specs.declared.Macro.{Macro}
use Rattle.plane.specs.Place.{place, before}

-- the four corners of a macro, and of all macros
unfoldable pub corners_of : Macro → List Place
corners_of m =
    place m.left m.bottom ∷ (place m.left m.top ∷ (place m.right m.bottom ∷ (place m.right m.top ∷ [])))

unfoldable pub corners : List Macro → List Place
corners [] = []
corners (m ∷ ms) = corners_of m ++ corners ms

unfoldable pub vertices : List Place → List Macro → List Place
vertices pins macros = sorted before (pins ++ corners macros)
