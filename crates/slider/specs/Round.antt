-- Whether a round saves.
use Rattle.std.specs.Prelude.{Bool, false, not, List, [], ◌∷◌, eqb}
use Rattle.net.specs.Net.{Net}
use Rattle.slide.specs.Bend.{Edge}
use Rattle.slide.specs.Slide.{choice}

-- M14: a round saves
unfoldable pub saves : Net → List Edge → Bool
saves net [] = false
saves net (e ∷ L) = not (eqb (choice net (e ∷ L) e L).saving 0)
