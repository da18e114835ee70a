-- What a lent list holds after an answer.
use Rattle.std.specs.Prelude.{List, ◌++◌, length, drop}
use Rattle.lent.specs.Told.{Told, refused, given}

-- C53: xs, then what stood there
unfoldable pub over : {X : Type 0} → List X → List X → List X
over xs lent = xs ++ drop (length xs) lent

-- C50: a refused call alters nothing that was lent
unfoldable pub after : {A X : Type 0} → Told A → List X → List X → List X
after (refused n) xs lent = lent
after (given a) xs lent = over xs lent

-- the same for one lent value, which the answer gives through f
unfoldable pub value_after : {A X : Type 0} → (A → X) → Told A → X → X
value_after f (refused n) lent = lent
value_after f (given a) lent = f a
