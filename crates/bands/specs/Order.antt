-- Lists kept in order: rule B5. In words, over all bands further down, and as a test of neighbours, which is what a price runs: rule C37.
use Rattle.std.specs.Prelude.{Bool, false, not, ◌||◌, List, [], ◌∷◌, ◌<◌, ◌≤◌, ltb}
use Rattle.lists.specs.Member.{◌∈◌}
use Rattle.bands.specs.declared.Band.{Band}

-- limits rise strictly down the list
abbrev pub Rising : List Band → Type 0
Rising [] = Unit {0}
Rising (b ∷ bs) = ((c : Band) → c ∈ bs → b.limit < c.limit) × Rising bs

-- rates never fall down the list
abbrev pub NeverFalling : List Band → Type 0
NeverFalling [] = Unit {0}
NeverFalling (b ∷ bs) = ((c : Band) → c ∈ bs → b.rate ≤ c.rate) × NeverFalling bs

-- B5: the condition on a list
pub record WellKept (bs : List Band) : Type 0 where
  pub rising : Rising bs
  pub never-falling : NeverFalling bs

-- the band c, next after b, breaks it: its limit is not above b's, or its rate is below
unfoldable pub steps_back : Band → Band → Bool
steps_back b c = not (ltb b.limit c.limit) || ltb c.rate b.rate

-- some band breaks it with the one before it, b standing before the first
unfoldable pub falls_after : Band → List Band → Bool
falls_after b [] = false
falls_after b (c ∷ cs) = steps_back b c || falls_after c cs

-- C37: the test. It is false exactly where the list is `WellKept` (proofs/OrderLaws.antt)
unfoldable pub falls_back : List Band → Bool
falls_back [] = false
falls_back (b ∷ bs) = falls_after b bs
