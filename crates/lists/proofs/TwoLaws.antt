-- Where no two entries pass a test that does not care which of them comes first, two entries that pass it are one.
-- Assumes nothing.
use mathlib.Core.Path.{◌≡◌, sym, ◌∙◌}
use mathlib.Core.Bool.{Bool, true}
use mathlib.Core.List.{List, ◌∷◌}
use Rattle.lists.specs.Any.{NoTwo}
use Rattle.lists.specs.Member.{◌∈◌, here, there}
use Rattle.lists.proofs.TestLaws.{differ}

module _ {A : Type 0} (f : A → A → Bool) (either_way : (x y : A) → f x y ≡ f y x) where
  pub no-two-one : (l : List A) → NoTwo f l → (x y : A) → x ∈ l → y ∈ l → f x y ≡ true → x ≡ y
  no-two-one mathlib.Core.List.[] n x y x6 _ h = elim x6 [ ]
  no-two-one (z ∷ l) n x y (here d) (here e) h = d ∙ sym e
  no-two-one (z ∷ l) n x y (here d) (there j) h = differ (rw d at h) (n.0 y j)
  no-two-one (z ∷ l) n x y (there i) (here e) h = let g : f y x ≡ true = either_way y x ∙ h in differ (rw e at g) (n.0 x i)
  no-two-one (z ∷ l) n x y (there i) (there j) h = no-two-one l n.1 x y i j h
