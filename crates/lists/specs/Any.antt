-- Searches of a list by a test.
use Rattle.std.specs.Prelude.{◌≡◌, Bool, true, false, ◌||◌}
use mathlib.Core.List.{List, [], ◌∷◌, Memᴰ}

module _ {A : Type 0} where
  -- some entry passes the test
  unfoldable pub any : (A → Bool) → List A → Bool
  any f [] = false
  any f (x ∷ xs) = f x || any f xs

  -- two entries at different positions pass the test, the earlier one first
  unfoldable pub any_two : (A → A → Bool) → List A → Bool
  any_two f [] = false
  any_two f (x ∷ xs) = any (f x) xs || any_two f xs

  -- no entry passes the test together with one after it
  abbrev pub NoTwo : (A → A → Bool) → List A → Type 0
  NoTwo f [] = Unit {0}
  NoTwo f (x ∷ xs) = ((y : A) → Memᴰ y xs → f x y ≡ false) × NoTwo f xs
