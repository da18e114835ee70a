-- The code's small steps are those of the definitions.
-- Assumes nothing.
use mathlib.Core.Path.{◌≡◌, sym, ap, ap₂, ◌∙◌}
use Prim.Native.Nat.{ℕ}
use Rattle.plane.specs.declared.Place.{Place}
use Rattle.plane.specs.declared.Macro.{Macro}
use Rattle.slide.specs.declared.Side.{Side}
use Rattle.slide.specs.Side.{along, across}
use Rattle.slide.specs.Stop.{starts, finishes, near_side, far_side}
use Rattle.turned.specs.declared.Spot.{Spot}
use Rattle.turned.specs.declared.Face.{Face}
use Rattle.turned.specs.declared.Seen.{Seen}
use Rattle.turned.specs.Turned.{raised, spot, face, View, on_it, spot_at, seen}

pub spot_is : (s v : Side) (p : Place) (a b : ℕ) → s ≡ v → a ≡ raised (along v p) → b ≡ raised (across v p)
    → ◌≡◌ {A = Spot} (record { along = a; across = b }) (spot s p)
spot_is s v p a b e f g =
    ap₂ (λ (x y : ℕ). let r : Spot = record { along = x; across = y } in r) f g ∙ ap (λ (t : Side). spot t p) (sym e)

pub face-is : (s v : Side) (m : Macro) (a b c d : ℕ) → s ≡ v → a ≡ raised (starts v m) → b ≡ raised (finishes v m)
    → c ≡ raised (near_side v m) → d ≡ raised (far_side v m)
    → ◌≡◌ {A = Face} (record { starts = a; finishes = b; near = c; far = d }) (face s m)
face-is s v m a b c d e f g h k =
    ap₂ (λ (x y : ℕ). let r : Face = record { starts = x; finishes = y; near = c; far = d } in r) f g
    ∙ ap₂ (λ (x y : ℕ). let r : Face = record { starts = raised (starts v m); finishes = raised (finishes v m); near = x; far = y } in r) h
    k
    ∙ ap (λ (t : Side). face t m) (sym e)

pub seen-is : (v : View) (a b x y : ℕ) (p q : Spot) → a ≡ x → b ≡ y → p ≡ spot_at v a → q ≡ spot_at v b
    → ◌≡◌ {A = Seen} (record { first = on_it v a; second = on_it v b; from = p; to = q }) (seen v x y)
seen-is v a b x y p q e f g h =
    ap₂ (λ (i j : Spot). let r : Seen = record { first = on_it v a; second = on_it v b; from = i; to = j } in r) g h
    ∙ ap₂ (λ (i j : ℕ). seen v i j) e f
