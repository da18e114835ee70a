-- From each vertex with another one ahead of it, some vertex ahead is clear. Where a macro faces u, the first that does has a corner that
-- can be reached, or the lowest macro in the way to it has. Where none does, the vertex that rises least to the right is clear, else the
-- one to the right that sinks least, else the one that is given, straight below.
-- Assumes nothing.
use mathlib.Core.Path.{◌≡◌}
use mathlib.Core.Bool.{Bool, true, ◌&&◌}
use mathlib.Core.Logic.{◌⊎◌, inl, inr}
use mathlib.Core.List.{List}
use lib.IntN.{ℤ}
use lib.Signed.{lt_z, le_z}
use Rattle.lists.specs.Member.{◌∈◌}
use Rattle.lists.proofs.TestLaws.{either, and_left, and_right, and_both}
use Rattle.lists.proofs.LeastOf.{LeastOf, least-of}
use Rattle.signed.specs.Sides.{Lt, Le}
use Rattle.signed.proofs.SideLaws.{z_lt-true, z_le-true, lt-z_lt, le-z_le, signed}
use Rattle.plane.specs.declared.Place.{Place}
use Rattle.plane.specs.declared.Macro.{Macro}
use Rattle.plane.specs.Place.{place}
use Rattle.plane.specs.Macro.{meets, clear}
use Rattle.plane.proofs.MeetLaws.{Hits, hits-up, hits-down, hits-meets, clear_of, Overlap}
use Rattle.net.specs.Net.{Net}
use Rattle.net.specs.Allowed.{Allowed}
use Rattle.net.proofs.ApartLaws.{sides-in-order, overlap-one}
use Rattle.graph.specs.Vertices.{corners_of}
use Rattle.graph.specs.Spanning.{vertices_of}
use Rattle.picks.proofs.QuadrantLaws.{InFirst, InFourth, Ahead, compare, first-ahead, fourth-ahead}
use Rattle.graph.proofs.VertexLaws.{lower-left, upper-left, lower-right, upper-right, corner-vertex}
use Rattle.graph.proofs.OutsideLaws.{vertex-outside}

-- The least and the greatest by a coordinate

module _ {A : Type 0} (key : A → ℤ) where
  abbrev pub NoHigher : A → A → Type 0
  NoHigher a b = Le (key a) (key b)

  abbrev pub NoLower : A → A → Type 0
  NoLower a b = Le (key b) (key a)

  either_way : (a b : A) → NoHigher a b ⊎ NoHigher b a
  either_way a b = either inl (λ h. inr (omega signed)) (compare (key a) (key b))

  pub lowest : (ok : A → Bool) (l : List A) → LeastOf ok NoHigher l ⊎ ((x : A) → x ∈ l → ok x ≡ true → ⊥)
  lowest = least-of NoHigher either_way (λ a b c h k. omega signed)

  pub highest : (ok : A → Bool) (l : List A) → LeastOf ok NoLower l ⊎ ((x : A) → x ∈ l → ok x ≡ true → ⊥)
  highest = least-of NoLower (λ a b. either_way b a) (λ a b c h k. omega signed)

-- A macro that faces u: to its right, at its height

record Facing (u : Place) (m : Macro) : Type 0 where
  left : Le u.x m.left
  bottom : Lt m.bottom u.y
  top : Lt u.y m.top

facing : Place → Macro → Bool
facing u m = le_z u.x m.left && (lt_z m.bottom u.y && lt_z u.y m.top)

facing-is : (u : Place) (m : Macro) → facing u m ≡ true → Facing u m
unfolding facing
facing-is u m e =
    let f = and_right (le_z u.x m.left) _ e in
    record {
      left = z_le-true _ _ (and_left _ (lt_z m.bottom u.y && lt_z u.y m.top) e);
      bottom = z_lt-true _ _ (and_left _ (lt_z u.y m.top) f);
      top = z_lt-true _ _ (and_right (lt_z m.bottom u.y) _ f);
    }

facing-of : (u : Place) (m : Macro) → Facing u m → facing u m ≡ true
unfolding facing
facing-of u m f = and_both _ _ (le-z_le _ _ f.left) (and_both _ _ (lt-z_lt _ _ f.bottom) (lt-z_lt _ _ f.top))

-- A clear vertex ahead

pub record ClearAhead (net : Net) (u : Place) : Type 0 where
  pub to : Place
  pub stands : to ∈ vertices_of net
  pub ahead : Ahead u to
  pub is-clear : clear u to net.macros ≡ true

module _ {net : Net} (a : Allowed net) (u : Place) (at : u ∈ vertices_of net) where
  found : (v : Place) → v ∈ vertices_of net → Ahead u v → ((m : Macro) → m ∈ net.macros → meets u v m ≡ true → ⊥) → ClearAhead net u
  found v i h free = record { to = v; stands = i; ahead = h; is-clear = clear_of u v net.macros free }

  -- up to the right, or down to the right or straight down, where no macro meets the box
  rising : (v : Place) → v ∈ vertices_of net → InFirst u v → ((m : Macro) → m ∈ net.macros → Hits u.x u.y v.x v.y m → ⊥)
      → ClearAhead net u
  rising v i f free = found v i (first-ahead u v f) (λ m k h. free m k (hits-up u v m (omega signed) f.along h))

  sinking : (v : Place) → v ∈ vertices_of net → InFourth u v → ((m : Macro) → m ∈ net.macros → Hits u.x v.y v.x u.y m → ⊥)
      → ClearAhead net u
  sinking v i f free = found v i (fourth-ahead u v f) (λ m k h. free m k (hits-down u v m f.across (omega signed) h))

  corner : (m : Macro) → m ∈ net.macros → (c : Place) → c ∈ corners_of m → c ∈ vertices_of net
  corner m i c j = corner-vertex net i j

  -- a macro at the height of u that is not wholly to the left of it faces it
  faces : (m : Macro) → m ∈ net.macros → Lt u.x m.right → Lt m.bottom u.y → Lt u.y m.top → facing u m ≡ true
  faces m i r b t =
      either
      (λ l. facing-of u m (record { left = l; bottom = b; top = t }))
      (λ l. absurd (vertex-outside a u at m i (record { left = l; right = r; bottom = b; top = t })))
      (compare u.x m.left)

  overlap-left : (m n : Macro) → m ∈ net.macros → n ∈ net.macros → Overlap m n → Lt m.left n.left → ⊥
  overlap-left m n i j o l = let h : Lt n.left n.left = rw (overlap-one a m n i j o) at l in omega signed

  -- Case 1: o faces u
  module _ (o : Macro) (i : o ∈ net.macros) (f : Facing u o) where
    -- its left side goes through u
    touching : Le o.left u.x → ClearAhead net u
    touching l =
        sinking (place o.left o.bottom) (corner o i _ (lower-left o)) (record { across = f.left; along = f.bottom })
        (λ m k h.
        let s = sides-in-order a o i in
        overlap-left m o k i (record { left = omega signed; right = omega signed; bottom = omega signed; top = h.top }) h.left)

    -- it stands off, and is the first that faces u
    module _ (off : Lt u.x o.left) (first : (m : Macro) → m ∈ net.macros → facing u m ≡ true → Le o.left m.left) where
      abbrev upper : Place
      upper = place o.left o.top

      -- p is the lowest macro in the way to o's upper left corner
      module _ (p : Macro) (k : p ∈ net.macros) (h : Hits u.x u.y o.left o.top p)
          (low : (m : Macro) → m ∈ net.macros → meets u upper m ≡ true → Le p.bottom m.bottom) where
        not-below : Le u.y p.bottom
        not-below =
            either (λ g. g)
            (λ b. absurd (let n = first p k (faces p k h.right b h.top) in let z : ⊥ = omega (signed, n, h.left) in z))
            (compare u.y p.bottom)

        before-first : Le p.right o.left
        before-first =
            either (λ g. g)
            (λ r.
            let s = sides-in-order a o i in
            absurd (overlap-left p o k i (record { left = omega signed; right = r; bottom = h.bottom; top = omega signed }) h.left))
            (compare p.right o.left)

        around : ClearAhead net u
        around =
            rising (place p.right p.bottom) (corner p k _ (lower-right p)) (record { across = h.right; along = not-below })
            (λ m j g.
            let b = before-first in
            let hits : Hits u.x u.y o.left o.top m =
            record { right = g.right; left = omega signed; top = g.top; bottom = omega signed } in
            let n = low m j (hits-meets u upper m (omega signed) (omega signed) hits) in
            omega (signed, n, g.bottom))

      standing-off : ClearAhead net u
      standing-off =
          either
          (λ r. around r.entry r.stands (hits-up u upper r.entry (omega signed) (omega signed) r.passes) r.below)
          (λ n.
          rising upper (corner o i _ (upper-left o)) (record { across = off; along = omega signed })
          (λ m k h. n m k (hits-meets u upper m (omega signed) (omega signed) h)))
          (lowest (λ m. m.bottom) (meets u upper) net.macros)

  -- Cases 2 and 3: no macro faces u
  module _ (unfaced : (m : Macro) → m ∈ net.macros → facing u m ≡ true → ⊥) where
    abbrev to_right : Place → Bool
    to_right v = lt_z u.x v.x

    abbrev up_right : Place → Bool
    up_right v = lt_z u.x v.x && le_z u.y v.y

    rise : LeastOf up_right (NoHigher (λ v. v.y)) (vertices_of net) → ClearAhead net u
    rise r =
        let v = r.entry in
        let f : InFirst u v = record {
          across = z_lt-true _ _ (and_left _ (le_z u.y v.y) r.passes);
          along = z_le-true _ _ (and_right (lt_z u.x v.x) _ r.passes);
        } in
        rising v r.stands f
        (λ m k h.
        either
        (λ b. let n = r.below _ (corner m k _ (lower-right m)) (and_both _ _ (lt-z_lt _ _ h.right) (le-z_le _ _ b)) in
        omega (signed, n, h.bottom))
        (λ b. unfaced m k (faces m k h.right b h.top))
        (compare u.y m.bottom))

    sink : ((v : Place) → v ∈ vertices_of net → up_right v ≡ true → ⊥) → LeastOf to_right (NoLower (λ v. v.y)) (vertices_of net)
        → ClearAhead net u
    sink none r =
        let v = r.entry in
        let x : Lt u.x v.x = z_lt-true _ _ r.passes in
        let y : Lt v.y u.y =
        either (λ b. absurd (none v r.stands (and_both _ _ r.passes (le-z_le _ _ b)))) (λ b. b) (compare u.y v.y) in
        sinking v r.stands (record { across = omega signed; along = y })
        (λ m k h.
        either
        (λ t. let n = r.below _ (corner m k _ (upper-right m)) (lt-z_lt _ _ h.right) in omega (signed, n, h.top))
        (λ t. unfaced m k (faces m k h.right h.bottom t))
        (compare m.top u.y))

    -- w is straight below, and no vertex is to the right
    drop : ((v : Place) → v ∈ vertices_of net → to_right v ≡ true → ⊥) → (w : Place) → w ∈ vertices_of net → Ahead u w → ClearAhead net u
    drop none w i (inl h) = absurd (none w i (lt-z_lt _ _ h))
    drop none w i (inr h) =
        sinking w i (record { across = rw h.0 (omega signed); along = h.1 })
        (λ m k g. none _ (corner m k _ (lower-right m)) (lt-z_lt _ _ g.right))

    in-the-open : (w : Place) → w ∈ vertices_of net → Ahead u w → ClearAhead net u
    in-the-open w i h =
        either rise
        (λ n. either (sink n) (λ k. drop k w i h) (highest (λ v. v.y) to_right (vertices_of net)))
        (lowest (λ v. v.y) up_right (vertices_of net))

  pub clear-ahead : (w : Place) → w ∈ vertices_of net → Ahead u w → ClearAhead net u
  clear-ahead w i h = either met (λ n. in-the-open n w i h) (lowest (λ m. m.left) (facing u) net.macros)
    where
      met : LeastOf (facing u) (NoHigher (λ m. m.left)) net.macros → ClearAhead net u
      met r =
          let f = facing-is u r.entry r.passes in
          either (touching r.entry r.stands f) (λ off. standing-off r.entry r.stands f off r.below)
          (compare r.entry.left u.x)
