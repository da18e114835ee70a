-- Past an edge or a point: the tests in turned numbers are those of the definitions, and the way's two numbers are what the closed form
-- asks: the least stop, and whether nothing bars the bar as far as its shortest edge.
-- Assumes nothing.
use mathlib.Core.Path.{◌≡◌, refl, sym, ap, ap₂, ◌∙◌}
use mathlib.Core.Bool.{Bool, true, false, ◌&&◌, ◌||◌}
use Prim.Native.Nat.{ℕ, ◌+◌, ◌-◌, min, max}
use native.Mathlib.Omega.{arith}
use borrow.Author.Tests.{leb-true, le-leb}
use lib.Dec.{eqb, leb}
use lib.Signed.{le_z}
use Rattle.lists.proofs.TestLaws.{by, and_left, and_right, and_both}
use Rattle.signed.specs.Sides.{up, down, Le}
use Rattle.signed.proofs.SideLaws.{one_side, z_le-true, le-z_le}
use Rattle.plane.specs.declared.Place.{Place}
use Rattle.plane.proofs.Fits.{PlaceFits}
use Rattle.slide.specs.declared.Side.{Side}
use Rattle.slide.specs.Side.{along, across, moved}
use Rattle.slide.specs.Bend.{Edge}
use Rattle.slide.specs.Bar.{level, of_bar, hangs}
use Rattle.slide.specs.Sweep.{boxes_meet}
use Rattle.slide.specs.Stop.{beyond, low_along, high_along, low_across, high_across, edge_ahead}
use Rattle.slide.proofs.AcrossLaws.{along-moved, across-moved}
use Rattle.slide.proofs.LabelledBars.{agree}
use Rattle.slide.proofs.TouchLaws.{touch, touched}
use Rattle.reach.specs.declared.Bar.{Bar}
use Rattle.turned.specs.declared.Seen.{Seen}
use Rattle.turned.specs.Turned.{raised, spot}
use Rattle.reach.specs.Passing.{own_of, front_of}
use Rattle.turned.proofs.RaisedLaws.{High, raised-le, raised-eq, raised-min, raised-max, raised-beyond}
use Rattle.turned.proofs.SeenLaws.{across-high, along-high}
use Rattle.reach.proofs.CornerLaws.{high-min, high-max}

pub and-three : (p q r : Bool) → ((p && q) && r) ≡ (p && (q && r))
and-three true q r = refl
and-three false q r = refl

-- b is the bar from F to L that may move to the side s by at most its shortest edge
pub record Stands (s : Side) (b : Bar) (F L : Place) : Type 0 where
  pub first : b.first ≡ spot s F
  pub last : b.last ≡ spot s L
  pub top : b.top ≡ raised (across s F) + b.most
  pub along-le : Le (along s F) (along s L)
  pub level : across s F ≡ across s L
  pub fits-F : PlaceFits F
  pub fits-L : PlaceFits L

-- an edge as the bar sees it
abbrev pub as_seen : Side → (Place → Bool) → Edge → Seen
as_seen s on x = record { first = on x.0; second = on x.1; from = spot s x.0; to = spot s x.1 }

module _ {s : Side} {b : Bar} {F L : Place} (r : Stands s b F L) (on : Place → Bool) (x : Edge) (f0 : PlaceFits x.0)
    (f1 : PlaceFits x.1) where
  abbrev M : Place
  M = moved s b.most L

  abbrev t : Seen
  t = as_seen s on x

  abbrev d : ℕ
  d = min (raised (across s x.0)) (raised (across s x.1)) - raised (across s F)

  pub along-M : along s M ≡ along s L
  along-M = along-moved s b.most L

  pub beside-le : Le (along s F) (along s M)
  beside-le = let z = along-M in let u = ap up z in let w = ap down z in omega (arith, r.along-le)

  pub across-le : Le (across s F) (across s M)
  across-le =
      let u = ap up r.level in
      let w = ap down r.level in
      omega (arith, across-moved s b.most L)

  -- the box ends so much beyond
  pub top-is : raised (across s M) ≡ raised (across s F) + b.most
  unfolding raised
  top-is =
      let u = ap up r.level in
      let w = ap down r.level in
      omega
      (arith, across-moved s b.most L, across-high s L r.fits-L, one_side (across s M), one_side (across s L))

  pub high-M : High (across s M)
  high-M = omega (arith, across-moved s b.most L, across-high s L r.fits-L, one_side (across s M), one_side (across s L))

  low-along : le_z (low_along s x) (along s L) ≡ leb (min (raised (along s x.0)) (raised (along s x.1))) (raised (along s L))
  unfolding low_along
  low-along =
      raised-le _ _ (high-min _ _ (along-high s _ f0) (along-high s _ f1)) (along-high s L r.fits-L)
      ∙ ap (λ (i : ℕ). leb i (raised (along s L))) (raised-min _ _ (along-high s _ f0) (along-high s _ f1))

  high-along : le_z (along s F) (high_along s x) ≡ leb (raised (along s F)) (max (raised (along s x.0)) (raised (along s x.1)))
  unfolding high_along
  high-along =
      raised-le _ _ (along-high s F r.fits-F) (high-max _ _ (along-high s _ f0) (along-high s _ f1))
      ∙ ap (λ (i : ℕ). leb (raised (along s F)) i) (raised-max _ _ (along-high s _ f0) (along-high s _ f1))

  high-across : le_z (across s F) (high_across s x) ≡ leb (raised (across s F)) (max (raised (across s x.0)) (raised (across s x.1)))
  unfolding high_across
  high-across =
      raised-le _ _ (across-high s F r.fits-F) (high-max _ _ (across-high s _ f0) (across-high s _ f1))
      ∙ ap (λ (i : ℕ). leb (raised (across s F)) i) (raised-max _ _ (across-high s _ f0) (across-high s _ f1))

  pub front-is : edge_ahead s F L x ≡ front_of b t
  unfolding edge_ahead front_of
  front-is =
      ap₂ ◌&&◌ (ap₂ ◌&&◌ low-along high-along) high-across
      ∙ and-three
      (leb (min (raised (along s x.0)) (raised (along s x.1))) (raised (along s L)))
      (leb (raised (along s F)) (max (raised (along s x.0)) (raised (along s x.1))))
      (leb (raised (across s F)) (max (raised (across s x.0)) (raised (across s x.1))))
      ∙ sym (rw (r.first, r.last) refl)

  pub beyond-is : beyond (across s F) (low_across s x) ≡ d
  unfolding beyond low_across
  beyond-is =
      raised-beyond _ _ (across-high s F r.fits-F) (high-min _ _ (across-high s _ f0) (across-high s _ f1))
      ∙ ap (λ (i : ℕ). i - raised (across s F)) (raised-min _ _ (across-high s _ f0) (across-high s _ f1))

  low-M : le_z (low_across s x) (across s M) ≡ leb d b.most
  unfolding low_across
  low-M =
      raised-le _ _ (high-min _ _ (across-high s _ f0) (across-high s _ f1)) high-M
      ∙ ap₂ leb (raised-min _ _ (across-high s _ f0) (across-high s _ f1)) top-is
      ∙ shifted (min (raised (across s x.0)) (raised (across s x.1))) (raised (across s F)) b.most
    where
      shifted : (i j k : ℕ) → leb i (j + k) ≡ leb (i - j) k
      shifted i j k =
          agree _ _
          (λ e. le-leb (i - j) k (let z = leb-true i (j + k) e in omega (arith, z)))
          (λ e. le-leb i (j + k) (let z = leb-true (i - j) k e in omega (arith, z)))

  pub meets-is : boxes_meet x (F, M) ≡ (edge_ahead s F L x && leb d b.most)
  unfolding edge_ahead
  meets-is =
      agree _ _
      (λ e.
      let k = touch s x F M beside-le across-le e in
      and_both _ _
      (and_both _ _ (and_both _ _ (le-z_le _ _ (rw along-M at k.beside.0)) (le-z_le _ _ k.beside.1)) (le-z_le _ _ k.ahead.1))
      (sym low-M ∙ le-z_le _ _ k.ahead.0))
      (λ e.
      let g = and_left (edge_ahead s F L x) (leb d b.most) e in
      let p = and_left (le_z (low_along s x) (along s L) && le_z (along s F) (high_along s x)) _ g in
      touched s x F M beside-le across-le
      (record {
        beside = (
          rw along-M (z_le-true (low_along s x) (along s L) (and_left _ (le_z (along s F) (high_along s x)) p)),
          z_le-true (along s F) (high_along s x) (and_right (le_z (low_along s x) (along s L)) _ p),
        );
        ahead = (
          z_le-true (low_across s x) (across s M) (low-M ∙ and_right (edge_ahead s F L x) (leb d b.most) e),
          z_le-true (across s F) (high_across s x) (and_right (le_z (low_along s x) (along s L) && le_z (along s F) (high_along s x)) _ g),
        );
      }))

  pub own_is : (of_bar s on x || hangs s on x) ≡ own_of t
  unfolding of_bar hangs level own_of
  own_is =
      let e = raised-eq (across s x.0) (across s x.1) (across-high s _ f0) (across-high s _ f1) in
      by (eqb (raised (across s x.0)) (raised (across s x.1)))
      (λ g. rw (own_of, e, g) (nothing-more (on x.0 && on x.1)))
      (λ g. rw (own_of, e, g) refl)
    where
      nothing-more : (p : Bool) → (p || false) ≡ p
      nothing-more true = refl
      nothing-more false = refl
