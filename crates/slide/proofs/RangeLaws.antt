-- No coordinate leaves the range: a bend stands in the box of its edge, and a bar stops at a far end at the latest.
-- Assumes nothing.
use mathlib.Core.Path.{◌≡◌, refl, sym, ap, ◌∙◌}
use mathlib.Core.Bool.{Bool, true, false}
use mathlib.Core.Logic.{inl, inr}
use mathlib.Core.List.{List, [], ◌∷◌}
use Prim.Native.Nat.{ℕ, ◌<◌}
use native.Mathlib.Omega.{arith}
use lib.IntN.{ℤ}
use lib.ListN.{length}
use lib.Signed.{lt_z}
use Rattle.lists.specs.Member.{◌∈◌, here}
use Rattle.lists.specs.Those.{those}
use Rattle.lists.proofs.TestLaws.{by, either, and_left, and_right}
use Rattle.lists.proofs.ThoseLaws.{of-those}
use Rattle.signed.specs.Sides.{up, down, Lt, Le}
use Rattle.signed.proofs.SideLaws.{z_lt-true, signed}
use Rattle.signed.proofs.OrderLaws.{min-sides, max-sides}
use Rattle.plane.specs.declared.Place.{Place}
use Rattle.plane.specs.Box.{Between, InBox}
use Rattle.joined.specs.Joined.{Link}
use Rattle.net.specs.Net.{Net}
use Rattle.slide.specs.declared.Side.{Side}
use Rattle.slide.specs.declared.Side.TheVariants.{Above, Below, Right, Left}
use Rattle.slide.specs.Side.{along, across, moved}
use Rattle.graph.specs.Edges.{edge_of}
use Rattle.slide.specs.Bend.{Edge, straight, bent, bends}
use Rattle.slide.specs.Bar.{ahead}
use Rattle.slide.specs.Slide.{shift, slide}
use Rattle.slide.specs.Bars.{IsBar, Allowed}
use Rattle.slide.specs.Promise.{Within}
use Rattle.slide.proofs.BendLaws.{edge-has, Corner, each-bent}
use Rattle.slide.proofs.AcrossLaws.{along-moved, across-moved, less}
use Rattle.slide.proofs.EdgeLaws.{shift-on, shift-off}
use Rattle.slide.proofs.BarLaws.{or_cases}
use Rattle.slide.proofs.SlideLaws.{each-slid}

-- Boxes

between-between : (c a b l h : ℤ) → Between c a b → Between a l h → Between b l h → Between c l h
between-between c a b l h i j k =
    (omega (signed, i.0, j.0, k.0, min-sides a b), omega (signed, i.1, j.1, k.1, max-sides a b))

box-in-box : (c a b lo hi : Place) → InBox c a b → InBox a lo hi → InBox b lo hi → InBox c lo hi
box-in-box c a b lo hi i j k = record {
  across = between-between c.x a.x b.x lo.x hi.x i.across j.across k.across;
  along = between-between c.y a.y b.y lo.y hi.y i.along j.along k.along;
}

-- between two numbers of the range, whichever way
inner : (c a b l h : ℤ) → Le a c → Le c b → Between a l h → Between b l h → Between c l h
inner c a b l h p q i j = (omega (signed, p, q, i.0, j.0), omega (signed, p, q, i.1, j.1))

same-as : (c a l h : ℤ) → c ≡ a → Between a l h → Between c l h
same-as c a l h e i = rw e i

-- a place beside p, and no further across than b
beside : (s : Side) (r p b lo hi : Place) → along s r ≡ along s p → Le (across s p) (across s r) → Le (across s r) (across s b) →
    InBox p lo hi → InBox b lo hi → InBox r lo hi
unfolding along across
beside Above r p b lo hi e h k i j =
    record { across = same-as _ _ _ _ e i.across; along = inner r.y p.y b.y _ _ h k i.along j.along }
beside Below r p b lo hi e h k i j =
    record {
      across = same-as _ _ _ _ e i.across;
      along = inner r.y b.y p.y _ _ (less _ _ k) (less _ _ h) j.along i.along;
    }
beside Right r p b lo hi e h k i j =
    record { across = inner r.x p.x b.x _ _ h k i.across j.across; along = same-as _ _ _ _ e i.along }
beside Left r p b lo hi e h k i j =
    record {
      across = inner r.x b.x p.x _ _ (less _ _ k) (less _ _ h) j.across i.across;
      along = same-as _ _ _ _ e i.along;
    }

pub bends-within : (lo hi : Place) (X : List Place) (T : List Edge) (Y : List Place) (U : List Edge) → bends X T ≡ bent Y U →
    Within lo hi T → Within lo hi U
bends-within lo hi X T Y U e w a b m =
    each-bent (λ f. InBox f.0 lo hi × InBox f.1 lo hi) split X T Y U e (λ f i. w f.0 f.1 i) (a, b) m
  where
    split : (f : Edge) (c : Place) → straight f ≡ false → Corner f.0 f.1 c → InBox f.0 lo hi × InBox f.1 lo hi →
        (InBox (edge_of f.0 c).0 lo hi × InBox (edge_of f.0 c).1 lo hi) ×
        (InBox (edge_of c f.1).0 lo hi × InBox (edge_of c f.1).1 lo hi)
    split f c s q h =
        let k = box-in-box c f.0 f.1 lo hi q.in_box h.0 h.1 in (
          edge-has (λ g. InBox g.0 lo hi × InBox g.1 lo hi) f.0 c (h.0, k) (k, h.0),
          edge-has (λ g. InBox g.0 lo hi × InBox g.1 lo hi) c f.1 (k, h.1) (h.1, k),
        )

-- A slide

-- an edge that hangs on the side
pub record Leads (s : Side) (T : List Edge) (on : Place → Bool) : Type 0 where
  pub near : Place
  pub away : Place
  pub edge : Link T near away
  pub point : on near ≡ true
  pub rises : Lt (across s near) (across s away)

one_of : {A : Type 0} (l : List A) → 0 < length l → (x : A) × (x ∈ l)
one_of [] h = absurd (let z : ⊥ = omega arith in z)
one_of (x ∷ l) h = (x, here refl)

pub leads : (s : Side) (T : List Edge) (on : Place → Bool) → 0 < length (those (ahead s on) T) → Leads s T on
unfolding ahead
leads s T on h =
    let e = one_of (those (ahead s on) T) h in
    let r = of-those (ahead s on) T e.1 in
    let a = e.0.0 in
    let b = e.0.1 in
    either
    (λ k. record {
      near = a;
      away = b;
      edge = inl r.0;
      point = and_left _ (lt_z (across s a) (across s b)) k;
      rises = z_lt-true _ _ (and_right (on a) _ k);
    })
    (λ k. record {
      near = b;
      away = a;
      edge = inr r.0;
      point = and_left _ (lt_z (across s b) (across s a)) k;
      rises = z_lt-true _ _ (and_right (on b) _ k);
    })
    (or_cases _ _ r.1)

module _ {s : Side} {on : Place → Bool} {net : Net} {X : List Place} {T : List Edge} (c : IsBar s net X T on)
    {f l : Place} {d : ℕ} (w : Allowed s net X T on f l d) (g : Leads s T on) where
  -- in a box that holds the tree
  module _ (lo hi : Place) (i : Within lo hi T) where
    end-in : {p q : Place} → Link T p q → InBox q lo hi
    end-in (inl m) = (i _ _ m).1
    end-in (inr m) = (i _ _ m).0

    pub moved-within : (p : Place) → on p ≡ true → InBox p lo hi → InBox (moved s d p) lo hi
    moved-within p e j =
        let flat = c.flat p e ∙ sym (c.flat g.near g.point) in
        let u = ap up flat in
        let v = ap down flat in
        let r = across-moved s d p in
        let t = w.short g.near g.away g.edge g.point g.rises in
        beside s (moved s d p) p g.away lo hi (along-moved s d p) (omega (arith, r)) (omega (arith, r, t)) j (end-in g.edge)

    stays : (p : Place) → InBox p lo hi → InBox (shift s on d p) lo hi
    stays p j =
        by (on p)
        (λ e. rw (shift-on s on d p e) (moved-within p e j))
        (λ e. rw (shift-off s on d p e) j)

    pub slide-within : Within lo hi (slide s on d T)
    slide-within =
        each-slid s on d T (λ x y. InBox x lo hi × InBox y lo hi) λ a b m. let h = i a b m in (stays a h.0, stays b h.1)
