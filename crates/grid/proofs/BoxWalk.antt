-- Two places that are clear of each other are joined by a walk in clear unit steps of just their cost: along x, then along y, inside the
-- box.
-- Assumes nothing.
use mathlib.Core.Path.{◌≡◌, refl, sym, ap₂}
use mathlib.Core.Bool.{true}
use mathlib.Core.Logic.{◌⊎◌, inl, inr}
use mathlib.Core.List.{List, [], ◌∷◌}
use Prim.Native.Nat.{ℕ, zero, suc}
use native.Mathlib.Omega.{arith}
use lib.IntN.{ℤ, pos, ◌+ℤ◌, ◌-ℤ◌}
use lib.Signed.{lt_z}
use Rattle.lists.proofs.TestLaws.{by, either}
use Rattle.signed.proofs.SideLaws.{add-sides, sub-sides, up_pos, down_pos, eq_of, signed}
use Rattle.signed.proofs.OrderLaws.{min-sides, max-sides}
use Rattle.joined.specs.Way.{long}
use Rattle.plane.specs.declared.Place.{Place}
use Rattle.plane.specs.declared.Macro.{Macro}
use Rattle.plane.specs.Place.{place}
use Rattle.plane.specs.Distance.{apart, distance}
use Rattle.plane.specs.declared.Weights.{Weights}
use Rattle.plane.specs.Cost.{cost}
use Rattle.plane.specs.Macro.{clear}
use Rattle.plane.proofs.DistanceLaws.{apart-self, apart-ordered, apart-comm, distance-comm, distance_self, distance_none}
use Rattle.plane.specs.Box.{Between, InBox}
use Rattle.plane.proofs.BoxLaws.{first-in-box, last-in-box, clear_within, distance-through}
use Rattle.grid.specs.Walk.{Walk, stop, go, Exactly}
use Rattle.lines.specs.Lines.{GridStep, across, along, UnitStep, ClearStep}
use Rattle.plane.proofs.CostLaws.{cost-comm, cost-through, cost-self}
use Rattle.grid.proofs.WalkLaws.{walk-map, walk-each}

-- One axis

-- a number one unit from a, towards b
record Toward (a b : ℤ) : Type 0 where
  pub next : ℤ
  pub unit : apart a next ≡ 1
  pub between : Between next a b

toward : (a b : ℤ) → (a ≡ b) ⊎ Toward a b
toward a b =
    by (lt_z a b)
    (λ e. inr let s = add-sides a (pos 1) in record {
      next = a +ℤ pos 1;
      unit = omega (signed, s, up_pos 1, down_pos 1, apart-ordered a (a +ℤ pos 1) (omega (signed, s, up_pos 1, down_pos 1)));
      between = (omega (signed, e, s, up_pos 1, down_pos 1, min-sides a b), omega (signed, e, s, up_pos 1, down_pos 1, max-sides a b));
    })
    (λ e. by (lt_z b a)
    (λ f. inr let s = sub-sides a (pos 1) in record {
      next = a -ℤ pos 1;
      unit = omega (
        signed,
        s,
        up_pos 1,
        down_pos 1,
        apart-comm a (a -ℤ pos 1),
        apart-ordered (a -ℤ pos 1) a (omega (signed, s, up_pos 1, down_pos 1)),
      );
      between = (omega (signed, f, s, up_pos 1, down_pos 1, min-sides a b), omega (signed, f, s, up_pos 1, down_pos 1, max-sides a b));
    })
    (λ f. inl (eq_of a b (omega (signed, e, f)))))

module _ (ms : List Macro) (wt : Weights) where
  abbrev price : Place → Place → ℕ
  price = cost wt

  -- through a place of the box that is one unit from a
  through : (n : ℕ) (a b c : Place) → distance a b ≡ suc n → clear a b ms ≡ true → InBox c a b → distance a c ≡ 1 →
      (distance c b ≡ n → clear c b ms ≡ true → Exactly (UnitStep ms) price c b (price c b)) → Exactly (UnitStep ms) price a b (price a b)
  unfolding long
  through n a b c e h i u rest =
      let w = rest (omega (arith, e, u, distance-comm a c, distance-through c a b i)) (clear_within c b a b i (last-in-box a b) ms h) in
      record {
        points = c ∷ w.points;
        walk = go record { unit = u; free = clear_within a c a b (first-in-box a b) i ms h } w.walk;
        costs = omega (arith, w.costs, cost-comm wt a c, cost-through wt c a b i);
      }

  box-walk-at : (n : ℕ) (a b : Place) → distance a b ≡ n → clear a b ms ≡ true → Exactly (UnitStep ms) price a b (price a b)
  unfolding distance long
  box-walk-at zero a b e h =
      let z = distance_none a b e in
      record { points = []; walk = stop z; costs = rw z (sym (cost-self wt b)) }
  box-walk-at (suc n) a b e h =
      either
      (λ k. either
      (λ l. absurd (let z : a ≡ b = ap₂ place k l in let y : ⊥ = omega (arith, distance_self b, (rw z at e)) in y))
      (λ t. through n a b (place a.x t.next) e h record { across = (first-in-box a b).across; along = t.between }
      (omega (arith, t.unit, apart-self a.x)) (box-walk-at n (place a.x t.next) b))
      (toward a.y b.y))
      (λ t. through n a b (place t.next a.y) e h record { across = t.between; along = (first-in-box a b).along }
      (omega (arith, t.unit, apart-self a.y)) (box-walk-at n (place t.next a.y) b))
      (toward a.x b.x)

  pub box-walk : (a b : Place) → clear a b ms ≡ true → Exactly (UnitStep ms) price a b (price a b)
  box-walk a b h = box-walk-at (distance a b) a b refl h

  -- a walk along edges of the spanning graph, or of any clear edges, is a unit walk of its cost
  pub clear-walk : {a b : Place} {ps : List Place} → Walk (ClearStep ms) a ps b → Exactly (UnitStep ms) price a b (long price a ps)
  clear-walk w = walk-each price box-walk w

  -- and so is a walk along the grid
  pub grid-clear : (xs ys : List ℤ) (a b : Place) → GridStep xs ys ms a b → ClearStep ms a b
  grid-clear xs ys a b (across s e m h) = h
  grid-clear xs ys a b (along s e m h) = h

  pub grid-walk : (xs ys : List ℤ) {a b : Place} {ps : List Place} → Walk (GridStep xs ys ms) a ps b →
      Exactly (UnitStep ms) price a b (long price a ps)
  grid-walk xs ys w = clear-walk (walk-map (grid-clear xs ys) w)
