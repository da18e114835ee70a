-- What holds of the square table of an allowed net, and that it does not depend on the order of the lists: a walk in clear unit steps knows
-- the macros by what is clear of them, and the pins in the order of places are the same.
-- Assumes nothing.
use mathlib.Core.Path.{◌≡◌, sym, ap, subst, ◌∙◌}
use mathlib.Core.List.{List}
use Prim.Native.Nat.{ℕ, zero, suc, ◌+◌, ◌*◌, ◌-◌, ◌<◌}
use native.Mathlib.Nat.{suc-mul}
use native.Mathlib.Omega.{arith}
use borrow.Author.Tests.{ltb-true, ltb-false}
use lib.Dec.{ltb}
use lib.IntN.{pos}
use lib.ListN.{length, get_or}
use lib.Seq.{ext_get_or}
use Rattle.lists.specs.Member.{◌∈◌, Among}
use Rattle.lists.specs.Sorted.{sorted}
use Rattle.lists.proofs.TestLaws.{by}
use Rattle.lists.proofs.MemberLaws.{get_d-in}
use Rattle.lists.proofs.SortedLaws.{of-sorted, in-sorted, sorted-ascending, ascending-same}
use Rattle.plane.specs.declared.Place.{Place}
use Rattle.plane.specs.declared.Macro.{Macro}
use Rattle.plane.specs.Place.{place, before}
use Rattle.plane.specs.declared.Weights.{Weights}
use Rattle.plane.specs.Macro.{clear}
use Rattle.plane.proofs.PlaceOrder.{place-order}
use Rattle.net.specs.Net.{Net}
use Rattle.net.specs.Allowed.{Allowed}
use Rattle.graph.specs.Spanning.{spanning}
use Rattle.lines.specs.Lines.{UnitStep}
use Rattle.grid.specs.Distance.{TrueDistance, pins_in_order, pin_in_order, entry_at, Square, TrueSquare}
use Rattle.grid.proofs.WalkLaws.{walk-map}
use Rattle.lines.proofs.EdgeLaws.{pin-crossing}
use Rattle.grid.proofs.DistanceLaws.{no-way-cheaper, grid-true, grid-only, true-only, grid-turn, grid-self}
use Rattle.grid.proofs.NetDistance.{spanning-clear, pins-joined, order-count}

pub in_order : {net : Net} → Allowed net → (i : ℕ) → i < length net.pins → pin_in_order net i ∈ net.pins
in_order {net} a i h =
    of-sorted before net.pins (pin_in_order net i) (get_d-in (pins_in_order net) i (place (pos 0) (pos 0)) (omega (arith, h, order-count a)))

module _ {net : Net} (a : Allowed net) (numbers : List ℕ) (s : Square net numbers) where
  entry-true : (i j : ℕ) → i < length net.pins → j < length net.pins →
      TrueDistance net (pin_in_order net i) (pin_in_order net j) (entry_at net numbers i j)
  entry-true i j h k = grid-true net (pin-crossing net _ (in_order a i h)) (pin-crossing net _ (in_order a j k)) (s.each i j h k)

  pub square-true : TrueSquare net numbers
  square-true = record {
    each = entry-true;
    even = λ i j h k. grid-only (s.each i j h k) (grid-turn (s.each j i k h));
    diagonal = λ i h. grid-only (s.each i i h h) grid-self;
    graph = λ i j h k ps w.
        let r = no-way-cheaper net (spanning net) (spanning-clear a) (in_order a i h) (in_order a j k) w in
        omega (arith, r.within, (s.each i j h k).least r.points r.way);
    joined = λ p q i k. pins-joined a i k;
  }

-- For every order of the lists

-- a number of a table of r rows, by row and column
record Cell (r m k : ℕ) : Type 0 where
  row : ℕ
  column : ℕ
  row_in : row < r
  column-in : column < m
  is : k ≡ row * m + column

cell : (r m k : ℕ) → k < r * m → Cell r m k
cell zero m k h = absurd (let z : ⊥ = omega (arith, h) in z)
cell (suc r) m k h =
    by (ltb k (r * m))
    (λ e. let c = cell r m k (ltb-true k (r * m) e) in
    record { row = c.row; column = c.column; row_in = omega (arith, c.row_in); column-in = c.column-in; is = c.is })
    (λ e. let l = ltb-false k (r * m) e in record {
      row = r;
      column = k - r * m;
      row_in = omega arith;
      column-in = omega (arith, h, l, suc-mul r m);
      is = omega (arith, l);
    })

-- the same pins, as many, and the same places clear of each other
pub record SameGround (ps qs : List Place) (ms ns : List Macro) : Type 0 where
  pub to : Among ps qs
  pub from : Among qs ps
  pub count : length ps ≡ length qs
  pub clears : (x y : Place) → clear x y ms ≡ clear x y ns

module _ (w : Weights) {ps qs : List Place} {ms ns : List Macro} (same : SameGround ps qs ms ns) where
  abbrev net : Net
  net = record { pins = ps; macros = ms; weights = w }

  abbrev net' : Net
  net' = record { pins = qs; macros = ns; weights = w }

  same-order : pins_in_order net ≡ pins_in_order net'
  same-order =
      ascending-same before place-order (sorted before ps) (sorted before qs) (sorted-ascending before place-order ps)
      (sorted-ascending before place-order qs)
      (λ p m. in-sorted before place-order qs p (same.to p (of-sorted before ps p m)))
      (λ p m. in-sorted before place-order ps p (same.from p (of-sorted before qs p m)))

  there : (x y : Place) → UnitStep ms x y → UnitStep ns x y
  there x y u = record { unit = u.unit; free = sym (same.clears x y) ∙ u.free }

  back : (x y : Place) → UnitStep ns x y → UnitStep ms x y
  back x y u = record { unit = u.unit; free = same.clears x y ∙ u.free }

  true-there : {p q : Place} {n : ℕ} → TrueDistance net p q n → TrueDistance net' p q n
  true-there d = record {
    points = d.points;
    walk = walk-map there d.walk;
    costs = d.costs;
    least = λ ps v. d.least ps (walk-map back v);
  }

  module _ (a : Allowed net) (b : Allowed net') (t u : List ℕ) (s : Square net t) (r : Square net' u) where
    same-entry : (i j : ℕ) → i < length ps → j < length ps → entry_at net t i j ≡ entry_at net' u i j
    same-entry i j h k =
        let one : TrueDistance net' (pin_in_order net i) (pin_in_order net j) (entry_at net t i j) = true-there
        ((square-true a t s).each i j h k) in
        let two = (square-true b u r).each i j (omega (arith, h, same.count)) (omega (arith, k, same.count)) in
        true-only (subst (λ (l : List Place). TrueDistance net' (get_or l i (place (pos 0) (pos 0))) (get_or l j (place (pos 0) (pos 0)))
        (entry_at net t i j))
        same-order one) two

    square-length : length t ≡ length u
    square-length = s.size ∙ ap (λ (m : ℕ). m * m) same.count ∙ sym r.size

    pub squares-same : t ≡ u
    squares-same = ext_get_or 0 t u square-length (λ k h. at k (cell (length ps) (length ps) k (omega (arith, h, s.size))))
      where
        at : (k : ℕ) → Cell (length ps) (length ps) k → get_or t k 0 ≡ get_or u k 0
        at k c =
            ap (λ (n : ℕ). get_or t n 0) c.is
            ∙ same-entry c.row c.column c.row_in c.column-in
            ∙ ap (λ (n : ℕ). get_or u n 0) (sym (c.is ∙ ap (λ (m : ℕ). c.row * m + c.column) same.count))
