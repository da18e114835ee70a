-- The rows of a net's table, filled by numbers, are a filled table by masks and places; what is read back from it joins the first pin with
-- all others at the number of the last mask, and no edges of the grid that join all pins cost less.
-- Assumes nothing.
use mathlib.Core.Path.{◌≡◌, refl, sym, ap, ap₂, subst, ◌∙◌}
use mathlib.Core.Bool.{Bool, true, false, ◌&&◌}
use mathlib.Core.Logic.{◌⊎◌, inl, inr}
use mathlib.Core.List.Memᴰ
use mathlib.Core.List.{List, [], ◌∷◌, map, map-append}
use Prim.Native.Nat.{ℕ, ◌+◌, ◌*◌, ◌-◌, ◌/◌, ◌%◌, ◌^◌, ◌≤◌, ◌<◌}
use native.Mathlib.Decide.{ℕ_discrete}
use native.Mathlib.Omega.{arith}
use borrow.Author.Tests.{leb-true}
use lib.Dec.{leb}
use lib.IntN.{ℤ, pos}
use lib.ListN.{length, get_or}
use lib.Signed.{lt_z}
use Rattle.lists.specs.Member.{◌∈◌, here, there, Among, Once}
use Rattle.lists.specs.Sorted.{Ascending, position}
use Rattle.lists.specs.Those.{those}
use Rattle.lists.proofs.TestLaws.{by, either, differ, and_left, and_right}
use Rattle.lists.proofs.MapLaws.{of_map}
use Rattle.lists.proofs.ThoseLaws.{of-those}
use Rattle.lists.proofs.MemberLaws.{get_d-in}
use Rattle.lists.proofs.SortedLaws.{of-sorted, in-sorted, sorted-ascending, ascending-once, position-small, at_position}
use Rattle.joined.specs.Joined.{Link}
use Rattle.plane.specs.declared.Place.{Place}
use Rattle.plane.specs.Place.{place, before}
use Rattle.plane.proofs.PlaceOrder.{place-order}
use Rattle.net.specs.Net.{Net, cost_in}
use Rattle.net.specs.Allowed.{Allowed}
use Rattle.net.proofs.AllowedLaws.{allowed-positive}
use Rattle.lines.specs.declared.Grid.{Grid}
use Rattle.lines.specs.declared.Axis.TheVariants.{Across, Along}
use Rattle.lines.specs.Bounds.{grid_pins, grid_macros, line_bound, crossing_bound, unreached}
use Rattle.lines.specs.Lines.{x_lines, y_lines, Crossing}
use Rattle.lines.specs.Edges.{Edge, grid_edges}
use Rattle.lines.specs.Crossings.{is_crossing, crossing_number}
use Rattle.grid.specs.Rows.{at}
use Rattle.grid.specs.Tables.{crossing_at, target, Near}
use Rattle.grid.specs.Distance.{pins_in_order}
use Rattle.lines.proofs.AxisLaws.{cost-length}
use Rattle.lines.proofs.EdgeLaws.{pin-crossing, x-ascending, y-ascending}
use Rattle.lines.proofs.CrossingLaws.{is-crossing, crossing_is, numbers-single, number-below, ends-crossings}
use Rattle.lines.proofs.LineLaws.{line-order}
use Rattle.grid.proofs.RowLaws.{held-near, quiet-near, quiet-why}
use Rattle.grid.proofs.Spread.{spread, spread-on, spread-off}
use Rattle.grid.proofs.TableGrid.{Made, NearGrid, near-grid, grid-near}
use Rattle.grid.proofs.NetDistance.{few-lines, order-count}
use Rattle.parts.specs.Bounds.{best_pins}
use Rattle.best.specs.Sets.{JoinsAt}
use Rattle.best.specs.Masks.{Mask, mask_pins, Lone, Filled}
use Rattle.parts.specs.Numbers.{number, part_of}
use Rattle.parts.specs.Starts.{under, least, proper_part, sums}
use Rattle.parts.specs.Tables.{value_at, row_of, lone_pin, MaskRow}
use Rattle.traced.specs.Routes.{in_their_order, edge_at, other_end, leads, meets, Route, stop, over, met}
use Rattle.parts.proofs.Under.{of-under}
use Rattle.best.proofs.MaskLaws.{halves-pins}
use Rattle.best.proofs.StartLaws.{mask-parts, T, Begins, table_filled, least-in, some, small}
use Rattle.parts.proofs.WorkLaws.{row_at, sums-agree}
use Rattle.best.proofs.LoneLaws.{one-pin, power-pin, lone-power, LonePower, lone_is, lone-sums}
use Rattle.traced.proofs.RouteLaws.{turns, leading, leads-is, meets-is, meeting}
use Rattle.best.proofs.JoinsLaws.{joins-lone, joins-edge, joins-met, joins-cost}

abbrev none : Place
none = place (pos 0) (pos 0)

empty : least unreached [] ≡ unreached
unfolding least
empty = refl

-- a sum of parts that is the number itself is one that fits
found_part : (m : ℕ) (work : List ℕ) (s v n : ℕ) → n ∈ sums m (value_at work) s v → n ≡ value_at work s v →
    ((p : ℕ) → 1 ≤ p → p < s → meets m work s v p ≡ false) → ⊥
unfolding sums proper_part
found_part m work s v n i e no_part =
    let r = of_map (λ (p : ℕ). value_at work p v + value_at work (s - p) v) (those (λ (p : ℕ). leb 1 p && part_of m p s) (under s)) i in
    let q = of-those (λ (p : ℕ). leb 1 p && part_of m p s) (under s) r.stands in
    let p = r.entry in
    differ (meets-is m work s v p (and_right (leb 1 p) (part_of m p s) q.1) (sym r.is ∙ e))
    (no_part p (leb-true 1 p (and_left (leb 1 p) (part_of m p s) q.1)) (of-under s p q.0))

-- the tables of a net: its grid, the numbers of its pins, and the rows of all masks of all pins but the first
pub record Tabled (net : Net) (g : Grid) (xs ys : List ℤ) (costs : List ℕ) (e : ℕ) (numbers work : List ℕ) (p0 : Place)
    (goals : List Place) : Type 0 where
  pub allowed : Allowed net
  pub few-pins : length net.pins ≤ best_pins
  pub few-macros : length net.macros ≤ grid_macros
  pub made : Made net g xs ys costs e
  pub order : pins_in_order net ≡ p0 ∷ goals
  pub first-is : get_or numbers 0 0 ≡ crossing_number (x_lines net) (y_lines net) p0
  pub goal-is : (i : ℕ) → i < length goals → get_or numbers (i + 1) 0 ≡ crossing_number (x_lines net) (y_lines net) (get_or goals i none)
  pub rows : (s : ℕ) → 1 ≤ s → s < 2 ^ length goals → MaskRow (Near costs e) (length goals) numbers work s

module _ {net : Net} {g : Grid} {xs ys : List ℤ} {costs : List ℕ} {e : ℕ} {numbers work : List ℕ} {p0 : Place} {goals : List Place}
    (t : Tabled net g xs ys costs e numbers work p0 goals) where
  abbrev G : List Edge
  G = grid_edges net

  abbrev price : Place → Place → ℕ
  price = cost_in net

  abbrev on : Place → Bool
  on = is_crossing (x_lines net) (y_lines net)

  abbrev name : Place → ℕ
  name = crossing_number (x_lines net) (y_lines net)

  abbrev m : ℕ
  m = length goals

  -- Pins

  few : length net.pins ≤ grid_pins
  few = omega (arith, t.few-pins)

  pub single : (a b : Place) → on a ≡ true → on b ≡ true → name a ≡ name b → a ≡ b
  single =
      numbers-single (x_lines net) (y_lines net) (x-ascending net) (y-ascending net) (few-lines t.allowed few t.few-macros Across)
      (few-lines t.allowed few t.few-macros Along)

  pub crossing-of : (a : Place) → on a ≡ true → Crossing (x_lines net) (y_lines net) a
  crossing-of = crossing_is (x_lines net) (y_lines net) (x-ascending net) (y-ascending net)

  pub on_of : (a : Place) → Crossing (x_lines net) (y_lines net) a → on a ≡ true
  on_of = is-crossing (x_lines net) (y_lines net) (x-ascending net) (y-ascending net)

  below : (a : Place) → on a ≡ true → name a < crossing_bound
  below a o =
      number-below (x_lines net) (y_lines net) (x-ascending net) (y-ascending net) (few-lines t.allowed few t.few-macros Across)
      (few-lines t.allowed few t.few-macros Along) a (crossing-of a o)

  in_order : Ascending before (p0 ∷ goals)
  in_order = subst (Ascending before) t.order (sorted-ascending before place-order net.pins)

  goals-once : Once goals
  goals-once = ascending-once before place-order goals in_order.1

  pub first-pin : p0 ∈ net.pins
  first-pin = of-sorted before net.pins p0 (subst (λ (l : List Place). p0 ∈ l) (sym t.order) (here refl))

  pub goals-pins : Among goals net.pins
  goals-pins p i = of-sorted before net.pins p (subst (λ (l : List Place). p ∈ l) (sym t.order) (there i))

  pub all-pins : (p : Place) → p ∈ net.pins → (p ≡ p0) ⊎ (p ∈ goals)
  all-pins p i = Memᴰ.cases_cons (subst (λ (l : List Place). p ∈ l) t.order (in-sorted before place-order net.pins p i))

  goals-few : m ≤ 4
  goals-few = let c : length (pins_in_order net) ≡ length (p0 ∷ goals) = ap length t.order in
      omega (arith, c, order-count t.allowed, t.few-pins)

  pub pin-on : (p : Place) → p ∈ net.pins → on p ≡ true
  pin-on p i = on_of p (pin-crossing net p i)

  -- Crossings by number

  pub place-back : (a : Place) → on a ≡ true → crossing_at xs ys (name a) ≡ a
  unfolding crossing_number
  place-back a o =
      let c = crossing-of a o in
      let i = position lt_z (x_lines net) a.x in
      let j = position lt_z (y_lines net) a.y in
      let hi = position-small lt_z line-order (x_lines net) (x-ascending net) a.x c.across in
      let hj = position-small lt_z line-order (y_lines net) (y-ascending net) a.y c.along in
      let room = few-lines t.allowed few t.few-macros Along in
      let d : (i * line_bound + j) / line_bound ≡ i = omega (arith, hj, room) in
      let r : (i * line_bound + j) % line_bound ≡ j = omega (arith, hj, room) in
      ap₂ place
      (ap (λ (n : ℕ). get_or xs n (pos 0)) d ∙ t.made.x-at i hi ∙ at_position lt_z line-order (x_lines net) (x-ascending net) a.x
      (pos 0) c.across)
      (ap (λ (n : ℕ). get_or ys n (pos 0)) r ∙ t.made.y-at j hj ∙ at_position lt_z line-order (y_lines net) (y-ascending net) a.y
      (pos 0) c.along)

  -- a segment that is an edge at a crossing leads to another
  pub record Onward (a : Place) (k w : ℕ) : Type 0 where
    pub to : Place
    pub link : Link G a to
    pub to-on : on to ≡ true
    pub to_is : w ≡ name to
    pub cost : get_or costs k 0 ≡ price a to
    pub edge : (edge_at xs ys (in_their_order k) ≡ (a, to)) ⊎ (edge_at xs ys (in_their_order k) ≡ (to, a))

  pub onward : (a : Place) (k w : ℕ) → on a ≡ true → k < e → 1 ≤ get_or costs k 0 →
      ((name a ≡ k / 2) × (w ≡ target k)) ⊎ ((name a ≡ target k) × (w ≡ k / 2)) → Onward a k w
  onward a k w o h some ends =
      let n = near-grid net g xs ys costs e t.made (name a) w (get_or costs k 0) (
        k,
        (
          h,
          record { ends = ends; price = refl; is = some },
        ),
      ) in
      let c = ends-crossings net n.from n.to n.link in
      let same : n.from ≡ a = sym (single a n.from o c.0 n.from_is) in
      record {
        to = n.to;
        link = subst (λ (z : Place). Link G z n.to) same n.link;
        to-on = c.1;
        to_is = n.to_is;
        cost = n.cost-is ∙ ap (λ (z : Place). price z n.to) same;
        edge = edges n.to c.1 n.to_is ends;
      }
    where
      turned : (in_their_order (in_their_order k) / 2 ≡ k / 2) × (target (in_their_order (in_their_order k)) ≡ target k)
      turned = (ap (λ (i : ℕ). i / 2) (turns k).twice, ap target (turns k).twice)

      edges : (b : Place) → on b ≡ true → w ≡ name b → ((name a ≡ k / 2) × (w ≡ target k)) ⊎ ((name a ≡ target k) × (w ≡ k / 2)) →
          (edge_at xs ys (in_their_order k) ≡ (a, b)) ⊎ (edge_at xs ys (in_their_order k) ≡ (b, a))
      edges b i f (inl s) = inl (ap₂ (λ (x y : Place). (x, y))
          (ap (crossing_at xs ys) (turned.0 ∙ sym s.0) ∙ place-back a o)
          (ap (crossing_at xs ys) (turned.1 ∙ sym s.1 ∙ f) ∙ place-back b i))
      edges b i f (inr s) = inr (ap₂ (λ (x y : Place). (x, y))
          (ap (crossing_at xs ys) (turned.0 ∙ sym s.1 ∙ f) ∙ place-back b i)
          (ap (crossing_at xs ys) (turned.1 ∙ sym s.0) ∙ place-back a o))

  -- The table by masks and places

  abbrev pub Values : Mask goals → Place → ℕ
  Values = T G price unreached on name goals (row_of work)

  -- the row of a mask
  row-of : (S : Mask goals) → MaskRow (Near costs e) m numbers work (number S.bits)
  row-of S =
      t.rows (number S.bits) (some G price unreached on name goals (row_of work) S) (small G price unreached on name goals
      (row_of work) S)

  pub value-at : (S : Mask goals) (a : Place) → on a ≡ true → Values S a ≡ value_at work (number S.bits) (name a)
  value-at S a o =
      spread-on G price unreached on name (row_of work (number S.bits)) a o ∙ row_at work (number S.bits) (name a) (below a o)

  -- the sums of parts by rows and by numbers
  sums_same : (s : ℕ) (a : Place) → on a ≡ true → sums m (value_at work) s (name a) ≡ sums m (λ p u. at (row_of work p) u) s (name a)
  sums_same s a o =
      sums-agree m s (name a) (value_at work) (λ p u. at (row_of work p) u) (λ p i k. sym (row_at work p (name a) (below a o)))

  -- a row that starts at a lone pin
  module _ (S : Mask goals) (l : LonePower (number S.bits)) where
    abbrev row : MaskRow (Near costs e) m numbers work (number S.bits)
    row = row-of S

    its-pin : (l.place < m) × ((p : Place) → p ∈ mask_pins goals S → p ≡ get_or goals l.place none)
    its-pin = power-pin none S.bits goals S.size l.place l.is

    abbrev goal : Place
    goal = get_or goals l.place none

    goal-in : goal ∈ goals
    goal-in = get_d-in goals l.place none its-pin.0

    goal-on : on goal ≡ true
    goal-on = pin-on goal (goals-pins goal goal-in)

    number_is : get_or numbers (lone_pin (number S.bits)) 0 ≡ name goal
    number_is = ap (λ (i : ℕ). get_or numbers i 0) l.pin ∙ t.goal-is l.place its-pin.0

    starts-at : at row.start (name goal) ≡ 0
    starts-at =
        ap (at row.start) (sym number_is) ∙ (row.begun.lone (let z : 1 ≤ lone_pin (number S.bits) = omega (arith, l.pin) in z)).here

    starts-only : (a : Place) → on a ≡ true → at row.start (name a) < unreached → a ≡ goal
    starts-only a o low = pick (ℕ_discrete (name a) (name goal))
      where
        pick : Dec (name a ≡ name goal) → a ≡ goal
        pick (yes f) = single a goal o goal-on f
        pick (no n) =
            let s = row.begun.lone (let z : 1 ≤ lone_pin (number S.bits) = omega (arith, l.pin) in z) in
            let z : ⊥ = omega (arith, low, s.elsewhere (name a) (below a o) (λ f. n (f ∙ number_is))) in
            absurd z

    lone-at : (a : Place) → a ≡ goal → Lone goals S a
    lone-at a f p i = its-pin.1 p i ∙ sym f

  -- a mask whose pins are all at one place is one pin
  lone-power-of : (S : Mask goals) (a : Place) → Lone goals S a →
      (l : LonePower (number S.bits)) × (get_or goals l.place none ≡ a)
  lone-power-of S a h =
      let o = one-pin none S.bits goals S.size goals-once a h S.pin S.some in
      let f : o.place < 4 = omega (arith, o.inside, goals-few) in (
        record {
          place = o.place;
          few = f;
          is = o.is;
          pin = ap lone_pin o.is ∙ lone-power o.place f;
        },
        o.at,
      )

  begins : (S : Mask goals) (a : Place) → Begins G price unreached on name goals (row_of work) S a
      (spread G price unreached on name (row-of S).start a)
  begins S a = record {
    lone = λ h. let r = lone-power-of S a h in
        subst (λ (z : Place). spread G price unreached on name (row-of S).start z ≡ 0) r.1
        (spread-on G price unreached on name (row-of S).start (goal S r.0) (goal-on S r.0) ∙ starts-at S r.0);
    low = λ o. pick_low o (ℕ_discrete (lone_pin s) 0);
    why = λ low. by on-a (λ o. pick-why o low (ℕ_discrete (lone_pin s) 0))
        (λ o. let z : ⊥ = omega (arith, low, spread-off G price unreached on name (row-of S).start a o) in absurd z);
  }
    where
      s : ℕ
      s = number S.bits

      on-a : Bool
      on-a = on a

      many : on a ≡ true → lone_pin (number S.bits) ≡ 0 → spread G price unreached on name (row-of S).start a
          ≡ least unreached (sums m (λ p u. at (row_of work p) u) (number S.bits) (name a))
      many o z =
          spread-on G price unreached on name (row-of S).start a o ∙ (row-of S).begun.parts z (name a) (below a o)
          ∙ ap (least unreached) (sums_same (number S.bits) a o)

      pick_low : on a ≡ true → Dec (lone_pin (number S.bits) ≡ 0) → spread G price unreached on name (row-of S).start a
          ≤ least unreached (sums m (λ p u. at (row_of work p) u) (number S.bits) (name a))
      pick_low o (yes z) = omega (arith, many o z)
      pick_low o (no n) =
          let l = lone_is (number S.bits) (omega (arith, n)) in
          let none-there : least unreached (sums m (λ p u. at (row_of work p) u) (number S.bits) (name a)) ≡ unreached =
          ap (least unreached) (lone-sums m (number S.bits) (name a) (λ p u. at (row_of work p) u)
          (small G price unreached on name goals (row_of work) S) l) ∙ least-none in
          omega (arith, none-there, spread-on G price unreached on name (row-of S).start a o, (row-of S).begun.row.low (name a))
        where
          least-none : least unreached [] ≡ unreached
          least-none = empty

      pick-why : on a ≡ true → spread G price unreached on name (row-of S).start a < unreached → Dec (lone_pin (number S.bits) ≡ 0) →
          (Lone goals S a × (spread G price unreached on name (row-of S).start a ≡ 0)) ⊎ ((on a ≡ true) ×
          (spread G price unreached on name (row-of S).start a ≡ least unreached (sums m (λ p u. at (row_of work p) u) (number
          S.bits) (name a))))
      pick-why o low (yes z) = inr (o, many o z)
      pick-why o low (no n) =
          let l = lone_is (number S.bits) (omega (arith, n)) in
          let v = spread-on G price unreached on name (row-of S).start a o in
          let same = starts-only S l a o (omega (arith, low, v)) in
          inl (lone-at S l a same, v ∙ ap (λ (z : Place). at (row-of S).start (name z)) same ∙ starts-at S l)

  pub filled : Filled goals G price unreached Values
  filled = table_filled G price unreached on name goals (row_of work) single (ends-crossings net) (λ S. record {
    start = (row-of S).start;
    held = held-near (Near costs e) (NearGrid net g xs ys costs e t.made) (near-grid net g xs ys costs e t.made)
        (row-of S).start (row_of work (number S.bits)) (row-of S).held;
    quiet = quiet-near (Near costs e) (NearGrid net g xs ys costs e t.made)
        (grid-near net g xs ys costs e t.made (allowed-positive t.allowed)) (row_of work (number S.bits)) (row-of S).quiet;
    begun = begins S;
  })

  -- What is read back

  abbrev Joins : List ℕ → Mask goals → Place → Type 0
  Joins js S a = JoinsAt (mask_pins goals) G price (map (edge_at xs ys) js) S a (Values S a)

  -- where nothing leads on and no parts fit, the mask is one pin and this is its place
  at-end : (S : Mask goals) (a : Place) → on a ≡ true → Values S a < unreached →
      ((k : ℕ) → k < e → leads costs (row_of work (number S.bits)) (name a) k ≡ false) →
      ((p : ℕ) → 1 ≤ p → p < number S.bits → meets m work (number S.bits) (name a) p ≡ false) → Joins [] S a
  at-end S a o low no_edge no_part = at-start (quiet-why (Near costs e) _ _ (row-of S).held (row-of S).quiet (name a))
    where
      value : Values S a ≡ at (row_of work (number S.bits)) (name a)
      value = spread-on G price unreached on name (row_of work (number S.bits)) a o

      -- the least sum would be that of a part
      parted : at (row-of S).start (name a) ≡ at (row_of work (number S.bits)) (name a) → lone_pin (number S.bits) ≡ 0 → ⊥
      parted f z =
          let is = (row-of S).begun.parts z (name a) (below a o) in
          let less : least unreached (sums m (value_at work) (number S.bits) (name a)) < unreached = omega (arith, is, f, value, low) in
          at_part (least-in unreached (sums m (value_at work) (number S.bits) (name a)) less)
          (sym is ∙ f ∙ row_at work (number S.bits) (name a) (below a o))
        where
          at_part : least unreached (sums m (value_at work) (number S.bits) (name a)) ∈ sums m (value_at work) (number S.bits)
              (name a) →
              least unreached (sums m (value_at work) (number S.bits) (name a)) ≡ value_at work (number S.bits) (name a) → ⊥
          at_part i v = found_part m work (number S.bits) (name a) _ i v no_part

      at-start : (at (row_of work (number S.bits)) (name a) ≡ at (row-of S).start (name a)) ⊎
          ((w : ℕ) × ((c : ℕ) × (Near costs e (name a) w c ×
          (at (row_of work (number S.bits)) (name a) ≡ at (row_of work (number S.bits)) w + c)))) → Joins [] S a
      at-start (inr (w, (c, ((k, (h, r)), f)))) =
          differ (leads-is costs (row_of work (number S.bits)) e k (name a) w c r f) (no_edge k h)
      at-start (inl f) = pick (ℕ_discrete (lone_pin (number S.bits)) 0)
        where
          pick : Dec (lone_pin (number S.bits) ≡ 0) → Joins [] S a
          pick (yes z) = absurd (parted (sym f) z)
          pick (no n) =
              let l = lone_is (number S.bits) (omega (arith, n)) in
              let same = starts-only S l a o (omega (arith, low, value, f)) in
              joins-cost (mask_pins goals) G price
              (value ∙ f ∙ ap (λ (z : Place). at (row-of S).start (name z)) same ∙ starts-at S l)
              (joins-lone (mask_pins goals) G price S a (lone-at S l a same))

  pub route-joins : {s v : ℕ} {js : List ℕ} → Route costs e m work s v js → (S : Mask goals) → number S.bits ≡ s → (a : Place) →
      on a ≡ true → name a ≡ v → Values S a < unreached → Joins js S a
  route-joins (stop no_edge no_part) S f a o is low =
      at-end S a o low
      (subst (λ (z : ℕ × ℕ). (k : ℕ) → k < e → leads costs (row_of work z.0) z.1 k ≡ false) (both f is) no_edge)
      (subst (λ (z : ℕ × ℕ). (p : ℕ) → 1 ≤ p → p < z.0 → meets m work z.0 z.1 p ≡ false) (both f is) no_part)
    where
      both : {x y u v : ℕ} → x ≡ y → u ≡ v → ◌≡◌ {A = ℕ × ℕ} (y, v) (x, u)
      both p q = ap₂ (λ (c d : ℕ). (c, d)) (sym p) (sym q)
  route-joins (over {s = s} {v = v} {js = js} k h l r) S f a o is low =
      let q = leading costs (row_of work s) v k l in
      let n = onward a k (other_end k v) o h q.some
      (either (λ z. inl (is ∙ z.0, z.1)) (λ z. inr (is ∙ z.0, z.1)) q.ends) in
      let here-is : Values S a ≡ at (row_of work s) v =
      spread-on G price unreached on name (row_of work (number S.bits)) a o ∙ ap₂ (λ (c d : ℕ). at (row_of work c) d) f is in
      let there-is : Values S n.to ≡ at (row_of work s) (other_end k v) =
      spread-on G price unreached on name (row_of work (number S.bits)) n.to n.to-on
      ∙ ap₂ (λ (c d : ℕ). at (row_of work c) d) f (sym n.to_is) in
      let sum : Values S a ≡ Values S n.to + price a n.to = omega (arith, here-is, there-is, q.is, n.cost) in
      joins-cost (mask_pins goals) G price sum
      (joins-edge (mask_pins goals) G price (cost-length net.weights) (map (edge_at xs ys) js) S a n.to (Values S n.to)
      (edge_at xs ys (in_their_order k)) n.edge n.link (route-joins r S f n.to n.to-on (sym n.to_is) (omega (arith, low, sum))))
  route-joins (met {s = s} {v = v} {is = is} {js = js} p one h l r q) S f a o at-v low =
      let w = meeting m work s v p l in
      let c = mask-parts goals S p one (omega (arith, f, h)) (subst (λ (z : ℕ). part_of m p z ≡ true) (sym f) w.part) in
      let P = c.first in
      let Q = c.second in
      let whole : Values S a ≡ value_at work s v = value-at S a o ∙ ap₂ (value_at work) f at-v in
      let left : Values P a ≡ value_at work p v = value-at P a o ∙ ap₂ (value_at work) c.first-is at-v in
      let rest-is : number Q.bits ≡ s - p = c.second_is ∙ ap (λ (z : ℕ). z - p) f in
      let right : Values Q a ≡ value_at work (s - p) v = value-at Q a o ∙ ap₂ (value_at work) rest-is at-v in
      let sum : Values S a ≡ Values P a + Values Q a = omega (arith, whole, left, right, w.sum) in
      joins-cost (mask_pins goals) G price sum
      (subst (λ (F : List Edge). JoinsAt (mask_pins goals) G price F S a (Values P a + Values Q a)) (sym (map-append (edge_at xs ys) is js))
      (joins-met (mask_pins goals) G price (map (edge_at xs ys) is) (map (edge_at xs ys) js) S P Q a (Values P a) (Values Q a)
      (halves-pins c.halves goals)
      (route-joins r P c.first-is a o at-v (omega (arith, low, sum))) (route-joins q Q rest-is a o at-v (omega (arith, low, sum)))))
