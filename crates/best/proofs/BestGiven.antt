-- What the program gives is a best tree: the marked segments are the edges read back, each once and in order; they join all pins and cost
-- no more than the number of the last mask, which no edges of the grid that join all pins are cheaper than.
-- Assumes nothing.
use mathlib.Core.Path.{◌≡◌, refl, sym, ap, ap₂, subst, ◌∙◌}
use mathlib.Core.Bool.{Bool, true, false}
use mathlib.Core.Logic.{inl}
use mathlib.Core.List.{List, [], ◌∷◌, map}
use Prim.Native.Nat.{ℕ, zero, suc, ◌+◌, ◌-◌, ◌/◌, ◌%◌, ◌^◌, ◌≤◌, ◌<◌}
use native.Mathlib.Decide.{ℕ_discrete}
use native.Mathlib.Omega.{arith}
use borrow.Author.Tests.{lt-ltb, ltb-true}
use lib.IntN.{ℤ, pos}
use lib.ListN.{length, get_or}
use lib.Signed.{lt_z}
use Rattle.lists.specs.Member.{◌∈◌, here, Among, Once}
use Rattle.lists.specs.Sorted.{Ascending, position, first_then}
use Rattle.lists.specs.Those.{those}
use Rattle.lists.specs.Total.{total}
use Rattle.lists.proofs.TestLaws.{by, either}
use Rattle.lists.proofs.MapLaws.{in_map, of_map, map-then}
use Rattle.lists.proofs.ThoseLaws.{in-those, of-those, those-once}
use Rattle.lists.proofs.MemberLaws.{get_d-in}
use Rattle.lists.proofs.TotalLaws.{once-total}
use Rattle.lists.proofs.SortedLaws.{position-small, at_position}
use Rattle.signed.specs.Sides.{Lt}
use Rattle.signed.proofs.SideLaws.{z_lt-true}
use Rattle.joined.specs.Joined.{stay}
use Rattle.joined.specs.Cost.{lengths}
use Rattle.joined.proofs.JoinedLaws.{more}
use Rattle.plane.specs.declared.Place.{Place}
use Rattle.plane.specs.Place.{before}
use Rattle.plane.proofs.PlaceLaws.{before-by-x, before-by-y, before-irrefl}
use Rattle.net.specs.Net.{Net, cost_in}
use Rattle.net.specs.Allowed.{PlaceInRange}
use Rattle.net.proofs.AllowedLaws.{allowed-positive}
use Rattle.graph.specs.Edges.{before_edge}
use Rattle.forest.specs.Edges.{from}
use Rattle.forest.proofs.EdgeLaws.{of-from, in-from}
use Rattle.union.specs.Marks.{marks, is_marked}
use Rattle.lines.specs.declared.Grid.{Grid}
use Rattle.lines.specs.declared.Axis.TheVariants.{Across, Along}
use Rattle.lines.specs.Bounds.{line_bound, unreached}
use Rattle.lines.specs.Lines.{x_lines, y_lines, Crossing}
use Rattle.lines.specs.Edges.{Edge, grid_edges}
use Rattle.lines.specs.Crossings.{is_crossing, crossing_number}
use Rattle.grid.specs.Tables.{crossing_at, target}
use Rattle.lines.proofs.EdgeLaws.{x-ascending, y-ascending}
use Rattle.lines.proofs.LineLaws.{line-order}
use Rattle.lines.proofs.GridCost.{grid-cost, line-range}
use Rattle.grid.proofs.NetDistance.{pins-joined}
use Rattle.grid.proofs.SegmentLaws.{target-even, target-odd, target-above}
use Rattle.parts.specs.Numbers.{number}
use Rattle.best.specs.Sets.{Edges, Reaches, JoinsAt}
use Rattle.best.specs.Masks.{mask_pins}
use Rattle.parts.specs.Tables.{value_at}
use Rattle.traced.specs.Routes.{in_their_order, edge_at, marked_edges, Traced}
use Rattle.best.specs.Tree.{BestTree, IsBest}
use Rattle.best.proofs.CheapestTree.{Cheapest}
use Rattle.best.proofs.BestTree.{all_pins, chosen-ones, ones, table-finite, table-least, cheapest-best}
use Rattle.best.proofs.LoneLaws.{ones-number}
use Rattle.traced.proofs.RouteLaws.{turns, EdgeOf, route-edges}
use Rattle.best.proofs.NetBest.{Tabled, Values, filled, route-joins, crossing-of, pin-on, place-back}
use Rattle.best.proofs.NetBest.{first-pin, goals-pins, all-pins, value-at, single}
use Rattle.grid.proofs.TableGrid.{near-grid}
use Rattle.lines.proofs.CrossingLaws.{ends-crossings}

-- numbers from k on, each once
from-once : (k n : ℕ) → Once (from k n)
unfolding from
from-once k zero = tt
from-once k (suc n) = (λ i. let z : ⊥ = omega (arith, (of-from (suc k) n k i).0) in z, from-once (suc k) n)

-- an earlier line is the lower one
line_at : (L : List ℤ) → Ascending lt_z L → (i j : ℕ) → i < j → j < length L → lt_z (get_or L i (pos 0)) (get_or L j (pos 0)) ≡ true
line_at [] h i j k l = absurd (let z : ⊥ = omega (arith, l) in z)
line_at (x ∷ L) h zero zero k l = absurd (let z : ⊥ = omega (arith, k) in z)
line_at (x ∷ L) h zero (suc j) k l = h.0 (get_or L j (pos 0)) (get_d-in L j (pos 0) (omega (arith, l)))
line_at (x ∷ L) h (suc i) zero k l = absurd (let z : ⊥ = omega (arith, k) in z)
line_at (x ∷ L) h (suc i) (suc j) k l = line_at L h.1 i j (omega (arith, k)) (omega (arith, l))

line-below : (L : List ℤ) → Ascending lt_z L → (a b : ℤ) → a ∈ L → b ∈ L → position lt_z L a < position lt_z L b → Lt a b
line-below L h a b i k l =
    let r = line_at L h (position lt_z L a) (position lt_z L b) l (position-small lt_z line-order L h b k) in
    z_lt-true a b
    (ap₂ lt_z (sym (at_position lt_z line-order L h a (pos 0) i)) (sym (at_position lt_z line-order L h b (pos 0) k)) ∙ r)

line_same : (L : List ℤ) → Ascending lt_z L → (a b : ℤ) → a ∈ L → b ∈ L → position lt_z L a ≡ position lt_z L b → a ≡ b
line_same L h a b i k e =
    sym (at_position lt_z line-order L h a (pos 0) i) ∙ ap (λ (n : ℕ). get_or L n (pos 0)) e ∙ at_position lt_z line-order L h b (pos 0) k

-- the cost of edges by their numbers
lengths-by : (d : Place → Place → ℕ) (f : ℕ → Edge) (l : List ℕ) → lengths d (map f l) ≡ total (map (λ (j : ℕ). d (f j).0 (f j).1) l)
unfolding lengths
lengths-by d f l = ap total (map-then f (λ (e : Edge). d e.0 e.1) (λ (j : ℕ). d (f j).0 (f j).1) l (λ x i. refl))

first-before : (a b c d : Place) → before a b ≡ true → before_edge (a, c) (b, d) ≡ true
unfolding before_edge first_then
first-before a b c d e = rw (first_then, e) refl

then-before : (a b c d : Place) → a ≡ b → before c d ≡ true → before_edge (a, c) (b, d) ≡ true
unfolding before_edge first_then
then-before a b c d e f =
    let i : before a b ≡ false = rw e (before-irrefl b) in
    let k : before b a ≡ false = rw e (before-irrefl b) in
    rw (first_then, i, k) f

empty-list : {A : Type 0} (l : List A) → ((x : A) → x ∈ l → ⊥) → l ≡ []
empty-list [] h = refl
empty-list (x ∷ l) h = absurd (h x (here refl))

lengths_none : (d : Place → Place → ℕ) → lengths d [] ≡ 0
unfolding lengths total
lengths_none d = refl

none-least : (d : Place → Place → ℕ) (n : ℕ) → lengths d [] ≤ n
none-least d n = omega (arith, lengths_none d)

module _ {net : Net} {g : Grid} {xs ys : List ℤ} {costs : List ℕ} {e : ℕ} {numbers work : List ℕ} {p0 : Place} {goals : List Place}
    (t : Tabled net g xs ys costs e numbers work p0 goals) where
  abbrev G : List Edge
  G = grid_edges net

  abbrev price : Place → Place → ℕ
  price = cost_in net

  abbrev on : Place → Bool
  on = is_crossing (x_lines net) (y_lines net)

  abbrev name : Place → ℕ
  name = crossing_number (x_lines net) (y_lines net)

  -- numbers go as places do
  number-before : (a b : Place) → on a ≡ true → on b ≡ true → name a < name b → before a b ≡ true
  unfolding crossing_number
  number-before a b i k l =
      let p = crossing-of t a i in
      let q = crossing-of t b k in
      let small-a = position-small lt_z line-order (y_lines net) (y-ascending net) a.y p.along in
      let small_b = position-small lt_z line-order (y_lines net) (y-ascending net) b.y q.along in
      let room : length (y_lines net) ≤ line_bound = omega (arith, t.made.few.along, t.made.y-count) in
      pick p q room small-a small_b (ℕ_discrete (position lt_z (x_lines net) a.x) (position lt_z (x_lines net) b.x))
    where
      pick : Crossing (x_lines net) (y_lines net) a → Crossing (x_lines net) (y_lines net) b → length (y_lines net) ≤ line_bound →
          position lt_z (y_lines net) a.y < length (y_lines net) → position lt_z (y_lines net) b.y < length (y_lines net) →
          Dec (position lt_z (x_lines net) a.x ≡ position lt_z (x_lines net) b.x) → before a b ≡ true
      pick p q room sa sb (yes f) =
          before-by-y a b (line_same (x_lines net) (x-ascending net) a.x b.x p.across q.across f)
          (line-below (y_lines net) (y-ascending net) a.y b.y p.along q.along (omega (arith, l, f)))
      pick p q room sa sb (no n) =
          before-by-x a b
          (line-below (x_lines net) (x-ascending net) a.x b.x p.across q.across (omega (arith, l, n, room, sa, sb)))

  -- Edges by number

  -- a segment that is an edge, in the order of edges: its ends
  record Ends (j : ℕ) : Type 0 where
    one : Place
    other : Place
    one_on : on one ≡ true
    other-on : on other ≡ true
    one-is : name one ≡ j / 2
    other-is : name other ≡ target (in_their_order j)
    edge : edge_at xs ys j ≡ (one, other)

  ends_of : (j : ℕ) → EdgeOf costs e j → Ends j
  ends_of j d =
      let k = d.segment in
      let n = near-grid net g xs ys costs e t.made (k / 2) (target k) (get_or costs k 0)
      (k, (d.inside, record { ends = inl (refl, refl); price = refl; is = d.some })) in
      let c = ends-crossings net n.from n.to n.link in
      let back : in_their_order j ≡ k = ap in_their_order d.is ∙ (turns k).twice in
      let half : k / 2 ≡ j / 2 = ap (λ (i : ℕ). i / 2) (sym back) ∙ (turns j).half in
      record {
        one = n.from;
        other = n.to;
        one_on = c.0;
        other-on = c.1;
        one-is = sym n.from_is ∙ half;
        other-is = sym n.to_is ∙ ap target (sym back);
        edge = ap₂ (λ (x y : Place). (x, y))
            (ap (crossing_at xs ys) (ap (λ (i : ℕ). i / 2) back ∙ n.from_is) ∙ place-back t n.from c.0)
            (ap (crossing_at xs ys) (ap target back ∙ n.to_is) ∙ place-back t n.to c.1);
      }

  smaller : (j : ℕ) → EdgeOf costs e j → before (edge_at xs ys j).0 (edge_at xs ys j).1 ≡ true
  smaller j d =
      let n = ends_of j d in
      subst (λ (z : Edge). before z.0 z.1 ≡ true) (sym n.edge)
      (number-before n.one n.other n.one_on n.other-on
      (let z : name n.one < name n.other = omega (arith, n.one-is, n.other-is, target-above (in_their_order j), (turns j).half) in z))

  -- the order of numbers is the order of edges
  edge_order : (i j : ℕ) → EdgeOf costs e i → EdgeOf costs e j → i < j → before_edge (edge_at xs ys i) (edge_at xs ys j) ≡ true
  edge_order i j c d h =
      let m = ends_of i c in
      let n = ends_of j d in
      subst (λ (z : Edge). before_edge z (edge_at xs ys j) ≡ true) (sym m.edge)
      (subst (λ (z : Edge). before_edge (m.one, m.other) z ≡ true) (sym n.edge) (pick m n (ℕ_discrete (i / 2) (j / 2))))
    where
      pick : (m : Ends i) (n : Ends j) → Dec (i / 2 ≡ j / 2) → before_edge (m.one, m.other) (n.one, n.other) ≡ true
      pick m n (no k) =
          first-before m.one n.one m.other n.other
          (number-before m.one n.one m.one_on n.one_on
          (let z : name m.one < name n.one = omega (arith, m.one-is, n.one-is, h, k) in z))
      pick m n (yes k) =
          let even : i % 2 ≡ 0 = omega (arith, h, k) in
          let odd : j % 2 ≡ 0 → ⊥ = λ z. let y : ⊥ = omega (arith, h, k, z) in y in
          let turned-i = turns i in
          let turned-j = turns j in
          let i-odd : in_their_order i % 2 ≡ 0 → ⊥ = λ z. let y : ⊥ = omega (arith, z, even, turned-i.other) in y in
          let j-even : in_their_order j % 2 ≡ 0 = omega (arith, odd, turned-j.other) in
          let less : name m.other < name n.other =
          omega (
            arith,
            m.other-is,
            n.other-is,
            target-odd (in_their_order i) i-odd,
            target-even (in_their_order j) j-even,
            turned-i.half,
            turned-j.half,
            k,
          ) in
          let same : m.one ≡ n.one = single t m.one n.one m.one_on n.one_on (m.one-is ∙ k ∙ sym n.one-is) in
          then-before m.one n.one m.other n.other same (number-before m.other n.other m.other-on n.other-on less)

  -- Marked segments, where those that are marked are edges

  module _ (used : List ℕ) (real : (j : ℕ) → 1 ≤ get_or used j 0 → EdgeOf costs e j) where
    abbrev given : List Edge
    given = marked_edges xs ys used e

    marked-real : (j : ℕ) → is_marked used j ≡ true → EdgeOf costs e j
    marked-real j h = real j (ltb-true 0 (get_or used j 0) h)

    ordered : (k n : ℕ) → Ascending before_edge (map (edge_at xs ys) (those (is_marked used) (from k n)))
    unfolding from those
    ordered k zero = tt
    ordered k (suc n) =
        by (is_marked used k)
        (λ h. rw (those, h) (
          (λ b i. let s = of_map (edge_at xs ys) (those (is_marked used) (from (suc k) n)) i in
              let q = of-those (is_marked used) (from (suc k) n) s.stands in
              subst (λ (z : Edge). before_edge (edge_at xs ys k) z ≡ true) (sym s.is)
              (edge_order k s.entry (marked-real k h) (marked-real s.entry q.1)
              (let z : k < s.entry = omega (arith, (of-from (suc k) n s.entry q.0).0) in z))),
          ordered (suc k) n,
        ))
        (λ h. rw (those, h) (ordered (suc k) n))

    pub given-order : Ascending before_edge given
    unfolding marked_edges marks
    given-order = ordered 0 e

    -- which they are
    in-given : (x : Edge) → x ∈ given → (j : ℕ) × ((1 ≤ get_or used j 0) × (x ≡ edge_at xs ys j))
    unfolding marked_edges marks
    in-given x i =
        let s = of_map (edge_at xs ys) (those (is_marked used) (from 0 e)) i in
        let q = of-those (is_marked used) (from 0 e) s.stands in
        (s.entry, (ltb-true 0 (get_or used s.entry 0) q.1, s.is))

    pub given-smaller : (a b : Place) → (a, b) ∈ given → before a b ≡ true
    given-smaller a b i =
        let r = in-given (a, b) i in
        subst (λ (z : Edge). before z.0 z.1 ≡ true) (sym r.1.1) (smaller r.0 (real r.0 r.1.0))

    crossing-range : (a : Place) → on a ≡ true → PlaceInRange a
    crossing-range a o =
        let c = crossing-of t a o in
        record { x = line-range t.allowed Across a.x c.across; y = line-range t.allowed Along a.y c.along }

    pub given-range : (a b : Place) → (a, b) ∈ given → PlaceInRange a × PlaceInRange b
    given-range a b i =
        let r = in-given (a, b) i in
        let n = ends_of r.0 (real r.0 r.1.0) in
        let is : ◌≡◌ {A = Edge} (a, b) (n.one, n.other) = r.1.1 ∙ n.edge in
        subst (λ (z : Edge). PlaceInRange z.0 × PlaceInRange z.1) (sym is)
        (crossing-range n.one n.one_on, crossing-range n.other n.other-on)

    -- an edge of the list is a segment below e
    inside : (j : ℕ) → EdgeOf costs e j → j < e
    inside j d = omega (arith, d.inside, d.is, (turns d.segment).half, t.made.count)

    given-in : (j : ℕ) → 1 ≤ get_or used j 0 → edge_at xs ys j ∈ given
    unfolding marked_edges marks
    given-in j h =
        in_map (edge_at xs ys)
        (in-those (is_marked used) (from 0 e) (in-from 0 e j (omega arith) (let z : j < 0 + e = omega (arith, inside j (real j h)) in z))
        (lt-ltb 0 (get_or used j 0) h))

    marks-once : Once (marks used e)
    unfolding marks
    marks-once = those-once (is_marked used) (from 0 e) (from-once 0 e)

    in-marks : (j : ℕ) → j ∈ marks used e → 1 ≤ get_or used j 0
    unfolding marks
    in-marks j i = ltb-true 0 (get_or used j 0) (of-those (is_marked used) (from 0 e) i).1

    pub given-tree : IsBest net given → BestTree net given
    given-tree b = record { best = b; smaller-first = given-smaller; in_order = given-order; in-range = given-range }

  -- The tree read back

  module _ (q : Place) (goal : q ∈ goals) (zeros used : List ℕ) (fresh : (j : ℕ) → get_or zeros j 0 ≡ 0)
      (d : Traced costs e (length goals) work (2 ^ length goals - 1) (name p0) zeros used) where
    pub traced-real : (j : ℕ) → 1 ≤ get_or used j 0 → EdgeOf costs e j
    traced-real j h =
        either (λ k. absurd (let z : ⊥ = omega (arith, k, fresh j) in z))
        (route-edges costs e (length goals) work (2 ^ length goals - 1) (name p0) d.edges d.route j) (d.marks.only j h)

    abbrev tree : List Edge
    tree = marked_edges xs ys used e

    abbrev whole : ℕ
    whole = Values t (all_pins goals q goal) p0

    last-is : number (ones goals) ≡ 2 ^ length goals - 1
    last-is = omega (arith, ones-number goals)

    finite : whole < unreached
    finite =
        table-finite net (allowed-positive t.allowed) goals unreached (Values t) (filled t) p0 q goal
        (grid-cost t.allowed (omega (arith, t.few-pins)) t.few-macros)
        (λ p i. pins-joined t.allowed (first-pin t) (goals-pins t p i))

    found : JoinsAt (mask_pins goals) G price (map (edge_at xs ys) d.edges) (all_pins goals q goal) p0 whole
    unfolding all_pins
    found = route-joins t d.route (all_pins goals q goal) last-is p0 (pin-on t p0 (first-pin t)) refl finite

    tree-edges : Edges G tree
    tree-edges a b i =
        let r = in-given used traced-real (a, b) i in
        let k = either (λ z. absurd (let y : ⊥ = omega (arith, z, fresh r.0) in y)) (λ z. z) (d.marks.only r.0 r.1.0) in
        found.on-grid a b (subst (λ (z : Edge). z ∈ map (edge_at xs ys) d.edges) (sym r.1.1) (in_map (edge_at xs ys) k))

    among : Among (map (edge_at xs ys) d.edges) tree
    among x i =
        let s = of_map (edge_at xs ys) d.edges i in
        subst (λ (z : Edge). z ∈ tree) (sym s.is) (given-in used traced-real s.entry (d.marks.there s.entry s.stands))

    tree-reaches : Reaches tree p0 net.pins
    unfolding all_pins
    tree-reaches p i =
        either (λ f. stay (sym f))
        (λ k. more among (found.reaches p (rw chosen-ones k))) (all-pins t p i)

    tree-cost : lengths price tree ≤ whole
    unfolding marked_edges
    tree-cost =
        let w : ℕ → ℕ = λ j. price (edge_at xs ys j).0 (edge_at xs ys j).1 in
        omega (
          arith,
          lengths-by price (edge_at xs ys) (marks used e),
          lengths-by price (edge_at xs ys) d.edges,
          found.cost,
          once-total w (marks used e) d.edges (marks-once used traced-real)
              (λ j i. either (λ z. absurd (let y : ⊥ = omega (arith, z, fresh j) in y)) (λ z. z)
              (d.marks.only j (in-marks used traced-real j i))),
        )

    bound : (F : List Edge) → Edges G F → Reaches F p0 net.pins → whole ≤ lengths price F
    bound = table-least net (allowed-positive t.allowed) goals unreached (Values t) (filled t) p0 q goal finite (goals-pins t)

    tree-cheapest : Cheapest G price net.pins p0 tree
    tree-cheapest = record {
      root = first-pin t;
      edges = tree-edges;
      reaches = tree-reaches;
      least = λ F h k. let r = bound F h k in omega (arith, r, tree-cost);
    }

    pub traced-best : BestTree net tree
    traced-best = given-tree used traced-real (cheapest-best net (allowed-positive t.allowed) tree-cheapest)

    pub traced-cost : value_at work (2 ^ length goals - 1) (name p0) ≡ lengths price tree
    unfolding all_pins
    traced-cost =
        let v = value-at t (all_pins goals q goal) p0 (pin-on t p0 (first-pin t)) in
        let v' : whole ≡ value_at work (2 ^ length goals - 1) (name p0) = v ∙ ap (λ (z : ℕ). value_at work z (name p0)) last-is in
        omega (arith, v', tree-cost, bound tree tree-edges tree-reaches)

  -- One pin

  module _ (alone : goals ≡ []) (used : List ℕ) (fresh : (j : ℕ) → get_or used j 0 ≡ 0) where
    nothing : (j : ℕ) → 1 ≤ get_or used j 0 → EdgeOf costs e j
    nothing j h = absurd (let z : ⊥ = omega (arith, h, fresh j) in z)

    abbrev bare : List Edge
    bare = marked_edges xs ys used e

    no_edge : (x : Edge) → x ∈ bare → ⊥
    no_edge x i = let r = in-given used nothing x i in let z : ⊥ = omega (arith, r.1.0, fresh r.0) in z

    bare-none : bare ≡ []
    bare-none = empty-list bare no_edge

    bare-cheapest : Cheapest G price net.pins p0 bare
    bare-cheapest = record {
      root = first-pin t;
      edges = λ a b i. absurd (no_edge (a, b) i);
      reaches = λ p i. either (λ f. stay (sym f)) (λ k. elim (subst (λ (l : List Place). p ∈ l) alone k) [ ]) (all-pins t p i);
      least = λ F h k. rw bare-none (none-least price (lengths price F));
    }

    pub lone-best : BestTree net bare
    lone-best = given-tree used nothing (cheapest-best net (allowed-positive t.allowed) bare-cheapest)

    pub lone-cost : 0 ≡ lengths price bare
    lone-cost = rw bare-none (sym (lengths_none price))
