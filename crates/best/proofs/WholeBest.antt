-- The tables as the program has made them, for an allowed net of flat lists of at most five pins: what each call is handed, and that
-- what is given at last is a best tree.
-- Assumes nothing.
use mathlib.Core.Path.{◌≡◌, refl, sym, ap, ap₂, subst, ◌∙◌}
use mathlib.Core.Logic.{inl, inr}
use mathlib.Core.List.{List, [], ◌∷◌, ◌++◌, map}
use Prim.Native.Nat.{ℕ, zero, suc, ◌+◌, ◌*◌, ◌-◌, ◌^◌, ◌≤◌, ◌<◌}
use native.Mathlib.Nat.{mul-le-mul, two-pow-succ}
use native.Mathlib.Numerals.{add-one}
use native.Mathlib.Omega.{arith}
use lib.IntN.{ℤ, pos}
use lib.ListN.{length, get_or, drop, take, replicate, length-replicate, length-drop}
use lib.Seq.{get_or-drop, ext_get_or}
use Rattle.lists.specs.Member.{◌∈◌, here}
use Rattle.lists.specs.Sorted.{sorted}
use Rattle.joined.specs.Cost.{lengths}
use Rattle.lent.specs.Over.{over}
use Rattle.lent.specs.Entries.{flat}
use Rattle.plane.specs.declared.Place.{Place}
use Rattle.plane.specs.declared.Weights.{Weights}
use Rattle.plane.specs.Place.{place, before}
use Rattle.plane.specs.Distance.{distance}
use Rattle.plane.specs.Flat.{macros_of}
use Rattle.plane.proofs.FlatLaws.{length-macros}
use Rattle.net.specs.Pins.{pin_count, pin_places, macro_count}
use Rattle.net.specs.Net.{Net, net_with, cost_in}
use Rattle.net.proofs.PinLaws.{length-pins}
use Rattle.graph.specs.Numbers.{edge_numbers}
use Rattle.lines.specs.declared.Grid.{Grid}
use Rattle.lines.specs.declared.Axis.TheVariants.{Across, Along}
use Rattle.lines.specs.Bounds.{grid_pins, line_bound, crossing_bound, segment_bound}
use Rattle.lines.specs.Lines.{x_lines, y_lines}
use Rattle.lines.specs.Crossings.{crossing_number}
use Rattle.grid.specs.Tables.{target, CostsTo, Near}
use Rattle.grid.specs.Distance.{pins_in_order}
use Rattle.lines.proofs.GridCost.{line-count}
use Rattle.grid.proofs.NetDistance.{order-count, number_at, zeros-read}
use Rattle.grid.proofs.WholeLaws.{Small, Lined, pins-few, macros-few, whole-fits, made, zero-at, zero-long, renamed}
use Rattle.parts.specs.Bounds.{best_pins, mask_bound, work_bound}
use Rattle.parts.specs.Tables.{value_at, MaskRow, FilledTo}
use Rattle.traced.specs.Routes.{in_their_order, marked_edges, Traced, ReadBack}
use Rattle.best.specs.Tree.{BestTree, BestOver}
use Rattle.traced.proofs.RouteLaws.{EdgeOf, turns}
use Rattle.best.proofs.NetBest.{Tabled}
use Rattle.best.proofs.BestGiven.{traced-real, traced-best, traced-cost, lone-best, lone-cost}

-- a list that is not empty
record Headed (l : List Place) : Type 0 where
  first : Place
  rest : List Place
  is : l ≡ first ∷ rest

headed : (l : List Place) → 1 ≤ length l → Headed l
headed [] h = absurd (let z : ⊥ = omega (arith, h) in z)
headed (p ∷ l) h = record { first = p; rest = l; is = refl }

-- the work cleared, whatever the rows had become
pub work-cleared : (near : ℕ → ℕ → ℕ → Type 0) (m : ℕ) (numbers : List ℕ) (n : ℕ) (w u x : List ℕ) → FilledTo near m numbers n w u →
    x ≡ over (replicate work_bound 0) u → x ≡ over (replicate work_bound 0) w
unfolding over
work-cleared near m numbers n w u x f e =
    e ∙ ap (λ (l : List ℕ). replicate work_bound 0 ++ l)
    (ext_get_or 0 (drop k u) (drop k w) (length-drop k u ∙ ap (λ (i : ℕ). i - k) f.size ∙ sym (length-drop k w))
    (λ i h. get_or-drop k u i 0 ∙ f.past (k + i) (let z : mask_bound * crossing_bound ≤ k + i = omega (arith, long) in z) ∙ sym
    (get_or-drop k w i 0)))
  where
    blank : List ℕ
    blank = replicate work_bound 0

    k : ℕ
    k = length blank

    long : k ≡ work_bound
    long = length-replicate {A = ℕ} work_bound 0

module _ {w : Weights} {pins macros : List ℤ} (s : Small w pins macros) (few : pin_count pins ≤ best_pins) {g : Grid} {xs ys : List ℤ}
    (lx : Lined Across pins macros g.across xs) (ly : Lined Along pins macros g.along ys) {costs : List ℕ} {e : ℕ}
    (count : e ≡ g.across * line_bound * 2) (c : CostsTo w (macros_of macros) g xs ys e costs) (zeros numbers : List ℕ)
    (fresh : zeros ≡ replicate grid_pins 0)
    (numbered : numbers ≡ over (map (crossing_number (take g.across xs) (take g.along ys)) (sorted before (pin_places pins))) zeros)
    (m n : ℕ) (m-is : m ≡ pin_count pins) (n-is : n ≡ 2 ^ (m - 1)) (w0 w1 : List ℕ)
    (filled : FilledTo (Near costs e) (m - 1) numbers n w0 w1) where
  abbrev net : Net
  net = net_with w pins macros

  abbrev name : Place → ℕ
  name = crossing_number (x_lines net) (y_lines net)

  in_order : Headed (pins_in_order net)
  in_order = headed (pins_in_order net) (omega (arith, order-count s.allowed, s.allowed.some-pin))

  abbrev p0 : Place
  p0 = in_order.first

  abbrev goals : List Place
  goals = in_order.rest

  goals-count : m - 1 ≡ length goals
  goals-count =
      let l : length (pins_in_order net) ≡ length (p0 ∷ goals) = ap length in_order.is in
      omega (arith, l, order-count s.allowed, length-pins pins, m-is)

  number_is : (i : ℕ) → i < length net.pins → get_or numbers i 0 ≡ name (get_or (p0 ∷ goals) i (place (pos 0) (pos 0)))
  number_is i h =
      ap (λ (l : List ℕ). get_or l i 0) (renamed s lx ly count c zeros numbers fresh numbered)
      ∙ number_at s.allowed (pins-few s) (macros-few s) zeros (zero-at s lx ly count c zeros numbers fresh numbered)
      (zero-long s lx ly count c zeros numbers fresh numbered) i h
      ∙ ap (λ (l : List Place). name (get_or l i (place (pos 0) (pos 0)))) in_order.is

  pins-many : suc (length goals) ≡ length net.pins
  pins-many = let l : length (pins_in_order net) ≡ length (p0 ∷ goals) = ap length in_order.is in omega (
    arith,
    l,
    order-count
        s.allowed,
  )

  tabled : Tabled net g xs ys costs e numbers w1 p0 goals
  tabled = record {
    allowed = s.allowed;
    few-pins = omega (arith, few, length-pins pins);
    few-macros = macros-few s;
    made = made s lx ly count c;
    order = in_order.is;
    first-is = number_is 0 (omega (arith, pins-many));
    goal-is = λ i h. number_is (i + 1) (omega (arith, h, pins-many)) ∙ ap (λ (k : ℕ). name (get_or (p0 ∷ goals) k (place (pos 0)
        (pos 0)))) (add-one i);
    rows = λ r one h. subst (λ (k : ℕ). MaskRow (Near costs e) k numbers w1 r) goals-count (filled.each r one (omega (
      arith,
      h,
      masks-is,
    )));
  }
    where
      masks-is : n ≡ 2 ^ length goals
      masks-is = n-is ∙ ap (λ (k : ℕ). 2 ^ k) goals-count

  module _ (clear used : List ℕ) (blank : clear ≡ replicate segment_bound 0) (total : ℕ)
      (back : ReadBack costs e (m - 1) w1 n (get_or numbers 0 0) clear used total) where
    blank-at : (j : ℕ) → get_or clear j 0 ≡ 0
    blank-at j = ap (λ (l : List ℕ). get_or l j 0) blank ∙ zeros-read segment_bound 0 j

    -- what has been read back
    record Read : Type 0 where
      real : (j : ℕ) → 1 ≤ get_or used j 0 → EdgeOf costs e j
      best : BestTree net (marked_edges xs ys used e)
      cost : total ≡ lengths (cost_in net) (marked_edges xs ys used e)

    masks-are : n ≡ 2 ^ length goals
    masks-are = n-is ∙ ap (λ (k : ℕ). 2 ^ k) goals-count

    alone : n < 2 → goals ≡ []
    alone h = at goals (subst (λ (k : ℕ). k < 2) masks-are h)
      where
        at : (l : List Place) → 2 ^ length l < 2 → l ≡ []
        at [] k = refl
        at (p ∷ l) k = absurd (let z : ⊥ = omega (arith, k, two-pow-succ (length l), power (length l)) in z)
          where
            power : (i : ℕ) → 1 ≤ 2 ^ i
            power zero = omega arith
            power (suc i) = omega (arith, power i, two-pow-succ i)

    some-goal : 2 ≤ n → (q : Place) × (q ∈ goals)
    some-goal h = at goals (subst (λ (k : ℕ). 2 ≤ k) masks-are h)
      where
        at : (l : List Place) → 2 ≤ 2 ^ length l → (q : Place) × (q ∈ l)
        at [] k = absurd (let z : 2 ≤ 1 = k in let y : ⊥ = omega (arith, z) in y)
        at (p ∷ l) k = (p, here refl)

    read_of : ReadBack costs e (m - 1) w1 n (get_or numbers 0 0) clear used total → Read
    read_of (inl (h, (same, z))) =
        let none : (j : ℕ) → get_or used j 0 ≡ 0 = λ j. ap (λ (l : List ℕ). get_or l j 0) same ∙ blank-at j in
        record {
          real = λ j k. absurd (let y : ⊥ = omega (arith, k, none j) in y);
          best = lone-best tabled (alone h) used none;
          cost = z ∙ lone-cost tabled (alone h) used none;
        }
    read_of (inr (h, (d, v))) =
        let q = some-goal h in
        let f : get_or numbers 0 0 ≡ name p0 = tabled.first-is in
        let k : n - 1 ≡ 2 ^ length goals - 1 = ap (λ (i : ℕ). i - 1) masks-are in
        let d₁ = subst (λ (i : ℕ). Traced costs e i w1 (n - 1) (get_or numbers 0 0) clear used) goals-count d in
        let d₂ = subst (λ (i : ℕ). Traced costs e (length goals) w1 i (get_or numbers 0 0) clear used) k d₁ in
        let d₃ = subst (λ (i : ℕ). Traced costs e (length goals) w1 (2 ^ length goals - 1) i clear used) f d₂ in
        record {
          real = traced-real tabled q.0 q.1 clear used blank-at d₃;
          best = traced-best tabled q.0 q.1 clear used blank-at d₃;
          cost = v ∙ ap₂ (value_at w1) k f ∙ traced-cost tabled q.0 q.1 clear used blank-at d₃;
        }

    read : Read
    read = read_of back

    pub whole-targets : (j : ℕ) → j < e → 1 ≤ get_or used j 0 → target (in_their_order j) < crossing_bound
    whole-targets j h k =
        let d = read.real j k in
        let is : in_their_order j ≡ d.segment = ap in_their_order d.is ∙ (turns d.segment).twice in
        subst (λ (i : ℕ). target i < crossing_bound) (sym is) ((whole-fits s lx ly count c).ends d.segment d.inside d.some)

    pub whole_room : (room : ℕ) → (pin_count pins + macro_count macros * 2) * (pin_count pins + macro_count macros * 2) * 4 ≤ room →
        length (marked_edges xs ys used e) * 4 ≤ room
    whole_room room h =
        let x : length (x_lines net) ≤ pin_count pins + macro_count macros * 2 =
        omega (arith, line-count Across net, length-pins pins, length-macros macros) in
        let y : length (y_lines net) ≤ pin_count pins + macro_count macros * 2 =
        omega (arith, line-count Along net, length-pins pins, length-macros macros) in
        omega (arith, h, read.best.best.few, mul-le-mul x y)

    pub whole-over : (lent lent' : List ℤ) (k metal : ℕ) → k ≡ length (marked_edges xs ys used e) →
        metal ≡ lengths distance (marked_edges xs ys used e) →
        lent' ≡ over (flat edge_numbers (marked_edges xs ys used e)) lent → BestOver net lent lent' k total metal
    whole-over lent lent' k metal f p l = record {
      tree = marked_edges xs ys used e;
      is-best = read.best;
      count = f;
      cost = read.cost;
      plain = p;
      list = l;
    }
