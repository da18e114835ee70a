-- D2b, the same for every order of the lists, and D2g, the same for all loads [11]: both are that what is answered depends on the pins by
-- their places alone. Where the check refuses, it refuses both, and nothing lent is altered. Where it allows, the trees of one order are
-- trees of the other by the rules, which speak of no order and no load, and there is only one solution (`trees-same`).
-- Assumes nothing.
use mathlib.Core.Path.{◌≡◌, refl, sym, ap, ap₂, ◌∙◌}
use mathlib.Core.Bool.{cond, ◌||◌}
use mathlib.Core.Logic.{∥∥₁_elim}
use mathlib.Core.List.Perm
use mathlib.Core.List.Permᴰ
use mathlib.Core.List.{List, map, Perm, Permᴰ}
use Prim.Native.Nat.{ℕ, ◌+◌, ◌*◌, ◌/◌}
use native.Mathlib.Nat.{ℕ_set}
use lib.Dec.{ltb}
use lib.IntN.{ℤ, pos}
use lib.ListN.{length}
use Rattle.lists.specs.Sorted.{Order, first_then}
use Rattle.lists.specs.Total.{total}
use Rattle.lists.proofs.AnyLaws.{none_any}
use Rattle.lists.proofs.AnyOrder.{length-perm}
use Rattle.lists.proofs.OrderLaws.{number-order, pair-order}
use Rattle.lists.proofs.PermLaws.{perm-among, order-lists-set}
use Rattle.lent.specs.Told.{Told, refused, given, only_if}
use Rattle.lent.specs.Over.{after}
use Rattle.lent.specs.Entries.{flat}
use Rattle.lent.proofs.AfterLaws.{after-refused}
use Rattle.joined.specs.Cost.{lengths}
use Rattle.plane.specs.Flat.{macros_of}
use Rattle.plane.proofs.PlaceOrder.{place-order}
use Rattle.plane.proofs.MacroLaws.{clear-perm}
use Rattle.net.specs.declared.Net.{Net as Counts}
use Rattle.net.specs.Bounds.{pin_width, macro_width}
use Rattle.net.specs.declared.Weighing.{Weighing}
use Rattle.net.specs.Net.{net_of, weights_of, cost_in}
use Rattle.net.specs.Allowed.{Allowed}
use Rattle.net.specs.Pins.{pin_count, macro_count, pin_places, pin_loads}
use Rattle.net.proofs.PinLaws.{length-pins, pin-numbers, same-pins as as_many}
use Rattle.net.specs.Tests.{no_load}
use Rattle.net.specs.Order.{SamePins, SamePlaces, SameMacros}
use Rattle.checks.specs.Check.{checked}
use Rattle.checks.proofs.GivenLaws.{given-allowed}
use Rattle.checks.proofs.CheckOrder.{check-order, same-places}
use Rattle.graph.specs.Numbers.{place_numbers, edge_numbers}
use Rattle.terminal.specs.Tree.{path_numbers}
use Rattle.terminal.proofs.BestJoiningLaws.{paths-sum}
use Rattle.price.specs.Price.{priced}
use Rattle.refined.specs.Metal.{metal}
use Rattle.refined.specs.Wires.{wires}
use Rattle.slide.specs.Slide.{slid}
use Rattle.slide.proofs.ListOrder.{slid-same}
use Rattle.rules.specs.Edges.{Edge, edge_before}
use Rattle.rules.specs.Terminal.{given_for}
use Rattle.rules.proofs.EdgeLaws.{edge_order}
use Rattle.rules.proofs.TreesOrder.{SameNet}
use Rattle.rules.proofs.TerminalOurs.{paths-given}
use Rattle.rules.proofs.TreesOurs.{trees-same}
use Rattle.answers.specs.Graph.{net_vertices, net_edges, point_count, graph_room_short, graph_given, graphed}
use Rattle.answers.specs.Room.{if_room}
use Rattle.answers.specs.Terminal.{paths_of, paths_total, terminal_given, terminal_tree}
use Rattle.answers.specs.Refined.{refined_of, edges_in, total_in, laid_of, laid_total, refined_given, refined_tree}
use Rattle.answers.specs.Both.{both_given, both_trees}
use Rattle.answers.specs.Slid.{slid_in, slid_of, slid_given, slid_tree}
use Rattle.answers.specs.Wires.{wires_given, wired}
use Rattle.answers.specs.Price.{net_price}
use Rattle.bought.specs.Rearranged.{SameEdges}
use Rattle.bought.proofs.OrderLaws.{same-bought}
use Rattle.bought.proofs.GivenLaws.{first-pin}
use Rattle.answers.specs.Bought.{checked_tree}
use Rattle.lines.specs.Bounds.{grid_pins, grid_macros}
use Rattle.grid.specs.Distance.{Square}
use Rattle.grid.proofs.SquareLaws.{SameGround, squares-same}
use Rattle.answers.specs.Distances.{above_grid, distances_given, grid_distances}
use Rattle.best.specs.Tree.{BestTree}
use Rattle.best.proofs.OrderLaws.{best-any-order}
use Rattle.bound.specs.Bound.{Bound}
use Rattle.bound.proofs.NetBound.{bound-any-order}
use Rattle.answers.specs.Bound.{bound_room_short, bound_given, lower_bound}
use Rattle.promises.specs.EveryOrder.{SameForBoth, ByPlaces}
use Rattle.answers.proofs.AnswerLaws.{only-refused}
use Rattle.promises.proofs.BestAlike.{same_code, same-work}

-- bridges with lengths, in an order
given-order : Order (first_then edge_before ltb)
given-order = pair-order edge_before ltb edge_order number-order

module _ (w : Weighing) (pins pins' macros macros' : List ℤ) (p : SamePlaces pins pins') (q : SameMacros macros macros') where
  same_check : checked w pins macros ≡ checked w pins' macros'
  same_check = check-order w pins pins' macros macros' p q

  -- What is asked for

  same-pins : pin_count pins ≡ pin_count pins'
  same-pins = as_many pins pins' p.many

  same-macros : macro_count macros ≡ macro_count macros'
  same-macros = ap (λ (k : ℕ). k / macro_width) q.many

  same_points : point_count pins macros ≡ point_count pins' macros'
  same_points = ap₂ (λ (a b : ℕ). a + b / macro_width * 4) same-pins q.many

  same-room : point_count pins macros + pin_count pins ≡ point_count pins' macros' + pin_count pins'
  same-room = ap₂ ◌+◌ same_points same-pins

  -- by the rules the two nets are alike
  alike : Permᴰ (pin_places pins) (pin_places pins') → Permᴰ (macros_of macros) (macros_of macros') →
      SameNet (weights_of w) (pin_places pins) (pin_places pins') (macros_of macros) (macros_of macros')
  alike d e = record {
    to = perm-among d;
    from = perm-among (Permᴰ.symm d);
    count = length-perm _ _ p.order;
    macros-to = perm-among e;
    macros-from = perm-among (Permᴰ.symm e);
    clears = λ x y. clear-perm x y _ _ q.order;
  }

  -- Best trees: which is given is left to the program, and neither the refusal nor the work tells

  same-best-cost : (T U : List Edge) → BestTree (net_of w pins macros) T → BestTree (net_of w pins' macros') U →
      lengths (cost_in (net_of w pins macros)) T ≡ lengths (cost_in (net_of w pins' macros')) U
  same-best-cost T U t u =
      ∥∥₁_elim p.order (ℕ_set _ _) λ d.
      ∥∥₁_elim q.order (ℕ_set _ _) λ e. best-any-order (alike d e) T U t.best u.best

  -- The lower bound, whose refusals ask for room alone

  same-bound : (left rows n : ℕ) → lower_bound w pins macros left rows n ≡ lower_bound w pins' macros' left rows n
  unfolding lower_bound bound_given
  same-bound left rows n =
      ap (λ (c : Told Counts). only_if c (cond (bound_room_short left rows) (refused 21) (given n))) same_check

  same-bound-number : (m n : ℕ) → Bound (net_of w pins macros) m → Bound (net_of w pins' macros') n → m ≡ n
  same-bound-number m n b c =
      ∥∥₁_elim p.order (ℕ_set _ _) λ d. ∥∥₁_elim q.order (ℕ_set _ _) λ e. bound-any-order (alike d e) b c

  -- Refused

  module _ (n : ℕ) (r : checked w pins macros ≡ refused n) where
    both : {A : Type 0} (x y : Told A) → only_if (checked w pins macros) x ≡ only_if (checked w pins' macros') y
    both x y = only-refused _ x n r ∙ sym (only-refused _ y n (sym same_check ∙ r))

    untouched : {A X : Type 0} (x y : Told A) (xs ys lent : List X) →
        after (only_if (checked w pins macros) x) xs lent ≡ after (only_if (checked w pins' macros') y) ys lent
    untouched x y xs ys lent =
        sym (after-refused _ xs lent n (only-refused _ x n r)) ∙ after-refused _ ys lent n (only-refused _ y n (sym same_check ∙ r))

    refused-both : SameForBoth w pins pins' macros macros'
    unfolding graphed terminal_tree refined_tree both_trees slid_tree wired net_price grid_distances checked_tree
    refused-both = record {
      check = same_check;
      graph = λ v e. both _ _;
      vertices = λ v e lent. untouched _ _ _ _ lent;
      edges = λ v e lent. untouched _ _ _ _ lent;
      terminal = λ room. both _ _;
      paths = λ room lent. untouched _ _ _ _ lent;
      refined = λ room. both _ _;
      laid = λ room lent. untouched _ _ _ _ lent;
      both = λ room. both _ _;
      both-laid = λ room lent. untouched _ _ _ _ lent;
      slid = λ room. both _ _;
      slid-edges = λ room lent. untouched _ _ _ _ lent;
      wires = λ room. both _ _;
      drawn = λ room lent. untouched _ _ _ _ lent;
      price = λ bands. both _ _;
      distances = λ room. both _ _;
      table = λ t u s r room lent. untouched _ _ _ _ lent;
      bought = λ edges edges' s. both _ _;
      best = same_code w pins pins' macros macros' same_check same-pins same-macros;
      best-work = same-work w pins pins' macros macros' same_check same-pins same-macros;
      best-cost = same-best-cost;
      bound = same-bound;
      bound-number = same-bound-number;
    }

  -- Allowed

  module _ (net : Counts) (g : checked w pins macros ≡ given net) where
    a : Allowed (net_of w pins macros)
    a = (given-allowed w pins macros g).1

    b : Allowed (net_of w pins' macros')
    b = (given-allowed w pins' macros' (sym same_check ∙ g)).1

    same-vertices : net_vertices w pins macros ≡ net_vertices w pins' macros'
    unfolding net_vertices
    same-vertices =
        ∥∥₁_elim p.order (order-lists-set place-order _ _) λ d.
        ∥∥₁_elim q.order (order-lists-set place-order _ _) λ e. (trees-same (alike d e) a b).vertices

    same_edges : net_edges w pins macros ≡ net_edges w pins' macros'
    unfolding net_edges net_vertices
    same_edges =
        ∥∥₁_elim p.order (order-lists-set edge_order _ _) λ d.
        ∥∥₁_elim q.order (order-lists-set edge_order _ _) λ e. (trees-same (alike d e) a b).edges

    same-paths : paths_of w pins macros ≡ paths_of w pins' macros'
    unfolding paths_of
    same-paths =
        ∥∥₁_elim p.order (order-lists-set given-order _ _) λ d.
        ∥∥₁_elim q.order (order-lists-set given-order _ _) λ e.
        sym (paths-given a) ∙ ap (map (given_for (net_of w pins macros))) (trees-same (alike d e) a b).paths ∙ paths-given b

    pub same-laid : laid_of w pins macros ≡ laid_of w pins' macros'
    unfolding edges_in refined_of
    same-laid =
        ∥∥₁_elim p.order (order-lists-set edge_order _ _) λ d.
        ∥∥₁_elim q.order (order-lists-set edge_order _ _) λ e. (trees-same (alike d e) a b).refined

    -- pins are looked for and put in order, macros are looked for
    same-slid : slid_of w pins macros ≡ slid_of w pins' macros'
    unfolding slid_in
    same-slid =
        ∥∥₁_elim p.order (order-lists-set edge_order _ _) λ d.
        ∥∥₁_elim q.order (order-lists-set edge_order _ _) λ e.
        slid-same (net_of w pins macros) (net_of w pins' macros') (perm-among e) (perm-among (Permᴰ.symm e)) (perm-among d)
        (perm-among (Permᴰ.symm d)) refl (laid_of w pins macros)
        ∙ ap (slid (net_of w pins' macros')) same-laid

    same_total : paths_total w pins macros ≡ paths_total w pins' macros'
    unfolding paths_total paths_of
    same_total = paths-sum a ∙ ap (λ (l : List (Edge × ℕ)). total (map (λ k. k.1) l)) same-paths ∙ sym (paths-sum b)

    same-cost : laid_total w pins macros ≡ laid_total w pins' macros'
    unfolding total_in
    same-cost = ap (lengths (cost_in (net_of w pins macros))) same-laid

    -- so the answers are the same

    same_graph : (v e : ℕ) → graphed w pins macros v e ≡ graphed w pins' macros' v e
    unfolding graphed graph_given
    same_graph v e =
        ap₂ only_if same_check
        (ap₂ (λ (n : ℕ) (counts : ℕ × ℕ). cond (graph_room_short n v e) (refused 21) (given counts)) same_points
        (ap₂ (λ (m n : ℕ). (m, n)) (ap length same-vertices) (ap length same_edges)))

    same-terminal : (room : ℕ) → terminal_tree w pins macros room ≡ terminal_tree w pins' macros' room
    unfolding terminal_tree terminal_given
    same-terminal room =
        ap₂ only_if same_check
        (ap₂ (λ (m : ℕ) (z : ℕ × ℤ). if_room (m * 5) room z) same-pins
        (ap₂ (λ (l : List (Edge × ℕ)) (t : ℕ). (length l, pos t)) same-paths same_total))

    same-refined : (room : ℕ) → refined_tree w pins macros room ≡ refined_tree w pins' macros' room
    unfolding refined_tree refined_given
    same-refined room =
        ap₂ only_if same_check
        (ap₂ (λ (n : ℕ) (z : ℕ × (ℤ × ℤ)). if_room (n * 4) room z) same-room
        (ap₂ (λ (l : List Edge) (t : ℕ). (length l, (pos t, pos (metal l)))) same-laid same-cost))

    same-both : (room : ℕ) → both_trees w pins macros room ≡ both_trees w pins' macros' room
    unfolding both_trees both_given
    same-both room =
        ap₂ only_if same_check
        (ap₂ (λ (n : ℕ) (z : ℕ × (ℤ × (ℤ × ℤ))). if_room (n * 4) room z) same-room
        (ap₂ (λ (t : ℕ) (z : ℕ × (ℤ × ℤ)). (z.0, (pos t, z.1))) same_total
        (ap₂ (λ (l : List Edge) (t : ℕ). (length l, (pos t, pos (metal l)))) same-laid same-cost)))

    same-slid-tree : (room : ℕ) → slid_tree w pins macros room ≡ slid_tree w pins' macros' room
    unfolding slid_tree slid_given
    same-slid-tree room =
        ap₂ only_if same_check
        (ap₂ (λ (n : ℕ) (l : List Edge). slid_into n room l) same-room same-slid)
      where
        slid_into : ℕ → ℕ → List Edge → Told (ℕ × (ℤ × ℤ))
        slid_into n room l = if_room (n * 8) room (length l, (pos (lengths (cost_in (net_of w pins macros)) l), pos (metal l)))

    same-wires : (room : ℕ) → wired w pins macros room ≡ wired w pins' macros' room
    unfolding wired wires_given
    same-wires room =
        ap₂ only_if same_check (ap₂ (λ (n : ℕ) (l : List Edge). if_room (n * 8) room (length (wires l))) same-room same-laid)

    same-price : (bands : List ℕ) → net_price w pins macros bands ≡ net_price w pins' macros' bands
    unfolding net_price
    same-price bands = ap₂ only_if same_check (ap (λ (l : List Edge). priced (metal l) bands) same-laid)

    same-distances : (room : ℕ) → grid_distances w pins macros room ≡ grid_distances w pins' macros' room
    unfolding grid_distances distances_given above_grid
    same-distances room =
        ap₂ only_if same_check
        (ap₂ (λ (m k : ℕ). cond (ltb grid_pins m || ltb grid_macros k) (refused 36) (if_room (m * m) room (m * m))) same-pins
        same-macros)

    -- a walk in clear unit steps knows no order of the lists
    same-table : (t u : List ℕ) → Square (net_of w pins macros) t → Square (net_of w pins' macros') u → t ≡ u
    same-table t u s r =
        ∥∥₁_elim p.order (order-lists-set number-order _ _) λ d.
        squares-same (weights_of w)
        (record {
          to = perm-among d;
          from = perm-among (Permᴰ.symm d);
          count = length-perm _ _ p.order;
          clears = λ x y. clear-perm x y _ _ q.order;
        }) a b t u s r

    same-checked : (edges edges' : List ℤ) → SameEdges edges edges' → checked_tree w pins macros edges ≡ checked_tree w pins' macros' edges'
    unfolding checked_tree
    same-checked edges edges' s =
        ap₂ only_if same_check
        (same-bought p.order (first-pin a) (first-pin b) (weights_of w) (macros_of macros) (macros_of macros')
        (λ x y. clear-perm x y _ _ q.order) edges edges' s)

    given_both : SameForBoth w pins pins' macros macros'
    given_both = record {
      check = same_check;
      graph = same_graph;
      vertices = λ v e lent. ap₂ (λ t l. after t (flat place_numbers l) lent) (same_graph v e) same-vertices;
      edges = λ v e lent. ap₂ (λ t l. after t (flat edge_numbers l) lent) (same_graph v e) same_edges;
      terminal = same-terminal;
      paths = λ room lent. ap₂ (λ t l. after t (flat path_numbers l) lent) (same-terminal room) same-paths;
      refined = same-refined;
      laid = λ room lent. ap₂ (λ t l. after t (flat edge_numbers l) lent) (same-refined room) same-laid;
      both = same-both;
      both-laid = λ room lent. ap₂ (λ t l. after t (flat edge_numbers l) lent) (same-both room) same-laid;
      slid = same-slid-tree;
      slid-edges = λ room lent. ap₂ (λ t l. after t (flat edge_numbers l) lent) (same-slid-tree room) same-slid;
      wires = same-wires;
      drawn = λ room lent. ap₂ (λ t l. after t (flat edge_numbers (wires l)) lent) (same-wires room) same-laid;
      price = same-price;
      distances = same-distances;
      table = λ t u s r room lent. ap₂ (λ (z : Told ℕ) (l : List ℕ). after z (map pos l) lent) (same-distances room) (same-table t u s r);
      bought = same-checked;
      best = same_code w pins pins' macros macros' same_check same-pins same-macros;
      best-work = same-work w pins pins' macros macros' same_check same-pins same-macros;
      best-cost = same-best-cost;
      bound = same-bound;
      bound-number = same-bound-number;
    }

  pub by-places : SameForBoth w pins pins' macros macros'
  by-places = at (checked w pins macros) refl
    where
      at : (t : Told Counts) → checked w pins macros ≡ t → SameForBoth w pins pins' macros macros'
      at (refused n) r = refused-both n r
      at (given net) g = given_both net g

-- Theorems

-- D2b: the same entries in another order
pub every-order : (w : Weighing) (pins pins' macros macros' : List ℤ) → SamePins pins pins' → SameMacros macros macros'
    → SameForBoth w pins pins' macros macros'
every-order w pins pins' macros macros' p q = by-places w pins pins' macros macros' (same-places pins pins' p) q

-- the pins of two allowed nets that are at the same places: loads that pass are alike to the check
allowed-places : (w : Weighing) (pins pins' macros macros' : List ℤ) {net net' : Counts} → checked w pins macros ≡ given net
    → checked w pins' macros' ≡ given net' → Perm (pin_places pins) (pin_places pins') → SamePlaces pins pins'
allowed-places w pins pins' macros macros' g g' p =
    let a = (given-allowed w pins macros g).0 in
    let b = (given-allowed w pins' macros' g').0 in
    record {
      many =
          sym (pin-numbers pins a.threes)
          ∙ ap (λ (n : ℕ). n * pin_width) (sym (length-pins pins) ∙ length-perm _ _ p ∙ length-pins pins')
          ∙ pin-numbers pins' b.threes;
      order = p;
      loads = none_any no_load (pin_loads pins) a.loads ∙ sym (none_any no_load (pin_loads pins') b.loads);
    }

-- D2g: two allowed nets with pins at the same places, whatever their loads, in whatever order
pub whatever-loads : (w : Weighing) (pins pins' macros macros' : List ℤ) {net net' : Counts} → checked w pins macros ≡ given net
    → checked w pins' macros' ≡ given net' → Perm (pin_places pins) (pin_places pins') → SameMacros macros macros'
    → SameForBoth w pins pins' macros macros'
whatever-loads w pins pins' macros macros' g g' p q =
    by-places w pins pins' macros macros' (allowed-places w pins pins' macros macros' g g' p) q

-- and so two that differ in loads alone
pub loads-alone : (w : Weighing) (pins pins' macros : List ℤ) {net net' : Counts} → checked w pins macros ≡ given net
    → checked w pins' macros ≡ given net' → pin_places pins ≡ pin_places pins' → SameForBoth w pins pins' macros macros
loads-alone w pins pins' macros g g' e =
    whatever-loads w pins pins' macros macros g g' (rw e (Perm.refl (pin_places pins')))
    (record { many = refl; order = Perm.refl (macros_of macros) })

pub all-by-places : ByPlaces
all-by-places = record { every-order = every-order; loads-alone = loads-alone; whatever-loads = whatever-loads }
