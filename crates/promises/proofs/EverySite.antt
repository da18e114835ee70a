-- D2h, the same on every site. Where the check refuses one net it refuses the other with the same number, and nothing lent is altered.
-- Where it allows, the trees of the net, shifted, are trees of the other by the rules, and there is only one solution.
-- Assumes nothing.
use mathlib.Core.Path.{◌≡◌, refl, sym, ap, ap₂, ◌∙◌}
use mathlib.Core.Bool.{Bool, not, cond, ◌||◌}
use mathlib.Core.Logic.{∥∥₁_elim}
use mathlib.Core.List.Permᴰ
use mathlib.Core.List.{List, [], ◌∷◌, map, Perm, Permᴰ}
use Prim.Native.Nat.{ℕ, ◌+◌, ◌*◌, ◌/◌, ◌%◌}
use native.Mathlib.Nat.{ℕ_set}
use lib.Dec.{eqb, ltb}
use lib.IntN.{ℤ, pos}
use lib.ListN.{length, length-map}
use Rattle.lists.specs.Member.{Once}
use Rattle.lists.specs.Sorted.{Order, first_then, sorted}
use Rattle.lists.specs.Any.{any}
use Rattle.lists.specs.Total.{total}
use Rattle.lists.proofs.AnyOrder.{any-perm, length-perm}
use Rattle.lists.proofs.OrderLaws.{number-order, pair-order}
use Rattle.lists.proofs.PermLaws.{perm-among, order-lists-set}
use Rattle.lent.specs.Told.{Told, refused, given, only_if}
use Rattle.lent.specs.Over.{after}
use Rattle.lent.specs.Entries.{flat}
use Rattle.lent.proofs.AfterLaws.{after-refused}
use Rattle.joined.specs.Cost.{lengths}
use Rattle.plane.specs.declared.Place.{Place}
use Rattle.plane.specs.Place.{before, same_place}
use Rattle.plane.specs.Flat.{macros_of}
use Rattle.plane.proofs.PlaceOrder.{place-order}
use Rattle.plane.proofs.MacroLaws.{clear-perm}
use Rattle.net.specs.declared.Net.{Net as Counts}
use Rattle.net.specs.Bounds.{macro_width}
use Rattle.net.specs.declared.Weighing.{Weighing}
use Rattle.net.specs.Net.{Net, net_of, weights_of, cost_in}
use Rattle.net.specs.Allowed.{Allowed}
use Rattle.net.specs.Pins.{pin_count, macro_count, pin_places, pin_entries}
use Rattle.net.specs.Tests.{out_of_range}
use Rattle.checks.specs.Check.{checked}
use Rattle.checks.proofs.GivenLaws.{given-allowed}
use Rattle.graph.specs.Numbers.{place_numbers, edge_numbers}
use Rattle.terminal.specs.Tree.{path_numbers}
use Rattle.terminal.proofs.BestJoiningLaws.{paths-sum}
use Rattle.terminal.proofs.NumberLaws.{apart-once}
use Rattle.price.specs.Price.{priced}
use Rattle.refined.specs.Metal.{metal}
use Rattle.refined.specs.Wires.{wires}
use Rattle.slide.specs.Slide.{slid}
use Rattle.slide.proofs.ListOrder.{slid-same}
use Rattle.rules.specs.Edges.{Edge, edge_before}
use Rattle.rules.specs.Terminal.{Path, given_for}
use Rattle.rules.proofs.EdgeLaws.{edge_order}
use Rattle.rules.proofs.TreesOrder.{SameNet}
use Rattle.rules.proofs.TerminalOurs.{our_paths, paths-given}
use Rattle.answers.specs.Graph.{net_vertices, net_edges, point_count, graph_room_short, graph_given, graphed}
use Rattle.answers.specs.Room.{if_room}
use Rattle.answers.specs.Terminal.{paths_of, paths_total, terminal_given, terminal_tree}
use Rattle.answers.specs.Refined.{refined_of, edges_in, total_in, laid_of, laid_total, refined_given, refined_tree}
use Rattle.answers.specs.Both.{both_given, both_trees}
use Rattle.answers.specs.Slid.{slid_in, slid_of, slid_given, slid_tree}
use Rattle.answers.specs.Wires.{wires_given, wired}
use Rattle.answers.specs.Price.{net_price}
use Rattle.bought.specs.Bounds.{bought_bound}
use Rattle.bought.specs.Edges.{edges_of}
use Rattle.bought.specs.Verdict.{edges_miscounted, verdict, bought}
use Rattle.bought.specs.Rearranged.{Rearranged, none, keep}
use Rattle.bought.proofs.OrderLaws.{same-bought}
use Rattle.bought.proofs.GivenLaws.{first-pin}
use Rattle.answers.specs.Bought.{checked_tree}
use Rattle.lines.specs.Bounds.{grid_pins, grid_macros}
use Rattle.grid.specs.Distance.{Square}
use Rattle.grid.proofs.SquareLaws.{squares-same}
use Rattle.answers.specs.Distances.{above_grid, distances_given, grid_distances}
use Rattle.floats.specs.declared.Technology.{Technology}
use Rattle.floats.specs.Mark.{Delay}
use Rattle.delay.specs.Load.{load_of}
use Rattle.floats.specs.Mark.{marked, finites}
use Rattle.delay.specs.Answer.{delay_of, marks_of, delayed, delay_answer}
use Rattle.delay.proofs.LoadLaws.{loads-same}
use Rattle.delay.proofs.TimedLaws.{same-sorted, marks_of-same}
use Rattle.answers.specs.Delay.{loads_of, delays_of, delay_given, pin_delays}
use Rattle.best.specs.Tree.{BestTree}
use Rattle.promises.specs.EverySite.{shift_path, ShiftedEdges, SameOnSite, OnEverySite}
use Rattle.rules.specs.Moved.{moved_edge, moved_path}
use Rattle.site.specs.Shift.{shift, shift_entry, shift_macro, shift_net}
use Rattle.site.specs.Sites.{Shifted}
use Rattle.rules.proofs.TreesMoved.{path-cost}
use Rattle.site.proofs.NetShift.{moves-with, trees-shifted}
use Rattle.site.proofs.SlidShift.{slid-there}
use Rattle.site.proofs.TreeShift.{metal-there, total-there, wires-there, verdict-there}
use Rattle.site.proofs.GridShift.{square-there}
use Rattle.site.proofs.CheckShift.{places_of, places-there, check-there, many-pins, long-macros, allowed-there}
use Rattle.site.proofs.ShiftLaws.{same-there}
use Rattle.site.proofs.ListShift.{any-there}
use Rattle.site.proofs.DelayShift.{load-there, marks-there}
use Rattle.site.proofs.BestShift.{best-there}
use Rattle.answers.proofs.AnswerLaws.{only-refused}
use Rattle.promises.proofs.BestAlike.{same_code, same-work}
use Rattle.promises.proofs.DelayOrder.{places-once}

given-order : Order (first_then edge_before ltb)
given-order = pair-order edge_before ltb edge_order number-order

module _ (dx dy : ℤ) (w : Weighing) (pins pins' macros macros' : List ℤ) (s : Shifted dx dy pins pins' macros macros') where
  abbrev F : Place → Place
  F = shift dx dy

  abbrev E : Edge → Edge
  E = moved_edge (shift dx dy)

  pins-moved : Perm (map F (pin_places pins)) (pin_places pins')
  pins-moved = places-there dx dy w pins pins' macros macros' s

  same_check : checked w pins macros ≡ checked w pins' macros'
  same_check = check-there dx dy w pins pins' macros macros' s

  same-pins : pin_count pins ≡ pin_count pins'
  same-pins = many-pins dx dy w pins pins' macros macros' s

  same-macros : length macros ≡ length macros'
  same-macros = long-macros dx dy w pins pins' macros macros' s

  same-macro-count : macro_count macros ≡ macro_count macros'
  same-macro-count = ap (λ (k : ℕ). k / macro_width) same-macros

  same_points : point_count pins macros ≡ point_count pins' macros'
  same_points = ap₂ (λ (a b : ℕ). a + b / macro_width * 4) same-pins same-macros

  same-room : point_count pins macros + pin_count pins ≡ point_count pins' macros' + pin_count pins'
  same-room = ap₂ ◌+◌ same_points same-pins

  -- the shifted net, with its entries in the order of the second
  alike : Permᴰ (map F (pin_places pins)) (pin_places pins') → Permᴰ (map (shift_macro dx dy) (macros_of macros)) (macros_of macros') →
      SameNet (weights_of w) (map F (pin_places pins)) (pin_places pins') (map (shift_macro dx dy) (macros_of macros)) (macros_of macros')
  alike d e = record {
    to = perm-among d;
    from = perm-among (Permᴰ.symm d);
    count = length-perm _ _ pins-moved;
    macros-to = perm-among e;
    macros-from = perm-among (Permᴰ.symm e);
    clears = λ x y. clear-perm x y _ _ s.macros-there;
  }

  -- Best trees: what they cost

  same-best-cost : (T U : List Edge) → BestTree (net_of w pins macros) T → BestTree (net_of w pins' macros') U →
      lengths (cost_in (net_of w pins macros)) T ≡ lengths (cost_in (net_of w pins' macros')) U
  same-best-cost T U t u =
      ∥∥₁_elim pins-moved (ℕ_set _ _) λ d.
      ∥∥₁_elim s.macros-there (ℕ_set _ _) λ e.
      best-there dx dy (weights_of w) (pin_places pins) (pin_places pins') (macros_of macros) (macros_of macros') (alike d e) T U
      t.best u.best

  -- Refused

  module _ (n : ℕ) (r : checked w pins macros ≡ refused n) where
    both : {A : Type 0} (x y : Told A) → only_if (checked w pins macros) x ≡ only_if (checked w pins' macros') y
    both x y = only-refused _ x n r ∙ sym (only-refused _ y n (sym same_check ∙ r))

    untouched : {A X : Type 0} (x y : Told A) (xs ys lent : List X) →
        after (only_if (checked w pins macros) x) xs lent ≡ after (only_if (checked w pins' macros') y) ys lent
    untouched x y xs ys lent =
        sym (after-refused _ xs lent n (only-refused _ x n r)) ∙ after-refused _ ys lent n (only-refused _ y n (sym same_check ∙ r))

    refused-both : SameOnSite dx dy w pins pins' macros macros'
    unfolding graphed terminal_tree refined_tree both_trees slid_tree wired net_price grid_distances checked_tree pin_delays
    refused-both = record {
      check = same_check;
      graph = λ v e. both _ _;
      vertices = λ v e lent. untouched _ _ _ _ lent;
      edges = λ v e lent. untouched _ _ _ _ lent;
      terminal = λ room. both _ _;
      paths = λ room lent. untouched _ _ _ _ lent;
      refined = λ room. both _ _;
      laid = λ room lent. untouched _ _ _ _ lent;
      both = λ room. both _ _;
      both-laid = λ room lent. untouched _ _ _ _ lent;
      slid = λ room. both _ _;
      slid-edges = λ room lent. untouched _ _ _ _ lent;
      wires = λ room. both _ _;
      drawn = λ room lent. untouched _ _ _ _ lent;
      price = λ bands. both _ _;
      distances = λ room. both _ _;
      table = λ t u k r room lent. untouched _ _ _ _ lent;
      bought = λ edges edges' k. both _ _;
      delay = λ driver t room. both _ _;
      delays = λ driver t room lent. untouched _ _ _ _ lent;
      best = same_code w pins pins' macros macros' same_check same-pins same-macro-count;
      best-work = same-work w pins pins' macros macros' same_check same-pins same-macro-count;
      best-cost = same-best-cost;
    }

  -- Allowed

  module _ (net : Counts) (g : checked w pins macros ≡ given net) where
    abbrev N : Net
    N = net_of w pins macros

    abbrev M : Net
    M = net_of w pins' macros'

    a : Allowed N
    a = (given-allowed w pins macros g).1

    b : Allowed M
    b = (given-allowed w pins' macros' (sym same_check ∙ g)).1

    same-vertices : map F (net_vertices w pins macros) ≡ net_vertices w pins' macros'
    unfolding net_vertices
    same-vertices =
        ∥∥₁_elim pins-moved (order-lists-set place-order _ _) λ d.
        ∥∥₁_elim s.macros-there (order-lists-set place-order _ _) λ e.
        (trees-shifted dx dy (weights_of w) (pin_places pins) (pin_places pins') (macros_of macros) (macros_of macros') (alike d e) a b).vertices

    same_edges : map E (net_edges w pins macros) ≡ net_edges w pins' macros'
    unfolding net_edges net_vertices
    same_edges =
        ∥∥₁_elim pins-moved (order-lists-set edge_order _ _) λ d.
        ∥∥₁_elim s.macros-there (order-lists-set edge_order _ _) λ e.
        (trees-shifted dx dy (weights_of w) (pin_places pins) (pin_places pins') (macros_of macros) (macros_of macros') (alike d e) a b).edges

    same-laid : map E (laid_of w pins macros) ≡ laid_of w pins' macros'
    unfolding edges_in refined_of
    same-laid =
        ∥∥₁_elim pins-moved (order-lists-set edge_order _ _) λ d.
        ∥∥₁_elim s.macros-there (order-lists-set edge_order _ _) λ e.
        (trees-shifted dx dy (weights_of w) (pin_places pins) (pin_places pins') (macros_of macros) (macros_of macros') (alike d e) a b).refined

    -- what is given for a shifted path
    given-there : SameNet (weights_of w) (map F (pin_places pins)) (pin_places pins') (map (shift_macro dx dy) (macros_of macros))
        (macros_of macros') → (ks : List Path) → map (given_for M) (map (moved_path F) ks) ≡ map (shift_path dx dy) (map (given_for N) ks)
    given-there h [] = refl
    given-there h (k ∷ ks) =
        ap₂ (λ (n : ℕ) (l : List (Edge × ℕ)). (E k.bridge, n) ∷ l)
        (path-cost (moves-with dx dy (weights_of w) (pin_places pins) (pin_places pins') (macros_of macros) (macros_of macros') h) k)
        (given-there h ks)

    same-paths : map (shift_path dx dy) (paths_of w pins macros) ≡ paths_of w pins' macros'
    unfolding paths_of
    same-paths =
        ∥∥₁_elim pins-moved (order-lists-set given-order _ _) λ d.
        ∥∥₁_elim s.macros-there (order-lists-set given-order _ _) λ e.
        ap (map (shift_path dx dy)) (sym (paths-given a)) ∙ sym (given-there (alike d e) (our_paths a))
        ∙ ap (map (given_for M)) (trees-shifted dx dy (weights_of w) (pin_places pins) (pin_places pins') (macros_of macros) (macros_of macros')
        (alike d e) a b).paths
        ∙ paths-given b

    same-slid : map E (slid_of w pins macros) ≡ slid_of w pins' macros'
    unfolding slid_in
    same-slid =
        ∥∥₁_elim pins-moved (order-lists-set edge_order _ _) λ d.
        ∥∥₁_elim s.macros-there (order-lists-set edge_order _ _) λ e.
        sym (slid-there dx dy N (laid_of w pins macros))
        ∙ slid-same (shift_net dx dy N) M (perm-among e) (perm-among (Permᴰ.symm e)) (perm-among d) (perm-among (Permᴰ.symm d)) refl
        (map E (laid_of w pins macros))
        ∙ ap (slid M) same-laid

    numbers-same : (l : List (Edge × ℕ)) → map (λ (k : Edge × ℕ). k.1) (map (shift_path dx dy) l) ≡ map (λ (k : Edge × ℕ). k.1) l
    numbers-same [] = refl
    numbers-same (k ∷ l) = ap (λ (r : List ℕ). k.1 ∷ r) (numbers-same l)

    same_total : paths_total w pins macros ≡ paths_total w pins' macros'
    unfolding paths_total paths_of
    same_total =
        paths-sum a ∙ ap total (sym (numbers-same (paths_of w pins macros)))
        ∙ ap (λ (l : List (Edge × ℕ)). total (map (λ k. k.1) l)) same-paths ∙ sym (paths-sum b)

    -- sums of shifted edges
    cost-of : (T U : List Edge) → map E T ≡ U → lengths (cost_in N) T ≡ lengths (cost_in M) U
    cost-of T U e = sym (total-there dx dy N T) ∙ ap (lengths (cost_in M)) e

    metal-of : (T U : List Edge) → map E T ≡ U → metal T ≡ metal U
    metal-of T U e = sym (metal-there dx dy T) ∙ ap metal e

    many-of : {A B : Type 0} (f : A → B) (l : List A) (m : List B) → map f l ≡ m → length l ≡ length m
    many-of f l m e = sym (length-map l f) ∙ ap length e

    -- so the answers are the same

    same_graph : (v e : ℕ) → graphed w pins macros v e ≡ graphed w pins' macros' v e
    unfolding graphed graph_given
    same_graph v e =
        ap₂ only_if same_check
        (ap₂ (λ (n : ℕ) (counts : ℕ × ℕ). cond (graph_room_short n v e) (refused 21) (given counts)) same_points
        (ap₂ (λ (m n : ℕ). (m, n)) (many-of F (net_vertices w pins macros) (net_vertices w pins' macros') same-vertices)
        (many-of E (net_edges w pins macros) (net_edges w pins' macros') same_edges)))

    same-terminal : (room : ℕ) → terminal_tree w pins macros room ≡ terminal_tree w pins' macros' room
    unfolding terminal_tree terminal_given
    same-terminal room =
        ap₂ only_if same_check
        (ap₂ (λ (m : ℕ) (z : ℕ × ℤ). if_room (m * 5) room z) same-pins
        (ap₂ (λ (n t : ℕ). (n, pos t)) (many-of (shift_path dx dy) (paths_of w pins macros) (paths_of w pins' macros') same-paths) same_total))

    same-refined : (room : ℕ) → refined_tree w pins macros room ≡ refined_tree w pins' macros' room
    unfolding refined_tree refined_given total_in
    same-refined room =
        ap₂ only_if same_check
        (ap₂ (λ (n : ℕ) (z : ℕ × (ℤ × ℤ)). if_room (n * 4) room z) same-room
        (ap₂ (λ (n : ℕ) (z : ℤ × ℤ). (n, z)) (many-of E (laid_of w pins macros) (laid_of w pins' macros') same-laid)
        (ap₂ (λ (t m : ℕ). (pos t, pos m)) (cost-of (laid_of w pins macros) (laid_of w pins' macros') same-laid)
        (metal-of (laid_of w pins macros) (laid_of w pins' macros') same-laid))))

    same-both : (room : ℕ) → both_trees w pins macros room ≡ both_trees w pins' macros' room
    unfolding both_trees both_given total_in
    same-both room =
        ap₂ only_if same_check
        (ap₂ (λ (n : ℕ) (z : ℕ × (ℤ × (ℤ × ℤ))). if_room (n * 4) room z) same-room
        (ap₂ (λ (n : ℕ) (z : ℤ × (ℤ × ℤ)). (n, z)) (many-of E (laid_of w pins macros) (laid_of w pins' macros') same-laid)
        (ap₂ (λ (t : ℕ) (z : ℤ × ℤ). (pos t, z)) same_total
        (ap₂ (λ (t m : ℕ). (pos t, pos m)) (cost-of (laid_of w pins macros) (laid_of w pins' macros') same-laid)
        (metal-of (laid_of w pins macros) (laid_of w pins' macros') same-laid)))))

    same-slid-tree : (room : ℕ) → slid_tree w pins macros room ≡ slid_tree w pins' macros' room
    unfolding slid_tree slid_given
    same-slid-tree room =
        ap₂ only_if same_check
        (ap₂ (λ (n : ℕ) (z : ℕ × (ℤ × ℤ)). if_room (n * 8) room z) same-room
        (ap₂ (λ (n : ℕ) (z : ℤ × ℤ). (n, z)) (many-of E (slid_of w pins macros) (slid_of w pins' macros') same-slid)
        (ap₂ (λ (t m : ℕ). (pos t, pos m)) (cost-of (slid_of w pins macros) (slid_of w pins' macros') same-slid)
        (metal-of (slid_of w pins macros) (slid_of w pins' macros') same-slid))))

    same-drawn : map E (wires (laid_of w pins macros)) ≡ wires (laid_of w pins' macros')
    same-drawn = sym (wires-there dx dy (laid_of w pins macros)) ∙ ap wires same-laid

    same-wires : (room : ℕ) → wired w pins macros room ≡ wired w pins' macros' room
    unfolding wired wires_given
    same-wires room =
        ap₂ only_if same_check
        (ap₂ (λ (n k : ℕ). if_room (n * 8) room k) same-room
        (many-of E (wires (laid_of w pins macros)) (wires (laid_of w pins' macros')) same-drawn))

    same-price : (bands : List ℕ) → net_price w pins macros bands ≡ net_price w pins' macros' bands
    unfolding net_price
    same-price bands =
        ap₂ only_if same_check (ap (λ (m : ℕ). priced m bands) (metal-of (laid_of w pins macros) (laid_of w pins' macros') same-laid))

    same-distances : (room : ℕ) → grid_distances w pins macros room ≡ grid_distances w pins' macros' room
    unfolding grid_distances distances_given above_grid
    same-distances room =
        ap₂ only_if same_check
        (ap₂ (λ (m k : ℕ). cond (ltb grid_pins m || ltb grid_macros k) (refused 36) (if_room (m * m) room (m * m))) same-pins
        same-macro-count)

    c : Allowed (shift_net dx dy N)
    c = allowed-there dx dy w pins pins' macros macros' s a

    same-table : (t u : List ℕ) → Square N t → Square M u → t ≡ u
    same-table t u k r =
        ∥∥₁_elim pins-moved (order-lists-set number-order _ _) λ d.
        squares-same (weights_of w)
        (record {
          to = perm-among d;
          from = perm-among (Permᴰ.symm d);
          count = length-perm _ _ pins-moved;
          clears = λ x y. clear-perm x y _ _ s.macros-there;
        }) c b t u (square-there dx dy a t k) r

    same-checked : (edges edges' : List ℤ) → ShiftedEdges dx dy edges edges'
        → checked_tree w pins macros edges ≡ checked_tree w pins' macros' edges'
    unfolding checked_tree bought edges_miscounted
    same-checked edges edges' k =
        ap₂ only_if same_check
        (ap₂ (λ (n : ℕ) (v : Told (ℤ × ℤ)). cond (not (eqb (n % 4) 0) || ltb bought_bound (n / 4) || any out_of_range edges) (refused 33) v)
        k.many
        (sym (verdict-there dx dy N (edges_of edges)) ∙ ap (verdict (shift_net dx dy N)) (sym k.are))
        ∙ ap (λ (t : Bool). cond (not (eqb (length edges' % 4) 0) || ltb bought_bound (length edges' / 4) || t) (refused 33)
        (verdict (shift_net dx dy N) (edges_of edges'))) (k.here ∙ sym k.there)
        ∙ same-bought pins-moved (first-pin c) (first-pin b) (weights_of w) (map (shift_macro dx dy) (macros_of macros)) (macros_of macros')
        (λ x y. clear-perm x y _ _ s.macros-there) edges' edges' (record { many = refl; order = kept (edges_of edges') }))
      where
        kept : (T : List Edge) → Rearranged T T
        kept [] = none
        kept (e ∷ T) = keep (kept T)

    -- Delays: the tree and the driver move, loads go with their pins, and the pins are given in the order of places

    there-once : Once (map (λ (e : Place × ℤ). e.0) (map (shift_entry dx dy) (pin_entries pins)))
    there-once = rw (places_of dx dy pins) (apart-once (map F (pin_places pins)) c.pins-apart)

    same_load : (x : Place) → load_of (map (shift_entry dx dy) (pin_entries pins)) x ≡ loads_of pins' x
    same_load x =
        ∥∥₁_elim s.pins-there (ℕ_set _ _) λ d.
        loads-same (map (shift_entry dx dy) (pin_entries pins)) (pin_entries pins') there-once (places-once w pins' macros' b)
        (perm-among d) (perm-among (Permᴰ.symm d)) x

    same-order : sorted before (map F (pin_places pins)) ≡ sorted before (pin_places pins')
    same-order =
        ∥∥₁_elim pins-moved (order-lists-set place-order _ _) λ d.
        same-sorted _ _ (perm-among d) (perm-among (Permᴰ.symm d))

    module _ (driver : Place) (t : Technology) where
      same-marks : delays_of w pins macros driver t ≡ delays_of w pins' macros' (F driver) t
      unfolding delays_of marks_of
      same-marks =
          sym (marks-there dx dy (laid_of w pins macros) (loads_of pins) (load_of (map (shift_entry dx dy) (pin_entries pins)))
          (λ p. sym (load-there dx dy (pin_entries pins) p)) t driver (pin_places pins))
          ∙ marks_of-same (map E (laid_of w pins macros)) (map E (laid_of w pins macros)) (λ x m. m) (λ x m. m) refl
          (load_of (map (shift_entry dx dy) (pin_entries pins))) (loads_of pins') same_load t (F driver)
          (map F (pin_places pins)) (map F (pin_places pins)) (λ x m. m) (λ x m. m)
          ∙ ap₂ (λ (es : List Edge) (l : List Place). map (λ x. marked (delay_of es (loads_of pins') t (F driver) x)) l) same-laid same-order

      same-found : any (same_place driver) (pin_places pins) ≡ any (same_place (F driver)) (pin_places pins')
      same-found =
          sym (any-there F (same_place driver) (same_place (F driver)) (same-there dx dy driver) (pin_places pins))
          ∙ any-perm (same_place (F driver)) _ _ pins-moved

      same-told : (room : ℕ) → pin_delays w pins macros driver t room ≡ pin_delays w pins' macros' (F driver) t room
      unfolding pin_delays delay_given delay_answer delays_of
      same-told room =
          ap₂ only_if same_check
          (ap (λ (n : ℕ). delayed room n t (any (same_place driver) (pin_places pins)) (delays_of w pins macros driver t))
          (sym (length-map (pin_places pins) F) ∙ length-perm _ _ pins-moved)
          ∙ ap₂ (λ (f : Bool) (l : List Delay). delayed room (length (pin_places pins')) t f l) same-found same-marks)

    given_both : SameOnSite dx dy w pins pins' macros macros'
    given_both = record {
      check = same_check;
      graph = same_graph;
      vertices = λ v e lent. ap₂ (λ t l. after t (flat place_numbers l) lent) (same_graph v e) same-vertices;
      edges = λ v e lent. ap₂ (λ t l. after t (flat edge_numbers l) lent) (same_graph v e) same_edges;
      terminal = same-terminal;
      paths = λ room lent. ap₂ (λ t l. after t (flat path_numbers l) lent) (same-terminal room) same-paths;
      refined = same-refined;
      laid = λ room lent. ap₂ (λ t l. after t (flat edge_numbers l) lent) (same-refined room) same-laid;
      both = same-both;
      both-laid = λ room lent. ap₂ (λ t l. after t (flat edge_numbers l) lent) (same-both room) same-laid;
      slid = same-slid-tree;
      slid-edges = λ room lent. ap₂ (λ t l. after t (flat edge_numbers l) lent) (same-slid-tree room) same-slid;
      wires = same-wires;
      drawn = λ room lent. ap₂ (λ t l. after t (flat edge_numbers l) lent) (same-wires room) same-drawn;
      price = same-price;
      distances = same-distances;
      table = λ t u k r room lent. ap₂ (λ (z : Told ℕ) (l : List ℕ). after z (map pos l) lent) (same-distances room) (same-table t u k r);
      bought = same-checked;
      delay = same-told;
      delays = λ driver t room lent.
          ap₂ (λ (z : Told ℕ) (l : List Delay). after z (finites l) lent) (same-told driver t room) (same-marks driver t);
      best = same_code w pins pins' macros macros' same_check same-pins same-macro-count;
      best-work = same-work w pins pins' macros macros' same_check same-pins same-macro-count;
      best-cost = same-best-cost;
    }

  pub every-site : SameOnSite dx dy w pins pins' macros macros'
  every-site = at (checked w pins macros) refl
    where
      at : (t : Told Counts) → checked w pins macros ≡ t → SameOnSite dx dy w pins pins' macros macros'
      at (refused n) r = refused-both n r
      at (given net) g = given_both net g

pub on-every-site : OnEverySite
on-every-site = record { every-site = every-site }
