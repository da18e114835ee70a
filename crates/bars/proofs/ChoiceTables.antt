-- The round's choice by the tables is the round's choice by the definitions, and its label is that of its bar.
-- Assumes nothing.
use mathlib.Core.Path.{◌≡◌, refl, sym, ap, ap₂, ◌∙◌}
use mathlib.Core.Bool.{Bool, true, false}
use mathlib.Core.List.Memᴰ
use mathlib.Core.List.{List, [], ◌∷◌, ◌++◌}
use Prim.Native.Nat.{ℕ, zero, suc, ◌≤◌, ◌<◌}
use native.Mathlib.Omega.{arith}
use borrow.Author.Tests.{eqb-true, eqb-false, eq-eqb, ltb-true, ltb-false}
use lib.Dec.{eqb, leb, ltb}
use lib.IntN.{ℤ}
use lib.ListN.{length, get_or, replicate, length-replicate}
use Rattle.lists.specs.Any.{any}
use Rattle.lists.specs.Member.{◌∈◌}
use Rattle.lists.proofs.TestLaws.{by, differ, either, and_both}
use Rattle.lists.proofs.SortedLaws.{in-sorted}
use Rattle.plane.specs.declared.Place.{Place}
use Rattle.plane.specs.declared.Macro.{Macro}
use Rattle.plane.specs.Place.{before}
use Rattle.plane.specs.Flat.{place_at, macros_of}
use Rattle.plane.proofs.Fits.{PlaceFits, MacroFits}
use Rattle.plane.proofs.PlaceLaws.{before-irrefl}
use Rattle.plane.proofs.PlaceOrder.{place-order}
use Rattle.net.specs.Net.{Net}
use Rattle.net.specs.Bounds.{pin_bound}
use Rattle.net.specs.Pins.{pin_at}
use Rattle.tree.specs.Table.{tree}
use Rattle.joined.specs.Joined.{Link}
use Rattle.joined.proofs.JoinedLaws.{back, has-link}
use Rattle.slide.specs.declared.Side.{Side}
use Rattle.slide.specs.declared.Side.TheVariants.{Above, Below, Right, Left}
use Rattle.slide.specs.Side.{horizontal}
use Rattle.slide.specs.Bend.{Edge}
use Rattle.slide.specs.Bar.{level, on_bar}
use Rattle.slide.specs.Slide.{ends, tree_points, better, move_of, choice}
use Rattle.slide.specs.Promise.{Smaller}
use Rattle.slide.proofs.OneMove.{one-move}
use Rattle.straight.specs.Table.{run, first_end, second_end, edge_at, edges_in, points_in, Held}
use Rattle.straight.proofs.RunLaws.{run_length, in-run, of-run}
use Rattle.bars.specs.declared.Best.{Best}
use Rattle.reach.specs.declared.Size.{Size}
use Rattle.turned.specs.Steps.{up_to}
use Rattle.turned.specs.Turned.{View, view, on_it, level_at}
use Rattle.labels.specs.Labelling.{leads, labelled, labels_for}
use Rattle.hanging.specs.Hanging.{hang}
use Rattle.moves.specs.Moving.{held, bar, opposite, seat_of}
use Rattle.bars.specs.Offers.{best, move_by, reach_of, taken, offered, offered_both, no_move, searched}
use Rattle.moves.specs.Moving.{seats_of}
use Rattle.reach.proofs.CodeLaws.{reach-less}
use Rattle.labels.proofs.LabelLaws.{level_pairs, Labelled, labelled-is, set_below}
use Rattle.bars.proofs.OnLaws.{seat-is, of-pairs, level-at, on-is, level-opposite, on-opposite}
use Rattle.reach.proofs.ExemptLaws.{any-run}
use Rattle.bars.proofs.AgreeLaws.{Agrees}
use Rattle.bars.proofs.MoveLaws.{not_after, Stood, Ready}
use Rattle.bars.proofs.DistanceLaws.{reach-is}
use Rattle.bars.proofs.SearchLaws.{Again, Direction, searched-agrees}

-- the tables of a straight tree of the net: its points are the tree points, its numbers fit, and the flat lists are the net's
pub record Tables (net : Net) (pts : List ℤ) (ks : List ℕ) (z : Size) (pins ms : List ℤ) : Type 0 where
  pub held : Held (tree pts z.points ks z.edges)
  pub points : tree_points net (edges_in pts ks z.edges) ≡ points_in pts z.points
  pub fits : (i : ℕ) → i < z.points → PlaceFits (place_at pts i)
  pub pins-are : net.pins ≡ run (pin_at pins) 0 z.pins
  pub few-pins : z.pins ≤ pin_bound
  pub macros-are : net.macros ≡ macros_of ms
  pub macro-fits : (m : Macro) → m ∈ net.macros → MacroFits m
  pub weights-are : z.weights ≡ net.weights
  pub smaller : Smaller (edges_in pts ks z.edges)

-- the label of the best move is that of its bar
pub record Tied (pts : List ℤ) (n : ℕ) (T : List Edge) (rows columns : List ℕ) (r : Best) : Type 0 where
  pub low : r.label < n
  pub first : r.best.first ≡ place_at pts r.label
  pub on : (i : ℕ) → i < n →
      on_bar r.best.side T r.best.first (place_at pts i) ≡ eqb (get_or (labels_for r.best.side rows columns) i 0) r.label

-- What holds of the best so far and of every bar's move holds of the best of all

module _ (P : Best → Type 0) (z : Size) (ms : List ℤ) (seats : List ℕ) where
  offered-keeps : (v : View) (c : Best) → P c → ((d : ℕ) → P (best v.label (move_by v z d))) → P (offered v z ms seats c)
  unfolding offered taken
  offered-keeps v c p q =
      by (leb (hang v z.edges).ahead (hang v z.edges).behind)
      (λ e. rw (offered, e) p)
      (λ e. by (better (move_by v z (hang v z.edges).shortest) c.best)
      (λ g. by (held v seats z.pins)
      (λ h. rw (offered, e, g, h) p)
      (λ h. by (better (move_by v z (reach_of v z ms)) c.best)
      (λ u. rw (offered, e, g, h) (rw (taken, u) (q (reach_of v z ms))))
      (λ u. rw (offered, e, g, h) (rw (taken, u) p))))
      (λ g. rw (offered, e, g) p))

  module _ (pts : List ℤ) (ks : List ℕ) where
    abbrev Moves : List ℕ → Side → ℕ → Type 0
    Moves lab s k = (d : ℕ) → P (best (get_or lab (first_end (get_or ks k 0)) 0)
        (move_by (view pts ks lab s (get_or lab (first_end (get_or ks k 0)) 0)) z d))

    both-keeps : (lab : List ℕ) (s : Side) (k : ℕ) (c : Best) → P c → Moves lab s k → Moves lab (opposite s) k
        → P (offered_both pts ks lab z ms seats s k c)
    unfolding offered_both
    both-keeps lab s k c p q o =
        by (leads s pts ks lab k)
        (λ e. rw (offered_both, e) (offered-keeps _ _ (offered-keeps _ c p q) o))
        (λ e. rw (offered_both, e) p)

    module _ (rows columns : List ℕ) (e : ℕ)
        (above : (k : ℕ) → k < e → Moves rows Above k) (below : (k : ℕ) → k < e → Moves rows Below k)
        (right : (k : ℕ) → k < e → Moves columns Right k) (left : (k : ℕ) → k < e → Moves columns Left k) where
      searched-keeps : (k : ℕ) → k ≤ e → P no_move
          → P (up_to (λ k c. offered_both pts ks columns z ms seats Right k (offered_both pts ks rows z ms seats Above k c)) k no_move)
      unfolding up_to opposite
      searched-keeps zero h p = p
      searched-keeps (suc k) h p =
          both-keeps columns Right k _
          (both-keeps rows Above k _ (searched-keeps k (omega arith) p) (above k (omega arith)) (below k (omega arith)))
          (right k (omega arith)) (left k (omega arith))

module _ {net : Net} {pts : List ℤ} {ks : List ℕ} {z : Size} {pins ms : List ℤ} (g : Tables net pts ks z pins ms) where
  abbrev n : ℕ
  n = z.points

  abbrev e : ℕ
  e = z.edges

  abbrev T : List Edge
  T = edges_in pts ks z.edges

  abbrev seats : List ℕ
  seats = seats_of pts z.points pins z.pins (replicate pin_bound 0)

  within : (k : ℕ) → k < e → (first_end (get_or ks k 0) < n) × (second_end (get_or ks k 0) < n)
  within k h = g.held.within.ends k

  -- an edge has its smaller point first
  ends-rise : (k : ℕ) → k < e → first_end (get_or ks k 0) < second_end (get_or ks k 0)
  ends-rise k h =
      let a = first_end (get_or ks k 0) in
      let b = second_end (get_or ks k 0) in
      let m = g.smaller (place_at pts a) (place_at pts b) (in-run (edge_at pts ks) e 0 k (omega arith) (omega (arith, h))) in
      by (ltb a b) (λ t. ltb-true a b t)
      (λ t. by (eqb a b)
      (λ y. differ (ap (λ (i : ℕ). before (place_at pts a) (place_at pts i)) (eqb-true a b y) ∙ m) (before-irrefl (place_at pts a)))
      (λ y.
      let d = eqb-false a b y in
      let u = ltb-false a b t in
      differ m (not_after _ _ (g.held.ordered b a (omega (arith, d, u)) (within k h).0))))

  -- Pins

  pin-in : (j : ℕ) → j < z.pins → pin_at pins j ∈ points_in pts n
  unfolding tree_points
  pin-in j h =
      let m : pin_at pins j ∈ net.pins = rw g.pins-are (in-run (pin_at pins) z.pins 0 j (omega arith) (omega (arith, h))) in
      rw (sym g.points) (in-sorted before place-order (net.pins ++ ends T) (pin_at pins j) (Memᴰ.append_left (ends T) m))

  seat-at : (j : ℕ) → j < z.pins → get_or seats j 0 ≡ seat_of pts n (pin_at pins j)
  unfolding seats_of
  seat-at j h =
      set_below (λ i y. seat_of pts n (pin_at pins i)) (replicate pin_bound 0) z.pins j
      (omega (arith, g.few-pins, length-replicate {A = ℕ} pin_bound 0)) h

  module _ (v : View) (on : Place → Bool) (is : (i : ℕ) → i < n → on (place_at pts i) ≡ on_it v i) where
    pin-on : (j : ℕ) → j < z.pins → on (pin_at pins j) ≡ on_it v (get_or seats j 0)
    pin-on j h =
        let u = of-run (place_at pts) n 0 (pin_at pins j) (pin-in j h) in
        let l : u.number < n = omega (arith, u.high) in
        let q : get_or seats j 0 ≡ u.number = seat-at j h ∙ ap (seat_of pts n) u.is ∙ seat-is pts n g.held.ordered u.number l in
        ap on u.is ∙ is u.number l ∙ ap (on_it v) (sym q)

    pinned : any on net.pins ≡ held v seats z.pins
    unfolding held
    pinned = ap (any on) g.pins-are ∙ any-run on (pin_at pins) (λ j. on_it v (get_or seats j 0)) z.pins pin-on

  -- A direction: its table of labels

  module _ (s : Side) (t : List ℕ) (room : n ≤ length t) where
    abbrev lab : List ℕ
    lab = labelled s pts ks n e t

    lab-is : Labelled s pts ks n e lab
    lab-is = labelled-is s pts ks n e within t room

    levels : (k : ℕ) → k < e → level s (edge_at pts ks k) ≡ level_at s pts ks k
    levels k h = level-at s pts ks n e within g.fits k h

    -- the label of a point, and a point by its own label
    label-low : (a : ℕ) → a < n → get_or lab a 0 < n
    label-low a h = let q = lab-is.holds a h in omega (arith, q, lab-is.least a, h)

    label-own : (a : ℕ) → a < n → get_or lab (get_or lab a 0) 0 ≡ get_or lab a 0
    label-own a h =
        let q = lab-is.holds a h in
        lab-is.holds (get_or lab a 0) (label-low a h) ∙ ap lab-is.label q ∙ lab-is.labels.own a ∙ sym q

    label-least : (a i : ℕ) → i < n → eqb (get_or lab i 0) (get_or lab a 0) ≡ true → get_or lab a 0 ≤ i
    label-least a i h q =
        let u = eqb-true (get_or lab i 0) (get_or lab a 0) q in
        let w = lab-is.holds i h in
        omega (arith, u, w, lab-is.least i)

    on-label : (a i : ℕ) → a < n → i < n → on_bar s T (place_at pts a) (place_at pts i) ≡ eqb (get_or lab i 0) (get_or lab a 0)
    on-label a i h l = on-is s pts ks n e within g.fits g.held.ordered lab lab-is a i h l

    -- to this side, and to the other
    pub record Way (o : Side) : Type 0 where
      pub on-too : (a i : ℕ) → a < n → i < n → on_bar o T (place_at pts a) (place_at pts i) ≡ eqb (get_or lab i 0) (get_or lab a 0)
      pub levels-too : (k : ℕ) → k < e → level o (edge_at pts ks k) ≡ level_at s pts ks k

    plain : Way s
    plain = record { on-too = on-label; levels-too = levels }

    turned : Way (opposite s)
    turned = record {
      on-too = λ a i h l. on-opposite s T (place_at pts a) (place_at pts i) ∙ on-label a i h l;
      levels-too = λ k h. level-opposite s (edge_at pts ks k) ∙ levels k h;
    }

    module _ (o : Side) (w : Way o) (k : ℕ) (h : k < e) where
      abbrev a : ℕ
      a = first_end (get_or ks k 0)

      abbrev v : View
      v = view pts ks lab o (get_or lab a 0)

      stood : Stood net v z ms seats k a
      stood = record {
        sees = record { is = λ i l. w.on-too a i (within k h).0 l; within = within; fits = g.fits };
        ordered = g.held.ordered;
        points = g.points;
        start = refl;
        low = (within k h).0;
        label-low = label-low a (within k h).0;
        label-on = eq-eqb _ _ (label-own a (within k h).0);
        least = λ i l q. label-least a i l q;
      }

      far : reach_of v z ms ≤ (hang v e).shortest
      unfolding reach_of
      far = reach-less v n e ms (bar v n (hang v e).shortest) (reach_of v z ms) refl

      ready : level_at s pts ks k ≡ true → Ready net v z ms seats k a
      ready q = record {
        stood = stood;
        flat = w.levels-too k h ∙ q;
        pinned = pinned v (on_bar o T (place_at pts a)) stood.sees.is;
        weights = g.weights-are;
        reaches = λ none. reach-is stood g.macros-are g.macro-fits none;
        far = far;
      }

    -- A first edge of the bar comes before the others

    module _ (k : ℕ) (h : k < e) (q : level_at s pts ks k ≡ true) (f : leads s pts ks lab k ≡ false) where
      abbrev start : ℕ
      start = first_end (get_or ks k 0)

      abbrev low_end : ℕ
      low_end = lab-is.label start

      not_own : low_end ≡ start → ⊥
      unfolding leads
      not_own y = differ (and_both _ _ q (eq-eqb _ _ (lab-is.holds start (within k h).0 ∙ y))) f

      l-less : low_end < start
      l-less = let y = lab-is.least start in let d = not_own in omega (arith, y, d)

      -- the first edge from the bar's first point
      record First : Type 0 where
        number : ℕ
        low : number < e
        is-level : level_at s pts ks number ≡ true
        from : low_end ≡ first_end (get_or ks number 0)

      first_of : (c : ℕ) → Link (level_pairs s pts ks e) low_end c → First
      first_of c m =
          either
          (λ i. let p = of-pairs s pts ks n e within g.fits e low_end c i in
          record { number = p.number; low = p.low; is-level = p.is-level; from = p.first })
          (λ i.
          let p = of-pairs s pts ks n e within g.fits e c low_end i in
          let u = p.first in
          let y = p.second in
          let o = ends-rise p.number p.low in
          let w = lab-is.labels.ends c low_end i ∙ lab-is.labels.own start in
          absurd (let x : ⊥ = omega (arith, u, y, o, w, lab-is.least c) in x))
          m

      first_edge : First
      first_edge = let u = has-link not_own (back (lab-is.labels.to start)) in first_of u.0 u.1

      abbrev first_one : ℕ
      first_one = first_edge.number

      earlier : first_one < k
      earlier =
          by (ltb first_one k) (λ t. ltb-true first_one k t)
          (λ t. by (eqb k first_one)
          (λ y. absurd (not_same (eqb-true k first_one y)))
          (λ y. absurd (not-later (let d = eqb-false k first_one y in let b = ltb-false first_one k t in omega (arith, d, b)))))
        where
          u : low_end ≡ first_end (get_or ks first_one 0)
          u = first_edge.from

          not_same : k ≡ first_one → ⊥
          not_same y = let d = ap (λ (i : ℕ). first_end (get_or ks i 0)) y in omega (arith, u, d, l-less)

          not-later : k < first_one → ⊥
          not-later l = let v = g.held.rising k first_one l first_edge.low in omega (arith, u, v, l-less)

      point-in : (i : ℕ) → i < e → (edge_at pts ks i).0 ∈ tree_points net T
      point-in i c = rw g.points (in-run (place_at pts) n 0 (first_end (get_or ks i 0)) (omega arith)
          (let w = within i c in omega (arith, w)))

      same-label : get_or lab start 0 ≡ get_or lab (first_end (get_or ks first_one 0)) 0
      same-label =
          lab-is.holds start (within k h).0
          ∙ sym (lab-is.labels.own start)
          ∙ ap lab-is.label first_edge.from
          ∙ sym (lab-is.holds (first_end (get_or ks first_one 0)) (within first_one first_edge.low).0)

      same-moves : (o : Side) → Way o → move_of net T o (edge_at pts ks k) ≡ move_of net T o (edge_at pts ks first_one)
      same-moves o w =
          one-move net T o (edge_at pts ks first_one) (edge_at pts ks k) (point-in first_one first_edge.low) (point-in k h)
          (w.levels-too first_one first_edge.low ∙ first_edge.is-level) (w.levels-too k h ∙ q)
          (w.on-too (first_end (get_or ks first_one 0)) start (within first_one first_edge.low).0 (within k h).0 ∙ eq-eqb _ _ same-label)

      again : Again net pts ks z ms seats s k
      again = record { earlier = first_one; low = earlier; one = same-moves s plain; other = same-moves (opposite s) turned }

    direction : Direction net pts ks z ms seats s lab
    direction = record {
      levels = levels;
      levels-too = turned.levels-too;
      ready = λ k h q. ready s plain k h q;
      ready-too = λ k h q. ready (opposite s) turned k h q;
      again = again;
    }

  module _ (rows columns : List ℕ) (room : n ≤ length rows) (space : n ≤ length columns) where
    abbrev R : List ℕ
    R = labelled Above pts ks n e rows

    abbrev C : List ℕ
    C = labelled Right pts ks n e columns

    abbrev r : Best
    r = searched pts ks R C z ms seats

    pub choice-agrees : (x : Edge) (L : List Edge) → T ≡ x ∷ L → Agrees r.best (choice net T x L)
    choice-agrees x L q =
        searched-agrees net pts ks z ms seats R C (direction Above rows room) (direction Right columns space) x L q

    -- without edges there is none
    pub choice-none : T ≡ [] → r.best.saving ≡ 0
    unfolding searched up_to
    choice-none q =
        let h : e ≡ 0 = sym (run_length (edge_at pts ks) e 0) ∙ ap length q in
        let step : ℕ → Best → Best = λ k c. offered_both pts ks C z ms seats Right k (offered_both pts ks R z ms seats Above k c) in
        ap (λ (k : ℕ). (up_to step k no_move).best.saving) h

    abbrev Ties : Best → Type 0
    Ties c = 0 < c.best.saving → Tied pts n T R C c

    tied : (s o : Side) (t : List ℕ) (h : n ≤ length t) → Way s t h o → labels_for o R C ≡ labelled s pts ks n e t
        → (k : ℕ) → k < e → (d : ℕ)
        → Ties (best (get_or (labelled s pts ks n e t) (first_end (get_or ks k 0)) 0)
        (move_by (view pts ks (labelled s pts ks n e t) o (get_or (labelled s pts ks n e t) (first_end (get_or ks k 0)) 0)) z d))
    tied s o t h w q k l d saves = record {
      low = label-low s t h _ (within k l).0;
      first = refl;
      on = λ i u.
          w.on-too _ i (label-low s t h _ (within k l).0) u
          ∙ ap₂ (λ (j : ℕ) (y : List ℕ). eqb (get_or y i 0) j) (label-own s t h _ (within k l).0) (sym q);
    }

    pub choice-tied : 0 < r.best.saving → Tied pts n T R C r
    unfolding searched labels_for horizontal opposite
    choice-tied =
        searched-keeps Ties z ms seats pts ks R C e
        (λ k h d. tied Above Above rows room (plain Above rows room) refl k h d)
        (λ k h d. tied Above Below rows room (turned Above rows room) refl k h d)
        (λ k h d. tied Right Right columns space (plain Right columns space) refl k h d)
        (λ k h d. tied Right Left columns space (turned Right columns space) refl k h d)
        e (omega arith) (λ h. absurd (let y : ⊥ = omega (arith, h) in y))
