-- How far a bar may move, by the tables, is the greatest distance that is allowed: past macros, points and edges the way is the closed
-- form.
-- Assumes nothing.
use mathlib.Core.Path.{◌≡◌, sym, ap, ap₂, ◌∙◌}
use mathlib.Core.Bool.{Bool, true, false, not, ◌&&◌, ◌||◌}
use mathlib.Core.List.{List}
use Prim.Native.Nat.{ℕ, ◌+◌, ◌-◌, ◌/◌, ◌≤◌, ◌<◌, min}
use native.Mathlib.Omega.{arith}
use lib.IntN.{ℤ}
use lib.ListN.{length, get_or}
use Rattle.lists.specs.Any.{any}
use Rattle.lists.specs.Member.{◌∈◌}
use Rattle.plane.specs.declared.Place.{Place}
use Rattle.plane.specs.declared.Macro.{Macro}
use Rattle.plane.specs.Flat.{place_at, macros_of, macro_at}
use Rattle.plane.specs.Macro.{meets, clear}
use Rattle.plane.proofs.Fits.{MacroFits}
use Rattle.net.specs.Net.{Net}
use Rattle.joined.specs.Joined.{Inside}
use Rattle.joined.proofs.JoinedLaws.{firsts, seconds}
use Rattle.slide.specs.declared.Side.{Side}
use Rattle.slide.specs.Side.{across, moved}
use Rattle.slide.specs.Bend.{Edge}
use Rattle.slide.specs.Bar.{on_bar, of_bar, hangs, shortest, far_ends}
use Rattle.slide.specs.Bars.{IsBar}
use Rattle.slide.specs.Sweep.{boxes_meet, only_in, first_place, last_place, swept, point_bars, edge_bars, allowed, reach}
use Rattle.slide.specs.Slide.{tree_points}
use Rattle.slide.specs.Stop.{edge_stop, macro_stop, least_stop, stop, closed}
use Rattle.slide.proofs.BarLaws.{is-bar, first_on, last-on, covered}
use Rattle.slide.proofs.RoundLaws.{on-itself}
use Rattle.slide.proofs.StopLaws.{closed_is}
use Rattle.straight.specs.Table.{run, first_end, second_end, edge_at, edges_in}
use Rattle.straight.proofs.RunLaws.{in-run, of-run}
use Rattle.reach.specs.declared.Bar.{Bar}
use Rattle.turned.specs.declared.Seen.{Seen}
use Rattle.reach.specs.declared.Size.{Size}
use Rattle.reach.specs.declared.Way.{Way}
use Rattle.turned.specs.Turned.{raised, spot, face, View, spot_at, seen_edge, seen_point}
use Rattle.hanging.specs.Hanging.{hang}
use Rattle.reach.specs.Passing.{way, past, past_face, past_macros, past_points, past_edges, reached, way_of}
use Rattle.moves.specs.Moving.{last_on, bar}
use Rattle.bars.specs.Offers.{reach_of}
use Rattle.hanging.proofs.HangLaws.{hang-is}
use Rattle.bars.proofs.MoveLaws.{Stood, first-is}
use Rattle.bars.proofs.LastLaws.{last-low, last-is}
use Rattle.reach.proofs.PassLaws.{and-three, Stands, as_seen}
use Rattle.reach.proofs.WayLaws.{list-passed, least-most, past_is}
use Rattle.reach.proofs.PointWay.{point_barring, point-past}
use Rattle.reach.proofs.MacroWay.{macro-past, macros-run}

module _ {net : Net} {v : View} {z : Size} {ms : List ℤ} {seats : List ℕ} {k a : ℕ} (r : Stood net v z ms seats k a)
    (macros-are : net.macros ≡ macros_of ms) (macro-fits : (m : Macro) → m ∈ net.macros → MacroFits m) where
  abbrev s : Side
  s = v.side

  abbrev T : List Edge
  T = edges_in v.points v.keys z.edges

  abbrev x : Edge
  x = edge_at v.points v.keys k

  abbrev on : Place → Bool
  on = on_bar s T x.0

  abbrev X : List Place
  X = tree_points net T

  abbrev F : Place
  F = first_place s on X T x.0

  abbrev L : Place
  L = last_place s on X T x.0

  abbrev most : ℕ
  most = (hang v z.edges).shortest

  abbrev b : Bar
  b = bar v z.points most

  -- The bar

  most-is : most ≡ shortest s on T
  unfolding shortest
  most-is = ap (λ y. y.shortest) (hang-is r.sees)

  F-is : F ≡ place_at v.points v.label
  F-is = first-is net v z ms seats k a r

  L-is : L ≡ place_at v.points (last_on v z.points)
  L-is = last-is r

  point-in : (i : ℕ) → i < z.points → place_at v.points i ∈ X
  point-in i h = rw r.points (in-run (place_at v.points) z.points 0 i (omega arith) (omega (arith, h)))

  inside : Inside X T
  inside p q m =
      let i = of-run (edge_at v.points v.keys) z.edges 0 (p, q) m in
      let w = r.sees.within i.number (omega (arith, i.high)) in
      (rw (firsts i.is) (point-in _ w.0), rw (seconds i.is) (point-in _ w.1))

  module _ (none : any on net.pins ≡ false) where
    abbrev own : on x.0 ≡ true
    own = on-itself s T x.0

    is : IsBar s net X T on
    is = is-bar s net X T x.0 inside (rw r.start (point-in a r.low)) none

    stands : Stands s b F L
    stands = record {
      first = ap (spot s) (sym F-is);
      last = ap (spot s) (sym L-is);
      top = ap (λ (p : Place). raised (across s p) + most) (sym F-is);
      along-le = (covered is x.0 own F (first_on is x.0 own)).1;
      level = is.flat F (first_on is x.0 own) ∙ sym (is.flat L (last-on is x.0 own));
      fits-F = rw F-is (r.sees.fits v.label r.label-low);
      fits-L = rw L-is (r.sees.fits (last_on v z.points) (last-low r));
    }

    -- Past macros, points and edges

    abbrev edge_own : Edge → Bool
    edge_own y = of_bar s on y || hangs s on y

    abbrev edge_barring : ℕ → Edge → Bool
    edge_barring d y =
        boxes_meet y (F, moved s d L) && (not (edge_own y) && not (any (only_in y (F, moved s d L)) (far_ends s on T)))

    abbrev macro_least : ℕ → ℕ
    macro_least d = least_stop (macro_stop s F L d) d net.macros

    abbrev point_least : ℕ → ℕ
    point_least d = least_stop (λ (p : Place). edge_stop s F L d (λ (y : Edge). on y.0) (p, p)) d X

    abbrev edge_least : ℕ → ℕ
    edge_least d = least_stop (edge_stop s F L d edge_own) d T

    macro-run : net.macros ≡ run (macro_at ms) 0 (length ms / 4)
    macro-run = macros-are ∙ macros-run ms

    macros-passed : (w : Way) → w.stop ≤ most
        → past_macros ms b w ≡ way (min w.stop (macro_least most)) (w.free && not (any (meets F (moved s most L)) net.macros))
    unfolding past_macros
    macros-passed w h =
        list-passed (macro_stop s F L most) (meets F (moved s most L)) most (macro_at ms) (λ i. past_face b (face s (macro_at ms i)))
        (length ms / 4)
        (λ j l u g. macro-past stands (macro_at ms j)
        (macro-fits (macro_at ms j) (rw macro-run (in-run (macro_at ms) (length ms / 4) 0 j (omega arith) (omega (arith, l))))) u g)
        w h (length ms / 4) (omega arith)
        ∙ ap (λ (l : List Macro). way (min w.stop (least_stop (macro_stop s F L most) most l))
        (w.free && not (any (meets F (moved s most L)) l)))
        (sym macro-run)

    points-passed : (w : Way) → w.stop ≤ most
        → past_points v z.points z.edges b w
        ≡ way (min w.stop (point_least most)) (w.free && not (any (point_barring s on F (moved s most L) T) X))
    unfolding past_points
    points-passed w h =
        list-passed (λ (p : Place). edge_stop s F L most (λ (y : Edge). on y.0) (p, p)) (point_barring s on F (moved s most L) T) most
        (place_at v.points) (λ i. past v z.edges b (seen_point v i)) z.points
        (λ j l u g. point-past r.sees stands most-is j l u g) w h z.points (omega arith)
        ∙ ap (λ (l : List Place). way (min w.stop
        (least_stop (λ (p : Place). edge_stop s F L most (λ (y : Edge). on y.0) (p, p)) most l))
        (w.free && not (any (point_barring s on F (moved s most L) T) l))) (sym r.points)

    as-seen : (j : ℕ) → j < z.edges → seen_edge v j ≡ as_seen s on (edge_at v.points v.keys j)
    as-seen j l =
        ap₂ (λ (t u : Bool).
        let y : Seen = record {
          first = t;
          second = u;
          from = spot_at v (first_end (get_or v.keys j 0));
          to = spot_at v (second_end (get_or v.keys j 0));
        } in y)
        (sym (r.sees.is _ (r.sees.within j l).0)) (sym (r.sees.is _ (r.sees.within j l).1))

    edges-passed : (w : Way) → w.stop ≤ most
        → past_edges v z.edges b w ≡ way (min w.stop (edge_least most)) (w.free && not (any (edge_barring most) T))
    unfolding past_edges
    edges-passed w h =
        list-passed (edge_stop s F L most edge_own) (edge_barring most) most
        (edge_at v.points v.keys) (λ i. past v z.edges b (seen_edge v i)) z.edges
        (λ j l u g.
        ap (λ (t : Seen). past v z.edges b t u) (as-seen j l)
        ∙ past_is r.sees stands most-is (edge_at v.points v.keys j)
        (r.sees.fits _ (r.sees.within j l).0) (r.sees.fits _ (r.sees.within j l).1) u g)
        w h z.edges (omega arith)

    -- The distance

    abbrev unbarred : ℕ → Bool
    unbarred d =
        (not (any (meets F (moved s d L)) net.macros) && not (any (point_barring s on F (moved s d L) T) X))
        && not (any (edge_barring d) T)

    abbrev least : ℕ → ℕ
    least d = min (min (min d (macro_least d)) (point_least d)) (edge_least d)

    abbrev found : ℕ → ℕ
    found d = elim (unbarred d) as (λ u. ℕ) [ true ↦ d | false ↦ least d - 1 ]

    way-is : way_of v z.points z.edges ms b ≡ way (least most) (unbarred most)
    unfolding way_of
    way-is =
        ap (λ (w : Way). past_edges v z.edges b (past_points v z.points z.edges b w)) (macros-passed (way most true) (omega arith))
        ∙ ap (past_edges v z.edges b) (points-passed _ (omega arith))
        ∙ edges-passed _ (omega arith)

    found-most : reach_of v z ms ≡ found most
    unfolding reach_of reached
    found-most = ap (reached b) way-is

    unbarred-is : (d : ℕ) → unbarred d ≡ allowed s on X T x.0 net d
    unfolding allowed swept point_bars edge_bars clear
    unbarred-is d =
        and-three (not (any (meets F (moved s d L)) net.macros)) (not (any (point_barring s on F (moved s d L) T) X))
        (not (any (edge_barring d) T))

    least-is : least (shortest s on T) ≡ stop s on net X T x.0
    unfolding stop
    least-is =
        let i = least-most (macro_stop s F L (shortest s on T)) (shortest s on T) net.macros in
        omega (arith, i)

    found-closed : found (shortest s on T) ≡ closed s on net X T x.0
    unfolding closed
    found-closed =
        ap₂ (λ (t : Bool) (i : ℕ). elim t as (λ u. ℕ) [ true ↦ shortest s on T | false ↦ i - 1 ]) (unbarred-is (shortest s on T)) least-is

    pub reach-is : reach_of v z ms ≡ reach s on net X T x.0
    reach-is = found-most ∙ ap found most-is ∙ found-closed ∙ sym (closed_is is x.0 own)
