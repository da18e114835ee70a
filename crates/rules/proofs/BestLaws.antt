-- D3, its first sentences, said of the kept paths themselves. What is proved of bridges with their lengths is carried over: a bridge stands
-- for one path, so nothing is lost between the two.
-- Assumes nothing.
use mathlib.Core.Path.{◌≡◌, refl, sym, ap, ap₂, ◌∙◌, subst}
use mathlib.Core.List.{List, [], ◌∷◌, map}
use Prim.Native.Nat.{ℕ, suc, ◌≤◌}
use lib.ListN.{length, length-map}
use Rattle.lists.specs.Member.{◌∈◌, Once}
use Rattle.lists.specs.Sorted.{Ascending}
use Rattle.lists.specs.Total.{total, most}
use Rattle.lists.proofs.TestLaws.{differ}
use Rattle.lists.proofs.MapLaws.{in_map, map-then}
use Rattle.joined.specs.Joined.{Joins}
use Rattle.joined.specs.Tree.{Cuts}
use Rattle.joined.specs.Path.{TerminalPath, ends_of, length_of}
use Rattle.joined.specs.Chain.{Chain, OurWay}
use Rattle.joined.proofs.TreeLaws.{tree-cuts}
use Rattle.joined.proofs.ChainLaws.{joining-joins, joins-joining, joined-our-way, our-way-only}
use Rattle.joined.proofs.KeepingLaws.{keeping-once}
use Rattle.joined.proofs.CarriedLaws.{Follows, our-way-carried}
use Rattle.plane.specs.declared.Place.{Place}
use Rattle.plane.proofs.PlaceOrder.{place_same}
use Rattle.net.specs.Allowed.{Allowed}
use Rattle.net.specs.Net.{Net, cost_in}
use Rattle.graph.specs.Spanning.{spanning}
use Rattle.terminal.specs.Tree.{paths_of, total_of, roots_of}
use Rattle.terminal.specs.Stands.{KeptPath, kept_ends}
use Rattle.terminal.proofs.NumberLaws.{apart-once}
use Rattle.terminal.proofs.BestJoiningLaws.{paths-length, paths-sum, paths-joining, no-shorter-joining, no-lower-chain}
use Rattle.rules.specs.Terminal.{Path, path_ends, path_cost, given_for, taken_first}
use Rattle.rules.specs.Demand.{TerminalAs, BestJoining}
use Rattle.rules.proofs.TerminalOnly.{weight-order, bridge-only}
use Rattle.rules.proofs.TerminalOurs.{our_paths, terminal-ours, kept-origin, kept-ends, paths-given}

-- nothing is offered twice
turn-once : (net : Net) (l : List Path) → Ascending (taken_first net) l → Once l
turn-once net [] h = tt
turn-once net (k ∷ l) h = (λ m. differ (h.0 k m) (weight-order.never (path_cost net k, k.bridge)), turn-once net l h.1)

module _ {net : Net} (a : Allowed net) where
  abbrev ks : List Path
  ks = our_paths a

  -- the ends of the kept paths, one by one, are those by the tables
  follows : (k : Path) → k ∈ ks → Follows (λ (x : Place). x) (given_for net) path_ends (kept_ends net) k
  unfolding roots_of
  follows = kept-ends a

  all-ends : map path_ends ks ≡ map (kept_ends net) (paths_of net)
  all-ends =
      sym (map-then (given_for net) (kept_ends net) path_ends ks (λ k m. ap₂ (λ (x y : Place). (x, y)) (follows k m).0 (follows k m).1))
      ∙ ap (map (kept_ends net)) (paths-given a)

  all-lengths : map (path_cost net) ks ≡ map (λ (k : KeptPath). k.1) (paths_of net)
  all-lengths =
      sym (map-then (given_for net) (λ (k : KeptPath). k.1) (path_cost net) ks (λ k m. refl))
      ∙ ap (map (λ (k : KeptPath). k.1)) (paths-given a)

  -- T16: the total that is given is their sum
  pub paths-total : total_of net ≡ total (map (path_cost net) ks)
  paths-total = paths-sum a ∙ sym (ap total all-lengths)

  count : suc (length ks) ≡ length net.pins
  count = ap suc (sym (length-map ks (given_for net)) ∙ ap length (paths-given a)) ∙ paths-length a

  terminal-as : (k : Path) → k ∈ ks → TerminalAs net (spanning net) k
  terminal-as k m =
      let o = kept-origin a k m in
      record {
        path = o.stands.path;
        start_is = sym (ap (λ (j : Path). j.start) o.is);
        points-are = sym (ap (λ (j : Path). j.points) o.is);
        finish-is = sym (ap (λ (j : Path). j.finish) o.is);
      }

  joins : Joins net.pins (map path_ends ks)
  joins = subst (Joins net.pins) (sym all-ends) (joining-joins (kept_ends net) place_same (paths-joining a))

  cuts : Cuts (map path_ends ks)
  cuts = tree-cuts place_same (record {
    once = apart-once net.pins a.pins-apart;
    joins = joins;
    size = ap suc (length-map ks path_ends) ∙ count;
  })

  -- a kept path is known by what is given for it
  single : (j k : Path) → j ∈ ks → k ∈ ks → given_for net j ≡ given_for net k → j ≡ k
  single j k m i e = bridge-only j k (kept-origin a j m).bridge (kept-origin a k i).bridge (ap (λ (z : KeptPath). z.0) e)

  lowest : {x y : Place} → (x ≡ y → ⊥) → {w : List Path} → OurWay path_ends ks x y w →
      {cs : List (TerminalPath (spanning net) net.pins)} → Chain ends_of x cs y →
      most (map (path_cost net) w) ≤ most (map (length_of (cost_in net)) cs)
  lowest n {w} o {cs} c =
      let into : (k : Path) → k ∈ ks → given_for net k ∈ paths_of net
      = λ k m. subst (λ (l : List KeptPath). given_for net k ∈ l) (paths-given a) (in_map (given_for net) m) in
      let r = no-lower-chain a n (our-way-carried (λ (x : Place). x) (given_for net) path_ends (kept_ends net) into follows single o) c in
      subst (λ (l : List ℕ). most l ≤ most (map (length_of (cost_in net)) cs))
      (map-then (given_for net) (λ (k : KeptPath). k.1) (path_cost net) w (λ k m. refl)) r

  pub best-joining : BestJoining net (spanning net) ks
  best-joining = record {
    count = count;
    terminal = terminal-as;
    once = keeping-once path_ends (terminal-ours a).keeps (turn-once net (terminal-ours a).offered (terminal-ours a).in-turn);
    joining = joins-joining path_ends place_same joins;
    shortest = λ js j. subst (λ (t : ℕ). t ≤ total (map (length_of (cost_in net)) js)) paths-total (no-shorter-joining a js j);
    way = λ x y i k n. joined-our-way path_ends place_same ks n (joins x y i k);
    only = our-way-only path_ends ks cuts place_same;
    lowest = lowest;
  }
