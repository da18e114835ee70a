-- What is promised of an allowed net, from the check alone.
-- Assumes nothing.
use mathlib.Core.Path.{◌≡◌, refl, sym, ap, ◌∙◌}
use mathlib.Core.List.{List, [], ◌∷◌, ◌++◌}
use Prim.Native.Nat.{ℕ, ◌+◌, ◌*◌}
use native.Mathlib.Omega.{arith}
use borrow.Author.Tests.{le-ltb}
use lib.IntN.{ℤ, pos}
use lib.ListN.{length}
use Rattle.lists.proofs.TestLaws.{or-neither}
use Rattle.lent.specs.Told.{given}
use Rattle.lent.specs.Entries.{flat}
use Rattle.plane.specs.Flat.{macros_of}
use Rattle.net.specs.Pins.{pin_count}
use Rattle.net.specs.declared.Weighing.{Weighing}
use Rattle.net.specs.declared.Net.{Net as Counts}
use Rattle.checks.specs.Check.{checked}
use Rattle.checks.proofs.GivenLaws.{given-allowed}
use Rattle.graph.proofs.Connected.{connected}
use Rattle.refined.specs.Wires.{wires_of_edge, wires}
use Rattle.refined.proofs.WireSound.{edge-wired, wired as wired-laws}
use Rattle.rules.proofs.TerminalOurs.{our_paths, paths-given}
use Rattle.rules.proofs.BestLaws.{paths-total, best-joining}
use Rattle.rules.specs.Edges.{Edge}
use Rattle.interior.proofs.InteriorLaws.{clear-points}
use Rattle.rules.proofs.RefinedOurs.{between-trees, falls-between, refined-tree}
use Rattle.rules.proofs.TreesOurs.{trees-ours, trees-only}
use Rattle.answers.specs.Graph.{net_vertices, net_edges, point_count}
use Rattle.answers.specs.Terminal.{paths_of, paths_total, terminal_given, terminal_tree}
use Rattle.answers.specs.Refined.{refined_of, edges_in, total_in, laid_of, laid_total, laid_answer, refined_given, refined_tree}
use Rattle.answers.specs.Wires.{wires_of, wires_given, wired}
use Rattle.promises.specs.Published.{Promised}
use Rattle.answers.proofs.AnswerLaws.{only-given, room-enough}
use Rattle.answers.proofs.GraphLaws.{graphed-allowed, graph-fits}
use Rattle.results.proofs.RefinedLaws.{metal-low}

wires-flat : (es : List Edge) → wires es ≡ flat wires_of_edge es
unfolding wires flat
wires-flat [] = refl
wires-flat (e ∷ es) = ap (λ (l : List Edge). wires_of_edge e ++ l) (wires-flat es)

pub promised : (w : Weighing) (pins macros : List ℤ) {net : Counts} → checked w pins macros ≡ given net → Promised w pins macros
unfolding net_vertices net_edges paths_of paths_total refined_of edges_in total_in terminal_tree terminal_given refined_tree refined_given wired
    wires_given
promised w pins macros {net} g =
    let t = checked w pins macros in
    let a = (given-allowed w pins macros g).1 in
    let laws = wired-laws (laid_of w pins macros) in
    record {
      graph-given =
          λ v e h k.
          graphed-allowed w pins macros v e net g
          ∙ graph-fits w pins macros v e (or-neither _ _ (le-ltb v (point_count pins macros * 2) h)
          (le-ltb e (point_count pins macros * 16) k));
      terminal-given =
          λ room h.
          only-given t (terminal_given w pins macros room) net g
          ∙ room-enough {A = ℕ × ℤ} (pin_count pins * 5) room (length (paths_of w pins macros), pos (paths_total w pins macros)) h;
      refined-given =
          λ room h.
          only-given t (refined_given w pins macros room) net g
          ∙ room-enough {A = ℕ × (ℤ × ℤ)} ((point_count pins macros + pin_count pins) * 4) room (laid_answer w pins macros) h;
      wires-given =
          λ room h.
          only-given t (wires_given w pins macros room) net g
          ∙ room-enough ((point_count pins macros + pin_count pins) * 8) room (length (wires_of w pins macros)) h;
      kept = our_paths a;
      trees = trees-ours a;
      only = trees-only a;
      paths = sym (paths-given a);
      paths-sum = paths-total a;
      total-sum = refl;
      metal-sum = refl;
      metal-low = metal-low a;
      connected = connected a;
      best = best-joining a;
      tree = refined-tree a;
      no_longer = omega (arith, (refined-tree a).no_longer, paths-total a);
      outside = λ e i. (clear-points e.0 e.1 (macros_of macros) a.upright).0 ((refined-tree a).clear-edges e i);
      between = λ {rs} r. between-trees a rs r;
      falls = λ {rs} r. falls-between a rs r;
      wires-of-edges = wires-flat (laid_of w pins macros);
      edge-wires = λ e m. edge-wired e;
      wires-straight = laws.axis;
      wires-clear = laws.free (macros_of macros) (refined-tree a).clear-edges;
      wires-sum = laws.long;
    }
