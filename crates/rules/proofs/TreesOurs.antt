-- The trees that are given for an allowed net are the trees of the rules, all of them, and there are no others: each relation has one
-- solution over what the one before has given.
-- Assumes nothing.
use mathlib.Core.Path.{subst}
use mathlib.Core.List.{List}
use Rattle.plane.specs.declared.Place.{Place}
use Rattle.plane.specs.declared.Macro.{Macro}
use Rattle.plane.specs.declared.Weights.{Weights}
use Rattle.net.specs.Allowed.{Allowed}
use Rattle.net.specs.Net.{Net}
use Rattle.graph.specs.Spanning.{vertices_of, spanning}
use Rattle.refiner.specs.Refined.{refined}
use Rattle.union.specs.Union.{union_of}
use Rattle.tree.specs.Edges.{tree_edges}
use Rattle.refined.specs.Ground.{ground_of}
use Rattle.rules.specs.Edges.{Edge}
use Rattle.rules.specs.Terminal.{Path, Terminal}
use Rattle.rules.specs.Refined.{Refined}
use Rattle.rules.specs.Trees.{Trees, Equal}
use Rattle.rules.proofs.TreesOrder.{net_by, SameNet, trees-in}
use Rattle.rules.proofs.SpanningOurs.{graph-ours, graph-only}
use Rattle.rules.proofs.TerminalOurs.{our_paths, terminal-ours, terminal-only}
use Rattle.rules.proofs.RefinedOurs.{refined-ours, refined-only}

module _ {net : Net} (a : Allowed net) where
  abbrev ours : List Edge
  ours = tree_edges (refined net (ground_of net) (union_of net))

  pub trees-ours : Trees net (vertices_of net) (spanning net) (our_paths a) ours
  trees-ours = record { spanning = graph-ours net; terminal = terminal-ours a; refined = refined-ours a }

  -- and there are no others
  pub trees-only : {vs : List Place} {es : List Edge} {ks : List Path} {rs : List Edge} → Trees net vs es ks rs →
      Equal vs (vertices_of net) es (spanning net) ks (our_paths a) rs ours
  trees-only {ks = ks} {rs = rs} t =
      let g = graph-only net t.spanning in
      let k = terminal-only a ks (subst (λ (l : List Edge). Terminal net l ks) g.1 t.terminal) in
      record {
        vertices = g.0;
        edges = g.1;
        paths = k;
        refined =
            refined-only a rs
            (subst (λ (l : List Path). Refined net (spanning net) l rs) k
            (subst (λ (l : List Edge). Refined net l ks rs) g.1 t.refined));
      }

-- So the trees of two nets that have the same pins, macros and weights are the same.
module _ {w : Weights} {ps qs : List Place} {ms ns : List Macro} (h : SameNet w ps qs ms ns)
    (a : Allowed (net_by w ps ms)) (b : Allowed (net_by w qs ns)) where
  pub trees-same : Equal (vertices_of (net_by w ps ms)) (vertices_of (net_by w qs ns)) (spanning (net_by w ps ms)) (spanning (net_by w qs ns))
      (our_paths a) (our_paths b) (ours a) (ours b)
  trees-same = trees-only b (trees-in h (trees-ours a))
