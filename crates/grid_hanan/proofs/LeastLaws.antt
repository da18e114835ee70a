-- What follows from Hanan's theorem. The cheapest edges of the grid that join the pins are the cheapest of all metal; and as an edge whose
-- ends are clear of each other can be laid in clear unit steps for just its cost, no tree of clear edges costs less, wherever its points
-- lie.
-- Assumes nothing.
use mathlib.Core.Path.{◌≡◌, refl}
use mathlib.Core.Logic.{inl}
use mathlib.Core.List.Memᴰ
use mathlib.Core.List.{List, [], ◌∷◌, ◌++◌}
use Prim.Native.Nat.{ℕ, ◌+◌, ◌≤◌}
use native.Mathlib.Omega.{arith}
use Rattle.lists.specs.Member.{here, there}
use Rattle.lists.specs.Total.{total}
use Rattle.lists.proofs.TestLaws.{either}
use Rattle.joined.specs.Joined.{Link, Joined, stay, step, Joins}
use Rattle.joined.specs.Exchange.{steps}
use Rattle.joined.specs.Pairs.{Each}
use Rattle.joined.specs.Cost.{lengths}
use Rattle.joined.proofs.JoinedLaws.{firsts, seconds, one, between, through, more, older}
use Rattle.joined.proofs.PairLaws.{each_none, each-cons, each_append}
use Rattle.joined.proofs.CostLaws.{lengths-append, lengths-steps}
use Rattle.plane.specs.declared.Place.{Place}
use Rattle.plane.specs.declared.Macro.{Macro}
use Rattle.plane.specs.declared.Weights.{Weights}
use Rattle.plane.specs.Cost.{cost}
use Rattle.net.specs.Net.{Net, cost_in}
use Rattle.lines.specs.Lines.{x_lines, y_lines, UnitStep, ClearStep}
use Rattle.lines.specs.Edges.{Edge, grid_edges}
use Rattle.lines.proofs.EdgeLaws.{link-grid}
use Rattle.grid.specs.Walk.{Walk, stop, go}
use Rattle.grid.proofs.BoxWalk.{box-walk, grid-clear}
use Rattle.grid_hanan.specs.Metal.{UnitMetal, LeastMetal}
use Rattle.grid_hanan.proofs.InsteadLaws.{Instead, Anywhere, instead-same}
use Rattle.grid_hanan.proofs.Hanan.{hanan}

-- The steps of a walk as edges

module _ {R : Place → Place → Type 0} where
  walk-each-step : {x y : Place} {ps : List Place} → Walk R x ps y → Each R (steps x ps)
  unfolding steps
  walk-each-step (stop e) = each_none R
  walk-each-step (go {x = x} {y = y} {ps = ps} r w) = each-cons R x y (steps y ps) r (walk-each-step w)

  walk-joined : {x y : Place} {ps : List Place} → Walk R x ps y → Joined (steps x ps) x y
  unfolding steps
  walk-joined (stop e) = stay e
  walk-joined (go r w) = step (inl (here refl)) (older (walk-joined w))

-- Clear edges laid in unit steps

in-units : (ms : List Macro) (w : Weights) (T : List Edge) → Each (ClearStep ms) T → Instead w (UnitStep ms) Anywhere T
unfolding lengths total
in-units ms w [] c = instead-same (each_none (UnitStep ms))
in-units ms w ((p, q) ∷ T) c =
    let b = box-walk ms w p q (c p q (here refl)) in
    let r = in-units ms w T (λ x y m. c x y (there m)) in
    let F : List Edge = steps p b.points in
    record {
      edges = F ++ r.edges;
      each = each_append (UnitStep ms) F r.edges (walk-each-step b.walk) r.each;
      joins = λ x y _ _ j. through (λ u v m.
          either
          (λ e. between (firsts e) (seconds e) (more (λ f i. Memᴰ.append_left r.edges i) (walk-joined b.walk)))
          (λ i. more (λ f k. Memᴰ.append_right F k) (r.joins u v tt tt (one (inl i)))) (Memᴰ.cases_cons m)) j;
      costs = omega (arith, lengths-append (cost w) F r.edges, lengths-steps (cost w) p b.points, b.costs, r.costs);
    }

module _ (net : Net) where
  abbrev price : Place → Place → ℕ
  price = cost_in net

  -- clear edges that join all pins, as metal that costs no more
  pub metal-of : (T : List Edge) → Each (ClearStep net.macros) T → Joins net.pins T →
      (U : List Edge) × (UnitMetal net U × (lengths price U ≤ lengths price T))
  metal-of T c j =
      let r = in-units net.macros net.weights T c in
      (r.edges, (record { units = r.each; joins = λ p q i k. r.joins p q tt tt (j p q i k) }, r.costs))

  -- clear edges that join all pins, if no metal costs less, are the cheapest
  pub clear-least : (T : List Edge) → Each (ClearStep net.macros) T → Joins net.pins T →
      ((U : List Edge) → UnitMetal net U → lengths price T ≤ lengths price U) → LeastMetal net (lengths price T)
  clear-least T c j least =
      let r = metal-of T c j in
      record { metal = r.0; is-metal = r.1.0; costs = omega (arith, r.1.1, least r.0 r.1.0); least = least }

  -- edges of the grid that join all pins, if none do for less, are the cheapest of all metal: for any number of pins
  pub grid-least : (O : List Edge) → Each (Link (grid_edges net)) O → Joins net.pins O →
      ((F : List Edge) → Each (Link (grid_edges net)) F → Joins net.pins F → lengths price O ≤ lengths price F) →
      LeastMetal net (lengths price O)
  grid-least O on j least =
      clear-least O
      (λ a b m. grid-clear net.macros net.weights (x_lines net) (y_lines net) a b (link-grid net a b (on a b m))) j
      (λ U m. let g = hanan net U m in omega (arith, least g.edges g.on-grid g.joins, g.within))

  module _ {n : ℕ} (l : LeastMetal net n) where
    -- no tree of clear edges costs less, wherever its points lie
    pub tree-not-cheaper : (T : List Edge) → Each (ClearStep net.macros) T → Joins net.pins T → n ≤ lengths price T
    tree-not-cheaper T c j = let r = metal-of T c j in omega (arith, l.least r.0 r.1.0, r.1.1)

    -- one number only
    pub least-alike : {k : ℕ} → LeastMetal net k → n ≡ k
    least-alike o = omega (arith, l.least o.metal o.is-metal, o.least l.metal l.is-metal, l.costs, o.costs)
