use Rattle.std.proofs.Common.{◌≡◌, ◌∙◌, ◌+◌, ◌-◌, ◌<◌, ◌≤◌, ℕ, suc, refl, sym, ap, subst, arith}
use Rattle.plane.specs.Flat.{macros_of}
use Rattle.net.specs.Net.{Net, net_with}
use Rattle.forest.specs.Edges.{graph}
use Rattle.tree.specs.Table.{tree_bound, pair_bound, Tree, Within, tree}
use Rattle.lists.proofs.TestLaws.{differ}
use Rattle.longest.proofs.FoundLaws.{small_all}
use Rattle.beside.specs.Beside.{Ground, ground}
use Rattle.refiner.specs.Round.{rounds_in}
use Rattle.refiner.specs.Ready.{Ready}
use Rattle.refiner.proofs.CutSound.{tree-size}
use Rattle.refiner.proofs.RoundReady.{ready-roomy, ready-few, round-onward, rounds-stop, rounds-more, rounds-end}
use Rattle.refiner.proofs.KeptLaws.{was-then, small-then}
use Rattle.refiner.proofs.rounds.Goals as goal

-- one round more is to come
one_more : {net : Net} {g : Ground} {t : Tree} (m r : ℕ) → r < m → Ready net g t (m - r) → Ready net g t (suc (m - (r + 1)))
one_more {net} {g} {t} m r h x = subst (Ready net g t) (let z : m - r ≡ suc (m - (r + 1)) = omega arith in z) x

edges_few : {net : Net} {g : Ground} {t : Tree} {m : ℕ} → Ready net g t m → t.edges.size ≤ tree_bound
edges_few {net} {g} {t} r = omega (arith, tree-size net t r.sound, ready-few r)

pub loop-r-init : goal.loop-r-init
loop-r-init c =
    let net = net_with c.args.w c.args.pins.now c.args.macros.now in
    let g = ground c.args.vertices.now c.args.v (graph c.args.ea.now c.args.eb.now c.args.el.now c.args.f) in
    let t = tree c.args.pts.now c.args.n c.args.keys.now c.args.e in
    let m = c.pin_count-m.result in (
      (small_all pair_bound tree_bound 0 (omega arith) (omega arith), λ x. differ x refl),
      (
        subst (Ready net g t) (let z : _ ≡ m - 0 = omega (arith, c.pin_count-m.ensures) in z) c.requires,
        ap (λ (k : ℕ). rounds_in c.args.w (macros_of c.args.macros.now) g k t) (let z : m - 0 ≡ m = omega arith in z),
      ),
    )

pub round-requires-clause-roomy : goal.round-requires-clause-roomy
round-requires-clause-roomy c =
    let h : c.loop-r.r < c.pin_count-m.result = omega arith in
    ready-roomy _ _ _ _ (one_more _ _ h c.loop-r.invariant.1.0)

pub returns-in_default : goal.returns-in_default
returns-in_default c =
    let g = ground c.args.vertices.now c.args.v (graph c.args.ea.now c.args.eb.now c.args.el.now c.args.f) in
    let i = c.loop-r.invariant in
    let t = c.in_default.ensures.turned in
    let all = rounds-stop _ _ _ _ _ _ i.1.1 (c.pin_count-m.result - (c.loop-r.r + 1)) (omega (arith, c.loop-r-test.true)) t.gain in (
      t.same ∙ all
          ∙ ap (λ (k : ℕ). rounds_in c.args.w (macros_of c.args.macros.now) g k (tree c.args.pts.now c.args.n c.args.keys.now c.args.e))
          c.pin_count-m.ensures,
      (
        (ready-few i.1.0, edges_few i.1.0),
        subst (Within c.loop-r.z.points) (sym (ap (λ (x : Tree). x.edges.keys) t.same)) i.1.0.sound.within,
      ),
    )

pub loop-r-preserved : goal.loop-r-preserved
loop-r-preserved c =
    let net = net_with c.args.w c.args.pins.now c.args.macros.now in
    let g = ground c.args.vertices.now c.args.v (graph c.args.ea.now c.args.eb.now c.args.el.now c.args.f) in
    let i = c.loop-r.invariant in
    let h : c.loop-r.r < c.pin_count-m.result = omega arith in
    let t = c.in-Some.ensures.turned in
    let d = c.in-Some.ensures.kept in
    let o = round-onward net g _ _ (one_more _ _ h i.1.0) t.gain in (
      (small-then net g _ _ i.1.0 _ d.1, λ _. was-then net g _ _ i.1.0 _ _ _ d.0 d.1 c.in-Some.ensures.held),
      (
        subst (λ (x : Tree). Ready net g x (c.pin_count-m.result - (c.loop-r.r + 1))) (sym t.moved) o.ready,
        rounds-more _ _ _ _ _ _ i.1.1 _ (omega (arith, h)) t.gain _ t.moved,
      ),
    )

pub returns : goal.returns
returns c =
    let g = ground c.args.vertices.now c.args.v (graph c.args.ea.now c.args.eb.now c.args.el.now c.args.f) in
    let t = tree c.args.pts.now c.args.n c.args.keys.now c.args.e in
    let i = c.loop-r.invariant in (
      rounds-end _ _ _ _ _ _ i.1.1 (omega arith)
          ∙ ap (λ (k : ℕ). rounds_in c.args.w (macros_of c.args.macros.now) g k t) c.pin_count-m.ensures,
      ((ready-few i.1.0, edges_few i.1.0), i.1.0.sound.within),
    )
