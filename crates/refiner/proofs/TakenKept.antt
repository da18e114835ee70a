-- What an exchange keeps, by what is known of its candidate alone: the sum falls by what L costs less what metal from s to u does.
-- Assumes nothing.
use mathlib.Core.Path.{◌≡◌, ◌∙◌}
use mathlib.Core.Logic.{◌⊎◌}
use mathlib.Core.List.{List}
use Prim.Native.Nat.{ℕ, zero, suc, ◌+◌, ◌*◌, ◌<◌}
use native.Mathlib.Omega.{arith}
use lib.IntN.{ℤ}
use lib.ListN.{length, get_or}
use Rattle.lists.specs.Member.{◌∈◌}
use Rattle.plane.specs.declared.Place.{Place}
use Rattle.plane.specs.Flat.{place_at}
use Rattle.plane.specs.Rank.{rank}
use Rattle.net.specs.Net.{Net, cost_in}
use Rattle.tree.specs.Table.{tree_bound, first_end, second_end, Tree, tree}
use Rattle.tree.specs.Places.{points_of, key_cost, tree_total, Ranked, Sound}
use Rattle.candidates.specs.declared.Best.{Best}
use Rattle.candidates.specs.Candidate.{middle_of}
use Rattle.exchanges.specs.Exchange.{drop_two, laid_at, exchange}
use Rattle.candidates.specs.Taken.{Taken}
use Rattle.exchanges.proofs.ExchangeSums.{length-dropped}
use Rattle.exchanges.proofs.WithinLaws.{rank-le, within-dropped}
use Rattle.exchanges.proofs.RankedLaws.{dropped-ranked, laid-level, ranked-of}
use Rattle.exchanges.proofs.ExchangeSound.{laid-sound, laid-known, laid-costs}
use Rattle.refiner.proofs.CutSound.{tree-size}
use Rattle.refiner.proofs.RoundSound.{exchange-laid, laid-places, laid-rows}

-- the tree r is t after the exchange of the edge k with L, the edge l, and the point u
pub record Exchanged (net : Net) (t r : Tree) (k l u : ℕ) : Type 0 where
  pub sound : Sound net r
  pub ranked : Ranked t.edges.keys t.edges.size → Ranked r.edges.keys r.edges.size
  pub places : length r.points ≡ length t.points
  pub rows : length r.edges.keys ≡ length t.edges.keys
  pub known : (y : Place) → y ∈ points_of r.points r.count →
      (y ≡ middle_of t.points (first_end (get_or t.edges.keys k 0)) (second_end (get_or t.edges.keys k 0)) u)
      ⊎ (y ∈ points_of t.points t.count)
  pub cost : tree_total net.weights r + key_cost net.weights t.points (get_or t.edges.keys l 0)
      ≡ tree_total net.weights t
      + cost_in net (middle_of t.points (first_end (get_or t.edges.keys k 0)) (second_end (get_or t.edges.keys k 0)) u)
      (place_at t.points u)

module _ (net : Net) (pts : List ℤ) (n : ℕ) (ks : List ℕ) (few : n < tree_bound) (room : length pts ≡ tree_bound * 2)
    (rooms : length ks ≡ tree_bound) (c : Best) where
  at_size : (e : ℕ) → Sound net (tree pts n ks e) → Taken net.macros pts n ks e c.edge c.cut c.point →
      Exchanged net (tree pts n ks e) (exchange c pts n ks e) c.edge c.cut c.point
  at_size zero sound t = absurd (let z : ⊥ = omega (arith, t.edge) in z)
  at_size (suc zero) sound t = absurd (t.two (let z : c.edge ≡ c.cut = omega (arith, t.edge, t.cut) in z))
  at_size (suc (suc e)) sound t =
      let s = tree-size net (tree pts n ks (suc (suc e))) sound in
      let k = get_or ks c.edge 0 in
      let m = middle_of pts (first_end k) (second_end k) c.point in
      let left = drop_two e c.edge c.cut ks in
      let new = laid_at pts n left e (rank pts n m) (first_end k) (second_end k) c.point m in
      let after = laid-sound net pts n ks e c.edge c.cut c.point sound t few (omega arith) (omega (arith, s)) in
      rw (exchange-laid net pts n ks few room rooms c e) (record {
        sound = after;
        ranked =
            λ r.
            ranked-of new after
            (laid-level pts n left e (rank pts n m) (first_end k) (second_end k) c.point m few
            (rw (length-dropped e c.edge c.cut ks) (omega (arith, s))) (rank-le pts n m)
            (sound.within.ends c.edge).0 (sound.within.ends c.edge).1 t.point
            (within-dropped n e c.edge c.cut ks sound.within) (dropped-ranked e c.edge c.cut ks r));
        places = laid-places pts n left e (rank pts n m) (first_end k) (second_end k) c.point m;
        rows = laid-rows pts n left e (rank pts n m) (first_end k) (second_end k) c.point m ∙ length-dropped e c.edge c.cut ks;
        known = laid-known net pts n ks e c.edge c.cut c.point sound t few (omega arith) (omega (arith, s));
        cost = laid-costs net pts n ks e c.edge c.cut c.point sound t few (omega arith) (omega (arith, s));
      })

pub taken-kept : (net : Net) (t : Tree) (c : Best) → t.count < tree_bound → length t.points ≡ tree_bound * 2 →
    length t.edges.keys ≡ tree_bound → Sound net t →
    Taken net.macros t.points t.count t.edges.keys t.edges.size c.edge c.cut c.point →
    Exchanged net t (exchange c t.points t.count t.edges.keys t.edges.size) c.edge c.cut c.point
taken-kept net t c few room rooms sound taken =
    at_size net t.points t.count t.edges.keys few room rooms c t.edges.size sound taken
