-- Rounds one by one: none where there is no gain, and otherwise one and the rest. In a sound tree the order of numbers is that of edges and
-- of places.
-- Assumes nothing.
use mathlib.Core.Path.{◌≡◌, refl, ap}
use mathlib.Core.Logic.{inl, inr}
use Prim.Native.Nat.{ℕ, zero, suc, ◌<◌}
use native.Mathlib.Omega.{arith}
use lib.Dec.{ltb}
use borrow.Author.Tests.{ltb-true, ltb-false, eq-eqb, ne_eqb}
use Rattle.lists.proofs.TestLaws.{by}
use Rattle.plane.specs.Flat.{place_at}
use Rattle.net.specs.Net.{Net}
use Rattle.tree.specs.Table.{first_end, second_end, Tree}
use Rattle.beside.specs.declared.Choice.{Choice}
use Rattle.beside.specs.Beside.{Ground, chosen_in}
use Rattle.refiner.specs.Round.{exchange_in, rounds_in}
use Rattle.tree.specs.Places.{Ranked, Sound}
use Rattle.refiner.specs.Sentences.{key_at, Numbered}

-- Edges and points in order

pub numbered : (net : Net) (t : Tree) → Sound net t → Ranked t.edges.keys t.edges.size → Numbered t
numbered net t sound ranked = record {
  edges =
      λ i j h l.
      let rise : key_at t i < key_at t j = ranked.rising i j h l in
      by (ltb (first_end (key_at t i)) (first_end (key_at t j)))
      (λ s. inl (sound.ordered (first_end (key_at t i)) (first_end (key_at t j)) (ltb-true _ _ s) (sound.within.ends j).0))
      (λ s.
      let no = ltb-false (first_end (key_at t i)) (first_end (key_at t j)) s in
      let a : first_end (key_at t i) ≡ first_end (key_at t j) = omega arith in
      let b : second_end (key_at t i) < second_end (key_at t j) = omega arith in
      inr (ap (place_at t.points) a, sound.ordered (second_end (key_at t i)) (second_end (key_at t j)) b (sound.within.ends j).1));
  places = sound.ordered;
}

-- Rounds one by one

module _ (net : Net) (g : Ground) where
  abbrev turned : ℕ → Tree → Tree
  turned = rounds_in net.weights net.macros g

  abbrev pub choice_in : Tree → Choice
  choice_in t = chosen_in net.weights net.macros g t

  pub rounds-none : (i : ℕ) (t : Tree) → (choice_in t).best.gain ≡ 0 → turned i t ≡ t
  unfolding rounds_in
  rounds-none zero t q = refl
  rounds-none (suc i) t q = rw (rounds_in, eq-eqb (choice_in t).best.gain 0 q) refl

  pub rounds-some : (i : ℕ) (t : Tree) → ((choice_in t).best.gain ≡ 0 → ⊥) → turned (suc i) t ≡ turned i (exchange_in g t (choice_in t))
  unfolding rounds_in
  rounds-some i t q = rw (rounds_in, ne_eqb (choice_in t).best.gain 0 q) refl
